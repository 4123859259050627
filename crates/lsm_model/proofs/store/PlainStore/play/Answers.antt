use Rattle.std.proofs.Common.{◌≡◌, ◌∷◌, [], ◌++◌, List, length, sym, ap, subst, ◌∙◌, append_assoc, arith}
use Rattle.std.specs.List.{zip}
use Rattle.std.specs.Vec.Iter.{into_iter_items}
use Rattle.lsm_model.specs.declared.replies.Reply.{Reply}
use Rattle.lsm_model.specs.Steps.{Run, all_asked}
use Rattle.lsm_model.proofs.PlayLemmas.{play_more, one_more}
use Rattle.lsm_model.proofs.store.PlainStore.play.Goals as goal

pub loop-event-preserved : goal.loop-event-preserved
loop-event-preserved c =
    let at = c.loop-event in
    let x = c.in-Some.event in
    let y = c.answer-reply.result in
    let steps : into_iter_items at.event-iterator ≡ x ∷ into_iter_items c.next.new.self = c.in-Some.ensures.steps.0 in
    let items : c.push.new.self.items ≡ at.replies.items ++ y ∷ [] = c.in_ok-push.ensures.items in
    let gone = c.in-Some.ensures.steps.1 in
    let was = at.invariant.1 in
    let short = ap length steps in (
      append_assoc at.yielded (x ∷ []) _ ∙ rw (← steps) at.invariant.0,
      omega arith,
      ap length items ∙ one_more at.replies.items at.yielded y x at.invariant.2,
      subst (λ (rs : List Reply). Run c.args.self.now (all_asked (zip (at.yielded ++ x ∷ []) rs)) c.answer-reply.new.self) (sym items)
          (play_more c.args.self.now at.self c.answer-reply.new.self at.yielded at.replies.items x y at.invariant.2 at.invariant.3 c.answer-reply.ensures),
      let room = at.invariant.4 in
          let len = c.in_ok-push.ensures.len in
          let capacity = c.in_ok-push.ensures.capacity in
          omega arith,
    )
