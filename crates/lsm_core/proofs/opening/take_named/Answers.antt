use Rattle.std.proofs.Common.{sym, ap, ◌∙◌}
use Rattle.std.specs.Prelude.{◌≡◌, true, false}
use Rattle.lsm_core.proofs.AskLemmas.{asks_another, same_texts}
use Rattle.lsm_core.proofs.opening.take_named.Goals as goal
use Rattle.lsm_core.proofs.opening.take_named.Goals.{else-found-number-via-then-found-number+else-eq, else-found-number-via-else-found-number}

pub returns-clause-asks : goal.returns-clause-asks
returns-clause-asks g c =
    asks_another c.args.number (g.D.Disk.seen c.args.disk.now) (g.D.Disk.seen c.close.new.self) c.close.ensures.did
    c.close.ensures.later
    c.close.ensures.refusals c.args.placed.now.info.session c.args.table c.saturating_sub.result
    (λ named. elim c.else-found-number.branch [
      | else-found-number-via-then-found-number+else-eq w ↦
          let same = same_texts c.properties-found.result.session c.args.placed.now.info.session
          (ap (λ p. p.session) c.properties-found.ensures.properties ∙ named.1) in
          let clash : true ≡ false = sym same ∙ sym w.eq.ensures ∙ w.if-eq.false in
          cc
      | else-found-number-via-else-found-number w ↦ w.if-found-number.false (ap (λ p. p.number)
          c.properties-found.ensures.properties ∙ named.0)
    ])
