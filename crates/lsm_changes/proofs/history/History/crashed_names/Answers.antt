use Rattle.std.proofs.Common.{◌≡◌, ◌∙◌, ℕ, List, ap, subst, take, drop}
use Rattle.std.proofs.lemmas.Result.{IfOk-weaker}
use Rattle.lsm_disk.specs.Names.{all_named}
use Rattle.lsm_disk.specs.State.{Change}
use Rattle.lsm_changes.specs.History.{Shown}
use Rattle.lsm_changes.specs.Replay.{state_after}
use Rattle.lsm_changes.specs.Replay.{replayed, changes, Quiet}
use Rattle.lsm_changes.proofs.Replays.{replay_kept}
use Rattle.lsm_changes.proofs.history.History.crashed_names.Goals as goal

pub returns : goal.returns
returns c start first files =
    let m = c.self.inside in
    let steps = m.steps.items in
    let n = c.kept_steps-count.result in
    let quiet : Quiet (drop n (changes steps)) = subst (λ (l : List (ℕ × Change)). Quiet (drop n (changes l))) c.deref.ensures.value c.kept_steps-count.ensures.quiet in
    IfOk-weaker c.replayed_names.result (λ t. t ≡ replayed (changes (take n c.deref-2.result.now)) c.args.files c.in_ok-names.names)
    (λ names. (k : ℕ) × (names ≡ all_named (take k (state_after start c.args.self.now.log).pending) (state_after start c.args.self.now.log).durable))
    (λ t is. subst (λ (log : List Change). (k : ℕ) × (t ≡ all_named (take k (state_after start log).pending) (state_after start log).durable)) (ap (λ (h : Shown). h.log) c.self.view_is)
    (replay_kept steps n m.clock start t quiet (is ∙ (λ i. replayed (changes (take n (c.deref-2.ensures.value i))) (files i) ((c.in_ok-names.ensures ∙ first) i)))))
    c.replayed_names.ensures
