use Rattle.std.proofs.Common.{◌≡◌, ◌+◌, ◌∙◌, ◌++◌, ◌∷◌, [], length, ap, refl, arith}
use Rattle.lsm_disk.specs.State.{Idle}
use Rattle.lsm_changes.specs.History.{Shown, filled}
use Rattle.lsm_changes.proofs.Histories.{filled_length, filled_idle, rises_idle, count_push}
use Rattle.lsm_changes.proofs.history.History.idle.Goals as goal

pub overflow_add-self : goal.overflow_add-self
overflow_add-self c =
    let m = c.self.inside in
    let long : length (filled 0 m.steps.items m.clock) + 0 ≡ m.clock = filled_length 0 m.clock m.steps.items c.self.invariant.0 in
    let same : length (filled 0 m.steps.items m.clock) ≡ length c.args.self.now.log = ap (λ (h : Shown). length h.log) c.self.view_is in
    omega (arith, long, same, c.requires)

pub invariant_of-self : goal.invariant_of-self
invariant_of-self c =
    let m = c.self.inside in (
      rises_idle 0 m.clock m.steps.items c.self.invariant.0,
      omega (arith, count_push m.appended 0 (filled 0 m.steps.items m.clock) (filled 0 m.steps.items (m.clock + 1)) Idle c.self.invariant.1 (filled_idle 0 m.clock m.steps.items c.self.invariant.0) refl, c.self.invariant.1),
    )

pub returns-clause-log : goal.returns-clause-log
returns-clause-log c =
    let m = c.self.inside in
    filled_idle 0 m.clock m.steps.items c.self.invariant.0 ∙ ap (λ (h : Shown). h.log ++ Idle ∷ []) c.self.view_is
