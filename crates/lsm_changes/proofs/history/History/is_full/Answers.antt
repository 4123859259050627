use Rattle.std.proofs.Common.{◌≡◌, ◌+◌, ap, arith, length}
use Rattle.std.proofs.lemmas.Bool.Decides.{nat_tests}
use Rattle.lsm_changes.specs.History.{Shown, filled}
use Rattle.lsm_changes.proofs.Histories.{filled_length}
use Rattle.lsm_changes.proofs.history.History.is_full.Goals as goal

pub returns : goal.returns
returns c =
    let m = c.self.inside in
    let long : length (filled 0 m.steps.items m.clock) + 0 ≡ m.clock = filled_length 0 m.clock m.steps.items c.self.invariant.0 in
    let same : length (filled 0 m.steps.items m.clock) ≡ length c.args.self.now.log = ap (λ (h : Shown). length h.log) c.self.view_is in
    grind (arith, nat_tests, long, same)
