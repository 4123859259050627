use Rattle.std.specs.Prelude.{Option}
use Rattle.std.proofs.Common.{ap, ◌∙◌}
use Rattle.lsm_refine.specs.Kept.{KeptPin}
use Rattle.lsm_refine.specs.Calls.{is_own_kept}
use Rattle.lsm_core.proofs.ByNumber.{found_by}
use Rattle.lsm_core.proofs.pins.has_own.Goals as goal

pub returns-in-Some : goal.returns-in-Some
returns-in-Some c =
    c.is_own.ensures ∙ ap (λ (o : Option KeptPin). is_own_kept o) (c.in-Some.ensures ∙ found_by c.args.number c.args.pins.now)

pub returns-in-None : goal.returns-in-None
returns-in-None c = ap (λ (o : Option KeptPin). is_own_kept o) (c.in-None.ensures ∙ found_by c.args.number c.args.pins.now)
