use Rattle.std.proofs.Common.{◌∙◌, sym}
use Rattle.lsm_pick.proofs.Chosen.{none_beyond, some_beyond}
use Rattle.lsm_pick.proofs.picking.pick.Goals as goal

pub returns-in_ok-choice_at-in-Some : goal.returns-in_ok-choice_at-in-Some
returns-in_ok-choice_at-in-Some c =
    some_beyond c.args.version.now c.in-Some.level c.in_ok-choice_at-in-Some.field-0 (sym c.in_ok-level.ensures.first ∙ c.in-Some.is) c.in_ok-choice_at-in-Some.ensures

pub returns-in-None : goal.returns-in-None
returns-in-None c = none_beyond c.args.version.now (sym c.in_ok-level.ensures.first ∙ c.in-None.is)
