use Rattle.std.proofs.Common.{◌∙◌, ap, option_map, List}
use Rattle.lsm_version.specs.declared.tables.Place.{Place}
use Rattle.lsm_pick.specs.Picked.{range_of_all}
use Rattle.lsm_pick.specs.Standing.{standing}
use Rattle.lsm_pick.specs.Views.{range_in}
use Rattle.lsm_pick.proofs.Chosen.{chosen}
use Rattle.lsm_pick.proofs.going.choice_at.Goals as goal

pub returns : goal.returns
returns c =
    chosen c.args.version.now c.args.level c.in_ok-going.going c.in_ok-inputs.inputs (option_map range_in c.range_of_all-range.result) c.in_ok-going.ensures
    (c.range_of_all-range.ensures ∙ ap (λ (places : List Place). range_of_all (standing c.args.version.now places)) c.as_slice.ensures) c.in_ok-inputs.ensures
