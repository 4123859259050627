-- What a compaction by the shape takes is there, and lies on two neighbouring levels.
use Rattle.std.specs.Prelude.{◌≢◌, ◌≤◌, [], Contains}
use Rattle.lsm_version.specs.declared.choices.Choice.{Choice}
use Rattle.lsm_version.specs.declared.tables.Place.{Place}
use Rattle.lsm_version.specs.Edits.{last_level}
use Rattle.lsm_version.specs.Levels.{Tables}
use Rattle.lsm_version.specs.Orders.{Stands}

-- There are inputs, each is a table of the version at its level, and the output level is one of the six below level 0.
pub record IsSound (tables : Tables) (choice : Choice) : Type 0 where
  pub some : choice.inputs ≢ []
  pub stand : (place : Place) → Contains choice.inputs place → Stands tables place
  pub below : 1 ≤ choice.output
  pub most : choice.output ≤ last_level
