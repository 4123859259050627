-- The edit of a new manifest, which adds every table of a version.
use Rattle.std.specs.Prelude.{◌≡◌, ℕ, List, [], map, All, Some}
use Rattle.std.specs.FinMap as finmap
use Rattle.lsm_version.specs.declared.edits.Edit.{Edit}
use Rattle.lsm_version.specs.declared.tables.Add.{Add}
use Rattle.lsm_version.specs.declared.tables.Place.{Place}
use Rattle.lsm_version.specs.declared.tables.Placed.{Placed}
use Rattle.lsm_version.specs.Edits.{IsPlace, IsTable}
use Rattle.lsm_version.specs.Levels.{Tables}
use Rattle.lsm_version.specs.Orders.{places_of}

-- where an edit adds a table, and the table as it stands there
abbrev pub place_added : Add → Place
place_added add = record { level = add.level; number = add.table.number }

abbrev pub placed_by : Add → Placed
placed_by add = record { level = add.level; info = add.table }

-- every table of the version is added once, as it stands, in the order of the places
pub record AddAll (tables : Tables) (adds : List Add) : Type 0 where
  pub places : map place_added adds ≡ places_of tables
  pub each : All (λ (add : Add). finmap.get tables add.table.number ≡ Some (placed_by add)) adds

-- The edit adds these tables and drops none; it sets the log number, the next file number and the last sequence.
abbrev pub whole_edit : List Add → ℕ → ℕ → ℕ → Edit
whole_edit adds log next last = record { log = Some log; next = Some next; last = Some last; adds = adds; drops = [] }

-- each table has a place and says of itself what an edit may say, its own number among it
pub record AreInRange (tables : Tables) : Type 0 where
  pub each : (number : ℕ) (placed : Placed) → finmap.get tables number ≡ Some placed
      → IsPlace placed.level number × IsTable placed.info × (placed.info.number ≡ number)
