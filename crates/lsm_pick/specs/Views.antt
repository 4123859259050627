-- What is seen of the crate's own structs.
use Rattle.std.specs.Prelude.{ℕ}
use Rattle.lsm_version.specs.declared.tables.Placed.{Placed}
use Rattle.lsm_pick.specs.declared.going.Numbered.{Numbered}
use Rattle.lsm_pick.specs.declared.keys.Keys.{Keys}
use Rattle.lsm_pick.specs.Picked.{Range}

-- the range of these keys
abbrev pub range_in : Keys → Range
range_in keys = record { least = keys.least.now; greatest = keys.greatest.now }

-- the table of this number
abbrev pub table_in : Numbered → ℕ × Placed
table_in table = (table.number, table.placed.now)
