-- What compactions by the shape lower whatever the sizes of their outputs, so that a line of them ends.
use Rattle.std.specs.Prelude.{ℕ, ◌*◌, ◌-◌, List, length, sum_by}
use Rattle.std.specs.FinMap as finite
use Rattle.lsm_rows.specs.declared.rows.Row.{Row}
use Rattle.lsm_version.specs.declared.tables.Placed.{Placed}
use Rattle.lsm_version.specs.Edits.{last_level}
use Rattle.lsm_version.specs.Levels.{Tables}

-- a table's rows, counted once for each level below its own
abbrev pub rows_below : (ℕ → List Row) → ℕ × Placed → ℕ
rows_below rows table = (last_level - table.1.level) * length (rows table.0)

-- the rows of all tables, each once for each level below its table's
abbrev pub row_weight : Tables → (ℕ → List Row) → ℕ
row_weight tables rows = sum_by (rows_below rows) (finite.entries tables)
