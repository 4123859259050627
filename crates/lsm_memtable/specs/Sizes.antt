-- How much rows count in memory.
use Rattle.std.specs.Prelude.{ℕ, ◌+◌, ◌*◌, List, length}
use Rattle.std.specs.List.{sum_by}
use Rattle.lsm_rows.specs.declared.rows.Row.{Row}
use Rattle.lsm_rows.specs.declared.operations.Op.{Op}
use Rattle.lsm_rows.specs.Limits.{key_len, value_len}
use Rattle.lsm_table.specs.Building.{row_len}

-- a row counts its key, its value and 8 bytes
abbrev pub row_bytes : Row → ℕ
row_bytes row = row_len row + 8

-- what the row of an operation counts
abbrev pub op_bytes : Op → ℕ
op_bytes op = key_len op + value_len op + 8

-- how much of a table rows take at most: their bytes, and a hundred more for each
unfoldable pub room_of : List Row → ℕ
room_of rows = sum_by row_bytes rows + 100 * length rows
