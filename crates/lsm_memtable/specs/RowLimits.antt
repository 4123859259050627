-- Rows whose keys and values are no longer than those of operations.
use Rattle.std.specs.Prelude.{◌+◌, ◌≤◌, List, length, All}
use Rattle.lsm_rows.specs.declared.rows.Row.{Row}
use Rattle.lsm_rows.specs.Limits.{key_limit, value_limit}
use Rattle.lsm_table.specs.Building.{row_len}

-- the key has no more bytes than an operation's, and the key and the value together no more than those of an operation
pub record RowInLimits (row : Row) : Type 0 where
  pub key : length row.key ≤ key_limit
  pub both : row_len row ≤ key_limit + value_limit

-- so have all
abbrev pub RowsInLimits : List Row → Type 0
RowsInLimits rows = All RowInLimits rows
