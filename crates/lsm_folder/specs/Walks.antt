-- How far a walk over a table's data blocks has come, which are read one by one in the order of the index.
use Rattle.std.specs.Prelude.{◌≡◌, ℕ, List, length, map, Some, slice_get}
use Rattle.std.specs.List.{flat_map}
use Rattle.lsm_rows.specs.declared.rows.Row.{Row}
use Rattle.lsm_block.specs.declared.entries.Entry.{Entry}
use Rattle.lsm_table.specs.DataBlocks.{IsNthBlock}
use Rattle.lsm_table.specs.Rows.{row_at}

-- The first blocks that an index tells, so many, are stored where it tells them, and these are their rows, one block's
-- behind another's.
pub record HasWalked (bytes : List ℕ) (index : List Entry) (count : ℕ) (rows : List Row) : Type 0 where
  pub blocks : List (List Entry)
  pub as_many : length blocks ≡ count
  pub each : (nth : ℕ) (block : List Entry) → slice_get blocks nth ≡ Some block → IsNthBlock bytes index nth block
  pub rows_are : rows ≡ map row_at (flat_map (λ (es : List Entry). es) blocks)
