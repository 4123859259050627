-- Rows in memory with their sizes.
use Rattle.std.specs.Prelude.{◌≡◌, ℕ, ◌+◌, ◌^◌, ◌<◌, List, length}
use Rattle.std.specs.List.{sum_by}
use Rattle.lsm_rows.specs.declared.rows.Row.{Row}
use Rattle.lsm_memtable.specs.Order.{AreInOrder}
use Rattle.lsm_memtable.specs.Sizes.{row_bytes, room_of}

-- the rows are in order, so many and with so many bytes, and one table has room for them
pub record IsMemory (rows : List Row) (count bytes : ℕ) : Type 0 where
  pub order : AreInOrder rows
  pub count_is : count ≡ length rows
  pub bytes_is : bytes ≡ sum_by row_bytes rows
  pub room : room_of rows + 4 < 2 ^ 29
