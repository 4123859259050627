-- A flush of rows in memory: what contracts see of it, and the table that its steps make.
use Rattle.std.specs.Prelude.{◌≡◌, ℕ, ◌+◌, ◌<◌, ◌≤◌, List, ◌∷◌, ◌++◌, length, map, take}
use Rattle.lsm_rows.specs.declared.rows.Row.{Row}
use Rattle.lsm_block.specs.Parts.{last_key}
use Rattle.lsm_block.specs.TableText.{row_entry, blocks_of, blocks_text, table_text}
use Rattle.lsm_table.specs.WholeTables.{IsTable}
use Rattle.lsm_memtable.specs.Newest.{newest_each}

-- the rows in memory, the table's number and session, and how many of the table's rows the steps have added
pub record Flushing : Type 0 where
  pub rows : List Row
  pub number : ℕ
  pub session : List ℕ
  pub taken : ℕ

-- the bytes of the blocks that a table's first rows end, so many of them
unfoldable pub bytes_of : List Row → ℕ → List ℕ
bytes_of rows count = blocks_text (blocks_of (map row_entry (take count rows))).ended

-- The table's rows behind so many are those of the next step: 1,024, and these bytes come behind those of the rows
-- before; more rows are left.
pub record IsNextPiece (f : Flushing) (bytes : List ℕ) (taken : ℕ) : Type 0 where
  pub left : f.taken + 1024 < length (newest_each f.rows)
  pub all : taken ≡ f.taken + 1024
  pub text : bytes_of (newest_each f.rows) f.taken ++ bytes ≡ bytes_of (newest_each f.rows) taken

-- what is left of the table comes behind the bytes of the rows before, which make it whole, and no row is left
pub record IsLastPiece (f : Flushing) (tail : List ℕ) (size : ℕ) (smallest largest : List ℕ) (taken : ℕ) : Type 0 where
  pub few : length (newest_each f.rows) ≤ f.taken + 1024
  pub all : taken ≡ length (newest_each f.rows)
  pub text : bytes_of (newest_each f.rows) f.taken ++ tail ≡ table_text (newest_each f.rows) f.number f.session
  pub size_is : size ≡ length (table_text (newest_each f.rows) f.number f.session)
  pub smallest_is : (row : Row) (more : List Row) → newest_each f.rows ≡ row ∷ more → smallest ≡ (row_entry row).key
  pub largest_is : largest ≡ last_key (map row_entry (newest_each f.rows))
  pub table : IsTable (table_text (newest_each f.rows) f.number f.session) (newest_each f.rows) f.number f.session
