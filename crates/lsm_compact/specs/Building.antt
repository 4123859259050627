-- A table of a compaction's output, as far as it is built.
use Rattle.std.specs.Prelude.{◌≡◌, ℕ, ◌<◌, Bool, false, List, [], ◌∷◌, ◌++◌, length, map, unwrap_or, take, All, Option, Some}
use Rattle.std.specs.List.Sorted.{IsStrictlySortedBy}
use Rattle.lsm_rows.specs.declared.rows.Row.{Row}
use Rattle.lsm_rows.specs.Replay.{key_cmp}
use Rattle.lsm_block.specs.Parts.{last_key}
use Rattle.lsm_block.specs.TableText.{row_entry, table_text}
use Rattle.lsm_table.specs.Building.{Built, IsBuilt}
use Rattle.lsm_compact.specs.Calls.{IsRowOfStore}
use Rattle.lsm_compact.specs.Outputs.{ended_text, is_full}

-- a table that grows: its number, its session and its rows; and whether it was never ended, so that rows may come
pub record Table : Type 0 where
  pub number : ℕ
  pub session : List ℕ
  pub rows : List Row
  pub whole : Bool

-- Rows that may be those of a table: each user key once, ascending; each row is one of a store; and the table wasn't full
-- before the last of them.
pub record AreRows (rows : List Row) : Type 0 where
  pub ascend : IsStrictlySortedBy key_cmp (map (λ row. row.key) rows)
  pub each : All IsRowOfStore rows
  pub before : (count : ℕ) → count < length rows → is_full (take count rows) ≡ false

-- a builder has these rows, and the text of the blocks that they ended was handed out
pub record IsBuiltOf (b : Built) (number : ℕ) (session : List ℕ) (rows : List Row) : Type 0 where
  pub number_is : b.number ≡ number
  pub session_is : b.session ≡ session
  pub built_is : IsBuilt b rows (ended_text rows)

-- a row came behind these, and the builder has it too; this piece, if any, is the text of the blocks that were ended with it
pub record IsPushed (b : Built) (old : List Row) (row : Row) (new : List Row) (piece : Option (List ℕ)) : Type 0 where
  pub rows : new ≡ old ++ row ∷ []
  pub built_is : IsBuilt b new (ended_text new)
  pub piece_is : ended_text old ++ unwrap_or piece [] ≡ ended_text new

-- what a table's builder has, if there is one, are its rows
pub record IsTable (t : Table) (builder : Option Built) : Type 0 where
  pub rows : AreRows t.rows
  pub built : (b : Built) → builder ≡ Some b → IsBuiltOf b t.number t.session t.rows

-- The end of a table: the text behind that of its ended blocks, its size, and the keys of its first and its last row.
pub record IsEnd (t : Table) (tail : List ℕ) (size : ℕ) (smallest largest : List ℕ) : Type 0 where
  pub text : ended_text t.rows ++ tail ≡ table_text t.rows t.number t.session
  pub size_is : size ≡ length (table_text t.rows t.number t.session)
  pub smallest_is : (row : Row) (more : List Row) → t.rows ≡ row ∷ more → smallest ≡ (row_entry row).key
  pub largest_is : largest ≡ last_key (map row_entry t.rows)
