-- How a row is got out of kept blocks, or out of a table's.
use Rattle.std.specs.Prelude.{◌≡◌, ℕ, ◌⊎◌, List, Contains, Option, Result, Ok, Err, IsErr}
use Rattle.lsm_frame.specs.Reader.{Tells}
use Rattle.lsm_rows.specs.declared.rows.Row.{Row}
use Rattle.lsm_block.specs.declared.entries.Entry.{Entry}
use Rattle.lsm_table.specs.declared.faults.TableFault.{TableFault}
use Rattle.lsm_table.specs.declared.faults.TableFault.TheVariants.{NoMemory}
use Rattle.lsm_table.specs.DataBlocks.{IsDataBlock}
use Rattle.lsm_table.specs.Searching.{IsRowOf}
use Rattle.lsm_table.specs.Tables.{Opened}
use Rattle.lsm_cache.specs.declared.blocks.BlockPlace.{BlockPlace}
use Rattle.lsm_cache.specs.Kept.{Kept, used, with_block}

-- a table has this block at a place, in each text that its view tells
abbrev pub IsBlockOf : Opened → ℕ → List Entry → Type 0
IsBlockOf table place block = (text : List ℕ) → Tells table.viewed text → IsDataBlock text table.index place block

-- each block that is kept for a table is the one that the table has at its place
unfoldable pub AreBlocksOf : Opened → Kept → Type 0
AreBlocksOf table kept =
    (at : BlockPlace) (block : List Entry) → Contains kept.entries (at, block) → at.number ≡ table.properties.number
    → IsBlockOf table at.place block

-- the answer is what a block has of a key, or memory was wanting
unfoldable pub IsAnswerOf : List Entry → List ℕ → Result (Option Row) TableFault → Type 0
IsAnswerOf block key (Ok row) = IsRowOf block key row
IsAnswerOf block key (Err fault) = fault ≡ NoMemory

-- a kept block gave the answer: the table stays as it was, and the block is the one used last
pub record IsFromKept (place : ℕ) (block : List Entry) (key : List ℕ) (table : Opened) (kept : Kept) (table_now : Opened)
    (kept_now : Kept) (answer : Result (Option Row) TableFault) : Type 0 where
  pub answer_is : IsAnswerOf block key answer
  pub table_is : table_now ≡ table
  pub kept_is : kept_now ≡ used table.properties.number place kept

-- a block that was read gave the answer, and is kept, or found no room
pub record IsFromRead (place : ℕ) (key : List ℕ) (table : Opened) (kept kept_now : Kept)
    (answer : Result (Option Row) TableFault) : Type 0 where
  pub block : List Entry
  pub stands : IsBlockOf table place block
  pub answer_is : IsAnswerOf block key answer
  pub kept_is : (kept_now ≡ with_block table.properties.number place block kept) ⊎ (kept_now ≡ kept)

-- the table was read: it gave a block, or the reading was refused and nothing else is kept
abbrev pub IsFromTable : ℕ → List ℕ → Opened → Kept → Kept → Result (Option Row) TableFault → Type 0
IsFromTable place key table kept kept_now answer =
    IsFromRead place key table kept kept_now answer ⊎ (IsErr answer × (kept_now ≡ kept))
