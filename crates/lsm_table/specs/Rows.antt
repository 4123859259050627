-- The rows of a table in runs, each after a key.
use Rattle.std.specs.Prelude.{◌≡◌, ℕ, ◌/◌, ◌%◌, ◌≤◌, ◌==◌, if◌then◌else◌, All, true, false, filter, List, [], ◌∷◌, length, take, drop, Option, Some, None}
use Rattle.lsm_rows.specs.declared.rows.Row.{Row}
use Rattle.lsm_rows.specs.InternalKeys.{user_key, trailer}
use Rattle.lsm_block.specs.declared.entries.Entry.{Entry}
use Rattle.lsm_block.specs.Blocks.{IsBlock}
use Rattle.lsm_block.specs.Parts.{last_key}
use Rattle.lsm_block.specs.Runs.{comes_after}
use Rattle.lsm_table.specs.declared.faults.TableFault.{TableFault}
use Rattle.lsm_table.specs.Opening.{TellsPlace, IsOutside}
use Rattle.lsm_table.specs.DataBlocks.{IsStoredBlock, IsStoredFault}

-- the entries whose keys come after one, and all where there is none
unfoldable pub entries_after : Option (List ℕ) → List Entry → List Entry
entries_after after es = filter (λ e. comes_after after e.key) es

-- so many entries don't come after a key, and those behind them do
pub record IsCutAfter (after : Option (List ℕ)) (es : List Entry) (count : ℕ) : Type 0 where
  pub within : count ≤ length es
  pub up_to : All (λ e. comes_after after e.key ≡ false) (take count es)
  pub past : All (λ e. comes_after after e.key ≡ true) (drop count es)

-- the row that an entry is of: the parts of its key, and the entry's value where it was put
unfoldable pub row_at : Entry → Row
row_at e = record {
  key = user_key e.key;
  sequence = trailer e.key / 256;
  value = if trailer e.key % 256 == 0 then None else Some e.value;
}

-- An entry of an index is of this block: it has its last key, and whoever reads where it tells gets the block, or a
-- fault that says nothing of the text.
pub record IsOfBlock (text : List ℕ) (e : Entry) (block : List Entry) : Type 0 where
  pub is_block : IsBlock block
  pub last : e.key ≡ last_key block
  pub read : (place len : ℕ) (es : List Entry) → TellsPlace e.value place len → IsStoredBlock text place len es → es ≡ block
  pub outside : (place len : ℕ) (fault : TableFault) → TellsPlace e.value place len → IsStoredFault text place len fault → IsOutside fault

-- the entries of an index are of these blocks, in turn
unfoldable pub AreOfBlocks : List ℕ → List Entry → List (List Entry) → Type 0
AreOfBlocks text [] [] = Unit {0}
AreOfBlocks text [] (block ∷ blocks) = ⊥
AreOfBlocks text (e ∷ index) [] = ⊥
AreOfBlocks text (e ∷ index) (block ∷ blocks) = IsOfBlock text e block × AreOfBlocks text index blocks
