-- How the rows that a compaction writes are cut into tables, and the edit that installs them.
use Rattle.std.specs.Prelude.{◌≡◌, ◌⊎◌, ℕ, ◌<◌, ◌≤◌, Bool, true, false, nat_le, List, [], ◌∷◌, length, map, take, None}
use Rattle.std.specs.List.{flat_map}
use Rattle.lsm_rows.specs.declared.rows.Row.{Row}
use Rattle.lsm_block.specs.Parts.{last_key}
use Rattle.lsm_block.specs.TableText.{row_entry, blocks_of, blocks_text, table_text}
use Rattle.lsm_version.specs.declared.choices.Choice.{Choice}
use Rattle.lsm_version.specs.declared.edits.Edit.{Edit}
use Rattle.lsm_version.specs.declared.tables.Add.{Add}
use Rattle.lsm_version.specs.Levels.{Tables}
use Rattle.lsm_compact.specs.Written.{AreWritten}

-- ---- where tables end

-- an output is full with 2 MiB of data blocks
abbrev pub full_len : ℕ
full_len = 2097152

-- the text of the data blocks that these rows, the first of a table, have ended
unfoldable pub ended_text : List Row → List ℕ
ended_text rows = blocks_text (blocks_of (map row_entry rows)).ended

-- and its length
abbrev pub ended_len : List Row → ℕ
ended_len rows = length (ended_text rows)

-- the table ends behind these rows, whatever follows
unfoldable pub is_full : List Row → Bool
is_full rows = nat_le full_len (ended_len rows)

-- an output has a row, and wasn't full before its last one
pub record IsOutput (rows : List Row) : Type 0 where
  pub some : 1 ≤ length rows
  pub before : (count : ℕ) → count < length rows → is_full (take count rows) ≡ false

-- the outputs are cut where they are full, and only there: each is full but the last, which may be
unfoldable pub AreOutputs : List (List Row) → Type 0
AreOutputs [] = Unit {0}
AreOutputs (rows ∷ outputs) = IsOutput rows × ((outputs ≡ []) ⊎ (is_full rows ≡ true)) × AreOutputs outputs

-- ---- the edit

-- the table of these rows is added at this level, with its size and the internal keys of its first and its last row
pub record IsAddOf (level : ℕ) (rows : List Row) (add : Add) : Type 0 where
  pub level_is : add.level ≡ level
  pub size_is : add.table.size ≡ length (table_text rows add.table.number add.table.session)
  pub smallest_is : (row : Row) (more : List Row) → rows ≡ row ∷ more → add.table.smallest ≡ (row_entry row).key
  pub largest_is : add.table.largest ≡ last_key (map row_entry rows)

-- each output's table is added, in the outputs' order
unfoldable pub AreAdds : ℕ → List (List Row) → List Add → Type 0
AreAdds level [] [] = Unit {0}
AreAdds level [] (add ∷ adds) = ⊥
AreAdds level (rows ∷ outputs) [] = ⊥
AreAdds level (rows ∷ outputs) (add ∷ adds) = IsAddOf level rows add × AreAdds level outputs adds

-- the rows of all outputs, one behind another
abbrev pub joined : List (List Row) → List Row
joined outputs = flat_map (λ (rows : List Row). rows) outputs

-- The edit of a compaction that has read these rows and written these outputs: it drops the inputs, adds the outputs' tables at
-- the output level, and sets no number.
pub record IsEditOf (tables : Tables) (choice : Choice) (inputs : List Row) (outputs : List (List Row)) (edit : Edit)
    : Type 0 where
  pub written : AreWritten tables choice inputs (joined outputs)
  pub ended : AreOutputs outputs
  pub drops : edit.drops ≡ choice.inputs
  pub adds : AreAdds choice.output outputs edit.adds
  pub log : edit.log ≡ None
  pub next : edit.next ≡ None
  pub last : edit.last ≡ None
