-- The runs of a whole table are those of its rows.
use Rattle.std.proofs.Common.{◌≡◌, ℕ, ◌+◌, inr, List, [], ◌∷◌, ◌++◌, length, take, drop, refl, sym, ap, ◌∙◌, subst, append_assoc, append-nil, length-append, Result, Ok, Err}
use Rattle.std.specs.Prelude.{Option, map, IfOk, IfErr, MatchResult}
use Rattle.std.proofs.lemmas.List.{take-map}
use Rattle.lsm_disk.specs.Viewed.{Viewed}
use Rattle.lsm_frame.specs.Reader.{Tells}
use Rattle.lsm_rows.specs.declared.rows.Row.{Row}
use Rattle.lsm_block.specs.declared.entries.Entry.{Entry}
use Rattle.lsm_block.specs.BlockText.{block_text}
use Rattle.lsm_block.specs.Runs.{rows_after}
use Rattle.lsm_block.specs.TableText.{row_entry, data_blocks, blocks_text, index_from, stored}
use Rattle.lsm_table.specs.declared.faults.TableFault.{TableFault}
use Rattle.lsm_table.specs.declared.parts.Properties.{Properties}
use Rattle.lsm_table.specs.Cuts.{index_entry}
use Rattle.lsm_table.specs.Opening.{Opens, IsOutside}
use Rattle.lsm_table.specs.DataBlocks.{IsStoredBlock, IsStoredFault}
use Rattle.lsm_table.specs.Rows.{entries_after, IsCutAfter, row_at, IsOfBlock, AreOfBlocks}
use Rattle.lsm_table.specs.Tables.{Shows}
use Rattle.lsm_table.specs.WholeTables.{IsTable, StandsAt}
use Rattle.lsm_table.proofs.BuiltRows.{blocks_text-nil, blocks_text-cons}
use Rattle.lsm_table.proofs.OrderedBlocks.{entries_are, blocks_text-append}
use Rattle.lsm_table.proofs.RowRuns.{joined, rows_back, skipped, of_behind}
use Rattle.lsm_table.proofs.WholeTables.{table_opens, opens_once, stands_told, told_both, stands_block, stored_stands, stands_once, block_outside}

-- the index's entry of a block is of that block
entry_of_block : (text : List ℕ) (rows : List Row) (number : ℕ) (session : List ℕ) → IsTable text rows number session → (place : ℕ) (block : List Entry) → StandsAt (data_blocks rows) place block
    → IsOfBlock text (index_entry place block) block
entry_of_block text rows number session is place block at =
    let told = stands_told text rows number session place block is at in
    record {
      is_block = stands_block text rows number session place block is at;
      last = refl;
      read = λ there len es tells found.
          let both = told_both (index_entry place block).value there len place (length (block_text block)) tells refl in
          stands_once (data_blocks rows) place es block
          (stored_stands text rows number session is place es
          (record { len = length (block_text block); told = told; stored = subst (λ (n : ℕ). IsStoredBlock text place n es) both.1 (subst (λ (n : ℕ). IsStoredBlock text n len es) both.0 found) }))
          at;
      outside = λ there len fault tells wrong.
          let both = told_both (index_entry place block).value there len place (length (block_text block)) tells refl in
          block_outside text rows number session place block fault is at
          (inr
          (inr
          (record { len = length (block_text block); told = told; fault_is = subst (λ (n : ℕ). IsStoredFault text place n fault) both.1 (subst (λ (n : ℕ). IsStoredFault text n len fault) both.0 wrong) })));
    }

-- where a block ends
block_ends : (before : List (List Entry)) (block : List Entry) → length (blocks_text (before ++ block ∷ [])) ≡ length (blocks_text before) + length (stored (block_text block))
block_ends before block =
    ap (length {A = ℕ}) (blocks_text-append before (block ∷ [])) ∙ length-append (blocks_text before) (blocks_text (block ∷ []))
    ∙ ap (λ (s : List ℕ). length (blocks_text before) + length s) (blocks_text-cons block [] ∙ ap (λ (s : List ℕ). stored (block_text block) ++ s) blocks_text-nil ∙ append-nil (stored (block_text block)))

of_from : (text : List ℕ) (rows : List Row) (number : ℕ) (session : List ℕ) → IsTable text rows number session → (before blocks : List (List Entry)) → data_blocks rows ≡ before ++ blocks
    → AreOfBlocks text (index_from (length (blocks_text before)) blocks) blocks
unfolding AreOfBlocks index_from
of_from text rows number session is before [] all = tt
of_from text rows number session is before (block ∷ blocks) all = (
  entry_of_block text rows number session is (length (blocks_text before)) block (record { before = before; behind = blocks; is = all; place_is = refl }),
  subst (λ (n : ℕ). AreOfBlocks text (index_from n blocks) blocks) (block_ends before block)
      (of_from text rows number session is (before ++ block ∷ []) blocks (all ∙ sym (append_assoc before (block ∷ []) blocks))),
)

-- the index of a table is of its data blocks
pub of_table : (text : List ℕ) (rows : List Row) (number : ℕ) (session : List ℕ) → IsTable text rows number session → AreOfBlocks text (index_from 0 (data_blocks rows)) (data_blocks rows)
of_table text rows number session is =
    subst (λ (n : ℕ). AreOfBlocks text (index_from n (data_blocks rows)) (data_blocks rows)) (ap (length {A = ℕ}) blocks_text-nil) (of_from text rows number session is [] (data_blocks rows) refl)

pub of_opened : (text : List ℕ) (rows : List Row) (number : ℕ) (session : List ℕ) (properties : Properties) (index : List Entry) → IsTable text rows number session → Opens text properties index → AreOfBlocks text index (data_blocks rows)
of_opened text rows number session properties index is opens =
    let same = opens_once text properties (record { number = number; session = session; rows = length rows }) index (index_from 0 (data_blocks rows)) opens (table_opens text rows number session is) in
    subst (λ (es : List Entry). AreOfBlocks text es (data_blocks rows)) (sym same.1) (of_table text rows number session is)

-- the rows of the blocks behind a cut in the index
rows_behind : (text : List ℕ) (rows : List Row) (number : ℕ) (session : List ℕ) (index : List Entry) (after : Option (List ℕ)) (count first : ℕ) → IsTable text rows number session → AreOfBlocks text index (data_blocks rows)
    → IsCutAfter after index first → map row_at (take count (entries_after after (joined (drop first (data_blocks rows))))) ≡ take count (rows_after after rows)
rows_behind text rows number session index after count first is of cut =
    ap (λ (es : List Entry). map row_at (take count es)) (sym (skipped text index (data_blocks rows) after first of cut.up_to) ∙ ap (entries_after after) (entries_are rows))
    ∙ sym (take-map row_at count (entries_after after (map row_entry rows))) ∙ ap (take count) (rows_back after rows is.is.are_rows.sequences)

-- what was read behind a cut in the index of an open table
pub whole_run : (v : Viewed) (properties : Properties) (index part : List Entry) (after : Option (List ℕ)) (count first : ℕ) (r : Result (List Row) TableFault) → Shows v properties index → IsCutAfter after index first → part ≡ drop first index
    → IfOk r (λ run. (text : List ℕ) (blocks : List (List Entry)) → Tells v text → AreOfBlocks text part blocks → run ≡ map row_at (take count (entries_after after (joined blocks))))
    → IfErr r (λ fault. (text : List ℕ) (blocks : List (List Entry)) → Tells v text → AreOfBlocks text part blocks → IsOutside fault)
    → (text : List ℕ) (rows : List Row) (number : ℕ) (session : List ℕ) → Tells v text → IsTable text rows number session → MatchResult r (λ run. run ≡ take count (rows_after after rows)) IsOutside
unfolding Shows
whole_run v properties index part after count first (Ok run) shows cut part_is read refused text rows number session told is =
    let of = of_opened text rows number session properties index is (shows text told) in
    read text (drop first (data_blocks rows)) told (subst (λ (es : List Entry). AreOfBlocks text es (drop first (data_blocks rows))) (sym part_is) (of_behind text index (data_blocks rows) first of))
    ∙ rows_behind text rows number session index after count first is of cut
whole_run v properties index part after count first (Err fault) shows cut part_is read refused text rows number session told is =
    let of = of_opened text rows number session properties index is (shows text told) in
    refused text (drop first (data_blocks rows)) told (subst (λ (es : List Entry). AreOfBlocks text es (drop first (data_blocks rows))) (sym part_is) (of_behind text index (data_blocks rows) first of))
