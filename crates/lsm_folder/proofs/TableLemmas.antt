-- A whole table's bytes say its rows.
use Rattle.std.specs.Prelude.{◌≡◌, ◌≢◌, ℕ, ◌+◌, ◌^◌, ◌<◌, Bool, true, false, cond, ◌&&◌, ◌==◌, nat_lt, List, [], ◌∷◌, ◌++◌, length, map, All, Option, Some, None, Result, Ok, Err}
use Rattle.std.proofs.Common.{refl, sym, ap, ◌∙◌, arith, append_assoc, append-nil, length-append}
use Rattle.std.proofs.lemmas.Bool.Decides.{nat_tests}
use Rattle.std.proofs.lemmas.List.{map-append}
use Rattle.std.proofs.lemmas.List.Elements.{All-head, All-tail}
use Rattle.std.specs.Str.{bytes_eq}
use Rattle.lsm_bytes.specs.Varint.{varint}
use Rattle.lsm_names.specs.declared.file_names.FileName.{FileName}
use Rattle.lsm_names.specs.declared.file_names.FileName.TheVariants.{Table}
use Rattle.lsm_rows.specs.declared.rows.Row.{Row}
use Rattle.lsm_folder.specs.Batches.{number_ahead}
use Rattle.lsm_folder.proofs.NameLemmas.{same_text, and_true}
use Rattle.lsm_block.specs.declared.entries.Entry.{Entry}
use Rattle.lsm_block.specs.BlockText.{block_text}
use Rattle.lsm_block.specs.TableText.{row_entry, data_blocks, blocks_text, index_from, stored}
use Rattle.lsm_table.specs.declared.parts.Properties.{Properties}
use Rattle.lsm_table.specs.Cuts.{index_entry}
use Rattle.lsm_table.specs.declared.faults.TableFault.{TableFault}
use Rattle.lsm_table.specs.Opening.{contents_at, properties_at, TellsPlace, TellsBlock, Opens}
use Rattle.lsm_table.specs.DataBlocks.{IsStoredBlock}
use Rattle.lsm_table.specs.Rows.{row_at}
use Rattle.lsm_table.specs.WholeTables.{IsTable, StandsAt}
use Rattle.lsm_table.proofs.BuiltRows.{blocks_text-nil, blocks_text-cons}
use Rattle.lsm_table.proofs.OrderedBlocks.{entries_are, blocks_text-append}
use Rattle.lsm_table.proofs.RowRuns.{row_back, joined}
use Rattle.lsm_table.proofs.WholeTables.{table_opens, told_both, told_stands, stands_stored, stands_once}
use Rattle.lsm_version.specs.declared.tables.TableInfo.{TableInfo}
use Rattle.lsm_folder.specs.declared.refusals.Refusal.{Refusal}
use Rattle.lsm_folder.specs.declared.refusals.Refusal.TheVariants.{Short, Malformed}
use Rattle.lsm_folder.specs.Blocks.{block_of}
use Rattle.lsm_folder.specs.Steps.{◌>>=◌, some_or, table_says}
use Rattle.lsm_folder.specs.Tables.{Told, told_in, with_told, all_told, told_by_block, index_of, data_block, rows_told, is_of, table_rows_in, table_in, table_said}
use Rattle.lsm_folder.proofs.AheadLemmas.{number_back}
use Rattle.lsm_folder.proofs.BlockLemmas.{block_back}
use Rattle.lsm_rows.proofs.ReplayedRows.{lesser}

-- ---- the index

module _ (value : List ℕ) (place len : ℕ) (tells : TellsPlace value place len) where
  abbrev by_len : ℕ → ℕ → Option Told
  by_len p l =
      cond (nat_lt p (2 ^ 64) && nat_lt l (2 ^ 64) && bytes_eq value (varint p ++ varint l))
      (Some (record { place = p; len = l })) None

  abbrev by_place : ℕ × List ℕ → Option Told
  by_place p = by_len p.0 (number_ahead p.1).0

  len_read : number_ahead (varint len) ≡ (len, [])
  len_read = ap number_ahead (sym (append-nil (varint len))) ∙ number_back len []

  pub told_back : told_in value ≡ Some (record { place = place; len = len })
  unfolding told_in
  told_back =
      ap by_place (ap number_ahead tells.text ∙ number_back place (varint len))
      ∙ ap (λ (l : ℕ × List ℕ). by_len place l.0) len_read
      ∙ ap (λ (b : Bool). cond b (Some (record { place = place; len = len })) None)
      (and_true _ _ (and_true _ _ (lesser place (2 ^ 64) tells.place_fits) (lesser len (2 ^ 64) tells.len_fits)) (ap (bytes_eq value) (sym tells.text) ∙ same_text value))

-- what an index of blocks tells that stand one behind another
abbrev places_from : ℕ → List (List Entry) → List Told
places_from place [] = []
places_from place (block ∷ blocks) =
    record { place = place; len = length (block_text block) } ∷ places_from (place + length (stored (block_text block))) blocks

index_told : (place : ℕ) (blocks : List (List Entry)) → All TellsBlock (index_from place blocks)
    → all_told (index_from place blocks) ≡ Some (places_from place blocks)
unfolding index_from
index_told place [] each = refl
index_told place (block ∷ blocks) each =
    let next : ℕ = place + length (stored (block_text block)) in
    let first : TellsBlock (index_entry place block) =
    All-head TellsBlock (index_entry place block) (index_from next blocks) each in
    let both =
    told_both (index_entry place block).value first.place first.len place (length (block_text block)) first.tells refl in
    let told : told_in (index_entry place block).value ≡ Some (record { place = place; len = length (block_text block) }) =
    told_back (index_entry place block).value first.place first.len first.tells
    ∙ (λ i. Some (record { place = both.0 i; len = both.1 i })) in
    (λ i. with_told (told i) (index_told next blocks (All-tail TellsBlock (index_entry place block) (index_from next blocks) each) i))

-- ---- the size that a version has

pub said_at_size : (number : ℕ) (info : TableInfo) (text : List ℕ) → length text ≡ info.size
    → table_said number info text ≡ table_in number info text
unfolding table_said
said_at_size number info text size =
    let test : (length text == info.size) ≡ true = grind (arith, nat_tests) in
    ap (λ (b : Bool). cond b (table_in number info text) (Err (Short (Table number) info.size (length text)))) test

pub said_short : (number : ℕ) (info : TableInfo) (text : List ℕ) → length text ≢ info.size
    → table_said number info text ≡ Err (Short (Table number) info.size (length text))
unfolding table_said
said_short number info text other =
    let test : (length text == info.size) ≡ false = grind (arith, nat_tests, other) in
    ap (λ (b : Bool). cond b (table_in number info text) (Err (Short (Table number) info.size (length text)))) test

-- ---- a table that opens

module _ (number : ℕ) (info : TableInfo) (text : List ℕ) (properties : Properties) (index : List Entry)
    (opens : Opens text properties index) (all : List Told) (told : all_told index ≡ Some all) where
  index_is : index_of opens.is_index.contents ≡ Some all
  unfolding index_of
  index_is = ap told_by_block (block_back opens.is_index.contents index opens.is_index.is.block) ∙ told

  -- it says what the data blocks say that its index tells
  pub opened_in : table_in number info text ≡ table_rows_in number info text properties opens.places.properties all
  unfolding table_in
  opened_in =
      ap (λ r. table_says (Table number) r >>= λ places.
      table_says (Table number) (contents_at places.index places.len text) >>= λ (contents : List ℕ).
      some_or (Malformed (Table number) places.index) (index_of contents) >>= λ (index : List Told).
      table_says (Table number) (properties_at places.properties text) >>= λ (found : Properties).
      table_rows_in number info text found places.properties index) opens.footer
      ∙ ap (λ (r : Result (List ℕ) TableFault). table_says (Table number) r >>= λ (contents : List ℕ).
      some_or (Malformed (Table number) opens.places.index) (index_of contents) >>= λ (index : List Told).
      table_says (Table number) (properties_at opens.places.properties text) >>= λ (found : Properties).
      table_rows_in number info text found opens.places.properties index) opens.is_index.stored
      ∙ ap (λ (o : Option (List Told)). some_or (Malformed (Table number) opens.places.index) o >>= λ (index : List Told).
      table_says (Table number) (properties_at opens.places.properties text) >>= λ (found : Properties).
      table_rows_in number info text found opens.places.properties index) index_is
      ∙ ap (λ (r : Result Properties TableFault). table_says (Table number) r >>= λ (found : Properties).
      table_rows_in number info text found opens.places.properties all) opens.told

-- ---- the data blocks

-- a block that is stored where it is told
pub stored_read : (name : FileName) (text : List ℕ) (place len : ℕ) (block : List Entry) → IsStoredBlock text place len block
    → data_block name text (record { place = place; len = len }) ≡ Ok block
unfolding data_block
stored_read name text place len block is =
    let fits : nat_lt (length text) (place + len + 5) ≡ false = grind (arith, nat_tests, is.there) in
    ap (λ (b : Bool). cond b (Err (Malformed name place)) (table_says name (contents_at place len text) >>= λ (contents : List ℕ). some_or (Malformed name place) (block_of contents))) fits
    ∙ ap (λ (r : Result (List ℕ) TableFault). table_says name r >>= λ (contents : List ℕ). some_or (Malformed name place) (block_of contents)) is.stored
    ∙ ap (some_or (Malformed name place)) (block_back is.contents block is.is)

-- the rows of a block, before those of the blocks behind it
pub rows_first : (name : FileName) (text : List ℕ) (told : Told) (more : List Told) (block : List Entry)
    → data_block name text told ≡ Ok block
    → rows_told name text (told ∷ more) ≡ (rows_told name text more >>= λ (rows : List Row). Ok (map row_at block ++ rows))
rows_first name text told more block is =
    ap (λ (r : Result (List Entry) Refusal). r >>= λ (entries : List Entry). rows_told name text more >>= λ (rows : List Row). Ok (map row_at entries ++ rows)) is

module _ (text : List ℕ) (rows : List Row) (number : ℕ) (session : List ℕ) (is : IsTable text rows number session) where
  module _ (name : FileName) where
    -- what stands where one of the blocks stands
    block_there : (place : ℕ) (block : List Entry) → StandsAt (data_blocks rows) place block
        → data_block name text (record { place = place; len = length (block_text block) }) ≡ Ok block
    block_there place block at =
        let here = stands_stored text rows number session is place block at in
        let told = told_stands rows place here.len here.told in
        let len_is : here.len ≡ length (block_text block) =
        told.len_is
        ∙ ap (λ (es : List Entry). length (block_text es))
        (stands_once (data_blocks rows) place told.block block told.stands at) in
        ap (λ (n : ℕ). data_block name text (record { place = place; len = n })) (sym len_is)
        ∙ stored_read name text place here.len block here.stored

    block_ends : (before : List (List Entry)) (block : List Entry)
        → length (blocks_text (before ++ block ∷ [])) ≡ length (blocks_text before) + length (stored (block_text block))
    block_ends before block =
        ap (length {A = ℕ}) (blocks_text-append before (block ∷ []))
        ∙ length-append (blocks_text before) (blocks_text (block ∷ []))
        ∙ ap (λ (s : List ℕ). length (blocks_text before) + length s) (blocks_text-cons block [] ∙ ap (λ (s : List ℕ). stored (block_text block) ++ s) blocks_text-nil ∙ append-nil (stored (block_text block)))

    -- the rows of the blocks behind these
    rows_behind : (before blocks : List (List Entry)) → data_blocks rows ≡ before ++ blocks
        → rows_told name text (places_from (length (blocks_text before)) blocks) ≡ Ok (map row_at (joined blocks))
    rows_behind before [] all = refl
    rows_behind before (block ∷ blocks) all =
        let place : ℕ = length (blocks_text before) in
        let next : ℕ = place + length (stored (block_text block)) in
        let here = block_there place block (record { before = before; behind = blocks; is = all; place_is = refl }) in
        let later : rows_told name text (places_from next blocks) ≡ Ok (map row_at (joined blocks)) =
        ap (λ (n : ℕ). rows_told name text (places_from n blocks)) (sym (block_ends before block))
        ∙ rows_behind (before ++ block ∷ []) blocks (all ∙ sym (append_assoc before (block ∷ []) blocks)) in
        rows_first name text (record { place = place; len = length (block_text block) }) (places_from next blocks) block here
        ∙ ap (λ (r : Result (List Row) Refusal). r >>= λ (more : List Row). Ok (map row_at block ++ more)) later
        ∙ ap Ok (sym (map-append row_at block (joined blocks)))

    rows_come_back : (some : List Row) → All (λ (r : Row). r.sequence < 2 ^ 56) some → map row_at (map row_entry some) ≡ some
    rows_come_back [] low = refl
    rows_come_back (row ∷ more) low = λ i. row_back row (All-head (λ (r : Row). r.sequence < 2 ^ 56) row more low) i ∷ rows_come_back more (All-tail (λ (r : Row). r.sequence < 2 ^ 56) row more low) i

    all_rows : rows_told name text (places_from 0 (data_blocks rows)) ≡ Ok rows
    all_rows =
        ap (λ (n : ℕ). rows_told name text (places_from n (data_blocks rows))) (sym (ap (length {A = ℕ}) blocks_text-nil))
        ∙ rows_behind [] (data_blocks rows) refl
        ∙ ap (λ (es : List Entry). Ok (map row_at es)) (entries_are rows)
        ∙ ap Ok (rows_come_back rows is.is.are_rows.sequences)

  -- ---- the table

  module _ (info : TableInfo) (listed : info.session ≡ session) where
    abbrev properties : Properties
    properties = record { number = number; session = session; rows = length rows }

    of_it : is_of number info properties ≡ true
    of_it =
        let same : (number == number) ≡ true = grind (arith, nat_tests) in
        and_true _ _ same (ap (bytes_eq session) listed ∙ same_text session)

    rows_in_it : (place : ℕ)
        → table_rows_in number info text properties place (places_from 0 (data_blocks rows)) ≡ Ok (record { rows = rows })
    unfolding table_rows_in
    rows_in_it place =
        ap (λ (b : Bool). cond b (rows_told (Table number) text (places_from 0 (data_blocks rows)) >>= λ (found : List Row). Ok (record { rows = found })) (Err (Malformed (Table number) place))) of_it
        ∙ ap (λ (r : Result (List Row) Refusal). r >>= λ (found : List Row). Ok (record { rows = found }))
        (all_rows (Table number))

    opens : Opens text properties (index_from 0 (data_blocks rows))
    opens = table_opens text rows number session is

    table_is : table_in number info text ≡ Ok (record { rows = rows })
    table_is =
        opened_in number info text properties (index_from 0 (data_blocks rows)) opens (places_from 0 (data_blocks rows))
        (index_told 0 (data_blocks rows) opens.is_index.is.places)
        ∙ rows_in_it opens.places.properties

    -- where the version has its session and its size, a whole table says its rows
    pub table_says_rows : length text ≡ info.size → table_said number info text ≡ Ok (record { rows = rows })
    table_says_rows size = said_at_size number info text size ∙ table_is
