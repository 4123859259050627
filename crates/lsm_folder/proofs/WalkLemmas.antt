-- A table whose data blocks are read one by one, in the order of its index, says what they have.
use Rattle.std.specs.Prelude.{◌≡◌, ◌⊎◌, ℕ, zero, suc, ◌+◌, ◌-◌, Bool, true, false, cond, nat_lt, List, [], ◌∷◌, ◌++◌, length, map, Option, Some, None, Result, Ok, Err, slice_get}
use Rattle.std.proofs.Common.{inl, inr, refl, sym, ap, subst, ◌∙◌, arith, append-nil, length-append}
use Rattle.std.proofs.lemmas.Bool.Decides.{nat_tests}
use Rattle.std.proofs.lemmas.Grind.{flat_map-append}
use Rattle.std.proofs.lemmas.List.{map-append}
use Rattle.std.proofs.lemmas.Option.{same_Some, slice_get_within}
use Rattle.lsm_names.specs.declared.file_names.FileName.{FileName}
use Rattle.lsm_names.specs.declared.file_names.FileName.TheVariants.{Table}
use Rattle.lsm_rows.specs.declared.rows.Row.{Row}
use Rattle.lsm_rows.proofs.ReplayedRows.{lesser}
use Rattle.lsm_block.specs.declared.entries.Entry.{Entry}
use Rattle.lsm_block.specs.Blocks.{IsBlockText}
use Rattle.lsm_table.specs.declared.faults.TableFault.{TableFault}
use Rattle.lsm_table.specs.declared.parts.Properties.{Properties}
use Rattle.lsm_table.specs.Opening.{contents_at, TellsPlace, IsOutside, Opens}
use Rattle.lsm_table.specs.DataBlocks.{IsStoredFault, IsNthBlock, IsNthFault}
use Rattle.lsm_table.specs.Rows.{row_at}
use Rattle.lsm_table.proofs.Footers.{footer_end}
use Rattle.lsm_table.proofs.RowRuns.{joined}
use Rattle.lsm_table.proofs.WholeTables.{fault_is}
use Rattle.lsm_version.specs.declared.tables.TableInfo.{TableInfo}
use Rattle.lsm_folder.specs.declared.refusals.Refusal.{Refusal}
use Rattle.lsm_folder.specs.declared.refusals.Refusal.TheVariants.{Malformed}
use Rattle.lsm_folder.specs.Blocks.{block_of}
use Rattle.lsm_folder.specs.Steps.{◌>>=◌, some_or, table_says}
use Rattle.lsm_folder.specs.Tables.{Told, told_in, with_told, all_told, data_block, rows_told, is_of, table_rows_in, table_in}
use Rattle.lsm_folder.specs.Walks.{HasWalked}
use Rattle.lsm_folder.proofs.BlockLemmas.{block_only}
use Rattle.lsm_folder.proofs.OpeningLemmas.{told_first, told_all, stops}
use Rattle.lsm_folder.proofs.TableLemmas.{told_back, opened_in, stored_read, rows_first}

-- ---- one block more

-- what stands at a place of a list that has one element more
pub at_push : {A : Type 0} (xs : List A) (x y : A) (k : ℕ) → slice_get (xs ++ x ∷ []) k ≡ Some y
    → (slice_get xs k ≡ Some y) ⊎ ((k ≡ length xs) × (x ≡ y))
at_push [] x y zero at = inr (refl, same_Some x y at)
at_push [] x y (suc k) at = cc
at_push (z ∷ xs) x y zero at = inl at
at_push (z ∷ xs) x y (suc k) at = behind (at_push xs x y k at)
  where
    behind : (slice_get xs k ≡ Some y) ⊎ ((k ≡ length xs) × (x ≡ y))
        → (slice_get xs k ≡ Some y) ⊎ ((suc k ≡ suc (length xs)) × (x ≡ y))
    behind (inl before) = inl before
    behind (inr (last, same)) = inr (ap suc last, same)

pub walk_begins : (bytes : List ℕ) (index : List Entry) → HasWalked bytes index 0 []
walk_begins bytes index = record { blocks = []; as_many = refl; each = λ nth block at. cc; rows_are = refl }

pub walk_goes_on : (bytes : List ℕ) (index : List Entry) (nth : ℕ) (rows : List Row) (block : List Entry)
    → HasWalked bytes index nth rows → IsNthBlock bytes index nth block
    → HasWalked bytes index (nth + 1) (rows ++ map row_at block)
walk_goes_on bytes index nth rows block walked next = record {
  blocks = walked.blocks ++ block ∷ [];
  as_many = omega (arith, walked.as_many, length-append walked.blocks (block ∷ []));
  each = λ k b at. by_place k b (at_push walked.blocks block b k at);
  rows_are =
      ap (λ (l : List Row). l ++ map row_at block) walked.rows_are
      ∙ sym (map-append row_at (joined walked.blocks) block)
      ∙ ap (map row_at) (ap (λ (l : List Entry). joined walked.blocks ++ l) (sym (append-nil block)) ∙ sym (flat_map-append (λ (es : List Entry). es) walked.blocks (block ∷ [])));
}
  where
    by_place : (k : ℕ) (b : List Entry) → (slice_get walked.blocks k ≡ Some b) ⊎ ((k ≡ length walked.blocks) × (block ≡ b))
        → IsNthBlock bytes index k b
    by_place k b (inl before) = walked.each k b before
    by_place k b (inr (last, same)) =
        subst (λ (n : ℕ). IsNthBlock bytes index n b) (sym (last ∙ walked.as_many))
        (subst (λ (es : List Entry). IsNthBlock bytes index nth es) same next)

-- ---- what the blocks say

-- what an index tells whose first entry tells this
record IsSplit (index : List Entry) (all : List Told) (first : Told) : Type 0 where
  more : List Told
  rest_is : all_told index ≡ Some more
  all_is : all ≡ first ∷ more

split_told : (e : Entry) (index : List Entry) (all : List Told) (place len : ℕ) → all_told (e ∷ index) ≡ Some all
    → TellsPlace e.value place len → IsSplit index all (record { place = place; len = len })
split_told e index all place len told tells =
    let first : Told = record { place = place; len = len } in
    let parts = told_first (told_in e.value) (all_told index) all told in
    record {
      more = parts.more;
      rest_is = parts.rest_is;
      all_is = sym (same_Some (first ∷ parts.more) all (sym (λ i. with_told (told_back e.value place len tells i) (parts.rest_is i)) ∙ told));
    }

-- the blocks behind the first one
block_behind : (bytes : List ℕ) (e : Entry) (index : List Entry) (nth : ℕ) (block : List Entry)
    → IsNthBlock bytes (e ∷ index) (suc nth) block → IsNthBlock bytes index nth block
block_behind bytes e index nth block is = record { entry = is.entry; at = is.at; stores = is.stores }

fault_behind : (bytes : List ℕ) (e : Entry) (index : List Entry) (nth : ℕ) (fault : TableFault)
    → IsNthFault bytes (e ∷ index) (suc nth) fault → IsNthFault bytes index nth fault
fault_behind bytes e index nth fault is = record { entry = is.entry; at = is.at; stores = is.stores }

-- contents that are no block's
no_block_by : (contents : List ℕ) → ((es : List Entry) → IsBlockText contents es → ⊥) → (o : Option (List Entry))
    → block_of contents ≡ o → o ≡ None
no_block_by contents none None is = refl
no_block_by contents none (Some es) is = absurd (none es (block_only contents es is))

module _ (name : FileName) (bytes : List ℕ) where
  -- a block that is stored wrongly
  abbrev faulty : TableFault → Result (List Entry) Refusal
  faulty fault = table_says name (Err fault)

  abbrev by_test : (place len : ℕ) → Bool → Result (List Entry) Refusal
  by_test place len short = cond short (Err (Malformed name place)) (table_says name (contents_at place len bytes) >>= λ (contents : List ℕ). some_or (Malformed name place) (block_of contents))

  abbrev by_contents : (place : ℕ) → Result (List ℕ) TableFault → Result (List Entry) Refusal
  by_contents place read = table_says name read >>= λ (contents : List ℕ). some_or (Malformed name place) (block_of contents)

  wrong_read : (place len : ℕ) (fault : TableFault) → IsStoredFault bytes place len fault → (IsOutside fault → ⊥)
      → data_block name bytes (record { place = place; len = len }) ≡ faulty fault
  unfolding data_block
  wrong_read place len fault (inl (at, short)) inside =
      ap (by_test place len) (lesser (length bytes) (place + len + 5) short) ∙ sym (ap faulty at)
  wrong_read place len fault (inr (there, inl wrong)) inside =
      let fits : nat_lt (length bytes) (place + len + 5) ≡ false = grind (arith, nat_tests, there) in
      ap (by_test place len) fits ∙ ap (by_contents place) (fault_is (contents_at place len bytes) fault wrong inside)
      ∙ stops name fault (λ (contents : List ℕ). some_or (Malformed name place) (block_of contents))
  wrong_read place len fault (inr (there, inr (at, none))) inside =
      let fits : nat_lt (length bytes) (place + len + 5) ≡ false = grind (arith, nat_tests, there) in
      ap (by_test place len) fits ∙ ap (by_contents place) none.stored
      ∙ ap (some_or (Malformed name place)) (no_block_by none.contents none.none (block_of none.contents) refl)
      ∙ sym (ap faulty at)

  -- all blocks are whole
  rows_read : (index : List Entry) (all : List Told) (blocks : List (List Entry)) → all_told index ≡ Some all
      → length blocks ≡ length index
      → ((nth : ℕ) (block : List Entry) → slice_get blocks nth ≡ Some block → IsNthBlock bytes index nth block)
      → rows_told name bytes all ≡ Ok (map row_at (joined blocks))
  rows_read [] all [] told same each = ap (rows_told name bytes) (sym (same_Some [] all told))
  rows_read [] all (block ∷ blocks) told same each = absurd (omega (arith, same))
  rows_read (e ∷ index) all [] told same each = absurd (omega (arith, same))
  rows_read (e ∷ index) all (block ∷ blocks) told same each =
      let here = each 0 block refl in
      let s = here.stores in
      let split =
      split_told e index all s.place s.len told
      (subst (λ (d : Entry). TellsPlace d.value s.place s.len) (sym (same_Some e here.entry here.at)) s.tells) in
      let later =
      rows_read index split.more blocks split.rest_is (omega (arith, same))
      (λ nth b at. block_behind bytes e index nth b (each (suc nth) b at)) in
      ap (rows_told name bytes) split.all_is
      ∙ rows_first name bytes (record { place = s.place; len = s.len }) split.more block
      (stored_read name bytes s.place s.len block s.stored)
      ∙ ap (λ (r : Result (List Row) Refusal). r >>= λ (rows : List Row). Ok (map row_at block ++ rows)) later
      ∙ ap Ok (sym (map-append row_at block (joined blocks)))

  -- the first block that isn't
  rows_stop : (index : List Entry) (all : List Told) (blocks : List (List Entry)) (fault : TableFault)
      → all_told index ≡ Some all
      → ((nth : ℕ) (block : List Entry) → slice_get blocks nth ≡ Some block → IsNthBlock bytes index nth block)
      → IsNthFault bytes index (length blocks) fault → (IsOutside fault → ⊥)
      → rows_told name bytes all ≡ table_says name (Err fault)
  rows_stop [] all blocks fault told each wrong inside =
      absurd (omega (arith, slice_get_within [] (length blocks) wrong.entry wrong.at))
  rows_stop (e ∷ index) all [] fault told each wrong inside =
      let s = wrong.stores in
      let split =
      split_told e index all s.place s.len told
      (subst (λ (d : Entry). TellsPlace d.value s.place s.len) (sym (same_Some e wrong.entry wrong.at)) s.tells) in
      ap (rows_told name bytes) split.all_is
      ∙ ap (λ (r : Result (List Entry) Refusal). r >>= λ (entries : List Entry). rows_told name bytes split.more >>= λ (rows : List Row). Ok (map row_at entries ++ rows)) (wrong_read s.place s.len fault s.fault_is inside)
      ∙ stops name fault
      (λ (entries : List Entry). rows_told name bytes split.more >>= λ (rows : List Row). Ok (map row_at entries ++ rows))
  rows_stop (e ∷ index) all (block ∷ blocks) fault told each wrong inside =
      let here = each 0 block refl in
      let s = here.stores in
      let split =
      split_told e index all s.place s.len told
      (subst (λ (d : Entry). TellsPlace d.value s.place s.len) (sym (same_Some e here.entry here.at)) s.tells) in
      let later =
      rows_stop index split.more blocks fault split.rest_is (λ nth b at. block_behind bytes e index nth b (each (suc nth) b at))
      (fault_behind bytes e index (length blocks) fault wrong) inside in
      ap (rows_told name bytes) split.all_is
      ∙ rows_first name bytes (record { place = s.place; len = s.len }) split.more block
      (stored_read name bytes s.place s.len block s.stored)
      ∙ ap (λ (r : Result (List Row) Refusal). r >>= λ (rows : List Row). Ok (map row_at block ++ rows)) later
      ∙ stops name fault (λ (rows : List Row). Ok (map row_at block ++ rows))

-- ---- the table

module _ (number : ℕ) (info : TableInfo) (bytes : List ℕ) (properties : Properties) (index : List Entry)
    (opens : Opens bytes properties index) where
  abbrev name : FileName
  name = Table number

  abbrev all : List Told
  all = (told_all index opens.is_index.is.places).all

  told : all_told index ≡ Some all
  told = (told_all index opens.is_index.is.places).is

  opened : table_in number info bytes ≡ table_rows_in number info bytes properties opens.places.properties all
  opened = opened_in number info bytes properties index opens all told

  of_it : is_of number info properties ≡ true → table_rows_in number info bytes properties opens.places.properties all ≡ (rows_told name bytes all >>= λ (rows : List Row). Ok (record { rows = rows }))
  unfolding table_rows_in
  of_it is = ap (λ (b : Bool). cond b (rows_told name bytes all >>= λ (rows : List Row). Ok (record { rows = rows })) (Err (Malformed name opens.places.properties))) is

  pub walked_whole : is_of number info properties ≡ true → (rows : List Row) → HasWalked bytes index (length index) rows
      → table_in number info bytes ≡ Ok (record { rows = rows })
  walked_whole is rows walked =
      opened ∙ of_it is
      ∙ ap (λ (r : Result (List Row) Refusal). r >>= λ (found : List Row). Ok (record { rows = found }))
      (rows_read name bytes index all walked.blocks told walked.as_many walked.each)
      ∙ ap (λ (found : List Row). Ok (record { rows = found })) (sym walked.rows_are)

  pub walk_stops : is_of number info properties ≡ true → (nth : ℕ) (rows : List Row) (fault : TableFault)
      → HasWalked bytes index nth rows → IsNthFault bytes index nth fault → (IsOutside fault → ⊥)
      → table_in number info bytes ≡ table_says name (Err fault)
  walk_stops is nth rows fault walked wrong inside =
      opened ∙ of_it is
      ∙ ap (λ (r : Result (List Row) Refusal). r >>= λ (found : List Row). Ok (record { rows = found }))
      (rows_stop name bytes index all walked.blocks fault told walked.each (subst (λ (n : ℕ). IsNthFault bytes index n fault) (sym walked.as_many) wrong) inside)
      ∙ stops name fault (λ (found : List Row). Ok (record { rows = found }))

-- ---- another table's properties

pub other_table : (number : ℕ) (info : TableInfo) (bytes : List ℕ) (properties : Properties) (index : List Entry)
    → Opens bytes properties index → is_of number info properties ≡ false
    → table_in number info bytes ≡ Err (Malformed (Table number) (length bytes - 77))
unfolding table_rows_in
other_table number info bytes properties index opens other =
    let all = told_all index opens.is_index.is.places in
    let place : opens.places.properties ≡ length bytes - 77 = omega (arith, footer_end bytes opens.places opens.footer) in
    opened_in number info bytes properties index opens all.all all.is
    ∙ ap (λ (b : Bool). cond b (rows_told (Table number) bytes all.all >>= λ (rows : List Row). Ok (record { rows = rows })) (Err (Malformed (Table number) opens.places.properties))) other
    ∙ ap (λ (n : ℕ). Err (Malformed (Table number) n)) place
