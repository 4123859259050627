-- A folder stands as its parts do.
use Rattle.std.specs.Prelude.{◌≡◌, ℕ, ◌+◌, ◌≤◌, true, false, cond, nat_eq, List, [], ◌∷◌, ◌++◌, T, All, Some, Result, Ok}
use Rattle.std.proofs.Common.{refl, sym, ap, subst, ◌∙◌, arith}
use Rattle.std.proofs.lemmas.List.{map-append}
use Rattle.std.proofs.lemmas.List.Elements.{All-head, All-tail}
use Rattle.std.specs.List.{flat_map, IsDistinct, AllByRecursion}
use Rattle.std.specs.Ordering.{nat_cmp, eq_by_cmp}
use Rattle.std.specs.Cmp.{nat_cmp_total}
use Rattle.std.specs.FinMap as finmap
use Rattle.std.specs.FinMap.Entries.{below_all, is_sorted}
use Rattle.lsm_rows.specs.declared.operations.Op.{Op}
use Rattle.lsm_rows.specs.declared.rows.Row.{Row}
use Rattle.lsm_rows.specs.Contents.{contents_of}
use Rattle.lsm_rows.specs.Replay.{sequence_after}
use Rattle.lsm_rows.specs.Rows.{rows_of}
use Rattle.lsm_folder.specs.Files.{Files}
use Rattle.lsm_folder.proofs.LiveLemmas.{all_below, equal_number}
use Rattle.lsm_version.specs.declared.edits.Edit.{Edit}
use Rattle.lsm_version.specs.declared.tables.Placed.{Placed}
use Rattle.lsm_version.specs.Levels.{Tables, IsLeveled}
use Rattle.lsm_folder.specs.declared.refusals.Refusal.{Refusal}
use Rattle.lsm_folder.specs.Manifests.{tables_after, last_after}
use Rattle.lsm_folder.specs.Needed.{HasTable, IsAsListed, rows_at, rows_by, rows_of_table, sequences, Lawful, Stands}
use Rattle.lsm_folder.specs.Parts.{HasParts, AreLawful, rows_of_tables, rows_of_all, all_of}
use Rattle.lsm_folder.specs.Steps.{◌>>=◌}
use Rattle.lsm_folder.specs.Reading.{Texts, AllRows, texts_in, rows_in}
use Rattle.lsm_folder.proofs.StepLemmas.{ok_once}
use Rattle.lsm_folder.proofs.ApartLemmas.{Rising, apart_above, apart, rows_rise}
use Rattle.lsm_folder.proofs.AssembledLemmas.{found_first, found_later, read_tables, texts, texts_are, all_rows, rows_are, assembled}

-- ---- no two rows have one sequence

-- rows up to a sequence, and rows that rise behind it
abbrev UpTo : ℕ → List ℕ → Type 0
UpTo last [] = Unit {0}
UpTo last (x ∷ xs) = (x ≤ last) × UpTo last xs

apart_too : (x : ℕ) (xs ys : List ℕ) → AllByRecursion (λ (y : ℕ). nat_eq x y ≡ false) xs
    → AllByRecursion (λ (y : ℕ). nat_eq x y ≡ false) ys → AllByRecursion (λ (y : ℕ). nat_eq x y ≡ false) (xs ++ ys)
apart_too x [] ys first second = second
apart_too x (z ∷ xs) ys first second = (first.0, apart_too x xs ys first.1 second)

apart_both : (last : ℕ) (xs ys : List ℕ) → IsDistinct nat_eq xs → UpTo last xs → Rising (last + 1) ys
    → IsDistinct nat_eq (xs ++ ys)
unfolding IsDistinct
apart_both last [] ys first low rise = apart (last + 1) ys rise
apart_both last (x ∷ xs) ys first low rise = (apart_too x xs ys first.0 (apart_above x (last + 1) ys (omega (arith, low.0)) rise), apart_both last xs ys first.1 low.1 rise)

up_to_both : (last : ℕ) (xs ys : List ℕ) → UpTo last xs → UpTo last ys → UpTo last (xs ++ ys)
up_to_both last [] ys first second = second
up_to_both last (x ∷ xs) ys first second = (first.0, up_to_both last xs ys first.1 second)

up_to_rows : (last : ℕ) (rows : List Row) → All (λ (row : Row). (1 ≤ row.sequence) × (row.sequence ≤ last)) rows
    → UpTo last (sequences rows)
up_to_rows last [] all = tt
up_to_rows last (row ∷ rows) all =
    ((All-head (λ (r : Row). (1 ≤ r.sequence) × (r.sequence ≤ last)) row rows all).1, up_to_rows last rows (All-tail (λ (r : Row). (1 ≤ r.sequence) × (r.sequence ≤ last)) row rows all))

up_to_tables : (last : ℕ) (rows : ℕ → List Row) (es : List (ℕ × Placed)) → T (is_sorted nat_cmp es)
    → ((number : ℕ) (placed : Placed) → finmap.find nat_cmp number es ≡ Some placed
    → IsAsListed placed.info (rows number) last)
    → UpTo last (sequences (flat_map (λ (table : ℕ × Placed). rows table.0) es))
up_to_tables last rows [] sorted each = tt
up_to_tables last rows (e ∷ es) sorted each =
    let parts = all_below (below_all nat_cmp e.0 es) (is_sorted nat_cmp es) sorted in
    let here = each e.0 e.1 (found_first e es) in
    let later =
    up_to_tables last rows es parts.1 (λ number placed is. each number placed (found_later e es number placed parts.0 is)) in
    subst (UpTo last)
    (sym (map-append (λ (row : Row). row.sequence) (rows e.0) (flat_map (λ (table : ℕ × Placed). rows table.0) es)))
    (up_to_both last (sequences (rows e.0)) (sequences (flat_map (λ (table : ℕ × Placed). rows table.0) es)) (up_to_rows last (rows e.0) here.sequences) later)

-- ---- the rows of one table

rows_found : (rows : ℕ → List Row) (files : Files) (number : ℕ) (placed : Placed) (es : List (ℕ × Placed))
    → finmap.find nat_cmp number es ≡ Some placed
    → finmap.find nat_cmp number (read_tables files rows es) ≡ Some (record { rows = rows number })
rows_found rows files number placed [] is = cc
rows_found rows files number placed (e ∷ es) is =
    elim (eq_by_cmp nat_cmp number e.0) as (λ b. eq_by_cmp nat_cmp number e.0 ≡ b → cond b (Some e.1) (finmap.find nat_cmp number es) ≡ Some placed
    → cond b (Some (record { rows = rows e.0 })) (finmap.find nat_cmp number (read_tables files rows es)) ≡ Some
    (record { rows = rows number })) [
      | true ↦ λ same h. ap (λ (n : ℕ). Some (record { rows = rows n })) (sym (equal_number number e.0 same))
      | false ↦ λ other h. rows_found rows files number placed es h
    ] refl is

module _ (files : Files) (edits : List Edit) (rows : ℕ → List Row) (logs : finmap.FinMap nat_cmp (List ℕ))
    (batches : List (List (List Op))) (has : HasParts files edits rows logs batches) (are : AreLawful edits rows) where
  abbrev last : ℕ
  last = last_after edits

  abbrev tables : Tables
  tables = tables_after edits

  abbrev found : Texts
  found = texts files edits rows logs batches has

  rows_there : (number : ℕ) (placed : Placed) → finmap.get tables number ≡ Some placed
      → rows number ≡ rows_of_table found number
  rows_there number placed is =
      let there : finmap.get found.tables number ≡ Some (record { rows = rows number }) =
      finmap.get-from_entries nat_cmp_total (read_tables files rows (finmap.entries tables)) number
      ∙ rows_found rows files number placed (finmap.entries tables) (sym (finmap.get-entries tables number) ∙ is) in
      sym (ap rows_by there)

  leveled : IsLeveled tables (rows_of_table found)
  leveled = record {
    apart = are.leveled.apart;
    older = λ m n a b at_m at_n deeper.
        subst (λ (l : List Row). All (λ row. All (λ other. other.key ≡ row.key → other.sequence ≤ row.sequence) (rows_of_table found n)) l) (rows_there m a at_m)
        (subst (λ (l : List Row). All (λ row. All (λ other. other.key ≡ row.key → other.sequence ≤ row.sequence) l) (rows m)) (rows_there n b at_n) (are.leveled.older m n a b at_m at_n deeper));
  }

  rows_distinct : IsDistinct nat_eq (sequences (rows_of_all edits rows batches))
  rows_distinct =
      let low =
      up_to_tables last rows (finmap.entries tables) (finmap.entries_sorted tables)
      (λ number placed is. are.listed number placed (finmap.get-entries tables number ∙ is)) in
      subst (IsDistinct nat_eq)
      (sym (map-append (λ (row : Row). row.sequence) (rows_of_tables tables rows) (rows_of (last + 1) (all_of batches))))
      (apart_both last (sequences (rows_of_tables tables rows)) (sequences (rows_of (last + 1) (all_of batches))) are.distinct low (rows_rise (last + 1) (all_of batches)))

  all_is : rows_at files ≡ Ok (all_rows files edits rows logs batches has)
  all_is =
      ap (λ (r : Result Texts Refusal). r >>= rows_in) (texts_are files edits rows logs batches has)
      ∙ rows_are files edits rows logs batches has

  lawful : Lawful files
  lawful = record {
    leveled = λ others is.
        let same : found ≡ others = ok_once (texts_in files) found others (texts_are files edits rows logs batches has) is in
        subst (λ (t : Texts). IsLeveled (tables_after t.edits) (rows_of_table t)) same leveled;
    whole = λ others number placed is there.
        let same : found ≡ others = ok_once (texts_in files) found others (texts_are files edits rows logs batches has) is in
        let here : finmap.get tables number ≡ Some placed =
        ap (λ (t : Texts). finmap.get (tables_after t.edits) number) same ∙ there in
        subst (λ (t : Texts). HasTable files number placed (rows_of_table t number)) same
        (subst (λ (l : List Row). HasTable files number placed l) (rows_there number placed here) (has.tables number placed here));
    listed = λ others number placed is there.
        let same : found ≡ others = ok_once (texts_in files) found others (texts_are files edits rows logs batches has) is in
        let here : finmap.get tables number ≡ Some placed =
        ap (λ (t : Texts). finmap.get (tables_after t.edits) number) same ∙ there in
        subst (λ (t : Texts). IsAsListed placed.info (rows_of_table t number) (last_after t.edits)) same
        (subst (λ (l : List Row). IsAsListed placed.info l last) (rows_there number placed here) (are.listed number placed here));
    distinct = λ all is.
        let same : all_rows files edits rows logs batches has ≡ all =
        ok_once (rows_at files) (all_rows files edits rows logs batches has) all all_is is in
        subst (λ (a : AllRows). IsDistinct nat_eq (sequences a.rows)) same rows_distinct;
  }

  pub parts_stand : Stands files (contents_of (rows_of_all edits rows batches)) (sequence_after (last_after edits) (all_of batches))
  parts_stand = record { read = assembled files edits rows logs batches has; lawful = lawful }
