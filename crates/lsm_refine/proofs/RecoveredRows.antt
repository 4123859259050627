-- The new manifest of an opening: its edit is in the grammar, its tables are lawful, and they stand for what was found.
use Rattle.std.specs.Prelude.{◌≡◌, ◌≢◌, ℕ, ◌+◌, ◌^◌, ◌<◌, ◌≤◌, Bool, true, false, nat_le, List, [], ◌∷◌, ◌++◌, Contains, Option, Some, None}
use Rattle.std.specs.FinMap as finmap
use Rattle.std.proofs.Common.{refl, sym, ap, subst, ◌∙◌, arith}
use Rattle.std.proofs.lemmas.Bool.Decides.{nat_tests}
use Rattle.std.proofs.lemmas.List.{append-nil}
use Rattle.std.proofs.lemmas.List.Elements.{All-nil, All-cons, All-head, All-weaker, All-contains_itself, Contains-append_right}
use Rattle.lsm_names.specs.Folders.{is_folder_name}
use Rattle.lsm_names.specs.FileNames.{is_file_number}
use Rattle.lsm_disk.specs.State as disk
use Rattle.lsm_disk.specs.Images.{tree_now}
use Rattle.lsm_rows.specs.declared.operations.Op.{Op}
use Rattle.lsm_rows.specs.declared.rows.Row.{Row}
use Rattle.lsm_rows.specs.Replay.{Contents, sequence_after}
use Rattle.lsm_rows.specs.Rows.{rows_of}
use Rattle.lsm_rows.specs.Contents.{contents_of}
use Rattle.lsm_rows.proofs.NewestRows.{contents_by_newest}
use Rattle.lsm_version.specs.declared.edits.Edit.{Edit}
use Rattle.lsm_version.specs.declared.tables.Placed.{Placed}
use Rattle.lsm_version.specs.Edits.{IsFileNumber}
use Rattle.lsm_version.specs.Levels.{Tables}
use Rattle.lsm_version.specs.Versions.{numbers_after}
use Rattle.lsm_folder.specs.Files.{Files, files_in}
use Rattle.lsm_folder.specs.Manifests.{tables_after, log_after, last_after}
use Rattle.lsm_folder.specs.Needed.{Stands}
use Rattle.lsm_folder.specs.Parts.{AreEdits, AreLawful, rows_of_tables}
use Rattle.lsm_model.proofs.RunLemmas.{sequence_rises}
use Rattle.lsm_refine.specs.Parts.{Parts, AreRowsOf}
use Rattle.lsm_refine.specs.Flushed.{IsLastOf, AddTable, flush_edit, at_top, rows_with}
use Rattle.lsm_refine.specs.WholeEdits.{AddAll}
use Rattle.lsm_refine.specs.FoundFolder.{NewTable, Recovery, IsTableOf, TakesRows, IsReadFrom, IsPlanned, IsRecovery, SaysFound, last_found, number_behind, new_log, version_with, new_version, rows_beside, opening_edits}
use Rattle.lsm_refine.proofs.AddedLemmas.{flush_adds}
use Rattle.lsm_refine.proofs.FlushedLemmas.{last_of_rows, newest_same, lawful_with}
use Rattle.lsm_refine.proofs.FoundRows.{lawful_again, edits_are, found_rows, found_sequence, found_contents, found_lawful, found_table}
use Rattle.lsm_refine.proofs.FoundTables.{table_below}
use Rattle.lsm_refine.proofs.WholeEditLemmas.{flush_fits, whole_are, whole_tables, whole_last, whole_adds}

-- ---- numbers

pub file_number_is : (n : ℕ) → is_file_number n ≡ true → IsFileNumber n
file_number_is n is = record { some = grind (arith, nat_tests); most = grind (arith, nat_tests) }

file_number_most : (n : ℕ) → is_file_number n ≡ true → n + 1 < 2 ^ 56
file_number_most n is = grind (arith, nat_tests)

-- so is a lesser number
pub lesser_number : (n more : ℕ) → is_file_number more ≡ true → 1 ≤ n → n ≤ more → is_file_number n ≡ true
lesser_number n more is some less = grind (arith, nat_tests)

-- ---- the last sequence of rows

record HasGreatest (rows : List Row) : Type 0 where
  last : ℕ
  is : IsLastOf last rows

at_front : (row : Row) (rows : List Row) → Contains (row ∷ rows) row
at_front row rows = All-head (Contains (row ∷ rows)) row rows (All-contains_itself (row ∷ rows))

least : (a b : ℕ) → nat_le a b ≡ true → a ≤ b
least a b is = grind (arith, nat_tests)

greater : (a b : ℕ) → nat_le a b ≡ false → b ≤ a
greater a b is = grind (arith, nat_tests)

-- the first row's sequence, or that of the others
greater_of : (row : Row) (rows : List Row) → HasGreatest rows → HasGreatest (row ∷ rows)
greater_of row rows rest = by (nat_le row.sequence rest.last) refl
  where
    by : (b : Bool) → nat_le row.sequence rest.last ≡ b → HasGreatest (row ∷ rows)
    by true less = record {
      last = rest.last;
      is = record {
        row = rest.is.row;
        among = Contains-append_right (row ∷ []) rows rest.is.row rest.is.among;
        is = rest.is.is;
        most = All-cons (λ (other : Row). other.sequence ≤ rest.last) row rows (least row.sequence rest.last less) rest.is.most;
      };
    }
    by false more = record {
      last = row.sequence;
      is = record {
        row = row;
        among = at_front row rows;
        is = refl;
        most = All-cons (λ (other : Row). other.sequence ≤ row.sequence) row rows (omega arith)
            (All-weaker (λ (other : Row). other.sequence ≤ rest.last) (λ (other : Row). other.sequence ≤ row.sequence)
            (λ other is. omega (arith, is, greater row.sequence rest.last more)) rows rest.is.most);
      };
    }

greatest_among : (row : Row) (rows : List Row) → HasGreatest (row ∷ rows)
greatest_among row [] = record {
  last = row.sequence;
  is = record {
    row = row;
    among = at_front row [];
    is = refl;
    most = All-cons (λ (other : Row). other.sequence ≤ row.sequence) row [] (omega arith)
        (All-nil (λ (other : Row). other.sequence ≤ row.sequence));
  };
}
greatest_among row (next ∷ rows) = greater_of row (next ∷ rows) (greatest_among next rows)

-- the last sequence of batches is the greatest of their rows, where there is a row
greatest_of : (before : ℕ) (batches : List (List Op)) (frozen : List Row) → AreRowsOf (before + 1) batches frozen
    → frozen ≢ [] → IsLastOf (sequence_after before batches) frozen
greatest_of before batches [] are some = absurd (some refl)
greatest_of before batches (row ∷ frozen) are some =
    let most = greatest_among row frozen in
    subst (λ (n : ℕ). IsLastOf n (row ∷ frozen)) (last_of_rows before most.last batches (row ∷ frozen) are most.is) most.is

-- ---- the edit

pub next_least : (o : Option NewTable) (next : ℕ) → next ≤ number_behind o next
next_least None next = omega arith
next_least (Some new) next = omega arith

module _ (files : Files) (r : Recovery) (from : IsReadFrom files r) (planned : IsPlanned r)
    (below : (number : ℕ) (placed : Placed) → finmap.get (tables_after r.edits) number ≡ Some placed → number < r.next)
    (contents : Contents) (sequence : ℕ) (stands : Stands files contents sequence) where
  abbrev log : ℕ
  log = new_log r

  abbrev last : ℕ
  last = last_found r

  abbrev first : ℕ
  first = last_after r.edits + 1

  abbrev old : Tables
  old = tables_after r.edits

  abbrev rows : ℕ → List Row
  rows = found_rows files r from contents sequence stands

  are : AreEdits r.edits
  are = edits_are files r from

  log_fits : IsFileNumber log
  log_fits = file_number_is log planned.fits

  next_fits : log + 1 < 2 ^ 56
  next_fits = file_number_most log planned.fits

  -- what the new manifest says, where this is the table
  record Makes (o : Option NewTable) : Type 0 where
    are_edits : AreEdits (opening_edits r)
    tables : tables_after (opening_edits r) ≡ version_with o (tables_after r.edits)
    lawful : AreLawful (opening_edits r) (rows_beside o rows)
    shows : contents_of (rows_of_tables (tables_after (opening_edits r)) (rows_beside o rows)) ≡ contents

  -- ---- without a table

  without_table : rows_of first r.batches ≡ [] → AddAll old r.adds → Makes None
  without_table none all =
      let same : tables_after (opening_edits r) ≡ old =
      whole_tables r.edits are r.adds all log (log + 1) last log_fits (omega arith) next_fits planned.last_fits in
      record {
        are_edits = whole_are r.edits are r.adds all log (log + 1) last log_fits (omega arith) next_fits planned.last_fits;
        tables = same;
        lawful = lawful_again r.edits (opening_edits r) rows same
            (omega (
              arith,
              sequence_rises (last_after r.edits) r.batches,
              whole_last r.edits are r.adds all log (log + 1) last log_fits (omega arith) next_fits planned.last_fits,
            ))
            (found_lawful files r from contents sequence stands);
        shows =
            ap (λ (t : Tables). contents_of (rows_of_tables t rows)) same
            ∙ ap contents_of (sym (append-nil (rows_of_tables old rows)))
            ∙ ap (λ (l : List Row). contents_of (rows_of_tables old rows ++ l)) (sym none)
            ∙ found_contents files r from contents sequence stands;
      }

  -- ---- with one

  module _ (new : NewTable) (number_is : new.info.number ≡ r.next) (table : IsTableOf first r.batches new)
      (all : AddAll (finmap.insert old new.info.number (at_top new.info)) r.adds) where
    numbered : is_file_number new.info.number ≡ true
    numbered = lesser_number new.info.number log planned.fits (omega (arith, number_is, planned.some))
        (omega (arith, number_is, next_least r.table r.next))

    fresh : finmap.get old new.info.number ≡ None
    fresh = by (finmap.get old new.info.number) refl
      where
        by : (o : Option Placed) → finmap.get old new.info.number ≡ o → o ≡ None
        by None is = refl
        by (Some placed) is = absurd (omega (arith, below new.info.number placed is, number_is))

    abbrev flushed_edits : List Edit
    flushed_edits = r.edits ++ flush_edit new.info log (log + 1) last ∷ []

    add_one : AddTable r.edits new.info log last flushed_edits
    add_one = flush_adds r.edits are new.info log (log + 1) last
        (flush_fits new.info log (log + 1) last log_fits (omega arith) next_fits planned.last_fits
        (file_number_is new.info.number numbered) table.said) fresh

    add : AddTable r.edits new.info log last (opening_edits r)
    add = whole_adds r.edits new.info log last flushed_edits add_one r.adds
        (subst (λ (t : Tables). AddAll t r.adds) (sym add_one.tables) all) (log + 1) log_fits (omega arith) next_fits
        planned.last_fits

    -- the folder's parts, as if all batches were in an older log
    abbrev was : Parts
    was = record {
      edits = r.edits;
      rows = rows;
      older = (record { number = r.next; batches = r.batches }) ∷ [];
      last = record { number = log; batches = [] };
      synced = 0;
    }

    frozen_are : AreRowsOf first (r.batches ++ []) table.frozen
    frozen_are = subst (λ (batches : List (List Op)). AreRowsOf first batches table.frozen) (sym (append-nil r.batches))
        table.are

    greatest : IsLastOf last table.frozen
    greatest = greatest_of (last_after r.edits) r.batches table.frozen table.are table.some

    with_table : Makes (Some new)
    with_table =
        let lawful = found_lawful files r from contents sequence stands in
        record {
          are_edits = add.are;
          tables = add.tables;
          lawful = lawful_with was lawful table.frozen frozen_are new.info new.rows table.picked table.keys fresh log last greatest
              (opening_edits r) add;
          shows =
              contents_by_newest (rows_of_tables (tables_after (opening_edits r)) (rows_with new.info.number new.rows rows))
              (rows_of_tables old rows ++ rows_of first (r.batches ++ []))
              (newest_same was lawful table.frozen frozen_are new.info new.rows table.picked table.keys fresh log last greatest
              (opening_edits r) add)
              ∙ ap (λ (batches : List (List Op)). contents_of (rows_of_tables old rows ++ rows_of first batches))
              (append-nil r.batches)
              ∙ found_contents files r from contents sequence stands;
        }

  -- ---- either way

  by_table : (o : Option NewTable) → TakesRows first r.batches r.next o → AddAll (version_with o old) r.adds → Makes o
  by_table None takes all = without_table takes all
  by_table (Some new) takes all = with_table new takes.0 takes.1 all

  makes : Makes r.table
  makes = by_table r.table planned.takes planned.adds

  -- the new manifest's one edit is in the grammar
  pub recovered_are : AreEdits (opening_edits r)
  recovered_are = makes.are_edits

  pub recovered_tables : tables_after (opening_edits r) ≡ new_version r
  recovered_tables = makes.tables

  pub recovered_log : log_after (opening_edits r) ≡ new_log r
  unfolding log_after numbers_after
  recovered_log = refl

  pub recovered_last : last_after (opening_edits r) ≡ last_found r
  unfolding last_after numbers_after
  recovered_last = refl

  -- the edit's tables are lawful, and stand for what the folder stood for
  pub recovered_lawful : AreLawful (opening_edits r)
      (rows_beside r.table (found_rows files r from contents sequence stands))
  recovered_lawful = makes.lawful

  pub recovered_shows : contents_of (rows_of_tables (tables_after (opening_edits r))
      (rows_beside r.table (found_rows files r from contents sequence stands))) ≡ contents
  recovered_shows = makes.shows

  pub recovered_sequence : last_after (opening_edits r) ≡ sequence
  recovered_sequence = recovered_last ∙ found_sequence files r from contents sequence stands

-- what the folder stood for is in the new manifest's version
pub says_found : (d : disk.State) (dir : List ℕ) → is_folder_name dir ≡ true → (r : Recovery) → IsRecovery d dir r
    → (contents : Contents) (sequence : ℕ) → Stands (files_in dir (tree_now d)) contents sequence
    → SaysFound (files_in dir (tree_now d)) r contents sequence
says_found d dir named r is contents sequence stands =
    let files : Files = files_in dir (tree_now d) in
    let below = table_below d dir named r is contents sequence stands in
    record {
      rows = found_rows files r is.read contents sequence stands;
      tables = found_table files r is.read contents sequence stands;
      are = recovered_are files r is.read is.planned below contents sequence stands;
      version = recovered_tables files r is.read is.planned below contents sequence stands;
      lawful = recovered_lawful files r is.read is.planned below contents sequence stands;
      shows = recovered_shows files r is.read is.planned below contents sequence stands;
      log = recovered_log files r is.read is.planned below contents sequence stands;
      last = recovered_sequence files r is.read is.planned below contents sequence stands;
    }
