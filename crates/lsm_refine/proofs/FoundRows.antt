-- What an opening makes of a folder's edits stands for what the folder stood for: the rows of the logs are in a table.
use Rattle.std.specs.Prelude.{◌≡◌, ℕ, ◌+◌, ◌≤◌, nat_eq, List, [], ◌∷◌, ◌++◌, Option, Some, None, Result, Ok, Err}
use Rattle.std.specs.List.{IsDistinct}
use Rattle.std.specs.FinMap as finmap
use Rattle.std.proofs.Common.{refl, sym, ap, subst, ◌∙◌, arith}
use Rattle.std.proofs.lemmas.List.{map-append}
use Rattle.std.proofs.lemmas.List.Elements.{All-weaker}
use Rattle.lsm_rows.specs.declared.operations.Op.{Op}
use Rattle.lsm_rows.specs.declared.rows.Row.{Row}
use Rattle.lsm_rows.specs.Replay.{Contents, sequence_after}
use Rattle.lsm_rows.specs.Rows.{rows_of}
use Rattle.lsm_rows.specs.Contents.{contents_of}
use Rattle.lsm_version.specs.declared.edits.Edit.{Edit}
use Rattle.lsm_version.specs.declared.tables.Placed.{Placed}
use Rattle.lsm_version.specs.Levels.{Tables, IsLeveled}
use Rattle.lsm_folder.specs.declared.refusals.Refusal.{Refusal}
use Rattle.lsm_folder.specs.declared.refusals.Refusal.TheVariants.{Missing}
use Rattle.lsm_folder.specs.Files.{Files, file_at}
use Rattle.lsm_folder.specs.Logs.{logs_of}
use Rattle.lsm_folder.specs.Manifests.{edits_said, tables_after, log_after, last_after}
use Rattle.lsm_folder.specs.Needed.{HasTable, Stands, rows_of_table, sequences}
use Rattle.lsm_folder.specs.Parts.{AreEdits, AreLawful, rows_of_tables}
use Rattle.lsm_folder.specs.Reading.{Texts, AllRows, Shown, current_of, edits_of, tables_in, texts_behind, texts_in, table_rows, rows_in, read}
use Rattle.lsm_folder.specs.Steps.{◌>>=◌, some_or}
use Rattle.lsm_folder.specs.Tables.{TableRead}
use Rattle.lsm_folder.proofs.AssembledLemmas.{read_tables, table_rows_are, all_tables_read}
use Rattle.lsm_folder.proofs.SaidLemmas.{manifest_only}
use Rattle.lsm_folder.proofs.StepLemmas.{same_ok, ok_once}
use Rattle.lsm_names.specs.declared.file_names.FileName.TheVariants.{Manifest}
use Rattle.lsm_refine.specs.FoundFolder.{Recovery, IsReadFrom}
use Rattle.lsm_refine.proofs.FlushedLemmas.{each_left}

-- rows at the front of rows with distinct sequences have distinct ones
distinct_left : (xs ys : List ℕ) → IsDistinct nat_eq (xs ++ ys) → IsDistinct nat_eq xs
unfolding IsDistinct
distinct_left [] ys apart = tt
distinct_left (x ∷ xs) ys apart = (each_left x xs ys apart.0, distinct_left xs ys apart.1)

-- edits whose tables are the same and whose last sequence isn't less are lawful with the same rows
pub lawful_again : (edits others : List Edit) (rows : ℕ → List Row) → tables_after others ≡ tables_after edits
    → last_after edits ≤ last_after others → AreLawful edits rows → AreLawful others rows
lawful_again edits others rows same later are = record {
  leveled = subst (λ (t : Tables). IsLeveled t rows) (sym same) are.leveled;
  listed = λ number placed found.
      let was = are.listed number placed (ap (λ (t : Tables). finmap.get t number) (sym same) ∙ found) in
      record {
        first = was.first;
        more = was.more;
        rows_are = was.rows_are;
        smallest = was.smallest;
        largest = was.largest;
        sequences = All-weaker (λ (row : Row). (1 ≤ row.sequence) × (row.sequence ≤ last_after edits))
            (λ (row : Row). (1 ≤ row.sequence) × (row.sequence ≤ last_after others))
            (λ row is. (is.0, omega (arith, is.1, later))) (rows number) was.sequences;
      };
  distinct = subst (λ (t : Tables). IsDistinct nat_eq (sequences (rows_of_tables t rows))) (sym same) are.distinct;
}

-- ---- what the folder has

module _ (files : Files) (r : Recovery) where
  by_manifest : (number : ℕ) (o : Option (List ℕ))
      → (some_or (Missing (Manifest number)) o >>= λ (bytes : List ℕ). edits_said (Manifest number) bytes) ≡ Ok r.edits
      → AreEdits r.edits
  by_manifest number None is = absurd (cc)
  by_manifest number (Some bytes) is = (manifest_only (Manifest number) bytes r.edits is).are

  by_current : (m : Result ℕ Refusal) → current_of files ≡ m → (m >>= edits_of files) ≡ Ok r.edits
      → AreEdits r.edits × (texts_in files ≡ texts_behind files r.edits)
  unfolding texts_in edits_of
  by_current (Err refusal) current is = absurd (cc)
  by_current (Ok number) current is = (
    by_manifest number (file_at files (Manifest number)) is,
    ap (λ (m : Result ℕ Refusal). m >>= λ (manifest : ℕ). edits_of files manifest >>= texts_behind files) current
        ∙ ap (λ (q : Result (List Edit) Refusal). q >>= texts_behind files) is,
  )

  module _ (from : IsReadFrom files r) where
    -- its edits are a manifest's
    pub edits_are : AreEdits r.edits
    edits_are = (by_current (current_of files) refl from.edits_are).0

    texts_so : texts_in files ≡ texts_behind files r.edits
    texts_so = (by_current (current_of files) refl from.edits_are).1

    -- the texts, where the tables say this
    abbrev texts_by : List (ℕ × TableRead) → Texts
    texts_by said = record { edits = r.edits; tables = finmap.from_entries said; logs = logs_of (log_after r.edits) files }

    record HasSaid : Type 0 where
      said : List (ℕ × TableRead)
      said_is : tables_in files (finmap.entries (tables_after r.edits)) ≡ Ok said

    by_tables : (q : Result (List (ℕ × TableRead)) Refusal) → tables_in files (finmap.entries (tables_after r.edits)) ≡ q
        → (texts : Texts) → (q >>= λ (tables : List (ℕ × TableRead)). Ok (texts_by tables)) ≡ Ok texts → HasSaid
    by_tables (Err refusal) at texts is = absurd (cc)
    by_tables (Ok said) at texts is = record { said = said; said_is = at }

    by_texts : (q : Result Texts Refusal) → texts_in files ≡ q → (shown : Shown) → (q >>= read) ≡ Ok shown → HasSaid
    unfolding texts_behind
    by_texts (Err refusal) at shown is = absurd (cc)
    by_texts (Ok texts) at shown is =
        by_tables (tables_in files (finmap.entries (tables_after r.edits))) refl texts (sym texts_so ∙ at)

    module _ (contents : Contents) (sequence : ℕ) (stands : Stands files contents sequence) where
      said_so : HasSaid
      said_so = by_texts (texts_in files) refl (record { sequence = sequence; contents = contents }) stands.read

      abbrev texts : Texts
      texts = texts_by said_so.said

      texts_are : texts_in files ≡ Ok texts
      unfolding texts_behind
      texts_are = texts_so ∙ ap (λ (q : Result (List (ℕ × TableRead)) Refusal). q >>= λ (tables : List (ℕ × TableRead)).
          Ok (texts_by tables)) said_so.said_is

      -- the rows of its tables by their numbers
      pub found_rows : ℕ → List Row
      found_rows = rows_of_table texts

      abbrev first : ℕ
      first = last_after r.edits + 1

      abbrev tables : Tables
      tables = tables_after r.edits

      -- each table of the folder is there
      pub found_table : (number : ℕ) (placed : Placed) → finmap.get (tables_after r.edits) number ≡ Some placed
          → HasTable files number placed (found_rows number)
      unfolding found_rows
      found_table number placed found = stands.lawful.whole texts number placed texts_are found

      said_rows : table_rows (finmap.from_entries said_so.said) ≡ rows_of_tables tables found_rows
      said_rows =
          let same : said_so.said ≡ read_tables files found_rows (finmap.entries tables) =
          ok_once (tables_in files (finmap.entries tables)) said_so.said (read_tables files found_rows (finmap.entries tables))
          said_so.said_is (all_tables_read files found_rows tables found_table) in
          ap (λ (es : List (ℕ × TableRead)). table_rows (finmap.from_entries es)) same
          ∙ table_rows_are files found_rows tables

      -- all rows: those of the tables, and those of the logs
      abbrev all : AllRows
      all = record {
        sequence = sequence_after (last_after r.edits) r.batches;
        rows = rows_of_tables tables found_rows ++ rows_of first r.batches;
      }

      rows_are : rows_in texts ≡ Ok all
      unfolding rows_in
      rows_are =
          ap (λ (q : Result (List (List Op)) Refusal). q >>= λ (batches : List (List Op)). Ok (record {
            sequence = sequence_after (last_after r.edits) batches;
            rows = table_rows texts.tables ++ rows_of first batches;
          })) from.batches_are
          ∙ ap (λ (rows : List Row). Ok (record {
            sequence = sequence_after (last_after r.edits) r.batches;
            rows = rows ++ rows_of first r.batches;
          })) said_rows

      shown_is : ◌≡◌ {A = Shown} (record { sequence = all.sequence; contents = contents_of all.rows })
          (record { sequence = sequence; contents = contents })
      shown_is = same_ok (record { sequence = all.sequence; contents = contents_of all.rows })
          (record { sequence = sequence; contents = contents })
          (sym (ap (λ (q : Result Texts Refusal). q >>= read) texts_are
          ∙ ap (λ (q : Result AllRows Refusal). q >>= λ (every : AllRows). Ok (record {
            sequence = every.sequence;
            contents = contents_of every.rows;
          })) rows_are) ∙ stands.read)

      pub found_sequence : sequence_after (last_after r.edits) r.batches ≡ sequence
      found_sequence = ap (λ (shown : Shown). shown.sequence) shown_is

      pub found_contents : contents_of (rows_of_tables (tables_after r.edits) found_rows
          ++ rows_of (last_after r.edits + 1) r.batches)
          ≡ contents
      found_contents = ap (λ (shown : Shown). shown.contents) shown_is

      -- its edits and the rows of its tables are lawful
      pub found_lawful : AreLawful r.edits found_rows
      unfolding found_rows
      found_lawful = record {
        leveled = stands.lawful.leveled texts texts_are;
        listed = λ number placed found. stands.lawful.listed texts number placed texts_are found;
        distinct = distinct_left (sequences (rows_of_tables tables found_rows)) (sequences (rows_of first r.batches))
            (subst (IsDistinct nat_eq) (map-append (λ (row : Row). row.sequence) (rows_of_tables tables found_rows)
            (rows_of first r.batches))
            (stands.lawful.distinct all (ap (λ (q : Result Texts Refusal). q >>= rows_in) texts_are ∙ rows_are)));
      }
