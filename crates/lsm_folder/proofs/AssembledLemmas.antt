-- From what a folder's parts say, the folder reads so.
use Rattle.std.specs.Prelude.{◌≡◌, ℕ, ◌+◌, Bool, true, false, cond, List, [], ◌∷◌, ◌++◌, map, T, Option, Some, None, Result, Ok}
use Rattle.std.proofs.Common.{refl, sym, ap, ◌∙◌, arith}
use Rattle.std.proofs.lemmas.Bool.Decides.{nat_tests}
use Rattle.std.specs.List.{flat_map}
use Rattle.std.specs.Ordering.{nat_cmp, eq_by_cmp}
use Rattle.std.specs.FinMap as finmap
use Rattle.std.specs.FinMap.Entries.{below_all, is_sorted}
use Rattle.lsm_names.specs.declared.file_names.FileName.{FileName}
use Rattle.lsm_names.specs.declared.file_names.FileName.TheVariants.{Log, Table, Manifest, Current}
use Rattle.lsm_rows.specs.declared.operations.Op.{Op}
use Rattle.lsm_rows.specs.declared.rows.Row.{Row}
use Rattle.lsm_rows.specs.Replay.{sequence_after}
use Rattle.lsm_rows.specs.Rows.{rows_of}
use Rattle.lsm_rows.specs.Contents.{contents_of}
use Rattle.lsm_folder.specs.Names.{current_text}
use Rattle.lsm_folder.specs.Files.{Files, Stands_with}
use Rattle.lsm_folder.specs.Logs.{LogText, said, live_logs, logs_of, all_batches}
use Rattle.lsm_folder.proofs.LiveLemmas.{all_below, none_below, equal_number, entries_of_logs}
use Rattle.lsm_folder.proofs.NameLemmas.{manifest_again}
use Rattle.lsm_folder.proofs.CurrentLemmas.{some_current}
use Rattle.lsm_version.specs.declared.edits.Edit.{Edit}
use Rattle.lsm_version.specs.declared.tables.Placed.{Placed}
use Rattle.lsm_version.specs.Levels.{Tables}
use Rattle.lsm_folder.specs.declared.refusals.Refusal.{Refusal}
use Rattle.lsm_folder.specs.declared.refusals.Refusal.TheVariants.{Missing}
use Rattle.lsm_folder.specs.Manifests.{edits_said, tables_after, log_after, last_after}
use Rattle.lsm_folder.specs.Needed.{needed_tables, needed_logs, needed_behind, needed_by, needed}
use Rattle.lsm_folder.specs.Parts.{HasTable, HasParts, names_of_parts, rows_of_tables, all_of, rows_of_all}
use Rattle.lsm_folder.specs.Steps.{◌>>=◌, some_or}
use Rattle.lsm_folder.specs.Tables.{TableRead, table_said}
use Rattle.lsm_folder.specs.Reading.{Texts, AllRows, current_of, edits_of, table_of, tables_in, texts_behind, texts_in, table_rows, rows_in, read, reading}
use Rattle.lsm_folder.proofs.AllLogLemmas.{values_kept, logs_kept, logs_read}
use Rattle.lsm_folder.proofs.ManifestLemmas.{manifest_says}
use Rattle.lsm_folder.proofs.TableLemmas.{table_says_rows}

-- ---- sorted entries

module _ {X : Type 0} where
  pub found_first : (e : ℕ × X) (es : List (ℕ × X)) → finmap.find nat_cmp e.0 (e ∷ es) ≡ Some e.1
  found_first e es =
      let same : eq_by_cmp nat_cmp e.0 e.0 ≡ true = grind (arith, nat_tests) in
      ap (λ (b : Bool). cond b (Some e.1) (finmap.find nat_cmp e.0 es)) same

  -- what is found behind the first entry is found
  pub found_later : (e : ℕ × X) (es : List (ℕ × X)) (q : ℕ) (x : X) → T (below_all nat_cmp e.0 es)
      → finmap.find nat_cmp q es ≡ Some x → finmap.find nat_cmp q (e ∷ es) ≡ Some x
  found_later e es q x low is = by_test (eq_by_cmp nat_cmp q e.0) refl
    where
      by_test : (b : Bool) → eq_by_cmp nat_cmp q e.0 ≡ b
          → cond (eq_by_cmp nat_cmp q e.0) (Some e.1) (finmap.find nat_cmp q es) ≡ Some x
      by_test true same =
          let none : finmap.find nat_cmp q es ≡ None =
          ap (λ (n : ℕ). finmap.find nat_cmp n es) (equal_number q e.0 same) ∙ none_below nat_cmp e.0 es low in
          let clash : Some x ≡ None = sym is ∙ none in
          absurd (cc)
      by_test false other = ap (λ (b : Bool). cond b (Some e.1) (finmap.find nat_cmp q es)) other ∙ is

-- ---- tables

module _ (files : Files) (rows : ℕ → List Row) where
  pub table_read : (number : ℕ) (placed : Placed) → HasTable files number placed (rows number)
      → table_of files number placed ≡ Ok (record { rows = rows number })
  unfolding table_of
  table_read number placed has =
      ap (λ (o : Option (List ℕ)). some_or (Missing (Table number)) o >>= λ (bytes : List ℕ). table_said number placed.info bytes) has.there
      ∙ table_says_rows has.bytes (rows number) number placed.info.session has.table placed.info refl has.size

  -- a table as its rows
  abbrev pub as_rows : ℕ × Placed → TableRead
  as_rows table = record { rows = rows table.0 }

  abbrev pub read_tables : List (ℕ × Placed) → List (ℕ × TableRead)
  read_tables tables = map (λ (table : ℕ × Placed). (table.0, as_rows table)) tables

  tables_read : (es : List (ℕ × Placed)) → T (is_sorted nat_cmp es)
      → ((number : ℕ) (placed : Placed) → finmap.find nat_cmp number es ≡ Some placed
      → HasTable files number placed (rows number))
      → tables_in files es ≡ Ok (read_tables es)
  tables_read [] sorted each = refl
  tables_read (e ∷ es) sorted each =
      let parts = all_below (below_all nat_cmp e.0 es) (is_sorted nat_cmp es) sorted in
      ap (λ (r : Result TableRead Refusal). r >>= λ (first : TableRead). tables_in files es >>= λ (more : List (ℕ × TableRead)). Ok ((e.0, first) ∷ more)) (table_read e.0 e.1 (each e.0 e.1 (found_first e es)))
      ∙ ap (λ (r : Result (List (ℕ × TableRead)) Refusal). r >>= λ (more : List (ℕ × TableRead)). Ok ((e.0, as_rows e) ∷ more))
      (tables_read es parts.1 (λ number placed is. each number placed (found_later e es number placed parts.0 is)))

  rows_back : (tables : List (ℕ × Placed)) → flat_map (λ (table : ℕ × TableRead). table.1.rows) (read_tables tables) ≡ flat_map (λ (table : ℕ × Placed). rows table.0) tables
  rows_back [] = refl
  rows_back (table ∷ tables) = ap (λ (l : List Row). rows table.0 ++ l) (rows_back tables)

  pub table_rows_are : (tables : Tables)
      → table_rows (finmap.from_entries (read_tables (finmap.entries tables))) ≡ rows_of_tables tables rows
  unfolding table_rows
  table_rows_are tables =
      ap (λ (es : List (ℕ × TableRead)). flat_map (λ (table : ℕ × TableRead). table.1.rows) es) (values_kept as_rows tables)
      ∙ rows_back (finmap.entries tables)

  pub all_tables_read : (tables : Tables)
      → ((number : ℕ) (placed : Placed) → finmap.get tables number ≡ Some placed → HasTable files number placed (rows number))
      → tables_in files (finmap.entries tables) ≡ Ok (read_tables (finmap.entries tables))
  all_tables_read tables each =
      tables_read (finmap.entries tables) (finmap.entries_sorted tables)
      (λ number placed is. each number placed (finmap.get-entries tables number ∙ is))

-- ---- the folder

module _ (files : Files) (edits : List Edit) (rows : ℕ → List Row) (logs : finmap.FinMap nat_cmp (List ℕ))
    (batches : List (List (List Op))) (has : HasParts files edits rows logs batches) where
  current_is : current_of files ≡ Ok has.manifest
  current_is = sym (some_current files (current_text has.manifest) (current_text has.manifest) (Some has.manifest) (sym has.current) refl (sym (manifest_again has.manifest has.numbered)))

  edits_are : edits_of files has.manifest ≡ Ok edits
  unfolding edits_of
  edits_are =
      ap (λ (o : Option (List ℕ)). some_or (Missing (Manifest has.manifest)) o >>= λ (bytes : List ℕ). edits_said (Manifest has.manifest) bytes) has.there
      ∙ manifest_says (Manifest has.manifest) has.text edits has.edits_are

  said_names : (found : List (ℕ × List ℕ))
      → map (λ (log : ℕ × LogText). Log log.0) (map said found) ≡ map (λ (log : ℕ × List ℕ). Log log.0) found
  said_names [] = refl
  said_names (log ∷ found) = ap (λ (l : List FileName). Log log.0 ∷ l) (said_names found)

  log_names : needed_logs files (log_after edits) ≡ map (λ (log : ℕ × List ℕ). Log log.0) (finmap.entries logs)
  log_names =
      sym (said_names (live_logs (log_after edits) files))
      ∙ ap (λ (found : List (ℕ × LogText)). map (λ (log : ℕ × LogText). Log log.0) found)
      (sym (entries_of_logs (log_after edits) files) ∙ logs_kept files (log_after edits) logs has.has_logs)
      ∙ said_names (finmap.entries logs)

  -- what the folder needs
  pub needed_are : needed files ≡ names_of_parts has.manifest edits logs
  needed_are =
      ap (λ (r : Result ℕ Refusal). Current ∷ needed_by files r) current_is
      ∙ ap (λ (r : Result (List Edit) Refusal). Current ∷ Manifest has.manifest ∷ needed_behind files r) edits_are
      ∙ ap (λ (l : List FileName). Current ∷ Manifest has.manifest ∷ needed_tables (tables_after edits) ++ l) log_names

  -- the texts of the folder
  abbrev pub texts : Texts
  texts = record {
    edits = edits;
    tables = finmap.from_entries (read_tables files rows (finmap.entries (tables_after edits)));
    logs = logs_of (log_after edits) files;
  }

  pub texts_are : texts_in files ≡ Ok texts
  unfolding texts_in texts_behind
  texts_are =
      ap (λ (r : Result ℕ Refusal). r >>= λ (manifest : ℕ). edits_of files manifest >>= texts_behind files) current_is
      ∙ ap (λ (r : Result (List Edit) Refusal). r >>= texts_behind files) edits_are
      ∙ ap (λ (r : Result (List (ℕ × TableRead)) Refusal). r >>= λ (tables : List (ℕ × TableRead)). Ok (record { edits = edits; tables = finmap.from_entries tables; logs = logs_of (log_after edits) files }))
      (all_tables_read files rows (tables_after edits) has.tables)

  -- all rows of the folder
  abbrev pub all_rows : AllRows
  all_rows = record {
    sequence = sequence_after (last_after edits) (all_of batches);
    rows = rows_of_all edits rows batches;
  }

  batches_are : all_batches (last_after edits + 1) (finmap.entries (logs_of (log_after edits) files)) ≡ Ok (all_of batches)
  batches_are =
      ap (all_batches (last_after edits + 1)) (logs_kept files (log_after edits) logs has.has_logs)
      ∙ logs_read (last_after edits + 1) (finmap.entries logs) batches has.logs_are

  pub rows_are : rows_in texts ≡ Ok all_rows
  unfolding rows_in
  rows_are =
      ap (λ (r : Result (List (List Op)) Refusal). r >>= λ (found : List (List Op)).
      Ok (record { sequence = sequence_after (last_after edits) found; rows = table_rows texts.tables ++ rows_of (last_after edits + 1) found })) batches_are
      ∙ ap (λ (found : List Row). Ok (record { sequence = sequence_after (last_after edits) (all_of batches); rows = found ++ rows_of (last_after edits + 1) (all_of batches) })) (table_rows_are files rows (tables_after edits))

  pub assembled : reading (Stands_with files) ≡ Ok (record { sequence = sequence_after (last_after edits) (all_of batches); contents = contents_of all_rows.rows })
  assembled =
      ap (λ (r : Result Texts Refusal). r >>= read) texts_are
      ∙ ap (λ (r : Result AllRows Refusal). r >>= λ (all : AllRows). Ok (record { sequence = all.sequence; contents = contents_of all.rows })) rows_are
