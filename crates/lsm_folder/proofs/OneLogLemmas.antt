-- What a folder with a new store's manifest and one log reads as.
use Rattle.std.specs.Prelude.{◌≡◌, ℕ, ◌+◌, ◌<◌, Bool, true, false, cond, nat_le, List, [], ◌∷◌, ◌++◌, Option, Some, None, option_map, Result, Ok, Err}
use Rattle.std.proofs.Common.{⊎_elim, refl, sym, ap, subst, ◌∙◌, arith}
use Rattle.std.proofs.lemmas.Bool.Decides.{nat_tests}
use Rattle.std.proofs.lemmas.Bool.{cases_lt}
use Rattle.std.proofs.lemmas.List.{append-nil}
use Rattle.std.proofs.lemmas.List.Elements.{All-nil}
use Rattle.std.specs.Ordering.{nat_cmp, eq_by_cmp}
use Rattle.std.specs.Cmp.{nat_cmp_total}
use Rattle.std.specs.FinMap as finmap
use Rattle.lsm_names.specs.declared.file_names.FileName.TheVariants.{Log, Manifest, Current}
use Rattle.lsm_rows.specs.declared.operations.Op.{Op}
use Rattle.lsm_rows.specs.declared.rows.Row.{Row}
use Rattle.lsm_rows.specs.Replay.{sequence_after}
use Rattle.lsm_rows.specs.Rows.{rows_of}
use Rattle.lsm_rows.specs.Contents.{contents_of}
use Rattle.lsm_rows.proofs.ReplayedRows.{contents_replayed}
use Rattle.lsm_wal.specs.Reading.{Stop, IsReading}
use Rattle.lsm_version.specs.declared.edits.Edit.{Edit}
use Rattle.lsm_version.specs.Levels.{Tables}
use Rattle.lsm_folder.specs.declared.refusals.Refusal.{Refusal}
use Rattle.lsm_folder.specs.declared.refusals.Refusal.TheVariants.{NoCurrent, Missing, Malformed}
use Rattle.lsm_folder.specs.Names.{manifest_in}
use Rattle.lsm_folder.specs.Files.{Files, Stands_with, file_at}
use Rattle.lsm_folder.specs.Logs.{LogText, log_of, logs_of, all_batches, outcome}
use Rattle.lsm_folder.specs.Manifests.{first_edit, edits_said, tables_after, log_after}
use Rattle.lsm_folder.specs.Needed.{HasOneLog, HasNoTables, edits_at}
use Rattle.lsm_folder.specs.Reading.{Texts, AllRows, current_of, edits_of, tables_in, texts_behind, texts_in, table_rows, rows_in, read, reading, shown_by}
use Rattle.lsm_folder.specs.Steps.{◌>>=◌, some_or}
use Rattle.lsm_folder.specs.Tables.{TableRead}
use Rattle.lsm_folder.proofs.FirstEditLemmas.{no_entries, first_tables, first_log, first_last, first_manifest}
use Rattle.lsm_folder.proofs.LiveLemmas.{live_text, get_logs, same_entries}
use Rattle.lsm_folder.proofs.LogLemmas.{read_log}
use Rattle.lsm_folder.proofs.NameLemmas.{manifest_again}
use Rattle.lsm_folder.proofs.NoTableLemmas.{no_rows}
use Rattle.lsm_folder.proofs.StepLemmas.{same_ok}

module _ (files : Files) (text : List ℕ) (has : HasOneLog files text) where
  current_is : current_of files ≡ Ok 1
  unfolding current_of
  current_is =
      ap (λ (o : Option (List ℕ)). some_or NoCurrent o >>= λ (bytes : List ℕ). some_or (Malformed Current 0) (manifest_in bytes)) has.current
      ∙ ap (some_or (Malformed Current 0)) (manifest_again 1 refl)

  edits_are : edits_of files 1 ≡ Ok (first_edit ∷ [])
  unfolding edits_of
  edits_are =
      ap (λ (o : Option (List ℕ)). some_or (Missing (Manifest 1)) o >>= λ (bytes : List ℕ). edits_said (Manifest 1) bytes) has.manifest
      ∙ first_manifest (Manifest 1)

  -- ---- the log

  abbrev one : List (ℕ × LogText)
  one = (2, log_of text) ∷ []

  text_at : (number : ℕ) → live_text 2 number (finmap.get files (Log number)) ≡ finmap.find nat_cmp number one
  unfolding live_text
  text_at number = ⊎_elim
      (λ low.
      let off : nat_le 2 number ≡ false = grind (arith, nat_tests) in
      let other : eq_by_cmp nat_cmp number 2 ≡ false = grind (arith, nat_tests) in
      ap (λ (b : Bool). cond b (option_map log_of (file_at files (Log number))) None) off
      ∙ sym (ap (λ (b : Bool). cond b (Some (log_of text)) None) other))
      (λ high. ⊎_elim
      (λ more.
      let on : nat_le 2 number ≡ true = grind (arith, nat_tests) in
      let other : eq_by_cmp nat_cmp number 2 ≡ false = grind (arith, nat_tests) in
      ap (λ (b : Bool). cond b (option_map log_of (file_at files (Log number))) None) on
      ∙ ap (option_map log_of) (has.no_other number more) ∙ sym (ap (λ (b : Bool). cond b (Some (log_of text)) None) other))
      (λ few.
      let two : 2 ≡ number = omega (arith, high, few) in
      subst (λ (n : ℕ). cond (nat_le 2 n) (option_map log_of (file_at files (Log n))) None ≡ finmap.find nat_cmp n one) two
      (ap (option_map log_of) has.log))
      (cases_lt 2 number))
      (cases_lt number 2)

  logs_are : finmap.entries (logs_of 2 files) ≡ one
  logs_are =
      ap finmap.entries
      (finmap.same_map nat_cmp_total finmap.nat_cmp-IsAntisymmetric (logs_of 2 files) (finmap.from_entries one)
      (λ number. get_logs 2 number files ∙ text_at number ∙ sym (finmap.get-from_entries nat_cmp_total one number)))
      ∙ same_entries nat_cmp nat_cmp_total one tt finmap.nat_cmp-IsAntisymmetric

  -- ---- the texts

  none_in : tables_in files (finmap.entries (tables_after (first_edit ∷ []))) ≡ Ok []
  none_in = ap (λ (tables : Tables). tables_in files (finmap.entries tables)) first_tables ∙ ap (tables_in files) no_entries

  abbrev texts_with : finmap.FinMap nat_cmp LogText → Texts
  texts_with logs = record { edits = first_edit ∷ []; tables = finmap.from_entries []; logs = logs }

  abbrev texts : Texts
  texts = texts_with (logs_of 2 files)

  texts_are : texts_in files ≡ Ok texts
  unfolding texts_in texts_behind
  texts_are =
      ap (λ (r : Result ℕ Refusal). r >>= λ (manifest : ℕ). edits_of files manifest >>= texts_behind files) current_is
      ∙ ap (λ (r : Result (List Edit) Refusal). r >>= texts_behind files) edits_are
      ∙ ap (λ (r : Result (List (ℕ × TableRead)) Refusal). r >>= λ (tables : List (ℕ × TableRead)). Ok (record { edits = first_edit ∷ []; tables = finmap.from_entries tables; logs = logs_of (log_after (first_edit ∷ [])) files })) none_in
      ∙ ap (λ (least : ℕ). Ok (texts_with (logs_of least files))) first_log

  -- its version has no tables
  pub has_no_tables : HasNoTables files
  has_no_tables = record {
    none = λ edits is.
        let at : edits_at files ≡ Ok (first_edit ∷ []) =
        ap (λ (r : Result ℕ Refusal). r >>= edits_of files) current_is ∙ edits_are in
        ap tables_after (sym (same_ok (first_edit ∷ []) edits (sym at ∙ is))) ∙ first_tables;
  }

  -- ---- the reading

  one_then_all : (r : Result (List (List Op)) Refusal)
      → (r >>= λ (batches : List (List Op)). (Ok [] >>= λ (more : List (List Op)). Ok (batches ++ more))) ≡ r
  one_then_all (Err refusal) = refl
  one_then_all (Ok batches) = ap Ok (append-nil batches)

  module _ (batches : List (List Op)) (stop : Stop) (is : IsReading 1 text batches stop) where
    abbrev came : Result (List (List Op)) Refusal
    came = outcome true (Log 2) 1 batches stop

    batches_are : all_batches 1 one ≡ came
    batches_are =
        ap (λ (r : Result (List (List Op)) Refusal). r >>= λ (batches : List (List Op)). (Ok [] >>= λ (more : List (List Op)). Ok (batches ++ more))) (read_log true 2 1 text batches stop is)
        ∙ one_then_all came

    abbrev rows_by : ℕ → List Row → List (List Op) → AllRows
    rows_by last before all = record { sequence = sequence_after last all; rows = before ++ rows_of (last + 1) all }

    rows_are : rows_in texts ≡ (came >>= λ (all : List (List Op)). Ok (record { sequence = sequence_after 0 all; rows = rows_of 1 all }))
    unfolding rows_in
    rows_are =
        ap (λ (last : ℕ). all_batches (last + 1) (finmap.entries texts.logs) >>= λ (all : List (List Op)). Ok (rows_by last (table_rows (finmap.from_entries [])) all)) first_last
        ∙ ap (λ (before : List Row). all_batches 1 (finmap.entries texts.logs) >>= λ (all : List (List Op)). Ok (rows_by 0 before all)) no_rows
        ∙ ap (λ (logs : List (ℕ × LogText)). all_batches 1 logs >>= λ (all : List (List Op)). Ok (record { sequence = sequence_after 0 all; rows = rows_of 1 all })) logs_are
        ∙ ap (λ (r : Result (List (List Op)) Refusal). r >>= λ (all : List (List Op)). Ok (record { sequence = sequence_after 0 all; rows = rows_of 1 all })) batches_are

    shown_is : (r : Result (List (List Op)) Refusal) → ((r >>= λ (all : List (List Op)). Ok (record { sequence = sequence_after 0 all; rows = rows_of 1 all })) >>= λ (all : AllRows). Ok (record { sequence = all.sequence; contents = contents_of all.rows })) ≡ (r >>= shown_by)
    unfolding contents_of
    shown_is (Err refusal) = refl
    shown_is (Ok all) =
        ap (λ c. Ok (record { sequence = sequence_after 0 all; contents = c }))
        (contents_replayed [] 1 all (All-nil (λ (row : Row). row.sequence < 1)))

    -- the folder reads as its log does
    pub one_log_reads : reading (Stands_with files) ≡ (came >>= shown_by)
    one_log_reads =
        ap (λ (r : Result Texts Refusal). r >>= read) texts_are
        ∙ ap (λ (r : Result AllRows Refusal). r >>= λ (all : AllRows). Ok (record { sequence = all.sequence; contents = contents_of all.rows })) rows_are
        ∙ shown_is came
