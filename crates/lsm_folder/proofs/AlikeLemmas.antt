-- Folders that have what one of them needs, and no more logs, read alike.
use Rattle.std.specs.Prelude.{◌≡◌, ℕ, ◌≤◌, Bool, true, false, cond, nat_le, option_map, List, [], ◌∷◌, map, Contains, Option, Some, None, Result, Ok, Err}
use Rattle.std.proofs.Common.{⊎_elim, refl, sym, ap, ◌∙◌, arith, subst}
use Rattle.std.proofs.lemmas.List.Elements.{Contains-append_left, Contains-append_right}
use Rattle.std.proofs.lemmas.Bool.Decides.{nat_tests}
use Rattle.std.specs.Ordering.{nat_cmp}
use Rattle.std.specs.Cmp.{nat_cmp_total}
use Rattle.std.specs.FinMap as finmap
use Rattle.lsm_names.specs.declared.file_names.FileName.{FileName}
use Rattle.lsm_names.specs.declared.file_names.FileName.TheVariants.{Log, Table, Manifest, Current}
use Rattle.lsm_folder.specs.Files.{Files, Stands_with, file_at}
use Rattle.lsm_folder.specs.Names.{manifest_in}
use Rattle.lsm_folder.specs.Logs.{LogText, log_of, logs_of}
use Rattle.lsm_folder.proofs.LiveLemmas.{live_text, get_logs, live_is_needed, contains_here, contains_behind}
use Rattle.lsm_version.specs.declared.edits.Edit.{Edit}
use Rattle.lsm_version.specs.declared.tables.Placed.{Placed}
use Rattle.lsm_folder.specs.declared.refusals.Refusal.{Refusal}
use Rattle.lsm_folder.specs.declared.refusals.Refusal.TheVariants.{NoCurrent, Missing, Malformed}
use Rattle.lsm_folder.specs.Manifests.{edits_said, tables_after, log_after}
use Rattle.lsm_folder.specs.Steps.{◌>>=◌, some_or}
use Rattle.lsm_folder.specs.Tables.{TableRead, table_said}
use Rattle.lsm_folder.specs.Reading.{Texts, current_of, edits_of, table_of, tables_in, texts_behind, texts_in, read, reading}
use Rattle.lsm_folder.specs.Needed.{needed_tables, needed_logs, needed_behind, needed_by, needed, edits_at, HasNeeded}

-- CURRENT's bytes alone say which manifest there is
pub current_by : (files others : Files) → file_at others Current ≡ file_at files Current → current_of others ≡ current_of files
unfolding current_of
current_by files others same = ap (λ (o : Option (List ℕ)). some_or NoCurrent o >>= λ (bytes : List ℕ). some_or (Malformed Current 0) (manifest_in bytes)) same

-- a manifest's bytes alone say which edits there are
edits_by : (files others : Files) (number : ℕ) → file_at others (Manifest number) ≡ file_at files (Manifest number)
    → edits_of others number ≡ edits_of files number
unfolding edits_of
edits_by files others number same = ap (λ (o : Option (List ℕ)). some_or (Missing (Manifest number)) o >>= λ (bytes : List ℕ). edits_said (Manifest number) bytes) same

-- a table's bytes alone say what it says
table_by : (files others : Files) (number : ℕ) (placed : Placed)
    → file_at others (Table number) ≡ file_at files (Table number)
    → table_of others number placed ≡ table_of files number placed
unfolding table_of
table_by files others number placed same = ap (λ (o : Option (List ℕ)). some_or (Missing (Table number)) o >>= λ (bytes : List ℕ). table_said number placed.info bytes) same

abbrev table_names : List (ℕ × Placed) → List FileName
table_names tables = map (λ (table : ℕ × Placed). Table table.0) tables

-- so it is with several tables
tables_by : (files others : Files) (tables : List (ℕ × Placed))
    → ((name : FileName) → Contains (table_names tables) name → file_at others name ≡ file_at files name)
    → tables_in others tables ≡ tables_in files tables
tables_by files others [] same = refl
tables_by files others (table ∷ tables) same =
    let here =
    table_by files others table.0 table.1 (same (Table table.0) (contains_here (Table table.0) (table_names tables))) in
    let later =
    tables_by files others tables (λ name h. same name (contains_behind (Table table.0) name (table_names tables) h)) in
    ap (λ (r : Result TableRead Refusal). r >>= λ (said : TableRead). tables_in others tables >>= λ (more : List (ℕ × TableRead)). Ok ((table.0, said) ∷ more)) here
    ∙ ap (λ (rest : Result (List (ℕ × TableRead)) Refusal). table_of files table.0 table.1 >>= λ (said : TableRead). rest >>= λ (more : List (ℕ × TableRead)). Ok ((table.0, said) ∷ more)) later

by_test : (least number : ℕ) (o p : Option (List ℕ)) (b : Bool) → nat_le least number ≡ b → (least ≤ number → o ≡ p)
    → cond (nat_le least number) (option_map log_of o) None ≡ cond (nat_le least number) (option_map log_of p) None
by_test least number o p true is same =
    let live : least ≤ number = grind (arith, nat_tests) in
    ap (λ (bytes : Option (List ℕ)). cond (nat_le least number) (option_map log_of bytes) None) (same live)
by_test least number o p false is same =
    ap (λ (b : Bool). cond b (option_map log_of o) None) is ∙ sym (ap (λ (b : Bool). cond b (option_map log_of p) None) is)

text_same : (least number : ℕ) (files others : Files)
    → (least ≤ number → file_at others (Log number) ≡ file_at files (Log number))
    → live_text least number (finmap.get others (Log number)) ≡ live_text least number (finmap.get files (Log number))
unfolding live_text
text_same least number files others same =
    by_test least number (file_at others (Log number)) (file_at files (Log number)) (nat_le least number) refl same

-- the logs' bytes alone say what they say
pub logs_by : (least : ℕ) (files others : Files)
    → ((number : ℕ) → least ≤ number → file_at others (Log number) ≡ file_at files (Log number))
    → logs_of least others ≡ logs_of least files
logs_by least files others same =
    finmap.same_map nat_cmp_total finmap.nat_cmp-IsAntisymmetric (logs_of least others) (logs_of least files)
    (λ number. get_logs least number others ∙ text_same least number files others (same number) ∙ sym (get_logs least number files))

abbrev with_logs : List Edit → finmap.FinMap nat_cmp LogText → Result (List (ℕ × TableRead)) Refusal → Result Texts Refusal
with_logs edits logs tables =
    tables >>= λ (said : List (ℕ × TableRead)). Ok (record { edits = edits; tables = finmap.from_entries said; logs = logs })

abbrev behind : Files → Result (List Edit) Refusal → Result Texts Refusal
behind files edits = edits >>= texts_behind files

module _ (files others : Files) (has : HasNeeded files others) where
  module _ (manifest : ℕ) (is : current_of files ≡ Ok manifest) where
    needs_manifest : Contains (needed files) (Manifest manifest)
    needs_manifest = subst (λ (r : Result ℕ Refusal). Contains (Current ∷ needed_by files r) (Manifest manifest)) (sym is)
        (contains_behind Current (Manifest manifest) (needed_by files (Ok manifest)) (contains_here (Manifest manifest) (needed_behind files (edits_of files manifest))))

    module _ (edits : List Edit) (was : edits_of files manifest ≡ Ok edits) where
      edits_are : edits_at files ≡ Ok edits
      edits_are = ap (λ (r : Result ℕ Refusal). r >>= edits_of files) is ∙ was

      needs_behind : (name : FileName) → Contains (needed_behind files (Ok edits)) name → Contains (needed files) name
      needs_behind name h =
          subst (λ (r : Result ℕ Refusal). Contains (Current ∷ needed_by files r) name) (sym is)
          (subst (λ (r : Result (List Edit) Refusal). Contains (Current ∷ Manifest manifest ∷ needed_behind files r) name) (sym was)
          (contains_behind Current name (Manifest manifest ∷ needed_behind files (Ok edits)) (contains_behind (Manifest manifest) name (needed_behind files (Ok edits)) h)))

      table_same : (name : FileName) → Contains (needed_tables (tables_after edits)) name
          → file_at others name ≡ file_at files name
      table_same name h = has.same name (needs_behind name (Contains-append_left (needed_tables (tables_after edits)) (needed_logs files (log_after edits)) name h))

      -- a log from the log number on is the same in both folders
      log_same : (number : ℕ) → log_after edits ≤ number → (o : Option (List ℕ)) → file_at files (Log number) ≡ o
          → file_at others (Log number) ≡ file_at files (Log number)
      log_same number live (Some bytes) there =
          has.same (Log number) (needs_behind (Log number)
          (Contains-append_right (needed_tables (tables_after edits)) (needed_logs files (log_after edits)) (Log number) (live_is_needed files (log_after edits) number bytes live there)))
      log_same number live None there =
          ⊎_elim (λ wanted. has.same (Log number) wanted) (λ none. none ∙ sym there) (has.logs edits number edits_are live)

      behind_same : texts_behind others edits ≡ texts_behind files edits
      unfolding texts_behind
      behind_same =
          ap (with_logs edits (logs_of (log_after edits) others))
          (tables_by files others (finmap.entries (tables_after edits)) table_same)
          ∙ ap (λ (logs : finmap.FinMap nat_cmp LogText). with_logs edits logs (tables_in files (finmap.entries (tables_after edits))))
          (logs_by (log_after edits) files others (λ number live. log_same number live (file_at files (Log number)) refl))

    edits_same : edits_of others manifest ≡ edits_of files manifest
    edits_same = edits_by files others manifest (has.same (Manifest manifest) needs_manifest)

    behind_edits : (r : Result (List Edit) Refusal) → edits_of files manifest ≡ r → behind others r ≡ behind files r
    behind_edits (Err refusal) was = refl
    behind_edits (Ok edits) was = behind_same edits was

    behind_manifest : behind others (edits_of others manifest) ≡ behind files (edits_of files manifest)
    behind_manifest = ap (behind others) edits_same ∙ behind_edits (edits_of files manifest) refl

  behind_current : (r : Result ℕ Refusal) → current_of files ≡ r → (r >>= λ (manifest : ℕ). behind others (edits_of others manifest)) ≡ (r >>= λ (manifest : ℕ). behind files (edits_of files manifest))
  behind_current (Err refusal) is = refl
  behind_current (Ok manifest) is = behind_manifest manifest is

  -- so both folders' texts are the same
  pub texts_same : texts_in others ≡ texts_in files
  unfolding texts_in
  texts_same =
      ap (λ (r : Result ℕ Refusal). r >>= λ (manifest : ℕ). behind others (edits_of others manifest))
      (current_by files others (has.same Current (contains_here Current (needed_by files (current_of files)))))
      ∙ behind_current (current_of files) refl

pub reads_same : (files others : Files) → HasNeeded files others → reading (Stands_with others) ≡ reading (Stands_with files)
reads_same files others has = ap (λ (r : Result Texts Refusal). r >>= read) (texts_same files others has)
