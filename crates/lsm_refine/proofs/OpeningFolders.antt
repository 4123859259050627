-- A folder that has what another one has, and perhaps more files that aren't logs, stands for the same.
use Rattle.std.specs.Prelude.{◌≡◌, ◌⊎◌, ℕ, ◌≤◌, T, List, [], ◌∷◌, map, All, Contains, Option, Some, None, Result, Ok, Err}
use Rattle.std.specs.Ordering.{nat_cmp}
use Rattle.std.specs.FinMap as finmap
use Rattle.std.specs.FinMap.Entries.{below_all, is_sorted}
use Rattle.std.proofs.Common.{⊎_elim, inl, inr, refl, sym, ap, subst, ◌∙◌}
use Rattle.std.proofs.lemmas.List.Elements.{All-nil, All-cons, All-append, All-contains, Contains-append_right}
use Rattle.lsm_names.specs.declared.file_names.FileName.{FileName}
use Rattle.lsm_names.specs.declared.file_names.FileName.TheVariants.{Log, Table, Manifest, Current}
use Rattle.lsm_rows.specs.Replay.{Contents}
use Rattle.lsm_version.specs.declared.edits.Edit.{Edit}
use Rattle.lsm_version.specs.declared.tables.Placed.{Placed}
use Rattle.lsm_folder.specs.declared.refusals.Refusal.{Refusal}
use Rattle.lsm_folder.specs.declared.refusals.Refusal.TheVariants.{NoCurrent, Missing}
use Rattle.lsm_folder.specs.Files.{Files, file_at}
use Rattle.lsm_folder.specs.Logs.{live_logs, logs_of}
use Rattle.lsm_folder.specs.Manifests.{tables_after, log_after}
use Rattle.lsm_folder.specs.Needed.{HasNeeded, Stands, needed, needed_by, needed_behind, needed_tables, needed_logs, edits_at}
use Rattle.lsm_folder.specs.Reading.{Texts, current_of, edits_of, tables_in, texts_behind, texts_in, rows_in, read}
use Rattle.lsm_folder.specs.Steps.{◌>>=◌}
use Rattle.lsm_folder.specs.Tables.{TableRead}
use Rattle.lsm_folder.proofs.AlikeLemmas.{texts_same, reads_same}
use Rattle.lsm_folder.proofs.AssembledLemmas.{found_first, found_later}
use Rattle.lsm_folder.proofs.CurrentLemmas.{no_current, missing}
use Rattle.lsm_folder.proofs.LiveLemmas.{all_below, live_is_needed}
use Rattle.lsm_folder.proofs.StepLemmas.{same_ok}

abbrev pub IsNoLog : FileName → Type 0
IsNoLog (Log number) = ⊥
IsNoLog name = Unit {0}

-- the other folder has the file that this one has, or a new one that is no log
abbrev pub IsSameOrNew : Files → Files → FileName → Type 0
IsSameOrNew files others name = (file_at others name ≡ file_at files name) ⊎ ((file_at files name ≡ None) × IsNoLog name)

-- ---- what holds of the names of a version's tables and of logs

module _ (P : FileName → Type 0) where
  each_table : (es : List (ℕ × Placed)) → T (is_sorted nat_cmp es)
      → ((number : ℕ) (placed : Placed) → finmap.find nat_cmp number es ≡ Some placed → P (Table number))
      → All P (map (λ (table : ℕ × Placed). Table table.0) es)
  each_table [] sorted each = All-nil P
  each_table (e ∷ es) sorted each =
      let parts = all_below (below_all nat_cmp e.0 es) (is_sorted nat_cmp es) sorted in
      All-cons P (Table e.0) (map (λ (table : ℕ × Placed). Table table.0) es) (each e.0 e.1 (found_first e es))
      (each_table es parts.1 (λ number placed is. each number placed (found_later e es number placed parts.0 is)))

  each_log : ((number : ℕ) → P (Log number)) → (logs : List (ℕ × List ℕ))
      → All P (map (λ (log : ℕ × List ℕ). Log log.0) logs)
  each_log each [] = All-nil P
  each_log each (log ∷ logs) = All-cons P (Log log.0) (map (λ (l : ℕ × List ℕ). Log l.0) logs) (each log.0) (each_log each logs)

-- ---- the folder

-- what a folder reads to
pub record HasTexts (files : Files) : Type 0 where
  pub manifest : ℕ
  pub current : current_of files ≡ Ok manifest
  pub edits : List Edit
  pub said : edits_of files manifest ≡ Ok edits
  pub texts : Texts
  pub are : texts_in files ≡ Ok texts
  pub same : texts.edits ≡ edits

module _ (files : Files) (contents : Contents) (sequence : ℕ) (stands : Stands files contents sequence) where
  abbrev texts_with : List Edit → List (ℕ × TableRead) → Texts
  texts_with edits tables = record {
    edits = edits;
    tables = finmap.from_entries tables;
    logs = logs_of (log_after edits) files;
  }

  edits_kept : (edits : List Edit) (texts : Texts) → texts_behind files edits ≡ Ok texts → texts.edits ≡ edits
  unfolding texts_behind
  edits_kept edits texts is = by (tables_in files (finmap.entries (tables_after edits))) is
    where
      by : (q : Result (List (ℕ × TableRead)) Refusal)
          → (q >>= λ (tables : List (ℕ × TableRead)). Ok (texts_with edits tables)) ≡ Ok texts → texts.edits ≡ edits
      by (Err refusal) so = absurd (cc)
      by (Ok tables) so = sym (ap (λ (t : Texts). t.edits) (same_ok (texts_with edits tables) texts so))

  by_edits : (manifest : ℕ) → current_of files ≡ Ok manifest → (texts : Texts) → texts_in files ≡ Ok texts
      → (q : Result (List Edit) Refusal) → edits_of files manifest ≡ q → (q >>= texts_behind files) ≡ Ok texts → HasTexts files
  by_edits manifest current texts are (Err refusal) said is = absurd (cc)
  by_edits manifest current texts are (Ok edits) said is = record {
    manifest = manifest;
    current = current;
    edits = edits;
    said = said;
    texts = texts;
    are = are;
    same = edits_kept edits texts is;
  }

  by_current : (texts : Texts) → texts_in files ≡ Ok texts → (q : Result ℕ Refusal) → current_of files ≡ q
      → (q >>= λ (manifest : ℕ). edits_of files manifest >>= texts_behind files) ≡ Ok texts → HasTexts files
  by_current texts are (Err refusal) current is = absurd (cc)
  by_current texts are (Ok manifest) current is =
      by_edits manifest current texts are (edits_of files manifest) refl is

  by_texts : (q : Result Texts Refusal) → texts_in files ≡ q
      → (q >>= read) ≡ Ok (record { sequence = sequence; contents = contents }) → HasTexts files
  unfolding texts_in
  by_texts (Err refusal) are is = absurd (cc)
  by_texts (Ok texts) are is = by_current texts are (current_of files) refl are

  pub texts_of_it : HasTexts files
  texts_of_it = by_texts (texts_in files) refl stands.read

module _ (files others : Files) (contents : Contents) (sequence : ℕ) (stands : Stands files contents sequence)
    (alike : (name : FileName) → IsSameOrNew files others name) where
  abbrev IsSame : FileName → Type 0
  IsSame name = file_at others name ≡ file_at files name

  -- what is there is the same
  same_there : (name : FileName) (bytes : List ℕ) → file_at files name ≡ Some bytes → IsSame name
  same_there name bytes there = ⊎_elim
      (λ is. is)
      (λ new. let clash : None ≡ Some bytes = sym new.0 ∙ there in absurd (cc))
      (alike name)

  same_log : (number : ℕ) → IsSame (Log number)
  same_log number = ⊎_elim (λ is. is) (λ new. absurd new.1) (alike (Log number))

  abbrev texts_found : HasTexts files
  texts_found = texts_of_it files contents sequence stands

  current_same : IsSame Current
  current_same = by (file_at files Current) refl
    where
      by : (o : Option (List ℕ)) → file_at files Current ≡ o → IsSame Current
      by (Some bytes) there = same_there Current bytes there
      by None there =
          let clash : Err NoCurrent ≡ Ok texts_found.manifest = no_current files (sym there) ∙ texts_found.current in
          absurd (cc)

  manifest_same : IsSame (Manifest texts_found.manifest)
  manifest_same = by (file_at files (Manifest texts_found.manifest)) refl
    where
      by : (o : Option (List ℕ)) → file_at files (Manifest texts_found.manifest) ≡ o → IsSame (Manifest texts_found.manifest)
      by (Some bytes) there = same_there (Manifest texts_found.manifest) bytes there
      by None there =
          let clash : Err (Missing (Manifest texts_found.manifest)) ≡ Ok texts_found.edits =
          sym (missing files texts_found.manifest (sym there)) ∙ texts_found.said in absurd (cc)

  table_same : (number : ℕ) (placed : Placed) → finmap.get (tables_after texts_found.edits) number ≡ Some placed
      → IsSame (Table number)
  table_same number placed listed =
      let has = stands.lawful.whole texts_found.texts number placed texts_found.are
      (ap (λ (edits : List Edit). finmap.get (tables_after edits) number) texts_found.same ∙ listed) in
      same_there (Table number) has.bytes has.there

  behind_same : All IsSame (needed_behind files (Ok texts_found.edits))
  behind_same =
      All-append IsSame (needed_tables (tables_after texts_found.edits)) (needed_logs files (log_after texts_found.edits))
      (each_table IsSame (finmap.entries (tables_after texts_found.edits))
      (finmap.entries_sorted (tables_after texts_found.edits))
      (λ number placed is. table_same number placed (finmap.get-entries (tables_after texts_found.edits) number ∙ is)))
      (each_log IsSame same_log (live_logs (log_after texts_found.edits) files))

  all_same : All IsSame (needed files)
  all_same =
      subst (λ (q : Result ℕ Refusal). All IsSame (Current ∷ needed_by files q)) (sym texts_found.current)
      (All-cons IsSame Current (Manifest texts_found.manifest ∷ needed_behind files (edits_of files texts_found.manifest))
      current_same
      (All-cons IsSame (Manifest texts_found.manifest) (needed_behind files (edits_of files texts_found.manifest)) manifest_same
      (subst (λ (q : Result (List Edit) Refusal). All IsSame (needed_behind files q)) (sym texts_found.said) behind_same)))

  logs_same : (edits : List Edit) (number : ℕ) → edits_at files ≡ Ok edits → log_after edits ≤ number
      → Contains (needed files) (Log number) ⊎ (file_at others (Log number) ≡ None)
  logs_same edits number is least = by (file_at files (Log number)) refl
    where
      said : edits_of files texts_found.manifest ≡ Ok edits
      said = sym (ap (λ (q : Result ℕ Refusal). q >>= edits_of files) texts_found.current) ∙ is

      by : (o : Option (List ℕ)) → file_at files (Log number) ≡ o
          → Contains (needed files) (Log number) ⊎ (file_at others (Log number) ≡ None)
      by None there = inr (same_log number ∙ there)
      by (Some bytes) there = inl
          (subst (λ (q : Result ℕ Refusal). Contains (Current ∷ needed_by files q) (Log number)) (sym texts_found.current)
          (subst (λ (q : Result (List Edit) Refusal).
          Contains (Current ∷ Manifest texts_found.manifest ∷ needed_behind files q) (Log number)) (sym said)
          (Contains-append_right (Current ∷ Manifest texts_found.manifest ∷ needed_tables (tables_after edits))
          (needed_logs files (log_after edits)) (Log number)
          (live_is_needed files (log_after edits) number bytes least there))))

  has_needed : HasNeeded files others
  has_needed = record { same = λ name among. All-contains IsSame (needed files) name all_same among; logs = logs_same }

  pub stands_beside : Stands others contents sequence
  stands_beside =
      let texts : texts_in others ≡ texts_in files = texts_same files others has_needed in
      record {
        read = reads_same files others has_needed ∙ stands.read;
        lawful = record {
          leveled = λ t is. stands.lawful.leveled t (sym texts ∙ is);
          whole = λ t number placed is listed.
              let has = stands.lawful.whole t number placed (sym texts ∙ is) listed in
              record {
                bytes = has.bytes;
                there = same_there (Table number) has.bytes has.there ∙ has.there;
                table = has.table;
                size = has.size;
              };
          listed = λ t number placed is listed. stands.lawful.listed t number placed (sym texts ∙ is) listed;
          distinct = λ all is. stands.lawful.distinct all
              (sym (ap (λ (q : Result Texts Refusal). q >>= rows_in) texts) ∙ is);
        };
      }
