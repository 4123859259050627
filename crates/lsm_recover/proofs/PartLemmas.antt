-- What the files of a folder on a disk say, where they are there and where not.
use Rattle.std.specs.Prelude.{◌≡◌, ℕ, ◌≤◌, is_some, List, ◌∷◌, ◌++◌, length, Option, Some, None, IsTrue, Result, Ok, Err}
use Rattle.std.proofs.Common.{refl, sym, ap, subst, ◌∙◌}
use Rattle.lsm_names.specs.declared.file_names.FileName.{FileName}
use Rattle.lsm_names.specs.declared.file_names.FileName.TheVariants.{Table, Manifest, Current}
use Rattle.lsm_names.specs.FileNames.{spelled, is_file_number, IsFileName}
use Rattle.lsm_disk.specs.State.{Story, state_of, file_at, file_now, bytes_of}
use Rattle.lsm_disk.specs.Refusals.{no_file}
use Rattle.lsm_disk.specs.Answers.{RefusesBy}
use Rattle.lsm_disk.specs.declared.calls.DiskRefusal.{DiskRefusal}
use Rattle.lsm_disk.specs.declared.calls.DiskError.TheVariants as disk
use Rattle.lsm_disk.specs.Viewed.{Viewed}
use Rattle.lsm_frame.specs.Reader.{Tells, Stays}
use Rattle.lsm_table.specs.Tables.{Opened}
use Rattle.lsm_table.specs.declared.parts.Properties.{Properties}
use Rattle.lsm_folder.proofs.RecordLemmas.{still_tells}
use Rattle.lsm_version.specs.declared.edits.Edit.{Edit}
use Rattle.lsm_folder.specs.declared.refusals.Refusal.{Refusal}
use Rattle.lsm_folder.specs.declared.refusals.Refusal.TheVariants as refusal
use Rattle.lsm_folder.specs.Names.{manifest_in}
use Rattle.lsm_folder.specs.Files as folder
use Rattle.lsm_folder.specs.Steps.{◌>>=◌, some_or}
use Rattle.lsm_folder.specs.Tables.{table_said}
use Rattle.lsm_version.specs.declared.tables.Placed.{Placed}
use Rattle.lsm_folder.specs.Reading.{current_of, edits_of, table_of}
use Rattle.lsm_folder.specs.Manifests.{edits_said}
use Rattle.lsm_folder.proofs.CurrentLemmas.{no_current, some_current, missing, manifest_says}
use Rattle.lsm_recover.specs.declared.errors.FolderError.{FolderError}
use Rattle.lsm_recover.specs.declared.errors.FolderError.TheVariants.{NoCurrent, Missing}
use Rattle.lsm_recover.specs.Answers.{AnswersAs, IsRefusedBy, files_now}
use Rattle.lsm_recover.specs.Causes.{error_by}
use Rattle.lsm_recover.specs.Opening.{IsOpenOn, opened_said, opened_of}
use Rattle.lsm_recover.specs.declared.manifest.Stated.{Stated}
use Rattle.lsm_recover.specs.Stated.{AnswersStated}
use Rattle.lsm_recover.proofs.DiskLemmas.{file_there, file_missing, refused_call}

module _ (dir : List ℕ) (story : Story) (some : 1 ≤ length dir) (path : List ℕ) where
  abbrev bytes_here : List ℕ
  bytes_here = bytes_of (file_now path (state_of story))

  module _ (name : FileName) (fits : IsFileName name) (is : path ≡ dir ++ 47 ∷ spelled name) where
    pub is_there : no_file path (state_of story) ≡ None → folder.file_at (files_now dir story) name ≡ Some bytes_here
    is_there there =
        file_there dir (state_of story) name some fits (ap (λ (p : List ℕ). no_file p (state_of story)) (sym is) ∙ there)
        ∙ ap (λ (p : List ℕ). Some (bytes_of (file_now p (state_of story)))) (sym is)

    pub is_missing : no_file path (state_of story) ≡ Some disk.NotThere → folder.file_at (files_now dir story) name ≡ None
    is_missing none = file_missing dir (state_of story) name some fits (ap (λ (p : List ℕ). no_file p (state_of story)) (sym is) ∙ none)

  pub current_said : (result : Result ℕ FolderError) → path ≡ dir ++ 47 ∷ spelled Current → no_file path (state_of story) ≡ None → AnswersAs (some_or (refusal.Malformed Current 0) (manifest_in bytes_here)) result
      → AnswersAs (current_of (files_now dir story)) result
  current_said result is there says = subst (λ (r : Result ℕ Refusal). AnswersAs r result)
      (some_current (files_now dir story) bytes_here bytes_here (manifest_in bytes_here) (sym (is_there Current tt is there)) refl refl) says

  pub current_refused : (at : List ℕ) (r : DiskRefusal) → path ≡ dir ++ 47 ∷ spelled Current → RefusesBy (no_file path (state_of story)) r.why → IsRefusedBy (current_of (files_now dir story)) (error_by (NoCurrent at) r)
  current_refused at r is refused = refused_call (current_of (files_now dir story)) (NoCurrent at) r.at r.why (is_some (file_at (state_of story) path)) refused
      (λ none. sym (no_current (files_now dir story) (sym (is_missing Current tt is none))))

  pub manifest_said : (number : ℕ) (result : Result Stated FolderError) → IsTrue (is_file_number number) → path ≡ dir ++ 47 ∷ spelled (Manifest number) → no_file path (state_of story) ≡ None
      → AnswersStated (edits_said (Manifest number) bytes_here) result → AnswersStated (edits_of (files_now dir story) number) result
  manifest_said number result fits is there says = subst (λ (r : Result (List Edit) Refusal). AnswersStated r result)
      (manifest_says (files_now dir story) number bytes_here bytes_here (sym (is_there (Manifest number) fits is there)) refl) says

  pub manifest_refused : (number : ℕ) (r : DiskRefusal) → IsTrue (is_file_number number) → path ≡ dir ++ 47 ∷ spelled (Manifest number) → RefusesBy (no_file path (state_of story)) r.why
      → IsRefusedBy (edits_of (files_now dir story) number) (error_by (Missing (Manifest number)) r)
  manifest_refused number r fits is refused = refused_call (edits_of (files_now dir story) number) (Missing (Manifest number)) r.at r.why (is_some (file_at (state_of story) path)) refused
      (λ none. missing (files_now dir story) number (sym (is_missing (Manifest number) fits is none)))

  pub table_said_here : (number : ℕ) (placed : Placed) → IsTrue (is_file_number number) → path ≡ dir ++ 47 ∷ spelled (Table number) → no_file path (state_of story) ≡ None
      → table_said number placed.info bytes_here ≡ table_of (files_now dir story) number placed
  unfolding table_of
  table_said_here number placed fits is there = sym (ap (λ (o : Option (List ℕ)). some_or (refusal.Missing (Table number)) o >>= λ (bytes : List ℕ). table_said number placed.info bytes) (is_there (Table number) fits is there))

  table_missing : (number : ℕ) (placed : Placed) → folder.file_at (files_now dir story) (Table number) ≡ None → table_of (files_now dir story) number placed ≡ Err (refusal.Missing (Table number))
  unfolding table_of
  table_missing number placed none = ap (λ (o : Option (List ℕ)). some_or (refusal.Missing (Table number)) o >>= λ (bytes : List ℕ). table_said number placed.info bytes) none

  pub table_refused : (number : ℕ) (placed : Placed) (r : DiskRefusal) (error : FolderError) → error ≡ error_by (Missing (Table number)) r → IsTrue (is_file_number number) → path ≡ dir ++ 47 ∷ spelled (Table number) → RefusesBy (no_file path (state_of story)) r.why
      → IsRefusedBy (table_of (files_now dir story) number placed) error
  table_refused number placed r error told fits is refused = subst (IsRefusedBy (table_of (files_now dir story) number placed)) (sym told)
      (refused_call (table_of (files_now dir story) number placed) (Missing (Table number)) r.at r.why (is_some (file_at (state_of story) path)) refused
      (λ none. table_missing number placed (is_missing (Table number) fits is none)))

  module _ (number : ℕ) (placed : Placed) (fits : IsTrue (is_file_number number)) (is : path ≡ dir ++ 47 ∷ spelled (Table number)) where
    opened_here : no_file path (state_of story) ≡ None → opened_of (files_now dir story) number placed ≡ opened_said number placed.info bytes_here
    unfolding opened_of
    opened_here there = ap (λ (o : Option (List ℕ)). some_or (refusal.Missing (Table number)) o >>= λ (bytes : List ℕ). opened_said number placed.info bytes) (is_there (Table number) fits is there)

    -- a table that was opened
    pub open_on : (view : Viewed) (table : Opened) → no_file path (state_of story) ≡ None → Tells view bytes_here → Stays view table.viewed → opened_said number placed.info bytes_here ≡ Ok table.properties
        → IsOpenOn (files_now dir story) number placed table
    open_on view table there tells stays opens = record {
      bytes = bytes_here;
      there = is_there (Table number) fits is there;
      tells = still_tells bytes_here view table.viewed tells stays;
      is = opened_here there ∙ opens;
    }

    -- one that was not
    pub open_refused : (error : FolderError) → no_file path (state_of story) ≡ None → IsRefusedBy (opened_said number placed.info bytes_here) error → IsRefusedBy (opened_of (files_now dir story) number placed) error
    open_refused error there refused = subst (λ (r : Result Properties Refusal). IsRefusedBy r error) (sym (opened_here there)) refused

    open_missing : folder.file_at (files_now dir story) (Table number) ≡ None → opened_of (files_now dir story) number placed ≡ Err (refusal.Missing (Table number))
    unfolding opened_of
    open_missing none = ap (λ (o : Option (List ℕ)). some_or (refusal.Missing (Table number)) o >>= λ (bytes : List ℕ). opened_said number placed.info bytes) none

    -- one whose file couldn't be opened
    pub file_refused : (r : DiskRefusal) (error : FolderError) → error ≡ error_by (Missing (Table number)) r → RefusesBy (no_file path (state_of story)) r.why → IsRefusedBy (opened_of (files_now dir story) number placed) error
    file_refused r error told refused = subst (IsRefusedBy (opened_of (files_now dir story) number placed)) (sym told)
        (refused_call (opened_of (files_now dir story) number placed) (Missing (Table number)) r.at r.why (is_some (file_at (state_of story) path)) refused (λ none. open_missing (is_missing (Table number) fits is none)))
