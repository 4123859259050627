-- How a manifest is read through a view of a disk.
use Rattle.std.specs.Prelude.{◌≡◌, ℕ, ◌+◌, ◌≤◌, List, [], ◌∷◌, length, Option, Some, None, IfSome, IfOk, IfErr, Result, Ok, Err}
use Rattle.std.proofs.Common.{refl, sym, ap, subst, ◌∙◌, arith}
use Rattle.lsm_names.specs.declared.file_names.FileName.{FileName}
use Rattle.lsm_frame.specs.Reader.{Reader, Tells, Stays, IsRecord, EndsBehind, ending_of}
use Rattle.lsm_frame.specs.declared.ending.Ending.{Ending}
use Rattle.lsm_frame.specs.declared.next.FrameError.{FrameError}
use Rattle.lsm_frame.specs.declared.next.FrameError.TheVariants as frame
use Rattle.lsm_version.specs.declared.edits.Edit.{Edit}
use Rattle.lsm_folder.specs.declared.refusals.Refusal.{Refusal}
use Rattle.lsm_folder.specs.declared.refusals.Refusal.TheVariants as refusal
use Rattle.lsm_folder.specs.Edits.{edit_of}
use Rattle.lsm_folder.specs.Manifests.{with_edit, some_edits, edits_said}
use Rattle.lsm_folder.specs.Steps.{◌>>=◌, some_or}
use Rattle.lsm_folder.proofs.RecordLemmas.{EditsRead, edits_behind, begun, edits_more, edits_wrong, edits_refused, edits_trouble, all_read}
use Rattle.lsm_recover.specs.declared.errors.FolderError.{FolderError}
use Rattle.lsm_recover.specs.declared.errors.FolderError.TheVariants.{Malformed}
use Rattle.lsm_recover.specs.declared.manifest.Stated.{Stated}
use Rattle.lsm_recover.specs.Answers.{IsRefusedBy}
use Rattle.lsm_recover.specs.Causes.{frame_error}
use Rattle.lsm_recover.specs.Stated.{AreStated, IsStated, IsSound, GivesStated, AnswersStated, said_so_far}
use Rattle.lsm_recover.proofs.AnswerLemmas.{refused_too}

-- where a reader of a manifest stands
pub record ReadsOn (name : FileName) (start now : Reader) (stated : Option Stated) : Type 0 where
  pub stays : Stays start.viewed now.viewed
  pub edits : List Edit
  pub are : IsStated edits stated
  pub read : (text : List ℕ) → Tells start.viewed text → EditsRead name text now.given edits
  pub sound : IfSome stated IsSound

pub reads_begun : (name : FileName) (reader : Reader) → reader.given ≡ 0 → ReadsOn name reader reader None
reads_begun name reader none = record {
  stays = record { bytes = refl; len = refl; faults = omega arith };
  edits = [];
  are = refl;
  read = λ text tells. subst (λ (n : ℕ). EditsRead name text n []) (sym none) (begun name text);
  sound = tt;
}

-- ---- one record more

module _ (name : FileName) (text : List ℕ) (given : ℕ) (edits : List Edit) (place : ℕ) (payload : List ℕ) (read : EditsRead name text given edits) (stands : IsRecord text given place payload) where
  abbrev by_edit : Option Edit → Result (List Edit) Refusal
  by_edit o = some_or (refusal.Malformed name place) o >>= with_edit name place edits

  more_by : (o : Option Edit) (more : List Edit) → edit_of payload ≡ o → by_edit o ≡ Ok more → EditsRead name text (given + 1) more
  more_by None more is says = cc
  more_by (Some edit) more is says = edits_more name text given edits place payload edit more read stands is says

  -- a record that is an edit, which the version takes
  pub record_more : (more : List Edit) → said_so_far name place payload edits ≡ Ok more → EditsRead name text (given + 1) more
  record_more more says = more_by (edit_of payload) more refl says

  wrong_by : (o : Option Edit) (r : Refusal) → edit_of payload ≡ o → by_edit o ≡ Err r → edits_said name text ≡ Err r
  wrong_by None r is says = edits_wrong name text given edits place payload read stands is ∙ says
  wrong_by (Some edit) r is says = edits_refused name text given edits place payload edit r read stands is says

  -- any other
  pub record_refused : (error : FolderError) → IsRefusedBy (said_so_far name place payload edits) error → IsRefusedBy (edits_said name text) error
  record_refused = refused_too (said_so_far name place payload edits) (edits_said name text) (λ r says. wrong_by (edit_of payload) r refl says)

-- ---- the reader's trouble

malformed : {A : Type 0} (read : Result A Refusal) (name : FileName) (place : ℕ) (error : FolderError) → error ≡ Malformed name place → read ≡ Err (refusal.Malformed name place) → IsRefusedBy read error
malformed read name place error is says = subst (λ (e : FolderError). IsRefusedBy read e) (sym is) says

pub frame_refused : (name : FileName) (text : List ℕ) (given : ℕ) (edits : List Edit) (error : FrameError) → EditsRead name text given edits → IfSome (ending_of (Err error)) (λ (e : Ending). EndsBehind text given e)
    → IsRefusedBy (edits_said name text) (frame_error name error)
frame_refused name text given edits frame.ReadFault r ends = tt
frame_refused name text given edits (frame.Damaged place kept found) r ends = edits_trouble name text given edits (frame.Damaged place kept found) (refusal.Damaged name place kept found) r ends refl
frame_refused name text given edits (frame.Malformed place) r ends = edits_trouble name text given edits (frame.Malformed place) (refusal.Malformed name place) r ends refl
frame_refused name text given edits frame.NoMemory r ends = tt

-- ---- the end of a manifest

abbrev pub IsOnlyEnd : FileName → Option Stated → FolderError → Type 0
IsOnlyEnd name stated error = (stated ≡ None) × (error ≡ Malformed name 0)

module _ (name : FileName) (text : List ℕ) (given : ℕ) (edits : List Edit) (stated : Option Stated) (are : IsStated edits stated) (read : EditsRead name text given edits) (end : edits_behind name text given edits ≡ Ok edits) where
  some_said : (found : Stated) → AreStated edits found → GivesStated (edits_said name text) found
  some_said found here = record { edits = edits; is = all_read name text given edits read end ∙ some_so edits here.some; are = here } where
    some_so : (es : List Edit) → 1 ≤ length es → some_edits name es ≡ Ok es
    some_so [] some = absurd (none some) where
      none : 1 ≤ 0 → ⊥
      none h = omega (arith, h)
    some_so (edit ∷ es) some = refl

  none_said : edits ≡ [] → edits_said name text ≡ Err (refusal.Malformed name 0)
  none_said none = all_read name text given edits read end ∙ ap (some_edits name) none

  pub end_answer : (result : Result Stated FolderError) → IfOk result (λ (found : Stated). stated ≡ Some found) → IfErr result (IsOnlyEnd name stated) → AnswersStated (edits_said name text) result
  end_answer (Ok found) ok err = some_said found (subst (IsStated edits) ok are)
  end_answer (Err error) ok err = malformed (edits_said name text) name 0 error err.1 (none_said (subst (IsStated edits) err.0 are))
