-- Each exit of the calls on a file: the path and the answer as the code has them.
use Rattle.std.specs.Prelude.{◌≡◌, ◌≢◌, ℕ, List, [], ◌∷◌, ◌++◌, length, All, Option, Some, IfSome, Err}
use Rattle.std.proofs.Common.{sym, ap, subst, ◌∙◌}
use Rattle.lsm_names.specs.FileNames.{spelled}
use Rattle.lsm_names.specs.declared.file_names.FileName.{FileName}
use Rattle.lsm_disk.specs.State.{FileState, State, Story, state_of, new_file, longer, bytes_of, created, appended, file_synced}
use Rattle.lsm_disk.specs.Goes.{Went}
use Rattle.lsm_disk.specs.Halts.{halt_at}
use Rattle.lsm_disk.specs.Answers.{Makes, MakesFront, LeftBy, Allowed, RefusesBy}
use Rattle.lsm_disk.specs.Refusals.{no_room, no_file}
use Rattle.lsm_disk.specs.declared.calls.DiskError.{DiskError}
use Rattle.lsm_disk.specs.declared.calls.DiskCall.{DiskCall}
use Rattle.lsm_disk.specs.declared.calls.DiskCall.TheVariants as call
use Rattle.lsm_disk.specs.declared.calls.DiskRefusal.{DiskRefusal}
use Rattle.lsm_disk.specs.declared.dest.DestError.{DestError}
use Rattle.lsm_disk.specs.Dest.{Begun, with_name, path_in, IsPartName}
use Rattle.lsm_disk.specs.Building.{Part, IsWithin, HasNoCurrent, IsBuilding, IsWriting, Files, Fills, Seals}
use Rattle.lsm_disk.proofs.Files.{same_some}
use Rattle.lsm_dest.specs.FolderDests.{begun_of, answer_by}
use Rattle.lsm_dest.proofs.Calls.{after_create, refused_create, after_append, refused_append, after_sync, refused_sync}

-- ---- what is begun and in hand

pub folder_is : (o : Option (List ℕ)) (names : List FileName) (folder : List ℕ) (begun : Begun) → o ≡ Some folder → begun_of o names ≡ Some begun → folder ≡ begun.folder
folder_is o names folder begun there is =
    let same : record { folder = folder; names = names } ≡ begun = same_some (record { folder = folder; names = names }) begun (sym (ap (λ (x : Option (List ℕ)). begun_of x names) there) ∙ is) in
    ap (λ (b : Begun). b.folder) same

-- the path of a file in the begun folder
pub path_is : (o : Option (List ℕ)) (names : List FileName) (folder : List ℕ) (begun : Begun) (name other : FileName) (path : List ℕ) → o ≡ Some folder → begun_of o names ≡ Some begun → name ≡ other → path ≡ folder ++ 47 ∷ spelled name → path ≡ path_in begun.folder other
path_is o names folder begun name other path there is same joined =
    joined ∙ ap (λ (n : FileName). folder ++ 47 ∷ spelled n) same ∙ ap (λ (f : List ℕ). path_in f other) (folder_is o names folder begun there is)

pub of_begun : (P : Begun → Type 0) (o : Option Begun) (begun : Begun) → o ≡ Some begun → IfSome o P → P begun
of_begun P o begun is all = subst (λ (x : Option Begun). IfSome x P) is all

-- the answer to this refusal
answers : (at : DiskCall) (path : List ℕ) (why : DiskError) (r : DiskRefusal) (a : DestError) → r ≡ record { at = halt_at at path; why = why } → a ≡ answer_by r.at r.why → a ≡ answer_by (halt_at at path) why
answers at path why r a r_is a_is = a_is ∙ ap (λ (x : DiskRefusal). answer_by x.at x.why) r_is

-- ---- the exits

module _ (start : State) (story : Story) (begun : Begun) (parts : List Part) where
  abbrev Reached : Option Story → (State → Type 0) → Type 0
  Reached told I = Went story told (IsWithin begun.folder (length start.files)) (HasNoCurrent start begun.folder) I

  module _ (name : FileName) {o1 o2 : Option Story} (path : List ℕ) (is : path ≡ path_in begun.folder name) (tells : o1 ≡ Some story) where
    module _ (own : IsPartName name) (new : All (λ other. name ≢ other) begun.names) (building : IsBuilding start begun parts (state_of story)) where
      pub file_made : Makes o1 (created path) o2 → Reached o2 (λ s. IsWriting start (with_name name begun) parts name new_file s)
      file_made makes = after_create start story begun parts name own new tells building (subst (λ (p : List ℕ). Makes o1 (created p) o2) is makes)

      pub file_refused : (e : DiskError) (r : DiskRefusal) (a : DestError) → r ≡ record { at = halt_at call.Create path; why = e } → a ≡ answer_by r.at r.why → LeftBy (o2 ≡ o1) (Allowed (no_room path) o1 × Makes o1 (created path) o2) e
          → IfSome o1 (λ x. RefusesBy (no_room path (state_of x)) e) → Reached o2 (Files {T = Unit {0}} start begun parts name (Err a))
      file_refused e r a r_is a_is did by =
          subst (λ (x : DestError). Reached o2 (Files {T = Unit {0}} start begun parts name (Err x))) (sym (answers call.Create path e r a r_is a_is))
          (refused_create start story begun parts name own new tells building (halt_at call.Create path) e (subst (λ (p : List ℕ). LeftBy (o2 ≡ o1) (Allowed (no_room p) o1 × Makes o1 (created p) o2) e) is did)
          (subst (λ (p : List ℕ). IfSome o1 (λ x. RefusesBy (no_room p (state_of x)) e)) is by))

    module _ (file : FileState) (writing : IsWriting start begun parts name file (state_of story)) where
      pub bytes_added : (bytes : List ℕ) → Makes o1 (appended path bytes) o2 → Reached o2 (λ s. IsWriting start begun parts name (longer bytes file) s)
      bytes_added bytes makes = after_append start story begun parts name file tells writing bytes (subst (λ (p : List ℕ). Makes o1 (appended p bytes) o2) is makes)

      pub bytes_refused : (bytes : List ℕ) (e : DiskError) (r : DiskRefusal) (a : DestError) → r ≡ record { at = halt_at call.Append path; why = e } → a ≡ answer_by r.at r.why → LeftBy (o2 ≡ o1) (Allowed (no_file path) o1 × MakesFront path bytes o1 o2) e
          → IfSome o1 (λ x. RefusesBy (no_file path (state_of x)) e) → Reached o2 (Fills {T = Unit {0}} start begun parts name file bytes (Err a))
      bytes_refused bytes e r a r_is a_is did by =
          subst (λ (x : DestError). Reached o2 (Fills {T = Unit {0}} start begun parts name file bytes (Err x))) (sym (answers call.Append path e r a r_is a_is))
          (refused_append start story begun parts name file tells writing bytes (halt_at call.Append path) e (subst (λ (p : List ℕ). LeftBy (o2 ≡ o1) (Allowed (no_file p) o1 × MakesFront p bytes o1 o2) e) is did)
          (subst (λ (p : List ℕ). IfSome o1 (λ x. RefusesBy (no_file p (state_of x)) e)) is by))

      pub file_sealed : Makes o1 (file_synced path) o2 → Reached o2 (λ s. IsBuilding start begun (parts ++ (record { name = name; bytes = bytes_of file }) ∷ []) s)
      file_sealed makes = after_sync start story begun parts name file tells writing (subst (λ (p : List ℕ). Makes o1 (file_synced p) o2) is makes)

      pub seal_refused : (e : DiskError) (r : DiskRefusal) (a : DestError) → r ≡ record { at = halt_at call.Sync path; why = e } → a ≡ answer_by r.at r.why → LeftBy (o2 ≡ o1) (Allowed (no_file path) o1 × Makes o1 (file_synced path) o2) e
          → IfSome o1 (λ x. RefusesBy (no_file path (state_of x)) e) → Reached o2 (Seals {T = Unit {0}} start begun parts name file (Err a))
      seal_refused e r a r_is a_is did by =
          subst (λ (x : DestError). Reached o2 (Seals {T = Unit {0}} start begun parts name file (Err x))) (sym (answers call.Sync path e r a r_is a_is))
          (refused_sync start story begun parts name file tells writing (halt_at call.Sync path) e (subst (λ (p : List ℕ). LeftBy (o2 ≡ o1) (Allowed (no_file p) o1 × Makes o1 (file_synced p) o2) e) is did)
          (subst (λ (p : List ℕ). IfSome o1 (λ x. RefusesBy (no_file p (state_of x)) e)) is by))
