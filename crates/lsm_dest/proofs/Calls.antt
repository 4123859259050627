-- What each call on a file leaves, and the beginning of a folder.
use Rattle.std.specs.Prelude.{◌≡◌, ◌≢◌, ℕ, cond, Bool, true, false, List, [], ◌∷◌, ◌++◌, length, take, All, is_some, Option, Some, None, IfSome, Err}
use Rattle.std.proofs.Common.{⊎_elim, inl, inr, refl, sym, ap, subst, ◌∙◌, arith}
use Rattle.std.proofs.lemmas.List.Elements.{All-nil}
use Rattle.std.specs.FinMap as map
use Rattle.lsm_names.specs.FileNames.{spelled}
use Rattle.lsm_names.specs.Paths.{parent_of}
use Rattle.lsm_names.specs.declared.file_names.FileName.{FileName}
use Rattle.lsm_names.specs.declared.file_names.FileName.TheVariants.{Current}
use Rattle.lsm_disk.specs.Names.{Folder_node, NameOp, Put, Names, named, all_named, stands, is_folder}
use Rattle.lsm_disk.specs.State.{FileState, State, Story, Change, after, state_of, names_now, new_file, longer, bytes_of, created, folder_made, appended, file_synced}
use Rattle.lsm_disk.specs.Tree.{IsLawful}
use Rattle.lsm_disk.specs.Images.{Tree, IsImage}
use Rattle.lsm_disk.specs.Goes.{Shows, Went}
use Rattle.lsm_disk.specs.Answers.{Makes, MakesFront, LeftBy, Allowed, RefusesBy}
use Rattle.lsm_disk.specs.Refusals.{no_room, no_file}
use Rattle.lsm_disk.specs.declared.calls.DiskError.{DiskError}
use Rattle.lsm_disk.specs.declared.calls.DiskError.TheVariants as disk
use Rattle.lsm_disk.specs.declared.calls.Halt.{Halt}
use Rattle.lsm_disk.specs.Dest.{Begun, just_begun, with_name, path_in, IsPartName}
use Rattle.lsm_disk.specs.Building.{Part, IsWithin, HasNoCurrent, MayHaveFolder, IsSealed, IsBuilding, IsWriting, Begins, Files, Fills, Seals}
use Rattle.lsm_disk.proofs.Paths.{get_put}
use Rattle.lsm_disk.proofs.Images.{IsShown, take_push, all_push, named_image}
use Rattle.lsm_disk.proofs.Now.{names_after}
use Rattle.lsm_disk.proofs.Tree.{made_free}
use Rattle.lsm_disk.proofs.Built.{get_inside}
use Rattle.lsm_disk.proofs.Runs.{went_start, went_weaker, went_stay, went_ok}
use Rattle.lsm_disk.proofs.Left.{went_left, went_append_left}
use Rattle.lsm_dest.specs.FolderDests.{answer_by, begin_answer_by}
use Rattle.lsm_dest.proofs.Places.{inside_folder, folder_itself}
use Rattle.lsm_dest.proofs.Refusing.{refused_as}
use Rattle.lsm_dest.proofs.Growing.{building_shows, writing_shows, file_room, step_file, hand_there, step_append, step_seal, kind_append, kind_sync}

-- ---- a file

module _ (start : State) (story : Story) (begun : Begun) (parts : List Part) where
  abbrev Q : Change → Type 0
  Q = IsWithin begun.folder (length start.files)

  abbrev P : State → Tree → Type 0
  P = HasNoCurrent start begun.folder

  abbrev Building : State → Type 0
  Building s = IsBuilding start begun parts s

  pub still_building : {o1 : Option Story} → o1 ≡ Some story → Building (state_of story) → Went story o1 Q P Building
  still_building tells building = went_start Building tells building (building_shows start begun parts)

  module _ (name : FileName) (own : IsPartName name) (new : All (λ other. name ≢ other) begun.names) {o1 : Option Story} (tells : o1 ≡ Some story) (building : Building (state_of story)) where
    abbrev new_path : List ℕ
    new_path = path_in begun.folder name

    abbrev Made : State → Type 0
    Made s = IsWriting start (with_name name begun) parts name new_file s

    pub after_create : {o2 : Option Story} → Makes o1 (created new_path) o2 → Went story o2 Q P Made
    after_create makes = went_ok Building Made (created new_path) makes (λ s b. inside_folder begun.folder (spelled name)) (λ s b. step_file start begun parts name s own new b) (writing_shows start (with_name name begun) parts name new_file) (still_building tells building)

    pub refused_create : {o2 : Option Story} (at : Halt) (e : DiskError) → LeftBy (o2 ≡ o1) (Allowed (no_room new_path) o1 × Makes o1 (created new_path) o2) e → IfSome o1 (λ x. RefusesBy (no_room new_path (state_of x)) e)
        → Went story o2 Q P (Files {T = Unit {0}} start begun parts name (Err (answer_by at e)))
    refused_create at e did by =
        went_weaker (λ s. LeftBy (Building s) (Made s) e × RefusesBy (no_room new_path s) e) _ (λ s p. refused_as (Building s) (Made s) (no_room new_path s) at e (λ b. file_room start begun parts name s own new b) p.0 p.1)
        (went_left Building Made (created new_path) (no_room new_path) e did by (λ s b. inside_folder begun.folder (spelled name)) (λ s b. step_file start begun parts name s own new b) (writing_shows start (with_name name begun) parts name new_file) (still_building tells building))

  module _ (name : FileName) (file : FileState) where
    abbrev path : List ℕ
    path = path_in begun.folder name

    abbrev Writing : FileState → State → Type 0
    Writing f s = IsWriting start begun parts name f s

    pub still_writing : {o1 : Option Story} → o1 ≡ Some story → Writing file (state_of story) → Went story o1 Q P (Writing file)
    still_writing tells writing = went_start (Writing file) tells writing (writing_shows start begun parts name file)

    module _ {o1 : Option Story} (tells : o1 ≡ Some story) (writing : Writing file (state_of story)) where
      pub after_append : (bytes : List ℕ) {o2 : Option Story} → Makes o1 (appended path bytes) o2 → Went story o2 Q P (Writing (longer bytes file))
      after_append bytes makes = went_ok (Writing file) (Writing (longer bytes file)) (appended path bytes) makes (λ s w. kind_append start begun parts name file bytes s w) (λ s w. step_append start begun parts name file bytes s w)
          (writing_shows start begun parts name (longer bytes file)) (still_writing tells writing)

      pub refused_append : (bytes : List ℕ) {o2 : Option Story} (at : Halt) (e : DiskError) → LeftBy (o2 ≡ o1) (Allowed (no_file path) o1 × MakesFront path bytes o1 o2) e → IfSome o1 (λ x. RefusesBy (no_file path (state_of x)) e)
          → Went story o2 Q P (Fills {T = Unit {0}} start begun parts name file bytes (Err (answer_by at e)))
      refused_append bytes at e did by =
          let Part_of : ℕ → State → Type 0 = λ n s. Writing (longer (take n bytes) file) s in
          went_weaker (λ s. LeftBy (Writing file s) ((n : ℕ) × Part_of n s) e × RefusesBy (no_file path s) e) _ (λ s p. refused_as (Writing file s) ((n : ℕ) × Part_of n s) (no_file path s) at e (λ w. hand_there start begun parts name file s w) p.0 p.1)
          (went_append_left (Writing file) Part_of path bytes e did by (λ n s w. kind_append start begun parts name file (take n bytes) s w) (λ n s w. step_append start begun parts name file (take n bytes) s w)
          (λ n. writing_shows start begun parts name (longer (take n bytes) file)) (still_writing tells writing))

      abbrev Sealed : State → Type 0
      Sealed s = IsBuilding start begun (parts ++ (record { name = name; bytes = bytes_of file }) ∷ []) s

      pub after_sync : {o2 : Option Story} → Makes o1 (file_synced path) o2 → Went story o2 Q P Sealed
      after_sync makes = went_ok (Writing file) Sealed (file_synced path) makes (λ s w. kind_sync start begun parts name file s w) (λ s w. step_seal start begun parts name file s w)
          (building_shows start begun (parts ++ (record { name = name; bytes = bytes_of file }) ∷ [])) (still_writing tells writing)

      pub refused_sync : {o2 : Option Story} (at : Halt) (e : DiskError) → LeftBy (o2 ≡ o1) (Allowed (no_file path) o1 × Makes o1 (file_synced path) o2) e → IfSome o1 (λ x. RefusesBy (no_file path (state_of x)) e)
          → Went story o2 Q P (Seals {T = Unit {0}} start begun parts name file (Err (answer_by at e)))
      refused_sync at e did by =
          went_weaker (λ s. LeftBy (Writing file s) (Sealed s) e × RefusesBy (no_file path s) e) _ (λ s p. refused_as (Writing file s) (Sealed s) (no_file path s) at e (λ w. hand_there start begun parts name file s w) p.0 p.1)
          (went_left (Writing file) Sealed (file_synced path) (no_file path) e did by (λ s w. kind_sync start begun parts name file s w) (λ s w. step_seal start begun parts name file s w)
          (building_shows start begun (parts ++ (record { name = name; bytes = bytes_of file }) ∷ [])) (still_writing tells writing))

-- ---- the folder

-- in the root a name has room, or it is taken
pub room_or_taken : (folder : List ℕ) (s : State) → parent_of folder ≡ [] → no_room folder s ≡ cond (is_some (stands (names_now s) folder)) (Some disk.Exists) None
room_or_taken folder s root = ap (λ (p : List ℕ). cond (is_folder (names_now s) p) (cond (is_some (stands (names_now s) folder)) (Some disk.Exists) None) (Some disk.NotThere)) root

taken_of : (b : Bool) → cond b (Some disk.Exists) None ≡ Some disk.Exists → b ≡ true
taken_of true is = refl
taken_of false is = cc

never_else : (b : Bool) (e : DiskError) → e ≢ disk.Exists → cond b (Some disk.Exists) None ≡ Some e → ⊥
never_else true e ne is = let same : disk.Exists ≡ e = cc in ne (sym same)
never_else false e ne is = cc

was_shows : (folder : List ℕ) (s x : State) → x ≡ s → Shows (MayHaveFolder s folder) x
was_shows folder s x is = record { each = λ t i. inl (subst (λ (y : State). IsImage y t) is i) }

-- nothing was made
pub not_begun : (folder : List ℕ) (story : Story) {o1 : Option Story} → o1 ≡ Some story → Went story o1 (IsWithin folder (length (state_of story).files)) (MayHaveFolder (state_of story) folder) (λ x. x ≡ state_of story)
not_begun folder story tells = went_start (λ x. x ≡ state_of story) tells refl (was_shows folder (state_of story))

module _ (folder : List ℕ) (root : parent_of folder ≡ []) where
  -- no other refusal comes in the root
  refuses_no_other : (s : State) (e : DiskError) → e ≢ disk.Exists → no_room folder s ≡ Some e → ⊥
  refuses_no_other s e ne is = never_else (is_some (stands (names_now s) folder)) e ne (sym (room_or_taken folder s root) ∙ is)

  module _ (story : Story) where
    abbrev s : State
    s = state_of story

    abbrev made : State
    made = after s (folder_made folder s)

    abbrev FQ : Change → Type 0
    FQ = IsWithin folder (length s.files)

    abbrev FP : State → Tree → Type 0
    FP = MayHaveFolder s folder

    abbrev Was : State → Type 0
    Was x = x ≡ s

    abbrev New : State → Type 0
    New x = (x ≡ made) × IsBuilding s (just_begun folder) [] x

    module _ (lawful : IsLawful s) (room : no_room folder s ≡ None) where
      empty : (rest : List ℕ) → map.get (named (Put folder Folder_node) (names_now s)) (folder ++ 47 ∷ rest) ≡ None
      empty rest =
          ap (λ (n : Names). map.get n (folder ++ 47 ∷ rest)) (sym (names_after s (Put folder Folder_node)))
          ∙ get_inside (names_now made) folder rest ∙ made_free s folder rest lawful room

      pub new_folder : IsBuilding s (just_begun folder) [] made
      new_folder = record {
        names = refl;
        holds = record {
          own = All-nil IsPartName;
          later = omega arith;
          stands = ap (λ (n : Names). map.get n folder) (names_after s (Put folder Folder_node)) ∙ get_put (names_now s) folder Folder_node;
          only = λ rest others. ap (λ (n : Names). map.get n (folder ++ 47 ∷ rest)) (names_after s (Put folder Folder_node)) ∙ empty rest;
          lacks = λ k. ⊎_elim
              (λ short. inl (k, ap (λ (ops : List NameOp). all_named ops s.durable) short))
              (λ long. inr (ap (λ (n : Names). map.get n (path_in folder Current)) (ap (λ (ops : List NameOp). all_named ops s.durable) long ∙ all_push s.pending (Put folder Folder_node) s.durable) ∙ empty (spelled Current)))
              (take_push k s.pending (Put folder Folder_node));
        };
        each = All-nil (IsSealed s folder made);
      }

      made_shows : (t : Tree) → IsImage made t → MayHaveFolder s folder made t
      made_shows t i = ⊎_elim
          (λ was. inl was)
          (λ (shown : IsShown (named (Put folder Folder_node) (names_now s)) s.files t). inr (record {
            names = shown.names;
            files = shown.cut;
            empty = λ rest. ap (λ (n : Names). map.get n (folder ++ 47 ∷ rest)) shown.names ∙ empty rest;
          }))
          (named_image s (Put folder Folder_node) t i)

      new_shows : (x : State) → New x → Shows FP x
      new_shows x new = record { each = λ t i. made_shows t (subst (λ (y : State). IsImage y t) new.0 i) }

      step_begin : (x : State) → Was x → New (after x (folder_made folder x))
      step_begin x is =
          let same : after x (folder_made folder x) ≡ made = ap (λ (y : State). after y (folder_made folder y)) is in
          (same, subst (λ (y : State). IsBuilding s (just_begun folder) [] y) (sym same) new_folder)

      begun_made : {o1 o2 : Option Story} → o1 ≡ Some story → Makes o1 (folder_made folder) o2 → Went story o2 FQ FP (λ x. IsBuilding s (just_begun folder) [] x)
      begun_made tells makes = went_weaker New (λ x. IsBuilding s (just_begun folder) [] x) (λ x new. new.1)
          (went_ok Was New (folder_made folder) makes (λ x is. (folder_itself folder, refl)) step_begin new_shows (not_begun folder story tells))

    module _ {o1 : Option Story} (tells : o1 ≡ Some story) (lawful : IfSome o1 (λ x. IsLawful (state_of x))) where
      lawful_here : IsLawful s
      lawful_here = subst (λ (o : Option Story). IfSome o (λ x. IsLawful (state_of x))) tells lawful

      pub after_begin : {o2 : Option Story} → IfSome o1 (λ x. no_room folder (state_of x) ≡ None) → Makes o1 (folder_made folder) o2 → Went story o2 FQ FP (λ x. IsBuilding s (just_begun folder) [] x)
      after_begin room makes = begun_made lawful_here (subst (λ (o : Option Story). IfSome o (λ x. no_room folder (state_of x) ≡ None)) tells room) tells makes

      refuses_here : (e : DiskError) → IfSome o1 (λ x. RefusesBy (no_room folder (state_of x)) e) → RefusesBy (no_room folder s) e
      refuses_here e by = subst (λ (o : Option Story). IfSome o (λ x. RefusesBy (no_room folder (state_of x)) e)) tells by

      pub refused_begin : {o2 : Option Story} (at : Halt) (e : DiskError) → LeftBy (o2 ≡ o1) (Allowed (no_room folder) o1 × Makes o1 (folder_made folder) o2) e → IfSome o1 (λ x. RefusesBy (no_room folder (state_of x)) e)
          → Went story o2 FQ FP (Begins {T = Unit {0}} folder s (Err (begin_answer_by at e)))
      refused_begin at disk.Fault did by = ⊎_elim
          (λ same. went_weaker Was _ (λ x is. inl is) (went_stay same (not_begun folder story tells)))
          (λ made. went_weaker (λ x. IsBuilding s (just_begun folder) [] x) _ (λ x is. inr is) (after_begin made.0 made.1))
          did
      refused_begin at disk.NotThere did by = absurd (refuses_no_other s disk.NotThere (λ same. cc) (refuses_here disk.NotThere by))
      refused_begin at disk.Exists did by = went_stay did (not_begun folder story tells)
      refused_begin at disk.NoLinks did by = absurd (refuses_no_other s disk.NoLinks (λ same. cc) (refuses_here disk.NoLinks by))
      refused_begin at disk.NotEmpty did by = absurd (refuses_no_other s disk.NotEmpty (λ same. cc) (refuses_here disk.NotEmpty by))
      refused_begin at (disk.Short found) did by = absurd (refuses_no_other s (disk.Short found) (λ same. cc) (refuses_here (disk.Short found) by))
      refused_begin at disk.NoMemory did by = went_stay did (not_begun folder story tells)
