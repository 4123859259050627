-- The destination's calls, as a restore makes them.
use Rattle.std.specs.Prelude.{◌≡◌, ◌≢◌, ℕ, List, [], ◌∷◌, ◌++◌, All, option_map, IfSome, Option, Some, None, Ok, Err}
use Rattle.std.proofs.Common.{refl, sym, ap, subst, ◌∙◌}
use Rattle.lsm_names.specs.declared.file_names.FileName.{FileName}
use Rattle.lsm_disk.specs.State.{State, Story, FileState, state_of, new_file, bytes_of}
use Rattle.lsm_disk.specs.Dest.{Begun, DestSeen, with_name, HaltsAt, Leaves}
use Rattle.lsm_disk.specs.Building.{Part, IsBuilding, IsWriting, IsUnfinished, Files, Seals}
use Rattle.lsm_disk.specs.declared.calls.Halt.{Halt}
use Rattle.lsm_disk.specs.declared.dest.DestError.{DestError}
use Rattle.lsm_disk.specs.declared.dest.DestError.TheVariants.{Fault, Halted, Exists, Changed, NoMemory}
use Rattle.lsm_disk.proofs.Runs.{went_start, went_weaker}
pub use Rattle.bk_copy.proofs.Hands.{writing_unfinished, still_writing, unwritten}
use Rattle.bk_copy.proofs.Hands.{holds_unfinished, holds_shows, refused_by}
use Rattle.bk_restore.specs.Hands.{IsReady, HasInHand, IsNewName, Builds}
use Rattle.bk_restore.specs.Refusals.{dest_answer, IsOfCopying}

-- ---- the begun folder

module _ (start : State) (begun : Begun) (parts : List Part) where
  pub building_unfinished : (s : State) → IsBuilding start begun parts s → IsUnfinished start begun.folder s
  building_unfinished s is = holds_unfinished start begun.folder begun.names s is.holds

  pub still_building : (story : Story) {told : Option Story} → told ≡ Some story → IsBuilding start begun parts (state_of story) → Builds start begun.folder story told (IsBuilding start begun parts)
  still_building story tells is = went_start (IsBuilding start begun parts) tells is (λ s b. holds_shows start begun.folder begun.names s b.holds)

  pub unbuilt : {story : Story} {told : Option Story} → Builds start begun.folder story told (IsBuilding start begun parts) → Builds start begun.folder story told (IsUnfinished start begun.folder)
  unbuilt w = went_weaker (IsBuilding start begun parts) (IsUnfinished start begun.folder) building_unfinished w

-- ---- a refused call leaves the folder unfinished

module _ (start : State) (begun : Begun) (parts : List Part) (name : FileName) {story : Story} {told : Option Story} (why : DestError) where
  pub file_refused : Builds start begun.folder story told (Files {T = Unit {0}} start begun parts name (Err why)) → Builds start begun.folder story told (IsUnfinished start begun.folder)
  file_refused w = went_weaker (Files {T = Unit {0}} start begun parts name (Err why)) (IsUnfinished start begun.folder)
      (λ s left. refused_by (IsBuilding start begun parts s) (IsWriting start (with_name name begun) parts name new_file s) (IsUnfinished start begun.folder s) why (building_unfinished start begun parts s) (writing_unfinished start (with_name name begun) parts name new_file s) left) w

  module _ (file : FileState) where
    pub seal_refused : Builds start begun.folder story told (Seals {T = Unit {0}} start begun parts name file (Err why)) → Builds start begun.folder story told (IsUnfinished start begun.folder)
    seal_refused w = went_weaker (Seals {T = Unit {0}} start begun parts name file (Err why)) (IsUnfinished start begun.folder)
        (λ s left. refused_by (IsWriting start begun parts name file s) (IsBuilding start begun (parts ++ (record { name = name; bytes = bytes_of file }) ∷ []) s) (IsUnfinished start begun.folder s) why
        (writing_unfinished start begun parts name file s) (building_unfinished start begun (parts ++ (record { name = name; bytes = bytes_of file }) ∷ []) s) left) w

-- which answer it can be, past the begin of the folder
pub copying_kind : (T : Type 0) (calls : List Halt) (old new : DestSeen) (dir : List ℕ) (why : DestError) → old.halt ≡ None → HaltsAt {T = T} calls old new (Err why) → why ≢ Exists → IsOfCopying (dest_answer dir why)
copying_kind T calls old new dir Fault none halt never = tt
copying_kind T calls old new dir (Halted first) none halt never = let clash : None ≡ Some first = sym none ∙ halt.0 in cc
copying_kind T calls old new dir Exists none halt never = never refl
copying_kind T calls old new dir (Changed call path) none halt never = tt
copying_kind T calls old new dir NoMemory none halt never = tt

-- ---- what is begun and in hand

pub file_in_hand : (calls : List Halt) (old new : DestSeen) (begun : Begun) (name : FileName) → IsReady begun old → HaltsAt {T = Unit {0}} calls old new (Ok tt)
    → Leaves {T = Unit {0}} (option_map (with_name name) old.begun) (Some name) old new (Ok tt) → HasInHand (with_name name begun) name new
file_in_hand calls old new begun name ready halts leaves = record { halt = halts.1; begun_is = leaves.0 ∙ ap (option_map (with_name name)) ready.begun_is; hand = leaves.1 }

pub file_sealed : (calls : List Halt) (old new : DestSeen) (begun : Begun) (name : FileName) → HasInHand begun name old → HaltsAt {T = Unit {0}} calls old new (Ok tt) → Leaves {T = Unit {0}} old.begun None old new (Ok tt) → IsReady begun new
file_sealed calls old new begun name hand halts leaves = record { halt = halts.1; begun_is = leaves.0 ∙ hand.begun_is; hand = leaves.1 }

pub name_is_new : (seen : DestSeen) (begun : Begun) (name : FileName) → IsReady begun seen → IsNewName begun name → IfSome seen.begun (λ b. All (λ other. name ≢ other) b.names)
name_is_new seen begun name ready new = subst (λ (o : Option Begun). IfSome o (λ b. All (λ other. name ≢ other) b.names)) (sym ready.begun_is) new.new
