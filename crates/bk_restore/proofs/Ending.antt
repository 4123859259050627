-- The end of a restored folder.
use Rattle.std.specs.Prelude.{◌≡◌, ℕ, List, [], ◌∷◌, ◌==◌, ◌&&◌, true, length, Option, Some, Result, Ok, Err}
use Rattle.std.specs.List.{count_by}
use Rattle.std.proofs.Common.{⊎_elim, inl, inr, arith}
use Rattle.std.proofs.lemmas.Bool.{and_parts}
use Rattle.std.proofs.lemmas.Bool.Decides.{nat_tests}
use Rattle.lsm_names.specs.declared.file_names.FileName.TheVariants.{Current}
use Rattle.lsm_disk.specs.State.{State, Story, state_of}
use Rattle.lsm_disk.specs.Images.{Tree}
use Rattle.lsm_disk.specs.Goes.{Went}
use Rattle.lsm_disk.specs.Dest.{Begun, just_begun}
use Rattle.lsm_disk.specs.Building.{Part, with_current, IsWithin, HasNoCurrent, HasNoneOrAll, IsBuilding, IsUnfinished, Finishes}
use Rattle.lsm_disk.specs.declared.dest.DestError.{DestError}
use Rattle.lsm_disk.specs.declared.dest.DestError.TheVariants as dest
use Rattle.lsm_disk.proofs.Runs.{went_then, went_weaker, went_wider}
use Rattle.bk_meta.specs.declared.metas.MetaFile.{MetaFile}
use Rattle.bk_meta.specs.declared.metas.Meta.{Meta}
use Rattle.bk_meta.specs.BackupFiles.{file_at}
use Rattle.bk_meta.specs.Metas.{IsMeta, is_whole, is_current, is_manifest, are_different, shared_numbers}
use Rattle.bk_restore.specs.declared.errors.RestoreError.{RestoreError}
use Rattle.bk_restore.specs.declared.errors.RestoreError.TheVariants.{DiskFault, DestFault, Halted, DestinationExists, Missing, Changed, WrongSize, Damaged, NoMemory}
use Rattle.bk_restore.specs.Refusals.{IsPastBegin, dest_answer}
use Rattle.bk_restore.specs.Wrong.{others, currents}
use Rattle.bk_restore.specs.Hands.{Builds}
use Rattle.bk_restore.specs.Restored.{AreRestored, AreMetaFiles, begun_with, MayHaveEnded, EndsBy, MayHaveRestored, LeavesBy, BeginsBy}
use Rattle.bk_restore.proofs.Going.{restored_both}
use Rattle.bk_restore.proofs.Growing.{building_unfinished}

module _ (id : ℕ) (told : Option Story) (files : List MetaFile) (start : State) (folder : List ℕ) (parts : List Part) where
  unended : (e : RestoreError) (s : State) → IsUnfinished start folder s → EndsBy id told files start folder parts (Err e) s
  unended DiskFault s is = is
  unended DestFault s is = tt
  unended (Halted first) s is = is
  unended (DestinationExists dir) s is = is
  unended (Missing name) s is = is
  unended (Changed call path) s is = is
  unended (WrongSize name kept found) s is = is
  unended (Damaged name kept found) s is = is
  unended NoMemory s is = is

  abbrev pub Ended : Story → Option Story → Result (Unit {0}) RestoreError → Type 0
  Ended story now r = Went story now (IsWithin folder (length start.files)) (MayHaveEnded id told files start folder parts) (EndsBy id told files start folder parts r)

  -- it stopped before the end
  pub stopped : {story : Story} {now : Option Story} (e : RestoreError) → Builds start folder story now (IsUnfinished start folder) → Ended story now (Err e)
  stopped e w = went_weaker (IsUnfinished start folder) (EndsBy id told files start folder parts (Err e)) (unended e)
      (went_wider (IsWithin folder (length start.files)) (IsWithin folder (length start.files)) (HasNoCurrent start folder) (MayHaveEnded id told files start folder parts) (λ c h. h) (λ s t h. inl h) w)

module _ (id : ℕ) (told : Option Story) (files : List MetaFile) (start : State) (begun : Begun) (parts : List Part) where
  abbrev folder : List ℕ
  folder = begun.folder

  abbrev pub Finished : List ℕ → Story → Option Story → Result (Unit {0}) DestError → Type 0
  Finished text story now r = Went story now (IsWithin folder (length start.files)) (HasNoneOrAll start folder (with_current text parts)) (Finishes start begun parts text r)

  unfinished : (text : List ℕ) (why : DestError) (s : State) → Finishes {T = Unit {0}} start begun parts text (Err why) s → EndsBy id told files start folder parts (Err (dest_answer [] why)) s
  unfinished text dest.Fault s left = tt
  unfinished text (dest.Halted first) s left = building_unfinished start begun parts s left
  unfinished text dest.Exists s left = building_unfinished start begun parts s left
  unfinished text (dest.Changed call path) s left = absurd left
  unfinished text dest.NoMemory s left = building_unfinished start begun parts s left

  module _ (text : List ℕ) (restored : AreRestored id told files (with_current text [])) where
    shown : (s : State) (t : Tree) → HasNoneOrAll start folder (with_current text parts) s t → MayHaveEnded id told files start folder parts s t
    shown s t h = ⊎_elim (λ lacks. inl lacks) (λ whole. inr (record { name = Current; bytes = text }, restored, whole)) h

    pub finish_refused : {story : Story} {now : Option Story} (why : DestError) → Finished text story now (Err why) → Ended id told files start folder parts story now (Err (dest_answer [] why))
    finish_refused why w = went_weaker (Finishes {T = Unit {0}} start begun parts text (Err why)) (EndsBy id told files start folder parts (Err (dest_answer [] why))) (unfinished text why)
        (went_wider (IsWithin folder (length start.files)) (IsWithin folder (length start.files)) (HasNoneOrAll start folder (with_current text parts)) (MayHaveEnded id told files start folder parts) (λ c h. h) shown w)

    pub finish_done : {story : Story} {now : Option Story} → Finished text story now (Ok tt) → Ended id told files start folder parts story now (Ok tt)
    finish_done w = went_weaker (Finishes {T = Unit {0}} start begun parts text (Ok tt)) (EndsBy id told files start folder parts (Ok tt)) (λ s built. (record { name = Current; bytes = text }, restored, built))
        (went_wider (IsWithin folder (length start.files)) (IsWithin folder (length start.files)) (HasNoneOrAll start folder (with_current text parts)) (MayHaveEnded id told files start folder parts) (λ c h. h) shown w)

-- ---- the whole restore

module _ (meta : Meta) (told : Option Story) (start : State) (folder : List ℕ) where
  abbrev pub Restored : Story → Option Story → Result ℕ RestoreError → Type 0
  Restored story now r = Went story now (IsWithin folder (length start.files)) (MayHaveRestored meta told start folder) (LeavesBy meta told start folder r)

  wider : {I : State → Type 0} {story : Story} {now : Option Story} → Builds start folder story now I → Went story now (IsWithin folder (length start.files)) (MayHaveRestored meta told start folder) I
  wider w = went_wider (IsWithin folder (length start.files)) (IsWithin folder (length start.files)) (HasNoCurrent start folder) (MayHaveRestored meta told start folder) (λ c h. h) (λ s t h. inl h) w

  unbegun : (e : RestoreError) (s : State) → BeginsBy start folder (Err e) s → LeavesBy meta told start folder (Err e) s
  unbegun DiskFault s is = inl is
  unbegun DestFault s is = tt
  unbegun (Halted first) s is = is
  unbegun (DestinationExists dir) s is = is
  unbegun (Missing name) s is = inl is
  unbegun (Changed call path) s is = inl is
  unbegun (WrongSize name kept found) s is = inl is
  unbegun (Damaged name kept found) s is = inl is
  unbegun NoMemory s is = inl is

  unrestored : (e : RestoreError) (s : State) → IsPastBegin e → IsUnfinished start folder s → LeavesBy meta told start folder (Err e) s
  unrestored DiskFault s past is = inr is
  unrestored DestFault s past is = tt
  unrestored (Halted first) s past is = absurd past
  unrestored (DestinationExists dir) s past is = absurd past
  unrestored (Missing name) s past is = inr is
  unrestored (Changed call path) s past is = inr is
  unrestored (WrongSize name kept found) s past is = inr is
  unrestored (Damaged name kept found) s past is = inr is
  unrestored NoMemory s past is = inr is

  module _ {story : Story} {now : Option Story} where
    pub begin_leaves : (e : RestoreError) → Builds start folder story now (BeginsBy start folder (Err e)) → Restored story now (Err e)
    begin_leaves e w = went_weaker (BeginsBy start folder (Err e)) (LeavesBy meta told start folder (Err e)) (unbegun e) (wider w)

    pub others_leave : {mid : Option Story} (e : RestoreError) → IsPastBegin e → Builds start folder story mid (IsBuilding start (just_begun folder) [])
        → ((next : Story) → mid ≡ Some next → IsBuilding start (just_begun folder) [] (state_of next) → Builds start folder next now (IsUnfinished start folder)) → Restored story now (Err e)
    others_leave e past w next = went_weaker (IsUnfinished start folder) (LeavesBy meta told start folder (Err e)) (λ s is. unrestored e s past is) (wider (went_then w next))

  module _ (parts : List Part) (restored : AreRestored meta.id told (others meta.id meta.files) parts) where
    whole_shown : (s : State) (t : Tree) → MayHaveEnded meta.id told (currents meta.id meta.files) start folder parts s t → MayHaveRestored meta told start folder s t
    whole_shown s t h = ⊎_elim (λ lacks. inl lacks)
        (λ whole. inr (whole.0 ∷ parts, restored_both meta.id told (currents meta.id meta.files) (others meta.id meta.files) (whole.0 ∷ []) parts whole.1 restored, whole.2)) h

    ended : (e : RestoreError) (s : State) → IsPastBegin e → EndsBy meta.id told (currents meta.id meta.files) start folder parts (Err e) s → LeavesBy meta told start folder (Err e) s
    ended DiskFault s past is = inr is
    ended DestFault s past is = tt
    ended (Halted first) s past is = absurd past
    ended (DestinationExists dir) s past is = absurd past
    ended (Missing name) s past is = inr is
    ended (Changed call path) s past is = inr is
    ended (WrongSize name kept found) s past is = inr is
    ended (Damaged name kept found) s past is = inr is
    ended NoMemory s past is = inr is

    whole_built : (sequence : ℕ) (s : State) → EndsBy meta.id told (currents meta.id meta.files) start folder parts (Ok tt) s → LeavesBy meta told start folder (Ok sequence) s
    whole_built sequence s h = (h.0 ∷ parts, restored_both meta.id told (currents meta.id meta.files) (others meta.id meta.files) (h.0 ∷ []) parts h.1 restored, h.2)

    abbrev pub Ends : Story → Option Story → Result (Unit {0}) RestoreError → Type 0
    Ends story now r = Ended meta.id told (currents meta.id meta.files) start folder parts story now r

    wider_end : {story : Story} {now : Option Story} (r : Result (Unit {0}) RestoreError) → Ends story now r
        → Went story now (IsWithin folder (length start.files)) (MayHaveRestored meta told start folder) (EndsBy meta.id told (currents meta.id meta.files) start folder parts r)
    wider_end r w = went_wider (IsWithin folder (length start.files)) (IsWithin folder (length start.files)) (MayHaveEnded meta.id told (currents meta.id meta.files) start folder parts) (MayHaveRestored meta told start folder) (λ c h. h) whole_shown w

    module _ {story : Story} {mid now : Option Story} (w : Builds start folder story mid (IsBuilding start (begun_with folder parts) parts)) where
      all_of : (r : Result (Unit {0}) RestoreError) → ((next : Story) → mid ≡ Some next → IsBuilding start (begun_with folder parts) parts (state_of next) → Ends next now r)
          → Went story now (IsWithin folder (length start.files)) (MayHaveRestored meta told start folder) (EndsBy meta.id told (currents meta.id meta.files) start folder parts r)
      all_of r next = went_then (wider w) (λ n tells building. wider_end r (next n tells building))

      pub current_leaves : (e : RestoreError) → IsPastBegin e → ((next : Story) → mid ≡ Some next → IsBuilding start (begun_with folder parts) parts (state_of next) → Ends next now (Err e)) → Restored story now (Err e)
      current_leaves e past next = went_weaker (EndsBy meta.id told (currents meta.id meta.files) start folder parts (Err e)) (LeavesBy meta told start folder (Err e)) (λ s ends. ended e s past ends) (all_of (Err e) next)

      pub all_restored : (sequence : ℕ) → ((next : Story) → mid ≡ Some next → IsBuilding start (begun_with folder parts) parts (state_of next) → Ends next now (Ok tt)) → Restored story now (Ok sequence)
      all_restored sequence next = went_weaker (EndsBy meta.id told (currents meta.id meta.files) start folder parts (Ok tt)) (LeavesBy meta told start folder (Ok sequence)) (whole_built sequence) (all_of (Ok tt) next)

-- ---- the files of a meta

whole_parts : (id : ℕ) (files : List MetaFile) → is_whole id files ≡ true
    → (count_by (λ file. is_current (file_at id file.path)) files == 1 && count_by (λ file. is_manifest (file_at id file.path)) files == 1 && are_different (shared_numbers id files)) ≡ true
unfolding is_whole
whole_parts id files is = is

one_by : (n : ℕ) → (n == 1) ≡ true → n ≡ 1
one_by n is = grind (arith, nat_tests)

pub meta_files : (meta : Meta) → IsMeta meta → AreMetaFiles meta.id meta.files
meta_files meta is =
    let id : ℕ = meta.id in
    let files : List MetaFile = meta.files in
    let n : ℕ = count_by (λ file. is_current (file_at id file.path)) files in
    let m : ℕ = count_by (λ file. is_manifest (file_at id file.path)) files in
    let outer = and_parts (n == 1 && m == 1) (are_different (shared_numbers id files)) (whole_parts id files is.whole) in
    let inner = and_parts (n == 1) (m == 1) outer.0 in
    record { each = is.each; ascending = is.ascending; current = one_by n inner.0; different = outer.1 }
