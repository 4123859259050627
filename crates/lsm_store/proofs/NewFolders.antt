-- The making of a new store's folder, and what goes before its files.
use Rattle.std.specs.Prelude.{◌≡◌, ◌⊎◌, ℕ, ◌≤◌, true, List, [], Option, Some, Result, Ok, Err}
use Rattle.std.proofs.Common.{inl, inr, refl, sym, ap, subst, ◌∙◌, arith}
use Rattle.lsm_names.specs.Folders.{is_folder_name}
use Rattle.lsm_disk.specs.State as disk
use Rattle.lsm_disk.specs.State.{Seen, Story, Names_synced, after, folder_made, names_synced, state_of}
use Rattle.lsm_disk.specs.Goes.{Went, Shows}
use Rattle.lsm_disk.specs.Halts.{halt_at}
use Rattle.lsm_disk.specs.Refusals.{never, no_room}
use Rattle.lsm_disk.specs.Answers.{Makes, Did}
use Rattle.lsm_disk.specs.declared.calls.DiskError.{DiskError}
use Rattle.lsm_disk.specs.declared.calls.DiskRefusal.{DiskRefusal}
use Rattle.lsm_disk.proofs.Images.{after_names_synced}
use Rattle.lsm_disk.proofs.Runs.{went_start, went_weaker, went_ok, went_err}
use Rattle.lsm_model.specs.declared.errors.StoreError.{StoreError}
use Rattle.lsm_model.specs.declared.errors.StoreError.TheVariants as error
use Rattle.lsm_refine.specs.Vacant.{IsVacant, with_folder}
use Rattle.lsm_refine.proofs.NewStoreLemmas.{new_vacant}
use Rattle.lsm_store.specs.declared.opening_new.NewParts.{NewParts}
use Rattle.lsm_store.specs.NewStores.{HasMadeFolder, IsFolderMade, FolderGoes, IsFree, FilesGo, MakesAnew, Anything, IsNewRefusal, IsNewAnswer, HasNewCause, folder_calls, file_calls, anew_calls}
use Rattle.lsm_store.proofs.NewFiles.{among_right}

-- ---- the folder

module _ (dir : List ℕ) (start : Story) where
  abbrev d : disk.State
  d = state_of start

  abbrev Was : disk.State → Type 0
  Was x = x ≡ d

  abbrev Has : disk.State → Type 0
  Has x = x ≡ after d (folder_made dir d)

  abbrev IsSure : disk.State → Type 0
  IsSure x = x ≡ with_folder dir d

  abbrev Goes : Option Story → (disk.State → Type 0) → Type 0
  Goes told I = Went start told (λ c. Unit {0}) (HasMadeFolder dir d) I

  was_shows : (x : disk.State) → Was x → Shows (HasMadeFolder dir d) x
  was_shows x is = record { each = λ t image. inl is }

  has_shows : (x : disk.State) → Has x → Shows (HasMadeFolder dir d) x
  has_shows x is = record { each = λ t image. inr (inl is) }

  sure_shows : (x : disk.State) → IsSure x → Shows (HasMadeFolder dir d) x
  sure_shows x is = record { each = λ t image. inr (inr is) }

  begun : (told : Option Story) → told ≡ Some start → Goes told Was
  begun told same = went_start Was same refl was_shows

  makes : (x : disk.State) → Was x → Has (after x (folder_made dir x))
  makes x is = ap (λ (y : disk.State). after y (folder_made dir y)) is

  syncs : (x : disk.State) → Has x → IsSure (after x (names_synced x))
  syncs x is = after_names_synced x ∙ ap (λ (y : disk.State). after y Names_synced) is

  answered : {T : Type 0} (told : Option Story) (r : Result T DiskRefusal) → Goes told (IsFolderMade dir d r)
      → FolderGoes dir start told r
  answered told r w = record {
    now = w.story;
    tells = w.tells;
    goes = record { story = w.story; tells = refl; goes = w.goes; now = w.now };
  }

  module _ (old mid : Seen) (same : old.told ≡ Some start) where
    -- its making was refused
    pub folder_unmade : (T : Type 0) {S : Type 0} (e : DiskError) (r : DiskRefusal)
        → Did {T = T} (folder_made dir) (no_room dir) old mid (Err e) → FolderGoes {T = S} dir start mid.told (Err r)
    folder_unmade T {S = S} e r did = answered {T = S} mid.told (Err r)
        (went_weaker (λ x. Was x ⊎ Has x) Anything (λ x is. tt)
        (went_err Was Has (folder_made dir) (no_room dir) e did (λ x is. tt) makes has_shows (begun old.told same)))

    module _ (made : Makes old.told (folder_made dir) mid.told) where
      made_so_far : Goes mid.told Has
      made_so_far = went_ok Was Has (folder_made dir) made (λ x is. tt) makes has_shows (begun old.told same)

      -- its name was not made sure
      pub folder_unsure : (T : Type 0) {S : Type 0} (new : Seen) (e : DiskError) (r : DiskRefusal)
          → Did {T = T} names_synced never mid new (Err e) → FolderGoes {T = S} dir start new.told (Err r)
      folder_unsure T {S = S} new e r did = answered {T = S} new.told (Err r)
          (went_weaker (λ x. Has x ⊎ IsSure x) Anything (λ x is. tt)
          (went_err Has IsSure names_synced never e did (λ x is. tt) syncs sure_shows made_so_far))

      -- it was made
      pub folder_sure : {T : Type 0} (new : Seen) (value : T) → Makes mid.told names_synced new.told
          → FolderGoes dir start new.told (Ok value)
      folder_sure new value synced = answered new.told (Ok value)
          (went_ok Has IsSure names_synced synced (λ x is. tt) syncs sure_shows made_so_far)

-- ---- the folder and its files

-- the folder was refused
pub anew_stopped : {T : Type 0} (dir : List ℕ) (start : Story) (told : Option Story) (r : DiskRefusal) (e : StoreError)
    → FolderGoes {T = T} dir start told (Err r) → MakesAnew dir start told (Err e)
anew_stopped dir start told r e gone = record { now = gone.now; tells = gone.tells; goes = inl gone.goes }

same_story : (a b : Story) → Some a ≡ Some b → a ≡ b
same_story a b same = cc

in_folder : {T : Type 0} (dir : List ℕ) (start : Story) (told midtold : Option Story) (value : T)
    (gone : FolderGoes dir start midtold (Ok value)) (result : Result NewParts StoreError)
    → FilesGo dir 1 [] gone.now told result → MakesAnew dir start told result
in_folder dir start told midtold value gone (Ok parts) files = record {
  now = files.now;
  tells = files.tells;
  goes = record { mid = gone.now; folder = gone.goes; next = files.goes };
}
in_folder dir start told midtold value gone (Err e) files = record {
  now = files.now;
  tells = files.tells;
  goes = inr (record { mid = gone.now; folder = gone.goes; next = files.goes });
}

-- the folder was made, and its files or not
pub anew_gone : {T : Type 0} (dir : List ℕ) (named : is_folder_name dir ≡ true) (start : Story)
    (free : IsFree (state_of start) dir)
    (mid told : Option Story) (value : T) → FolderGoes dir start mid (Ok value) → (result : Result NewParts StoreError)
    → ((story : Story) → mid ≡ Some story → IsVacant (state_of story) dir 1 [] → FilesGo dir 1 [] story told result)
    → MakesAnew dir start told result
anew_gone dir named start free mid told value gone result files =
    let vacant : IsVacant (state_of gone.goes.story) dir 1 [] =
    subst (λ (x : disk.State). IsVacant x dir 1 []) (sym gone.goes.now)
    (new_vacant (state_of start) dir named free.lawful free.free free.clear) in
    let same : gone.now ≡ gone.goes.story = same_story gone.now gone.goes.story gone.goes.tells in
    in_folder dir start told mid value gone result
    (files gone.now gone.tells (subst (λ (s : Story). IsVacant (state_of s) dir 1 []) (sym same) vacant))

-- ---- causes

-- what is answered of the files is answered of both
pub anew_refused : (dir : List ℕ) (first old new : Seen) (e : StoreError) → first.faults ≤ old.faults
    → first.refusals ≤ old.refusals → IsNewRefusal (file_calls dir 1) 1 old new e → IsNewRefusal
    (anew_calls dir) 1 first new e
anew_refused dir first old new (error.NumbersFull next) f r is = absurd (omega (arith, is.1))
anew_refused dir first old new error.DiskFault f r is = omega (arith, f, is)
anew_refused dir first old new (error.Changed made path) f r is =
    (omega (arith, r, is.0), among_right (halt_at made path) (folder_calls dir) (file_calls dir 1) is.1)
anew_refused dir first old new error.NoMemory f r is = tt
anew_refused dir first old new (error.Halted at) f r is = is
anew_refused dir first old new (error.SequenceFull last count) f r is = is
anew_refused dir first old new (error.TablesFull live adding) f r is = is
anew_refused dir first old new (error.PinsFull live) f r is = is
anew_refused dir first old new (error.DisablesFull count) f r is = is
anew_refused dir first old new (error.NoSuchPin pin) f r is = is
anew_refused dir first old new (error.NotInPin pin name) f r is = is
anew_refused dir first old new error.NotDisabled f r is = is
anew_refused dir first old new (error.CheckpointExists at) f r is = is
anew_refused dir first old new (error.UnderWay at) f r is = is
anew_refused dir first old new (error.NoFolder at) f r is = is
anew_refused dir first old new (error.NoCurrent at) f r is = is
anew_refused dir first old new (error.Missing name) f r is = is
anew_refused dir first old new (error.Short name kept found) f r is = is
anew_refused dir first old new (error.Damaged name place kept found) f r is = is
anew_refused dir first old new (error.Malformed name place) f r is = is
anew_refused dir first old new (error.TornLog name place) f r is = is
anew_refused dir first old new (error.Gap name kept found) f r is = is
anew_refused dir first old new (error.BadLevels level left right) f r is = is

anew_answer : {T : Type 0} (dir : List ℕ) (first old new : Seen) (result : Result T StoreError) → first.faults ≤ old.faults
    → first.refusals ≤ old.refusals → IsNewAnswer (file_calls dir 1) 1 old new result
    → IsNewAnswer (anew_calls dir) 1 first new result
anew_answer dir first old new (Ok value) f r is = is
anew_answer dir first old new (Err e) f r is = anew_refused dir first old new e f r is

pub anew_cause : {T : Type 0} (dir : List ℕ) (first old new : Seen) (result : Result T StoreError) → first.faults ≤ old.faults
    → first.refusals ≤ old.refusals → HasNewCause (file_calls dir 1) 1 old new result
    → HasNewCause (anew_calls dir) 1 first new result
anew_cause dir first old new result f r cause = record {
  faults = omega (arith, f, cause.faults);
  refusals = omega (arith, r, cause.refusals);
  answer = anew_answer dir first old new result f r cause.answer;
}
