-- A store's files, as a backup takes them.
use Rattle.std.specs.Prelude.{◌≡◌, ℕ, zero, suc, List, Option, Some, None}
use Rattle.lsm_io.specs.Causes.{Rose}
use Rattle.lsm_rows.specs.declared.operations.Op.{Op}
use Rattle.lsm_names.specs.declared.file_names.FileName.{FileName}
use Rattle.lsm_disk.specs.State.{Seen, State, Story, state_of}
use Rattle.lsm_disk.specs.Refusals.{no_view}
use Rattle.lsm_disk.specs.Viewed.{Viewed}
use Rattle.bk_engine.specs.Creating.{plain_names}
use Rattle.bk_engine.specs.Preparing.{AreTexts}
use Rattle.bk_engine.specs.Standing.{plain_log, plain_texts}
use Rattle.ldb_script.specs.Stored.{current_path, manifest_path}
use Rattle.ldb_script.specs.declared.store.StoreError.{StoreError}
use Rattle.ldb_script.specs.declared.store.StoreError.TheVariants as store_errors

-- nothing of a file that has no bytes
abbrev pub where_any : {T : Type 0} → ℕ → T → Option T
where_any zero value = None
where_any (suc n) value = Some value

-- no view of `CURRENT` and the manifest is refused, which have 16 and 13 bytes
pub record HasPair (folder : List ℕ) (s : State) : Type 0 where
  pub current : no_view (current_path folder) 16 s ≡ None
  pub manifest : no_view (manifest_path folder) 13 s ≡ None

-- nor one of the log of this length
pub record HasViews (folder path : List ℕ) (len : ℕ) (s : State) : Type 0 where
  pub log : no_view path len s ≡ None
  pub pair : HasPair folder s

-- A call was refused by a fault, by want of memory, or by a disk that told no state with P.
abbrev pub IsRefused : (State → Type 0) → Seen → Seen → StoreError → Type 0
IsRefused P old new store_errors.DiskFault = Rose old.faults new.faults
IsRefused P old new (store_errors.Changed call path) = Rose old.refusals new.refusals
    × ((story : Story) → old.told ≡ Some story → ¬ P (state_of story))
IsRefused P old new store_errors.NoMemory = Unit {0}

-- These are the names of the store's files, and where the disk told, the views' texts are theirs: those of a store of the accepted
-- batches.
pub record HasFiles (start : Option Story) (accepted : List (List Op)) (listed : List FileName) (views : List Viewed) : Type 0 where
  pub names : listed ≡ plain_names (plain_log accepted) 1
  pub texts : (story : Story) → start ≡ Some story → (these : List (List ℕ)) → AreTexts views these → these ≡ plain_texts accepted
