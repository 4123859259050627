-- What was read of a folder, and where it was synced.
use Rattle.std.specs.Prelude.{◌≡◌, ℕ, ◌≤◌, List, Option, Result, Ok, Err, IfSome, IfOk}
use Rattle.std.proofs.Common.{sym, subst, ◌∙◌}
use Rattle.lsm_names.specs.declared.file_names.FileName.{FileName}
use Rattle.lsm_disk.specs.State.{Seen, Story}
use Rattle.lsm_disk.specs.Answers.{HasRisen}
use Rattle.lsm_disk.specs.declared.calls.DiskError.{DiskError}
use Rattle.lsm_disk.specs.declared.calls.DiskError.TheVariants as disk
use Rattle.lsm_recover.specs.Answers.{place_now}
use Rattle.lsm_recover.specs.Opening.{opening}
use Rattle.lsm_recover.specs.Shown.{IsOfFolder}
use Rattle.lsm_recover.proofs.OpenLemmas.{told_that}
use Rattle.lsm_opening.specs.declared.found.Found.{Found}
use Rattle.lsm_opening.specs.Finding.{IsSynced, HasFound, behind_sync}
use Rattle.lsm_opening.specs.Recovering.{HasOpenRisen, HasOpenCause, sync_error}
use Rattle.lsm_opening.specs.declared.errors.OpenError.{OpenError}

pub found_so : (dir : List ℕ) (start : Story) (old now : Option Story) (found : Found) (log : ℕ) →
    (synced : IsSynced start old)
    → now ≡ old
    → IfSome old (λ (story : Story). opening (place_now dir story) ≡ Ok
    (record { sequence = found.sequence; rows = found.rows }))
    → IfSome old (λ (story : Story). IsOfFolder dir story found.version log found.next found.names)
    → HasFound dir start now found
found_so dir start old now found log synced same opens is = record {
  synced = record { path = synced.path; tells = same ∙ synced.tells; lawful = synced.lawful };
  log = log;
  is = told_that old (λ (story : Story). IsOfFolder dir story found.version log found.next found.names)
      (behind_sync synced.path start) synced.tells is;
  opens = told_that old
      (λ (story : Story). opening (place_now dir story) ≡ Ok (record { sequence = found.sequence; rows = found.rows }))
      (behind_sync synced.path start) synced.tells opens;
}

-- what follows from what an Ok says, an Ok says too
pub ok_weaker : {T E : Type 0} (r : Result T E) (P Q : T → Type 0) → ((x : T) → P x → Q x) → IfOk r P → IfOk r Q
ok_weaker (Ok x) P Q f p = f x p
ok_weaker (Err e) P Q f p = tt

-- ---- a refused sync

sync_risen : (dir : List ℕ) (old new : Seen) (name : FileName) (path : List ℕ) (why : DiskError) → HasRisen old new why
    → HasOpenRisen dir old new (sync_error name path why)
sync_risen dir old new name path disk.NotThere rose = rose
sync_risen dir old new name path disk.Fault rose = rose
sync_risen dir old new name path disk.Exists rose = rose
sync_risen dir old new name path disk.NoLinks rose = rose
sync_risen dir old new name path disk.NotEmpty rose = rose
sync_risen dir old new name path (disk.Short found) rose = rose
sync_risen dir old new name path disk.NoMemory rose = rose

pub sync_cause : {T : Type 0} (dir : List ℕ) (old new : Seen) (name : FileName) (path : List ℕ) (why : DiskError)
    (error : OpenError) → error ≡ sync_error name path why → old.faults ≤ new.faults → old.refusals ≤ new.refusals
    → HasRisen old new why → HasOpenCause {T = T} dir old new (Err error)
sync_cause dir old new name path why error is f r rose = record {
  faults_later = f;
  refusals_later = r;
  counted = subst (HasOpenRisen dir old new) (sym is) (sync_risen dir old new name path why rose);
}
