-- Where a disk that tells has the log, it refuses none of its calls.
use Rattle.std.specs.Prelude.{◌≡◌, ℕ, if◌then◌else◌, is_some, List, Option, Some, None, IfSome}
use Rattle.std.proofs.Common.{refl, ap, subst}
use Rattle.lsm_disk.specs.State.{Story, state_of}
use Rattle.lsm_disk.specs.Refusals.{no_file}
use Rattle.lsm_disk.specs.Answers.{RefusesBy, HasRisen}
use Rattle.lsm_disk.specs.declared.calls.DiskCall.{DiskCall}
use Rattle.lsm_disk.specs.declared.calls.DiskError.{DiskError}
use Rattle.lsm_disk.specs.declared.calls.DiskError.TheVariants.{Fault, NotThere, Exists, NoLinks, NotEmpty, Short, NoMemory}
use Rattle.lsm_disk.proofs.Kept.{kept_at}
use Rattle.ldb_script.specs.Plain.{Outcome}
use Rattle.ldb_script.specs.Stored.{Shown, Stands}
use Rattle.ldb_script.specs.Opening.{IsBroken, store_error}

pub first_of : (told : Option Story) (A B : Story → Type 0) → IfSome told (λ story. A story × B story) → IfSome told A
first_of None A B h = tt
first_of (Some story) A B h = h.0

module _ (start : Option Story) (old new : Shown) (outcome : Outcome) (was : Stands start old outcome) (call : DiskCall) (path : List ℕ) where
  refuses_none : (e : DiskError) → IfSome old.disk.told (λ story. RefusesBy (no_file old.log (state_of story)) e) → (story : Story) → start ≡ Some story → RefusesBy None e
  refuses_none e answer story tells =
      let logs = was.log story tells in
      subst (λ (o : Option DiskError). RefusesBy o e) (ap (λ (o : Option ℕ). if is_some o then None else Some NotThere) (kept_at (state_of logs.story) old.log logs.wal.id logs.wal.file logs.wal.kept))
      (subst (λ (o : Option Story). IfSome o (λ story. RefusesBy (no_file old.log (state_of story)) e)) logs.tells answer)

  untold : (e : DiskError) → (RefusesBy None e → ⊥) → IfSome old.disk.told (λ story. RefusesBy (no_file old.log (state_of story)) e) → start ≡ None
  untold e never answer = none start (refuses_none e answer) where
    none : (o : Option Story) → ((story : Story) → o ≡ Some story → RefusesBy None e) → o ≡ None
    none None h = refl
    none (Some story) h = absurd (never (h story refl))

  pub broken : (e : DiskError) → IfSome old.disk.told (λ story. RefusesBy (no_file old.log (state_of story)) e) → HasRisen old.disk new.disk e → IsBroken start old new (store_error call path e)
  broken Fault answer rose = rose
  broken NoMemory answer rose = tt
  broken NotThere answer rose = (rose, untold NotThere (λ h. cc) answer)
  broken Exists answer rose = (rose, untold Exists (λ h. cc) answer)
  broken NoLinks answer rose = (rose, untold NoLinks (λ h. cc) answer)
  broken NotEmpty answer rose = (rose, untold NotEmpty (λ h. cc) answer)
  broken (Short found) answer rose = (rose, untold (Short found) (λ h. cc) answer)
