-- What a closing of a store leaves, and why it is refused.
use Rattle.std.specs.Prelude.{◌≡◌, ℕ, ◌<◌, ◌≤◌, Some, None, Result, Ok, Err}
use Rattle.std.specs.FinMap as finmap
use Rattle.lsm_io.specs.Causes.{Rose}
use Rattle.lsm_disk.specs.State.{Seen, Story, state_of}
use Rattle.lsm_disk.specs.Viewed.{Viewed}
use Rattle.lsm_disk.specs.Halts.{halt_at}
use Rattle.lsm_model.specs.declared.errors.StoreError.{StoreError}
use Rattle.lsm_model.specs.declared.errors.StoreError.TheVariants as error
use Rattle.lsm_model.specs.declared.states.State.{State}
use Rattle.lsm_model.specs.Crashes.{Closes}
use Rattle.lsm_model.specs.Halting.{IsMet, sync_calls}
use Rattle.lsm_refine.specs.Kept.{Shown}
use Rattle.lsm_refine.specs.Openings.{IsFound}

-- The closing that is answered so leads from the state to one as which the next opening finds the
-- disk.
pub record LeavesClosed (s : State) (answer : Result (Unit {0}) StoreError) (seen : Seen) : Type 0 where
  pub left : State
  pub closes : Closes s answer left
  pub story : Story
  pub told : seen.told ≡ Some story
  pub found : IsFound (state_of story) left

-- The answer's cause, on every disk: nothing had halted the store, and the log was synced; or an
-- earlier call had halted it; or the disk failed or was found changed at the sync. It takes no
-- memory.
abbrev pub ClosedFor : Shown → Result (Unit {0}) StoreError → Seen → Type 0
ClosedFor v (Ok done) seen = v.halt ≡ None
ClosedFor v (Err (error.Halted first)) seen = (v.halt ≡ Some first) × (seen.told ≡ v.disk.told)
ClosedFor v (Err error.DiskFault) seen = (v.halt ≡ None) × Rose v.disk.faults seen.faults
ClosedFor v (Err (error.Changed made path)) seen =
    (v.halt ≡ None) × Rose v.disk.refusals seen.refusals × IsMet v.dir (halt_at made path) sync_calls
ClosedFor v (Err other) seen = ⊥

-- The answer has its cause, no count has fallen, and each view went to the disk's `close`, whatever
-- the answer: one that had a fault has raised the count.
pub record ClosedBy (v : Shown) (answer : Result (Unit {0}) StoreError) (seen : Seen) : Type 0 where
  pub cause : ClosedFor v answer seen
  pub faults : v.disk.faults ≤ seen.faults
  pub refusals : v.disk.refusals ≤ seen.refusals
  pub views : (number : ℕ) (view : Viewed) → finmap.get v.kept.views number ≡ Some view → 0 < view.faults
      → Rose v.disk.faults seen.faults
