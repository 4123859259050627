-- How a state's counts go with its lists, and which answers make batches durable.
use Rattle.std.specs.Prelude.{◌≡◌, ℕ, ◌≤◌, true, false, List, length, All, Option, Some, None, Ok}
use Rattle.lsm_rows.specs.declared.operations.Op.{Op}
use Rattle.lsm_model.specs.declared.events.Event.{Event}
use Rattle.lsm_model.specs.declared.events.Event.TheVariants as event
use Rattle.lsm_model.specs.declared.replies.Reply.{Reply}
use Rattle.lsm_model.specs.declared.replies.Reply.TheVariants as reply
use Rattle.lsm_model.specs.declared.states.State.{State}
use Rattle.lsm_model.specs.declared.states.Pin.{Pin}
use Rattle.lsm_model.specs.declared.states.FolderRead.{FolderRead}
use Rattle.lsm_model.specs.States.{folder_of}

-- the folder that is begun, where one is, is among these, and isn't sure: a crash may take it away
abbrev pub IsThere : List FolderRead → Option (List ℕ) → Type 0
IsThere folders None = Unit {0}
IsThere folders (Some dir) = (folder : FolderRead) × (folder_of dir folders ≡ Some folder) × (folder.sure ≡ false)

-- No more batches are durable than are accepted. Each pin has a number that was given, and a front of the accepted batches.
-- The folder that is begun is there, and isn't sure.
pub record IsCounted (s : State) : Type 0 where
  pub durable : s.durable ≤ length s.accepted
  pub numbers : All (λ (pin : Pin). pin.number ≤ s.greatest_pin) s.pins
  pub fronts : All (λ (pin : Pin). pin.batches ≤ length s.accepted) s.pins
  pub begun : IsThere s.folders s.begun

-- what makes all accepted batches durable: a write with `sync`, or a sync of the log, that is answered Ok
pub data IsSynced (e : Event) (r : Reply) : Type 0 where
  Wrote : (ops : List Op) (last : ℕ) → e ≡ event.Write ops true → r ≡ reply.Write (Ok last) → IsSynced e r
  Synced : e ≡ event.SyncLog → r ≡ reply.SyncLog (Ok tt) → IsSynced e r
