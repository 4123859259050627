-- What the lines of a run work on, and how it stands where a run has come.
use Rattle.std.specs.Prelude.{◌≡◌, ◌≤◌, IsTrue, IsSome, Option}
use Rattle.lsm_disk.specs.State.{Story}
use Rattle.ldb_script.specs.Plain.{Start, Outcome}
use Rattle.ldb_script.specs.Stored.{Shown, Stands}
use Rattle.ldb_script.specs.Vaults.{Vault, Backs}
use Rattle.ldb_script.specs.Opening.{SeenStay, ByOneLine}
use Rattle.ldb_script.specs.Run.{Stream}

-- the store, the backups and the clock, as they are seen
pub record Tools : Type 0 where
  pub store : Shown
  pub backups : Vault
  pub clock : Stream

abbrev pub tools : Shown → Vault → Stream → Tools
tools store backups clock = record { store = store; backups = backups; clock = clock }

-- what a run began with: what the two disks told, and what the plain state keeps of the start
pub record Origin : Type 0 where
  pub store : Option Story
  pub backups : Option Story
  pub start : Start

-- Where a run of lines has come, all three stand so; and the backups' disk told at the start, where both disks are to tell.
pub record AreAt (origin : Origin) (tools : Tools) (outcome : Outcome) : Type 0 where
  pub store : Stands origin.store tools.store outcome
  pub backups : Backs origin.backups tools.backups outcome.after
  pub clock : tools.clock.bytes ≡ outcome.after.times
  pub start : outcome.after.start ≡ origin.start
  pub told : IsTrue origin.start.tells → IsSome origin.backups

-- what one line leaves of them at most: no count falls, and the store has so much more
pub record ByLine (old new : Tools) : Type 0 where
  pub store : ByOneLine old.store new.store
  pub backups : SeenStay old.backups.disk new.backups.disk
  pub clock : old.clock.faults ≤ new.clock.faults
