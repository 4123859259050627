-- A run whose source was read to its end makes its writes durable.
use Rattle.std.specs.Prelude.{◌≡◌, ◌≤◌, Option, Ok, Err}
use Rattle.std.proofs.Common.{sym, subst, arith}
use Rattle.std.proofs.Common.{refl}
use Rattle.lsm_disk.specs.State.{Story}
use Rattle.ldb_script.specs.Plain.{Outcome}
use Rattle.ldb_script.specs.Vaults.{Vault}
use Rattle.ldb_script.specs.Tools.{Origin, tools}
use Rattle.ldb_script.proofs.Keeping.{at_rest}
use Rattle.ldb_script.specs.Stored.{Shown, Stands}
use Rattle.ldb_script.specs.Opening.{Syncs, made_durable}
use Rattle.ldb_script.specs.Run.{Stream, Met, now}
use Rattle.ldb_script.specs.Doing.{Closed, LastOr, IsOver, IsClosed, broken_end}
use Rattle.lsm_io.specs.Causes.{Rose}
use Rattle.ldb_script.specs.declared.ending.Ended.{Ended}
use Rattle.ldb_script.specs.declared.ending.Ended.TheVariants as ended
use Rattle.ldb_script.specs.declared.store.StoreError.{StoreError}
use Rattle.ldb_script.specs.declared.store.StoreError.TheVariants as store_errors

module _ (origin : Origin) (first : Met) (source sink : Stream) (old new : Shown) (backups : Vault) (clock : Stream) (over : IsOver origin (now first source sink old.disk backups.disk clock) (tools old backups clock)) where
  closed : ((start : Option Story) (outcome : Outcome) → Stands start old outcome → LastOr start old new outcome ended.Finished) → IsClosed origin (now first source sink new.disk backups.disk clock) (tools new backups clock)
  closed syncs = record {
    bytes = over.bytes;
    read = over.read;
    at_end = over.at_end;
    few = over.few;
    outcome = over.outcome;
    output = over.output;
    written = over.written;
    stands = at_rest origin (tools old backups clock) (tools new backups clock) over.outcome (made_durable over.outcome) refl refl (record { backups = refl; given = refl; start = refl; times = refl }) over.stands
        (syncs origin.store over.outcome over.stands.store);
  }

  -- the disk refuses the sync; its counts rose in the run, then, or before
  module _ (before : first.disk_before.faults ≤ old.disk.faults) (refused_before : first.disk_before.refusals ≤ old.disk.refusals) where
    abbrev Ends : Ended → Type 0
    Ends = Closed origin (now first source sink new.disk backups.disk clock) (tools new backups clock)

    pub closed_by : (e : Ended) → ((start : Option Story) (outcome : Outcome) → Stands start old outcome → LastOr start old new outcome e) → Ends e
    closed_by ended.Finished synced = closed synced
    closed_by ended.DiskFault synced = let rose : Rose old.disk.faults new.disk.faults = synced origin.store over.outcome over.stands.store in omega (arith, before, rose)
    closed_by (ended.Changed call path) synced = let h = synced origin.store over.outcome over.stands.store in (omega (arith, refused_before, h.0), h.1)
    closed_by ended.NoMemory synced = tt
    closed_by (ended.BadLine number) synced = absurd (synced origin.store over.outcome over.stands.store)
    closed_by ended.ReadFault synced = absurd (synced origin.store over.outcome over.stands.store)
    closed_by ended.WriteFault synced = absurd (synced origin.store over.outcome over.stands.store)
    closed_by ended.BackupFault synced = absurd (synced origin.store over.outcome over.stands.store)
    closed_by ended.ClockFault synced = absurd (synced origin.store over.outcome over.stands.store)
    closed_by ended.Found synced = absurd (synced origin.store over.outcome over.stands.store)
    closed_by (ended.InTheWay why) synced = absurd (synced origin.store over.outcome over.stands.store)
    closed_by (ended.BackupChanged call path) synced = absurd (synced origin.store over.outcome over.stands.store)
    closed_by (ended.RestoreChanged call path) synced = absurd (synced origin.store over.outcome over.stands.store)

-- what a last sync answers
pub last_synced : (start : Option Story) (old new : Shown) (outcome : Outcome) → Syncs start old new outcome (Ok tt) → LastOr start old new outcome ended.Finished
last_synced start old new outcome h = h

pub last_broken : (start : Option Story) (old new : Shown) (outcome : Outcome) (error : StoreError) (e : Ended) → e ≡ broken_end error → Syncs start old new outcome (Err error) → LastOr start old new outcome e
last_broken start old new outcome store_errors.DiskFault e is h = subst (LastOr start old new outcome) (sym is) h
last_broken start old new outcome (store_errors.Changed call path) e is h = subst (LastOr start old new outcome) (sym is) h
last_broken start old new outcome store_errors.NoMemory e is h = subst (LastOr start old new outcome) (sym is) tt
