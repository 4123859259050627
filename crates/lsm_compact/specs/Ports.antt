-- What a call of a compaction leaves of its port.
use Rattle.std.specs.Prelude.{◌≡◌, ℕ, ◌≤◌, List, Option, Some}
use Rattle.lsm_io.specs.Causes.{Rose}
use Rattle.lsm_rows.specs.declared.rows.Row.{Row}
use Rattle.lsm_disk.specs.declared.calls.DiskRefusal.{DiskRefusal}
use Rattle.lsm_disk.specs.declared.calls.DiskError.TheVariants.{Fault}
use Rattle.lsm_table.specs.declared.faults.TableFault.TheVariants.{ReadFault}
use Rattle.lsm_compact.specs.declared.port.PortFault.{PortFault}
use Rattle.lsm_compact.specs.declared.port.PortFault.TheVariants.{Table, Disk}

-- Its tables tell the same rows. The count of faults never falls, and it rose where the fault that is named came from the
-- outside.
pub record IsKept {P : Type 0} (told : P → Option (ℕ → List Row)) (faults : P → ℕ) (old new : P)
    (fault : Option PortFault) : Type 0 where
  pub rows : told new ≡ told old
  pub later : faults old ≤ faults new
  pub read : (number : ℕ) → fault ≡ Some (Table number ReadFault) → Rose (faults old) (faults new)
  pub disk : (refusal : DiskRefusal) → fault ≡ Some (Disk refusal) → refusal.why ≡ Fault → Rose (faults old) (faults new)
