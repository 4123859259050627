-- How a store answers for a disk call that was refused.
use Rattle.std.specs.Prelude.{Option, Some, None}
use Rattle.lsm_disk.specs.declared.calls.Halt.{Halt}
use Rattle.lsm_disk.specs.declared.calls.DiskError.{DiskError}
use Rattle.lsm_disk.specs.declared.calls.DiskError.TheVariants as why
use Rattle.lsm_disk.specs.declared.calls.DiskRefusal.{DiskRefusal}
use Rattle.lsm_model.specs.declared.errors.StoreError.{StoreError}
use Rattle.lsm_model.specs.declared.errors.StoreError.TheVariants as error

abbrev pub halt_by : Halt → DiskError → Option Halt
halt_by at why.NoMemory = None
halt_by at other = Some at

-- the call that halts the store: the refused one, but that want of memory halts nothing
abbrev pub halt_of : DiskRefusal → Option Halt
halt_of r = halt_by r.at r.why

abbrev pub error_by : Halt → DiskError → StoreError
error_by at why.Fault = error.DiskFault
error_by at why.NoMemory = error.NoMemory
error_by at other = error.Changed at.call at.path

-- the answer: a fault is the disk's, memory is wanting, and any other refusal says that somebody
-- else changed the disk
abbrev pub error_of : DiskRefusal → StoreError
error_of r = error_by r.at r.why
