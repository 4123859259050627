-- How a store answers where a file isn't removed.
use Rattle.std.specs.Prelude.{ℕ, List, Option, Some, None}
use Rattle.lsm_names.specs.declared.file_names.FileName.{FileName}
use Rattle.lsm_disk.specs.Halts.{halt_at}
use Rattle.lsm_disk.specs.declared.calls.DiskCall.TheVariants.{Unlink}
use Rattle.lsm_disk.specs.declared.calls.DiskError.{DiskError}
use Rattle.lsm_disk.specs.declared.calls.DiskError.TheVariants.{Fault}
use Rattle.lsm_disk.specs.declared.calls.Halt.{Halt}
use Rattle.lsm_model.specs.declared.errors.StoreError.{StoreError}
use Rattle.lsm_model.specs.declared.errors.StoreError.TheVariants.{DiskFault, Missing}

-- a fault of the unlink halts the store, and nothing else does
abbrev pub fault_halt : List ℕ → DiskError → Option Halt
fault_halt path Fault = Some (halt_at Unlink path)
fault_halt path other = None

-- a fault is the disk's; whatever else refuses the unlink, the file isn't there
abbrev pub not_removed : FileName → DiskError → StoreError
not_removed name Fault = DiskFault
not_removed name other = Missing name
