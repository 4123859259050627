-- When a disk none of whose calls is made to fail answers a fault.
use Rattle.std.specs.Prelude.{◌≡◌, ◌-◌, ◌^◌, ◌≤◌, length, Result, Err, IfSome}
use Rattle.lsm_disk.specs.State.{Seen}
use Rattle.lsm_disk.specs.declared.calls.DiskError.{DiskError}
use Rattle.lsm_disk.specs.declared.calls.DiskError.TheVariants.{Fault}

-- the clock stands at its last value: no change more can be recorded
abbrev pub IsAtEnd : Seen → Type 0
IsAtEnd seen = IfSome seen.told (λ story. 2 ^ 64 - 1 ≤ length story.log)

-- a call that changes something fails there alone
abbrev pub FaultsAtEnd : {T : Type 0} → Seen → Result T DiskError → Type 0
FaultsAtEnd seen result = result ≡ Err Fault → IsAtEnd seen

-- a call that changes nothing never fails
abbrev pub NeverFaults : {T : Type 0} → Result T DiskError → Type 0
NeverFaults result = result ≡ Err Fault → ⊥
