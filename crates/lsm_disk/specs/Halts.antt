-- Which disk call it was.
use Rattle.std.specs.Prelude.{◌≡◌, ◌⊎◌, ℕ, List, [], ◌∷◌}
use Rattle.lsm_disk.specs.declared.calls.DiskCall.{DiskCall}
use Rattle.lsm_disk.specs.declared.calls.Halt.{Halt}

abbrev pub halt_at : DiskCall → List ℕ → Halt
halt_at call path = record { call = call; path = path }

-- it is one of these
abbrev pub IsAmong : Halt → List Halt → Type 0
IsAmong at [] = ⊥
IsAmong at (other ∷ others) = (at ≡ other) ⊎ IsAmong at others
