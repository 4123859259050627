-- A disk from which a crash takes nothing.
use Rattle.std.specs.Prelude.{◌≡◌, Bool, [], map, All}
use Rattle.lsm_disk.specs.State.{FileState, State}
use Rattle.lsm_disk.specs.Images.{Tree}
use Rattle.lsm_disk.specs.Building.{sealed}

-- no operation on names is pending, and every file is wholly synced
pub record IsSettled (d : State) : Type 0 where
  pub names : d.pending ≡ []
  pub files : All (λ (f : FileState). f.unsynced ≡ []) d.files

-- the disk that is opened after a crash that left this tree: all of it is durable
abbrev pub left_by : Bool → Tree → State
left_by links t = record { durable = t.names; pending = []; files = map sealed t.contents; links = links }
