-- The destination while a folder is restored.
use Rattle.std.specs.Prelude.{◌≡◌, ◌≢◌, All, Some, None}
use Rattle.lsm_names.specs.declared.file_names.FileName.{FileName}
use Rattle.lsm_disk.specs.Dest.{Begun, DestSeen, IsPartName}
pub use Rattle.bk_copy.specs.InHand.{HasInHand, Builds}

-- this folder is begun, and no file is in hand
pub record IsReady (begun : Begun) (seen : DestSeen) : Type 0 where
  pub halt : seen.halt ≡ None
  pub begun_is : seen.begun ≡ Some begun
  pub hand : seen.hand ≡ None

-- the name is that of a new file of the begun folder
pub record IsNewName (begun : Begun) (name : FileName) : Type 0 where
  pub part : IsPartName name
  pub new : All (λ other. name ≢ other) begun.names
