-- The copy of one file onto the backup disk.
use Rattle.std.specs.Prelude.{ℕ, List}
use Rattle.lsm_disk.specs.State.{State}
use Rattle.lsm_disk.specs.Kept.{IsFileNow}
pub use Rattle.bk_copy.specs.Copying.{IsCopyOf, IsSameView}
pub use Rattle.bk_copy.specs.OnDisk.{Whatever, Anything, IsFilled}
use Rattle.bk_tree.specs.Kept.{all_synced}

-- the name leads to this file now, which has these bytes, all of them synced
abbrev pub IsSealed : List ℕ → ℕ → List ℕ → State → Type 0
IsSealed path id text s = IsFileNow s path id (all_synced text)
