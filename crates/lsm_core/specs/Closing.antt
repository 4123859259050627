-- Views that a disk takes back.
use Rattle.std.specs.Prelude.{◌≡◌, ℕ, ◌<◌, ◌≤◌, Some}
use Rattle.std.specs.Ordering.{nat_cmp}
use Rattle.std.specs.FinMap as finmap
use Rattle.lsm_io.specs.Causes.{Rose}
use Rattle.lsm_disk.specs.State.{Seen}
use Rattle.lsm_disk.specs.Viewed.{Viewed}

-- The disk holds what it held and no count has fallen. Each view was handed back: one that had a
-- fault has raised the disk's count of faults.
pub record HasHandedBack (views : finmap.FinMap nat_cmp Viewed) (old new : Seen) : Type 0 where
  pub told : new.told ≡ old.told
  pub faults : old.faults ≤ new.faults
  pub refusals : old.refusals ≤ new.refusals
  pub each : (number : ℕ) (view : Viewed) → finmap.get views number ≡ Some view → 0 < view.faults → Rose old.faults new.faults
