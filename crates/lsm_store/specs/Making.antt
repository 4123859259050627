-- Why a file isn't made.
use Rattle.std.specs.Prelude.{◌≡◌, List, ℕ, Err}
use Rattle.lsm_disk.specs.State.{Seen, created}
use Rattle.lsm_disk.specs.Refusals.{no_room}
use Rattle.lsm_disk.specs.Answers.{Makes, Allowed, LeftBy, Answers}
use Rattle.lsm_disk.specs.Halts.{halt_at}
use Rattle.lsm_disk.specs.declared.calls.DiskCall.TheVariants.{Create}
use Rattle.lsm_disk.specs.declared.calls.DiskRefusal.{DiskRefusal}

-- The refused call is the making of this file. A fault has made it or not; any other refusal has not, and comes as the disk has
-- it.
pub record IsNotMade (path : List ℕ) (old new : Seen) (r : DiskRefusal) : Type 0 where
  pub at : r.at ≡ halt_at Create path
  pub left : LeftBy (new.told ≡ old.told) (Allowed (no_room path) old.told × Makes old.told (created path) new.told) r.why
  pub answer : Answers {T = Unit {0}} (no_room path) old (Err r.why)
