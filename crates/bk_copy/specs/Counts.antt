-- Counts of faults and refusals.
use Rattle.std.specs.Prelude.{◌≤◌}
use Rattle.lsm_disk.specs.State.{Seen}

-- no count has fallen
pub record AreLater (old new : Seen) : Type 0 where
  pub faults : old.faults ≤ new.faults
  pub refusals : old.refusals ≤ new.refusals
