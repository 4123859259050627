use Rattle.std.proofs.Common.{◌-◌, length}
use Rattle.lsm_block.proofs.Readings.{AreRead}
use Rattle.lsm_block.proofs.reading.read_entries.Given as goal

abbrev pub invariant-loop-restarts : goal.invariant-loop-restarts
invariant-loop-restarts l = AreRead l.bytes l.entries.items l.end l.restarts

abbrev pub decreases-loop-restarts : goal.decreases-loop-restarts
decreases-loop-restarts l = length l.bytes - l.end
