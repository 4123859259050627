use Rattle.std.proofs.Common.{◌-◌}
use Rattle.lsm_manifest.proofs.Following.{Going}
use Rattle.lsm_manifest.proofs.reading.read_all.Given as goal

abbrev pub invariant-loop-edits : goal.invariant-loop-edits
invariant-loop-edits g l = Going l.fn.reader l.reader l.edits

abbrev pub decreases-loop-edits : goal.decreases-loop-edits
decreases-loop-edits g l = l.reader.viewed.len - l.reader.given
