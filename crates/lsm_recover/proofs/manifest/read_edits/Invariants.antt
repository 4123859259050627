use Rattle.std.proofs.Common.{◌-◌}
use Rattle.lsm_recover.proofs.ManifestLemmas.{ReadsOn}
use Rattle.lsm_recover.proofs.manifest.read_edits.Given as goal

abbrev pub invariant-loop-text : goal.invariant-loop-text
invariant-loop-text g l = ReadsOn l.name l.initial.reader l.reader l.stated

abbrev pub decreases-loop-text : goal.decreases-loop-text
decreases-loop-text g l = l.reader.viewed.len - l.reader.given
