use Rattle.std.proofs.Common.{refl}
use Rattle.lsm_compact.proofs.UnderWay.{new_is}
use Rattle.lsm_compact.proofs.compaction.Compaction.new.Goals as goal

pub returns : goal.returns
returns c = new_is c.args.version.now c.args.choice _ c.as_slice.result.now c.in_ok-reader.ensures.sound c.as_slice.ensures
    c.in_ok-reader.ensures.contents refl c.new-3.ensures.stage
    c.in_ok-deeper.ensures refl c.new-3.ensures.level c.new-3.ensures.writing
