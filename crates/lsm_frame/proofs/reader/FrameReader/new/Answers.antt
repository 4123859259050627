use Rattle.lsm_frame.proofs.Agreeing.{agrees_new}
use Rattle.lsm_frame.proofs.reader.FrameReader.new.Goals as goal

pub invariant_of-result : goal.invariant_of-result
invariant_of-result g c = agrees_new _ _
