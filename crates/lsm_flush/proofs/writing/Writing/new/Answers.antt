use Rattle.lsm_flush.proofs.Writes.{begun_writing}
use Rattle.lsm_flush.proofs.writing.Writing.new.Goals as goal

pub invariant_of-result : goal.invariant_of-result
invariant_of-result c =
    begun_writing c.new.result c.args.rows c.args.number c.args.session c.new.ensures.flush c.new.ensures.left c.requires
