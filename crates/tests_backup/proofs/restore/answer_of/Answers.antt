use Rattle.std.proofs.Common.{arith}
use Rattle.tests_backup.proofs.restore.answer_of.Goals as goal

pub restore-requires-after_bounds : goal.restore-requires-after_bounds
restore-requires-after_bounds c κs = c.read_meta_is_printed.ensures.meta 1 _ c.in-Ok.meta (omega arith) (omega arith) c.in-Ok.ensures.ok
