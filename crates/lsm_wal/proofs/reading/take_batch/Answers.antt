use Rattle.std.proofs.Common.{refl, subst}
use Rattle.lsm_rows.specs.Decoding.{IsBad}
use Rattle.lsm_wal.proofs.Following.{is_none}
use Rattle.lsm_wal.proofs.reading.take_batch.Goals as goal

pub returns-in-Err-BadBatch-clause-bad : goal.returns-in-Err-BadBatch-clause-bad
returns-in-Err-BadBatch-clause-bad c = (refl, is_none c.args.text.now c.in-Err-BadBatch.field-0-0 (subst (IsBad c.args.text.now) c.in-Err-BadBatch.field-0-is c.in-Err-BadBatch.ensures.bad))
