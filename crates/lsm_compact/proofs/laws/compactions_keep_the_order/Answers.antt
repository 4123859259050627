use Rattle.lsm_compact.proofs.Levels.{orderly_after}
use Rattle.lsm_compact.proofs.laws.compactions_keep_the_order.Goals as goal

-- src/laws.rt:24:1
pub returns : goal.returns
returns c = orderly_after
