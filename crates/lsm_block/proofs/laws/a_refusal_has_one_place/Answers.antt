use Rattle.lsm_block.proofs.Readings.{refusal_once}
use Rattle.lsm_block.proofs.laws.a_refusal_has_one_place.Goals as goal

pub returns : goal.returns
returns c = refusal_once
