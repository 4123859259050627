use Rattle.lsm_cache.specs.Getting.{IsAnswerOf}
use Rattle.lsm_cache.proofs.Gettings.{answer_refused}
use Rattle.lsm_cache.proofs.getting.answer_of.Goals as goal

pub returns-in_err-row_of : goal.returns-in_err-row_of
returns-in_err-row_of c = answer_refused c.args.block.now c.args.key.now c.from_residual.result c.from_residual.ensures

pub returns : goal.returns
unfolding IsAnswerOf
returns c = c.in_ok-row_of.ensures
