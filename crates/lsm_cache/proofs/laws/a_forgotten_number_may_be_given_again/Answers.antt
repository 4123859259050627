use Rattle.lsm_cache.proofs.Keeping.{forgotten_are}
use Rattle.lsm_cache.proofs.laws.a_forgotten_number_may_be_given_again.Goals as goal

pub returns : goal.returns
returns c = forgotten_are
