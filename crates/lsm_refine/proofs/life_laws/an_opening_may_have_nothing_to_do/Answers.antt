use Rattle.lsm_refine.proofs.IdleLemmas.{idle_opened, new_idle}
use Rattle.lsm_refine.proofs.life_laws.an_opening_may_have_nothing_to_do.Goals as goal

pub returns-clause-idle : goal.returns-clause-idle
returns-clause-idle c = idle_opened

pub returns-clause-some : goal.returns-clause-some
returns-clause-some c = new_idle
