use Rattle.bk_shared.proofs.Firsts.{no_clash, one_clash}
use Rattle.bk_shared.proofs.laws.first_clash_is_one.Goals as goal

pub returns-clause-none : goal.returns-clause-none
returns-clause-none c = no_clash

pub returns-clause-one : goal.returns-clause-one
returns-clause-one c = one_clash
