use Rattle.bk_shared.proofs.TwoMetas.{clash_of_two, two_disagree}
use Rattle.bk_shared.proofs.laws.clash_is_of_two_metas.Goals as goal

pub returns-clause-two : goal.returns-clause-two
returns-clause-two c = clash_of_two

pub returns-clause-clash : goal.returns-clause-clash
returns-clause-clash c = two_disagree
