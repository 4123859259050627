use Rattle.bk_shared.proofs.Firsts.{each_agrees}
use Rattle.bk_shared.proofs.laws.metas_agree.Goals as goal

pub returns : goal.returns
returns c = each_agrees
