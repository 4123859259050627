use Rattle.lsm_refine.proofs.SettledLemmas.{one_image, left_settled, left_tree}
use Rattle.lsm_refine.proofs.life_laws.a_settled_disk_has_one_image.Goals as goal

pub returns-clause-one : goal.returns-clause-one
returns-clause-one c = one_image

pub returns-clause-settled : goal.returns-clause-settled
returns-clause-settled c = left_settled

pub returns-clause-tree : goal.returns-clause-tree
returns-clause-tree c = left_tree
