use Rattle.bk_tree.proofs.Holding.{held_agrees}
use Rattle.bk_tree.proofs.laws.held_by_reached_paths.Goals as goal

pub returns : goal.returns
returns c = held_agrees
