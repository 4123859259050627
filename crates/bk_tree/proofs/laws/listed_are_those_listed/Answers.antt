use Rattle.bk_tree.proofs.Listing.{each_is_listed, all_are_listed}
use Rattle.bk_tree.proofs.laws.listed_are_those_listed.Goals as goal

pub returns : goal.returns
returns c t id = (each_is_listed t id, all_are_listed t id)
