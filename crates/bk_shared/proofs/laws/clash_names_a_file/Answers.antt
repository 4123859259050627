use Rattle.bk_shared.proofs.Firsts.{clash_named}
use Rattle.bk_shared.proofs.laws.clash_names_a_file.Goals as goal

pub returns : goal.returns
returns c = clash_named
