use Rattle.bk_meta.proofs.RoundLemmas.{printed}
use Rattle.bk_meta.proofs.laws.printed_meta_is_read.Goals as goal

pub returns : goal.returns
returns c = printed
