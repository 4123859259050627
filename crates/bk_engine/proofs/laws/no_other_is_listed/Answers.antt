use Rattle.bk_engine.proofs.Others.{stays_unlisted}
use Rattle.bk_engine.proofs.laws.no_other_is_listed.Goals as goal

pub returns : goal.returns
returns c id other story told small little ne none w = stays_unlisted id other small little ne story told none w
