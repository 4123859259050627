use Rattle.bk_engine.proofs.OpeningLaws.{stays_unlisted}
use Rattle.bk_engine.proofs.opening_laws.no_backup_is_listed_by_an_opening.Goals as goal

pub returns : goal.returns
returns c id story told none w = stays_unlisted id story told none w
