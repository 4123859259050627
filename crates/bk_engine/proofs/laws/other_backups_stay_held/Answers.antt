use Rattle.bk_engine.proofs.Others.{others_stay}
use Rattle.bk_engine.proofs.laws.other_backups_stay_held.Goals as goal

pub returns : goal.returns
returns c id backups story told small kept w = others_stay id small backups story told kept w
