use Rattle.bk_engine.proofs.Others.{other_stays}
use Rattle.bk_engine.proofs.laws.other_backups_stay.Goals as goal

pub returns : goal.returns
returns c id meta texts story told small ne kept w = other_stays id small meta texts kept.lawful ne story told kept w
