use Rattle.bk_engine.proofs.StandingBackups.{backup_stands}
use Rattle.bk_engine.proofs.standing.plain_backup_stands.Goals as goal

pub returns : goal.returns
returns c = backup_stands
