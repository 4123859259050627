use Rattle.bk_engine.proofs.StandingEmpty.{empty_stands}
use Rattle.bk_engine.proofs.standing.no_log_stands.Goals as goal

pub returns : goal.returns
returns c = empty_stands
