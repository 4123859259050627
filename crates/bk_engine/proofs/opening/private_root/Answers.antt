use Rattle.bk_engine.proofs.Openings.{own_is_path}
use Rattle.bk_engine.proofs.opening.private_root.Goals as goal

pub unwrap-requires : goal.unwrap-requires
unwrap-requires c = c.parse.ensures.exactly.1 own_is_path
