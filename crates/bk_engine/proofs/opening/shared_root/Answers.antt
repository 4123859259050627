use Rattle.bk_engine.proofs.Openings.{shared_is_path}
use Rattle.bk_engine.proofs.opening.shared_root.Goals as goal

pub unwrap-requires : goal.unwrap-requires
unwrap-requires c = c.parse.ensures.exactly.1 shared_is_path
