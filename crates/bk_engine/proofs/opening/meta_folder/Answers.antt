use Rattle.bk_engine.proofs.Openings.{metas_is_path}
use Rattle.bk_engine.proofs.opening.meta_folder.Goals as goal

pub unwrap-requires : goal.unwrap-requires
unwrap-requires c = c.parse.ensures.exactly.1 metas_is_path
