use Rattle.std.proofs.Common.{arith}
use Rattle.lsm_names.proofs.PathLemmas.{path_is_ascii}
use Rattle.lsm_names.proofs.paths.Path.as_str.Goals as goal

pub as_str-requires : goal.as_str-requires
as_str-requires c = (omega arith, path_is_ascii c.self.inside.text c.self.invariant)
