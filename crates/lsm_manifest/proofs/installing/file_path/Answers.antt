use Rattle.std.proofs.Common.{arith, length, ap}
use Rattle.lsm_names.proofs.FileNameLemmas.{spelled_is_short}
use Rattle.lsm_manifest.proofs.installing.file_path.Goals as goal

pub unreachable-requires : goal.unreachable-requires
unreachable-requires c = let taken = c.in-Err.ensures.exactly.1 (omega (arith, c.requires.room, spelled_is_short c.args.name c.requires.name, ap length c.path.ensures)) in absurd (cc)
