use Rattle.std.proofs.Common.{take}
use Rattle.std.specs.Prelude.{min}
use Rattle.lsm_memtable.specs.Flushes.{bytes_of}
use Rattle.lsm_memtable.proofs.Progresses.{handed_bytes, progress_handed}
use Rattle.lsm_memtable.proofs.progress.Progress.hand_out.Goals as goal

pub returns-clause-progress : goal.returns-clause-progress
returns-clause-progress c =
    λ rows was.
    let p = c.args.self.now in
    progress_handed p c.ended_bytes.new.builder rows c.ended_bytes.result was c.requires (c.ended_bytes.ensures.built (take p.built rows) (bytes_of rows (min p.built p.taken)) was.built_is)
    (c.ended_bytes.ensures.all (take p.built rows) (bytes_of rows (min p.built p.taken)) was.built_is) c.ended_bytes.ensures.size

pub returns-clause-bytes : goal.returns-clause-bytes
returns-clause-bytes c =
    λ rows was.
    let p = c.args.self.now in
    handed_bytes p rows c.ended_bytes.result was c.requires (c.ended_bytes.ensures.all (take p.built rows) (bytes_of rows (min p.built p.taken)) was.built_is)
