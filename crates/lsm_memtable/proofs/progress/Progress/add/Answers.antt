use Rattle.std.proofs.Common.{◌++◌, ◌∷◌, [], take}
use Rattle.std.specs.Prelude.{min}
use Rattle.lsm_memtable.specs.Flushes.{bytes_of}
use Rattle.lsm_memtable.proofs.Pushes.{always_err}
use Rattle.lsm_memtable.proofs.Progresses.{progress_added, progress_dropped, progress_refused}
use Rattle.lsm_memtable.proofs.progress.Progress.add.Goals as goal

pub returns-in_err-add-clause-err : goal.returns-in_err-add-clause-err
returns-in_err-add-clause-err c =
    λ rows was.
    let p = c.args.self.now in
    always_err c.from_residual.result (progress_refused p c.add.new.self rows was (c.in_err-add.ensures.err (take p.built rows) (bytes_of rows (min p.built p.taken)) was.built_is))

pub returns-then-self-clause-ok : goal.returns-then-self-clause-ok
returns-then-self-clause-ok c =
    λ rows was at.
    let p = c.args.self.now in
    let added = c.in_ok-add.ensures.ok (take p.built rows) (bytes_of rows (min p.built p.taken)) was.built_is in
    progress_dropped p c.add.new.self c.ended_bytes-handed_out_before.new.builder rows c.args.row.now c.ended_bytes-handed_out_before.result was at c.in_ok-add.ensures.grown
    (c.ended_bytes-handed_out_before.ensures.built (take p.built rows ++ c.args.row.now ∷ []) (bytes_of rows (min p.built p.taken)) added)
    (c.ended_bytes-handed_out_before.ensures.all (take p.built rows ++ c.args.row.now ∷ []) (bytes_of rows (min p.built p.taken)) added)
    c.ended_bytes-handed_out_before.ensures.size c.if-self.true

pub returns-else-self-clause-ok : goal.returns-else-self-clause-ok
returns-else-self-clause-ok c =
    λ rows was at.
    let p = c.args.self.now in
    progress_added p c.add.new.self rows c.args.row.now was at (c.in_ok-add.ensures.ok (take p.built rows) (bytes_of rows (min p.built p.taken)) was.built_is) c.in_ok-add.ensures.grown c.if-self.false
