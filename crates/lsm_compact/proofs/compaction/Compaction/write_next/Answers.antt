use Rattle.std.proofs.Common.{◌∙◌, None}
use Rattle.lsm_compact.proofs.Compacts.{begun_moved, kept_moved, kept_row, left_out}
use Rattle.lsm_compact.proofs.UnderWay.{begun_add, begun_sound, kept_sound}
use Rattle.lsm_compact.proofs.compaction.Compaction.write_next.Goals as goal

pub returns-then-leaves_out-clause-moved : goal.returns-then-leaves_out-clause-moved
returns-then-leaves_out-clause-moved g c =
    let k = kept_row c.args.self.now.kept c.requires.some in
    left_out g.P.TablePort.went g.P.TablePort.told c.args.port.now c.args.self.now k.0 k.1
    (c.leaves_out.ensures k.0 k.1 ∙ c.if-leaves_out.true)

pub write_kept-requires : goal.write_kept-requires
write_kept-requires g c = λ row kept.
    begun_add c.args.self.now c.requires.sound row kept c.begin.new.self.stage c.begin.ensures.sound c.begin.ensures.rows
    (c.in-Ok.ensures.begun c.requires.settled)

pub returns-in-Ok-clause-moved : goal.returns-in-Ok-clause-moved
returns-in-Ok-clause-moved g c =
    let k = kept_row c.args.self.now.kept c.requires.some in
    kept_moved g.P.TablePort.went g.P.TablePort.told c.args.port.now c.begin.new.port c.args.self.now
    (record c.args.self.now { outputs = c.begin.new.self }) c.write_kept.new.self k.0 c.write_kept.result
    (begun_moved g.P.TablePort.went g.P.TablePort.told c.args.port.now c.begin.new.port c.args.self.now None
    c.begin.ensures.port.rows c.begin.new.self k.0 k.1
    c.begin.ensures.level c.in-Ok.ensures.goes) k.1 (c.leaves_out.ensures k.0 k.1 ∙ c.if-leaves_out.false)
    c.write_kept.ensures.added c.write_kept.ensures.ok c.write_kept.ensures.err c.write_kept.ensures.fault

pub returns-in-Ok-clause-sound : goal.returns-in-Ok-clause-sound
returns-in-Ok-clause-sound g c =
    let k = kept_row c.args.self.now.kept c.requires.some in
    kept_sound (record c.args.self.now { outputs = c.begin.new.self }) c.write_kept.new.self k.0 c.write_kept.result
    (begun_sound c.args.self.now c.requires.sound k.0 k.1 c.begin.new.self
    (c.leaves_out.ensures k.0 k.1 ∙ c.if-leaves_out.false) c.begin.ensures.sound c.begin.ensures.rows) k.1
    c.write_kept.ensures.added c.write_kept.ensures.ok c.write_kept.ensures.err

pub returns-in-Err-clause-moved : goal.returns-in-Err-clause-moved
returns-in-Err-clause-moved g c =
    let k = kept_row c.args.self.now.kept c.requires.some in
    begun_moved g.P.TablePort.went g.P.TablePort.told c.args.port.now c.begin.new.port c.args.self.now _
    c.begin.ensures.port.rows c.begin.new.self k.0 k.1
    c.begin.ensures.level c.in-Err.ensures.goes

pub returns-in-Err-clause-sound : goal.returns-in-Err-clause-sound
returns-in-Err-clause-sound g c =
    let k = kept_row c.args.self.now.kept c.requires.some in
    begun_sound c.args.self.now c.requires.sound k.0 k.1 c.begin.new.self
    (c.leaves_out.ensures k.0 k.1 ∙ c.if-leaves_out.false) c.begin.ensures.sound c.begin.ensures.rows
