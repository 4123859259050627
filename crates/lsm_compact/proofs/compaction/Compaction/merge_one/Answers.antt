use Rattle.std.proofs.Common.{refl, Bool, None}
use Rattle.lsm_compact.proofs.Compacts.{any_moved, moved_refused, moved_then}
use Rattle.lsm_compact.proofs.UnderWay.{outputs_sound}
use Rattle.lsm_compact.proofs.compaction.Compaction.merge_one.Goals as goal

pub take_next-requires : goal.take_next-requires
take_next-requires g c = outputs_sound c.args.self.now c.requires c.settle.new.self c.settle.ensures.sound c.settle.ensures.rows

pub returns-in-Ok-write_next-clause-moved : goal.returns-in-Ok-write_next-clause-moved
returns-in-Ok-write_next-clause-moved g c =
    moved_then g.P.TablePort.went g.P.TablePort.told c.args.port.now c.take_next.new.port c.write_next.new.port c.args.self.now
    c.take_next.new.self c.write_next.new.self None 0 1 1 refl
    (moved_then g.P.TablePort.went g.P.TablePort.told c.args.port.now c.settle.new.port c.take_next.new.port c.args.self.now
    (record c.args.self.now { outputs = c.settle.new.self }) c.take_next.new.self None 0 0 0 refl
    (any_moved g.P.TablePort.went g.P.TablePort.told c.args.port.now c.settle.new.port c.args.self.now None
    c.settle.ensures.port.rows c.settle.new.self
    c.settle.ensures.level c.in-Ok.ensures.goes) c.in-Ok-true.ensures.moved)
    c.in-Ok-write_next.ensures.moved

pub returns-in-Err-write_next-clause-moved : goal.returns-in-Err-write_next-clause-moved
returns-in-Err-write_next-clause-moved g c =
    moved_refused g.P.TablePort.went g.P.TablePort.told (Unit {0}) Bool c.args.port.now c.write_next.new.port c.args.self.now
    c.write_next.new.self c.in-Err-write_next.fault 0
    (moved_then g.P.TablePort.went g.P.TablePort.told c.args.port.now c.take_next.new.port c.write_next.new.port c.args.self.now
    c.take_next.new.self c.write_next.new.self _ 0 0 0 refl
    (moved_then g.P.TablePort.went g.P.TablePort.told c.args.port.now c.settle.new.port c.take_next.new.port c.args.self.now
    (record c.args.self.now { outputs = c.settle.new.self }) c.take_next.new.self None 0 0 0 refl
    (any_moved g.P.TablePort.went g.P.TablePort.told c.args.port.now c.settle.new.port c.args.self.now None
    c.settle.ensures.port.rows c.settle.new.self
    c.settle.ensures.level c.in-Ok.ensures.goes) c.in-Ok-true.ensures.moved)
    c.in-Err-write_next.ensures.moved)

pub returns-in-Ok-false-clause-moved : goal.returns-in-Ok-false-clause-moved
returns-in-Ok-false-clause-moved g c =
    moved_then g.P.TablePort.went g.P.TablePort.told c.args.port.now c.settle.new.port c.take_next.new.port c.args.self.now
    (record c.args.self.now { outputs = c.settle.new.self }) c.take_next.new.self None 0 0 0 refl
    (any_moved g.P.TablePort.went g.P.TablePort.told c.args.port.now c.settle.new.port c.args.self.now None
    c.settle.ensures.port.rows c.settle.new.self
    c.settle.ensures.level c.in-Ok.ensures.goes) c.in-Ok-false.ensures.moved

pub returns-in-Err-take_next-clause-moved : goal.returns-in-Err-take_next-clause-moved
returns-in-Err-take_next-clause-moved g c =
    moved_then g.P.TablePort.went g.P.TablePort.told c.args.port.now c.settle.new.port c.take_next.new.port c.args.self.now
    (record c.args.self.now { outputs = c.settle.new.self }) c.take_next.new.self _ 0 0 0 refl
    (any_moved g.P.TablePort.went g.P.TablePort.told c.args.port.now c.settle.new.port c.args.self.now None
    c.settle.ensures.port.rows c.settle.new.self
    c.settle.ensures.level c.in-Ok.ensures.goes) c.in-Err-take_next.ensures.moved

pub returns-in-Err-clause-moved : goal.returns-in-Err-clause-moved
returns-in-Err-clause-moved g c =
    moved_refused g.P.TablePort.went g.P.TablePort.told (Unit {0}) Bool c.args.port.now c.settle.new.port c.args.self.now
    (record c.args.self.now { outputs = c.settle.new.self }) c.in-Err.fault 0
    (any_moved g.P.TablePort.went g.P.TablePort.told c.args.port.now c.settle.new.port c.args.self.now _
    c.settle.ensures.port.rows c.settle.new.self
    c.settle.ensures.level c.in-Err.ensures.goes)

pub returns-in-Err-clause-sound : goal.returns-in-Err-clause-sound
returns-in-Err-clause-sound g c =
    outputs_sound c.args.self.now c.requires c.settle.new.self c.settle.ensures.sound c.settle.ensures.rows
