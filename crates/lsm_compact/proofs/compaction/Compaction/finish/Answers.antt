use Rattle.std.proofs.Common.{refl, true, ◌∙◌, None}
use Rattle.lsm_version.specs.declared.edits.Edit.{Edit}
use Rattle.lsm_compact.proofs.Compacts.{closed_moved, ended, moved_refused}
use Rattle.lsm_compact.proofs.UnderWay.{closed_sound, ends, finished_sound, may_end}
use Rattle.lsm_compact.proofs.compaction.Compaction.finish.Goals as goal

pub close-requires : goal.close-requires
close-requires g c = ends c.args.self.now c.requires.sound c.requires.end c.requires.settled

pub returns-in-Ok-drops_of-clause-ok : goal.returns-in-Ok-drops_of-clause-ok
returns-in-Ok-drops_of-clause-ok g c =
    ended g.P.TablePort.went g.P.TablePort.told c.args.port.now c.close.new.port c.args.self.now c.close.new.self
    c.take_adds.new.self _ c.close.ensures.port.rows c.requires.end c.close.ensures.level c.in-Ok.ensures.closed
    (c.in-Ok-drops_of.ensures ∙ c.as_slice.ensures) refl refl refl
    (λ over start calls written led w. c.in-Ok.ensures.goes over true start calls written (λ _. refl)
    (may_end c.args.self.now.outputs.stage) led w) c.take_adds.ensures.whole

pub returns-in-Ok-drops_of-clause-sound : goal.returns-in-Ok-drops_of-clause-sound
returns-in-Ok-drops_of-clause-sound g c =
    finished_sound c.args.self.now c.requires.sound c.take_adds.new.self c.requires.end
    (c.take_adds.ensures.stage ∙ c.in-Ok.ensures.closed)

pub returns-in-Err-drops_of-clause-err : goal.returns-in-Err-drops_of-clause-err
returns-in-Err-drops_of-clause-err g c =
    closed_moved g.P.TablePort.went g.P.TablePort.told c.args.port.now c.close.new.port c.args.self.now None
    c.close.ensures.port.rows c.close.new.self c.requires.end
    c.close.ensures.level
    (λ over start calls written led w. c.in-Ok.ensures.goes over true start calls written (λ _. refl)
    (may_end c.args.self.now.outputs.stage) led w)

pub returns-in-Err-drops_of-clause-sound : goal.returns-in-Err-drops_of-clause-sound
returns-in-Err-drops_of-clause-sound g c =
    closed_sound c.args.self.now c.requires.sound c.close.new.self c.requires.end c.close.ensures.sound c.close.ensures.rows

pub returns-in-Err-clause-err : goal.returns-in-Err-clause-err
returns-in-Err-clause-err g c =
    moved_refused g.P.TablePort.went g.P.TablePort.told (Unit {0}) Edit c.args.port.now c.close.new.port c.args.self.now
    (record c.args.self.now { outputs = c.close.new.self }) c.in-Err.fault 0
    (closed_moved g.P.TablePort.went g.P.TablePort.told c.args.port.now c.close.new.port c.args.self.now _
    c.close.ensures.port.rows c.close.new.self c.requires.end
    c.close.ensures.level
    (λ over start calls written led w. c.in-Err.ensures.goes over true start calls written (λ _. refl)
    (may_end c.args.self.now.outputs.stage) led w))

pub returns-in-Err-clause-sound : goal.returns-in-Err-clause-sound
returns-in-Err-clause-sound g c =
    closed_sound c.args.self.now c.requires.sound c.close.new.self c.requires.end c.close.ensures.sound c.close.ensures.rows
