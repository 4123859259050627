use Rattle.std.proofs.Common.{true}
use Rattle.lsm_compact.specs.Writing.{fault_in}
use Rattle.lsm_compact.proofs.Stages.{no_more}
use Rattle.lsm_compact.proofs.Writes.{and_then}
use Rattle.lsm_compact.proofs.outputs.Outputs.settle.Goals as goal

pub end_full-requires-clause-sound : goal.end_full-requires-clause-sound
end_full-requires-clause-sound g c = c.append_piece.ensures.sound true c.requires

pub returns-in-Ok-clause-goes : goal.returns-in-Ok-clause-goes
returns-in-Ok-clause-goes g c = λ over start calls written led w.
    let piece = c.in-Ok.ensures.goes over start calls written led w in
    and_then g.P.TablePort.went start calls c.append_piece.new.port c.end_full.new.port over over c.append_piece.new.self
    c.end_full.new.self written
    written (fault_in c.end_full.result) piece (c.end_full.ensures.goes over start _ written piece.led piece.writing)

pub returns-in-Ok-clause-rows : goal.returns-in-Ok-clause-rows
returns-in-Ok-clause-rows g c =
    no_more c.args.self.now.stage c.append_piece.new.self.stage c.end_full.new.self.stage c.append_piece.ensures.rows
    c.end_full.ensures.rows

pub returns-in-Ok-clause-sound : goal.returns-in-Ok-clause-sound
returns-in-Ok-clause-sound g c = λ over s. c.end_full.ensures.sound over (c.append_piece.ensures.sound over s)
