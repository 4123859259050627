use Rattle.lsm_compact.proofs.Stages.{can_end, may_end, same_stage}
use Rattle.lsm_compact.proofs.Writes.{no_call}
use Rattle.lsm_compact.proofs.outputs.Outputs.end_full.Goals as goal

pub returns-then-not-is_to_end-clause-goes : goal.returns-then-not-is_to_end-clause-goes
returns-then-not-is_to_end-clause-goes g c = λ over start calls written led w.
    no_call g.P.TablePort.went start calls c.args.port.now over c.args.self.now written led w

pub returns-then-not-is_to_end-clause-rows : goal.returns-then-not-is_to_end-clause-rows
returns-then-not-is_to_end-clause-rows g c = same_stage c.args.self.now.stage

pub close-requires : goal.close-requires
close-requires g c = can_end c.args.self.now.stage (c.is_to_end.ensures.yes c.if-not-is_to_end.false) c.requires.piece

pub returns-clause-goes : goal.returns-clause-goes
returns-clause-goes g c = λ over start calls written led w.
    c.close.ensures.goes over over start calls written (λ is. is)
    (may_end over c.args.self.now.stage (c.is_to_end.ensures.yes c.if-not-is_to_end.false)) led w

pub returns-clause-sound : goal.returns-clause-sound
returns-clause-sound g c = λ over s.
    c.close.ensures.sound over over (λ is. is)
    (may_end over c.args.self.now.stage (c.is_to_end.ensures.yes c.if-not-is_to_end.false)) s
