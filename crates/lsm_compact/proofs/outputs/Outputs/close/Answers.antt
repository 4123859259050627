use Rattle.std.proofs.Common.{sym, subst, Option}
use Rattle.lsm_compact.specs.declared.port.PortFault.{PortFault}
use Rattle.lsm_compact.specs.Calls.{files_after}
use Rattle.lsm_compact.specs.Writing.{Goes, fault_in}
use Rattle.lsm_compact.proofs.Stages.{no_more}
use Rattle.lsm_compact.proofs.Writes.{and_then, no_call}
use Rattle.lsm_compact.proofs.outputs.Outputs.close.Goals as goal

pub returns-in-Ok-append_tail-clause-goes : goal.returns-in-Ok-append_tail-clause-goes
returns-in-Ok-append_tail-clause-goes g c = λ over next start calls written leads may led w.
    let mid = c.end.ensures.writing over next (files_after calls) written leads may w in
    let tail = c.in-Ok-append_tail.ensures.goes next start calls written led mid in
    and_then g.P.TablePort.went start calls c.append_tail.new.port c.seal.new.port next next c.append_tail.new.self
    c.seal.new.self written written
    (fault_in c.seal.result) tail (c.seal.ensures.goes next start _ written tail.led tail.writing)

pub returns-in-Ok-append_tail-clause-rows : goal.returns-in-Ok-append_tail-clause-rows
returns-in-Ok-append_tail-clause-rows g c =
    no_more c.args.self.now.stage c.append_tail.new.self.stage c.seal.new.self.stage
    (no_more c.args.self.now.stage c.end.new.self.stage c.append_tail.new.self.stage c.end.ensures.rows
    c.append_tail.ensures.rows)
    c.seal.ensures.rows

pub returns-in-Ok-append_tail-clause-sound : goal.returns-in-Ok-append_tail-clause-sound
returns-in-Ok-append_tail-clause-sound g c = λ over next leads may s.
    c.seal.ensures.sound next (c.append_tail.ensures.sound next (c.end.ensures.sound over next leads may s))

pub returns-in-Err-append_tail-clause-rows : goal.returns-in-Err-append_tail-clause-rows
returns-in-Err-append_tail-clause-rows g c =
    no_more c.args.self.now.stage c.end.new.self.stage c.append_tail.new.self.stage c.end.ensures.rows
    c.append_tail.ensures.rows

pub returns-in-Err-append_tail-clause-sound : goal.returns-in-Err-append_tail-clause-sound
returns-in-Err-append_tail-clause-sound g c = λ over next leads may s.
    c.append_tail.ensures.sound next (c.end.ensures.sound over next leads may s)

pub returns-in-Err-clause-goes : goal.returns-in-Err-clause-goes
returns-in-Err-clause-goes g c = λ over next start calls written leads may led w.
    subst (λ (f : Option PortFault). Goes g.P.TablePort.went start calls c.args.port.now next c.end.new.self written f)
    (sym c.in-Err.ensures.fault)
    (no_call g.P.TablePort.went start calls c.args.port.now next c.end.new.self written led
    (c.end.ensures.writing over next (files_after calls) written leads may w))
