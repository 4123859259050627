use Rattle.std.proofs.Common.{refl}
use Rattle.lsm_compact.specs.declared.outputs.Stage.TheVariants.{Closed}
use Rattle.lsm_compact.proofs.Stages.{none_now, same_stage}
use Rattle.lsm_compact.proofs.Ports.{unmoved}
use Rattle.lsm_compact.proofs.Writes.{no_call, not_sealing, seal_ok, seal_err}
use Rattle.lsm_compact.proofs.outputs.Outputs.seal.Goals as goal

pub returns-in-Ok-clause-goes : goal.returns-in-Ok-clause-goes
returns-in-Ok-clause-goes g c = λ over start calls written led w.
    seal_ok g.P.TablePort.went start calls c.seal.new.self over c.args.self.now written w c.in-Sealing.number c.seal.result
    (c.seal.ensures.went start calls led) c.in-Ok.field-0 c.in-Ok.is c.in-Sealing.is

pub returns-in-Err-clause-goes : goal.returns-in-Err-clause-goes
returns-in-Err-clause-goes g c = λ over start calls written led w.
    seal_err g.P.TablePort.went start calls c.seal.new.self over c.args.self.now written w c.in-Sealing.number c.seal.result
    (c.seal.ensures.went start calls led) c.in-Err.fault c.in-Err.is

pub returns-in_default : goal.returns-in_default
returns-in_default g c = record {
  goes = λ over start calls written led w. no_call g.P.TablePort.went start calls c.args.port.now over c.args.self.now
      written led w;
  closed = not_sealing c.args.self.now.stage c.in_default.not-Sealing;
  rows = same_stage c.args.self.now.stage;
  sound = λ over s. s;
  port = unmoved g.P.TablePort.told g.P.TablePort.faults c.args.port.now;
  level = refl;
}

pub returns-in-Ok-clause-rows : goal.returns-in-Ok-clause-rows
returns-in-Ok-clause-rows g c = none_now c.args.self.now.stage Closed refl tt

pub returns-in-Err-clause-rows : goal.returns-in-Err-clause-rows
returns-in-Err-clause-rows g c = same_stage c.args.self.now.stage
