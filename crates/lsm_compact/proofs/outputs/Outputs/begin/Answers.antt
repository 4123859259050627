use Rattle.std.proofs.Common.{refl, sym, ap, subst, ◌∙◌, None, [], true, false}
use Rattle.lsm_compact.specs.declared.outputs.Stage.{Stage}
use Rattle.lsm_compact.specs.Writing.{Goes, IsBegun, IsSound, open_rows}
use Rattle.lsm_compact.proofs.Stages.{new_grown, new_open, not_closed_begun}
use Rattle.lsm_compact.proofs.Ports.{unmoved}
use Rattle.lsm_compact.proofs.Writes.{no_call, create_ok, create_err}
use Rattle.lsm_compact.proofs.outputs.Outputs.begin.Goals as goal

pub returns-in-Ok-clause-goes : goal.returns-in-Ok-clause-goes
returns-in-Ok-clause-goes g c = λ start calls written led w.
    subst (λ (stage : Stage). Goes g.P.TablePort.went start calls c.create.new.self false
    (record c.args.self.now { stage = stage }) written None) (sym c.open_stage.ensures)
    (create_ok g.P.TablePort.went start calls c.create.new.self false c.args.self.now written w c.in-Ok.drawn.0
    c.in-Ok.drawn.1 c.create.result (c.create.ensures.went start calls led)
    refl c.in-Ok.is c.in-Closed.is
    (record { number = c.in-Ok.drawn.0; session = c.in-Ok.drawn.1; rows = []; whole = true }) refl)

pub returns-in-Err-clause-goes : goal.returns-in-Err-clause-goes
returns-in-Err-clause-goes g c = λ start calls written led w.
    create_err g.P.TablePort.went start calls c.create.new.self false c.args.self.now written w 0 [] c.create.result
    (c.create.ensures.went start calls led) c.in-Err.fault c.in-Err.is

pub returns-in_default : goal.returns-in_default
returns-in_default g c = record {
  goes = λ start calls written led w. no_call g.P.TablePort.went start calls c.args.port.now false c.args.self.now written
      led w;
  begun = not_closed_begun c.args.self.now.stage c.in_default.not-Closed;
  rows = refl;
  sound = λ over s. s;
  port = unmoved g.P.TablePort.told g.P.TablePort.faults c.args.port.now;
  level = refl;
}

pub returns-in-Ok-clause-begun : goal.returns-in-Ok-clause-begun
returns-in-Ok-clause-begun g c = λ _. subst IsBegun (sym c.open_stage.ensures) (refl, new_open)

pub returns-in-Ok-clause-rows : goal.returns-in-Ok-clause-rows
returns-in-Ok-clause-rows g c =
    ap open_rows c.open_stage.ensures ∙ ap open_rows (sym c.in-Closed.is)

pub returns-in-Ok-clause-sound : goal.returns-in-Ok-clause-sound
returns-in-Ok-clause-sound g c = λ over s.
    subst (IsSound over) (sym c.open_stage.ensures) (new_grown over c.in-Ok.drawn.0 c.in-Ok.drawn.1)
