use Rattle.std.proofs.Common.{refl, sym, subst, List, ℕ, ◌++◌, ◌∷◌, [], Some, None}
use Rattle.lsm_compact.specs.declared.outputs.Stage.{Stage}
use Rattle.lsm_compact.specs.declared.outputs.Stage.TheVariants.{Open}
use Rattle.lsm_compact.specs.Calls.{Appended}
use Rattle.lsm_compact.specs.Writing.{Goes}
use Rattle.lsm_compact.proofs.Stages.{not_open_piece, same_stage, same_table}
use Rattle.lsm_compact.proofs.Ports.{unmoved}
use Rattle.lsm_compact.proofs.Writes.{no_call, piece_ok, append_err}
use Rattle.lsm_compact.proofs.outputs.Outputs.append_piece.Goals as goal

pub returns-in-Ok-clause-goes : goal.returns-in-Ok-clause-goes
returns-in-Ok-clause-goes g c = λ over start calls written led w.
    subst (λ (none : List ℕ). Goes g.P.TablePort.went start calls c.append.new.self over
    (record c.args.self.now { stage = Open c.in-Open.table none c.in-Open.ended }) written None) (sym c.new.ensures)
    (piece_ok g.P.TablePort.went start calls c.append.new.self over c.args.self.now written w c.number.result c.in-Open.piece
    c.append.result
    (subst (λ (bytes : List ℕ). g.P.TablePort.went start
    (calls ++ Appended c.number.result bytes c.append.result ∷ []) c.append.new.self) c.as_slice.ensures
    (c.append.ensures.went start calls led))
    c.in-Ok.field-0 c.in-Open.table c.in-Open.ended c.in-Ok.is c.number.ensures c.in-Open.is)

pub returns-in-Err-clause-goes : goal.returns-in-Err-clause-goes
returns-in-Err-clause-goes g c = λ over start calls written led w.
    subst (λ (stage : Stage). Goes g.P.TablePort.went start calls c.append.new.self over
    (record c.args.self.now { stage = stage }) written (Some c.in-Err.fault)) c.in-Open.is
    (append_err g.P.TablePort.went start calls c.append.new.self over c.args.self.now written w c.number.result
    c.as_slice.result.now c.append.result
    (c.append.ensures.went start calls led) c.in-Err.fault c.in-Err.is)

pub returns-then-not-has_piece-clause-goes : goal.returns-then-not-has_piece-clause-goes
returns-then-not-has_piece-clause-goes g c = λ over start calls written led w.
    no_call g.P.TablePort.went start calls c.args.port.now over c.args.self.now written led w

pub returns-in_default : goal.returns-in_default
returns-in_default g c = record {
  goes = λ over start calls written led w. no_call g.P.TablePort.went start calls c.args.port.now over c.args.self.now
      written led w;
  piece = not_open_piece c.args.self.now.stage c.in_default.not-Open;
  rows = same_stage c.args.self.now.stage;
  sound = λ over s. s;
  port = unmoved g.P.TablePort.told g.P.TablePort.faults c.args.port.now;
  level = refl;
}

pub returns-in-Ok-clause-rows : goal.returns-in-Ok-clause-rows
returns-in-Ok-clause-rows g c =
    same_table c.args.self.now.stage c.in-Open.table c.in-Open.table c.in-Open.piece c.new.result c.in-Open.ended
    c.in-Open.ended c.in-Open.is refl

pub returns-in-Err-clause-rows : goal.returns-in-Err-clause-rows
returns-in-Err-clause-rows g c =
    same_table c.args.self.now.stage c.in-Open.table c.in-Open.table c.in-Open.piece c.in-Open.piece c.in-Open.ended
    c.in-Open.ended c.in-Open.is refl

pub returns-then-not-has_piece-clause-piece : goal.returns-then-not-has_piece-clause-piece
returns-then-not-has_piece-clause-piece g c = c.has_piece.ensures c.if-not-has_piece.true

pub returns-then-not-has_piece-clause-rows : goal.returns-then-not-has_piece-clause-rows
returns-then-not-has_piece-clause-rows g c = same_stage c.args.self.now.stage
