use Rattle.std.proofs.Common.{refl, ap, subst}
use Rattle.lsm_compact.specs.declared.outputs.Stage.{Stage}
use Rattle.lsm_compact.specs.Writing.{CanEnd, MayEnd}
use Rattle.lsm_compact.specs.declared.outputs.Stage.TheVariants.{Ending}
use Rattle.lsm_compact.specs.Building.{Table}
use Rattle.lsm_compact.proofs.Stages.{same_stage, same_table, none_now, ended_grown, sound_weaker}
use Rattle.lsm_compact.proofs.Writes.{not_open, weaker, ended_ok, ended_err}
use Rattle.lsm_compact.proofs.outputs.Outputs.end.Goals as goal

pub returns-in-Ok-clause-writing : goal.returns-in-Ok-clause-writing
returns-in-Ok-clause-writing c = λ over next files written leads may w.
    let can = subst CanEnd c.in-Open.is c.requires in
    ended_ok over next c.args.self.now files written leads c.in-Open.table c.in-Open.piece c.in-Open.ended c.in-Open.is w
    c.end_table.new.adds c.in-Ok.ended can.0 can.1
    (subst (λ (s : Stage). MayEnd next s) c.in-Open.is may) c.in-Ok.ensures.ok

pub returns-in-Err-clause-writing : goal.returns-in-Err-clause-writing
returns-in-Err-clause-writing c = λ over next files written leads may w.
    ended_err over next c.args.self.now files written leads c.in-Open.table c.in-Open.piece c.in-Open.ended c.in-Open.is w
    c.end_table.new.adds c.end_table.new.table
    (subst (λ (s : Stage). MayEnd next s) c.in-Open.is may) c.in-Err.ensures.err c.end_table.ensures.table

pub returns-in_default : goal.returns-in_default
returns-in_default c = record {
  writing = λ over next files written leads may w. weaker over next c.args.self.now files written leads w;
  ended = not_open c.args.self.now.stage c.in_default.not-Open;
  fault = refl;
  rows = same_stage c.args.self.now.stage;
  sound = λ over next leads may s. sound_weaker over next leads c.args.self.now.stage s;
  level = refl;
}

pub returns-in-Ok-clause-rows : goal.returns-in-Ok-clause-rows
returns-in-Ok-clause-rows c = none_now c.args.self.now.stage (Ending c.in-Ok.ended.0 c.in-Ok.ended.1) refl tt

pub returns-in-Err-clause-rows : goal.returns-in-Err-clause-rows
returns-in-Err-clause-rows c =
    same_table c.args.self.now.stage c.in-Open.table c.end_table.new.table c.in-Open.piece c.in-Open.piece c.in-Open.ended
    c.in-Open.ended c.in-Open.is (ap (λ (t : Table). t.rows) c.end_table.ensures.table)

pub returns-in-Err-clause-sound : goal.returns-in-Err-clause-sound
returns-in-Err-clause-sound c = λ over next leads may s.
    ended_grown over next c.in-Open.table c.end_table.new.table c.in-Open.piece c.in-Open.ended c.args.self.now.stage
    c.in-Open.is s may
    c.end_table.ensures.table
