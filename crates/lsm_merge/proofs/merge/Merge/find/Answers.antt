use Rattle.std.proofs.Common.{refl, ◌∙◌}
use Rattle.lsm_merge.proofs.Taking.{step_start}
use Rattle.lsm_merge.proofs.Joining.{step_then, step_refused}
use Rattle.lsm_merge.proofs.merge.Merge.find.Goals as goal

pub loop-self-init : goal.loop-self-init
loop-self-init g c = record {
  step = step_start g.R.RowSource.left g.R.RowSource.ended g.R.RowSource.fault tt c.ask_all.new.self
      c.in_ok-ask_all.ensures.step.ready;
  asked = c.in_ok-ask_all.ensures.ok;
  whole = refl;
}

pub loop-self-preserved : goal.loop-self-preserved
loop-self-preserved g c = record {
  step = step_then g.R.RowSource.left g.R.RowSource.ended g.R.RowSource.fault (tt {0}) _ _ _ _
      c.loop-self.invariant.step c.in_ok-take_first.ensures.step;
  asked = c.take_first.ensures.asked;
  whole = c.take_first.ensures.whole ∙ c.loop-self.invariant.whole;
}

pub returns-in_err-take_first-clause-step : goal.returns-in_err-take_first-clause-step
returns-in_err-take_first-clause-step g c =
    step_then g.R.RowSource.left g.R.RowSource.ended g.R.RowSource.fault (tt {0}) _ _ _ _ c.in_ok-ask_all.ensures.step
    (step_refused g.R.RowSource.left g.R.RowSource.ended g.R.RowSource.fault _ (tt {0}) _ _ _ _ _
    c.from_residual-in_err-take_first.ensures.1 c.loop-self.invariant.step c.in_err-take_first.ensures.step)

pub returns-clause-step : goal.returns-clause-step
returns-clause-step g c = step_then g.R.RowSource.left g.R.RowSource.ended g.R.RowSource.fault (tt {0}) _ _ _ _
    c.in_ok-ask_all.ensures.step c.loop-self.invariant.step

pub returns-in_err-take_first-clause-whole : goal.returns-in_err-take_first-clause-whole
returns-in_err-take_first-clause-whole g c =
    (c.take_first.ensures.whole ∙ c.loop-self.invariant.whole) ∙ c.ask_all.ensures.whole

pub returns-clause-whole : goal.returns-clause-whole
returns-clause-whole g c = c.loop-self.invariant.whole ∙ c.ask_all.ensures.whole
