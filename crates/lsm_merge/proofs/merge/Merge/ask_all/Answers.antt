use Rattle.std.proofs.Common.{refl, ◌∙◌}
use Rattle.lsm_merge.proofs.Taking.{step_start}
use Rattle.lsm_merge.proofs.Joining.{step_then, step_refused}
use Rattle.lsm_merge.proofs.merge.Merge.ask_all.Goals as goal

pub loop-self-init : goal.loop-self-init
loop-self-init g c = record {
  step = step_start g.R.RowSource.left g.R.RowSource.ended g.R.RowSource.fault tt c.args.self.now c.requires;
  whole = refl;
}

pub loop-self-preserved : goal.loop-self-preserved
loop-self-preserved g c = record {
  step = step_then g.R.RowSource.left g.R.RowSource.ended g.R.RowSource.fault (tt {0}) _ _ _ _
      c.loop-self.invariant.step c.in_ok-ask_next.ensures.step;
  whole = c.ask_next.ensures.whole ∙ c.loop-self.invariant.whole;
}

pub returns-in_err-ask_next-clause-step : goal.returns-in_err-ask_next-clause-step
returns-in_err-ask_next-clause-step g c = step_refused g.R.RowSource.left g.R.RowSource.ended g.R.RowSource.fault _
    (tt {0}) _ _ _ _ _ c.from_residual.ensures.1 c.loop-self.invariant.step c.in_err-ask_next.ensures.step

pub returns-in_err-ask_next-clause-whole : goal.returns-in_err-ask_next-clause-whole
returns-in_err-ask_next-clause-whole g c = c.ask_next.ensures.whole ∙ c.loop-self.invariant.whole
