use Rattle.std.proofs.Common.{◌≡◌, length, map}
use Rattle.std.specs.Prelude.{Ok}
use Rattle.lsm_merge.specs.Steps.{IsStep, rows_ahead}
use Rattle.lsm_merge.proofs.merge.Merge.find.Given as goal

abbrev pub invariant-loop-self : goal.invariant-loop-self
invariant-loop-self g l = record {
  step : IsStep {A = Unit {0}} g.R.RowSource.left g.R.RowSource.ended g.R.RowSource.fault (Ok tt) l.initial.self l.self;
  whole : map g.R.RowSource.whole l.self.sources ≡ map g.R.RowSource.whole l.initial.self.sources;
  asked : l.self.asked ≡ length l.self.sources;
}

abbrev pub decreases-loop-self : goal.decreases-loop-self
decreases-loop-self g l = rows_ahead g.R.RowSource.left l.self
