use Rattle.std.proofs.Common.{◌≡◌, ◌∙◌, ap, length, map, subst, sym}
use Rattle.std.specs.Prelude.{Ok}
use Rattle.lsm_merge.specs.Merging.{Merging, ToldFaults}
use Rattle.lsm_merge.proofs.Giving.{close_gives, close_ready, close_ahead, close_fewer, close_count}
use Rattle.lsm_merge.proofs.Joining.{answers_as, handed_on}
use Rattle.lsm_merge.proofs.merge.Merge.next.Goals as goal

pub returns-in_err-find-clause-answers : goal.returns-in_err-find-clause-answers
returns-in_err-find-clause-answers g c =
    (handed_on g.R.RowSource.left g.R.RowSource.ended g.R.RowSource.fault _ _ c.from_residual.result _ _
    c.from_residual.ensures.1 c.in_err-find.ensures.step).answers

pub returns-clause-ok : goal.returns-clause-ok
returns-clause-ok g c =
    close_gives g.R.RowSource.left g.R.RowSource.ended g.met.R.RowSource.none_at_end _ _ _ _ c.take.result
    c.self.view_is c.take.ensures.after c.take.ensures.value c.in_ok-find.ensures.step.ready c.in_ok-find.ensures.ok
    c.in_ok-find.ensures.step.rows

pub returns-clause-answers : goal.returns-clause-answers
returns-clause-answers g c =
    subst (λ (m : Merging g.row.R.Denot). ToldFaults g.R.RowSource.fault (Ok c.take.result) c.args.self.now.sources
    m.sources) (sym c.self.view_is)
    (answers_as g.R.RowSource.left g.R.RowSource.ended g.R.RowSource.fault (tt {0}) c.take.result _ _
    c.in_ok-find.ensures.step.answers)

pub returns-clause-ahead : goal.returns-clause-ahead
returns-clause-ahead g c = close_ahead g.R.RowSource.left g.R.RowSource.ended _ _ _ c.take.new.self c.self.view_is
    c.in_ok-find.ensures.step.ahead

pub returns-clause-ready : goal.returns-clause-ready
returns-clause-ready g c = close_ready g.R.RowSource.left g.R.RowSource.ended _ _ _ c.self.view_is
    c.take.ensures.after c.in_ok-find.ensures.step.ready

pub returns-clause-fewer : goal.returns-clause-fewer
returns-clause-fewer g c =
    close_fewer g.R.RowSource.left g.R.RowSource.ended _ _ _ _ c.take.result c.self.view_is c.take.ensures.after
    c.take.ensures.value
    c.in_ok-find.ensures.step.count

pub returns-clause-count : goal.returns-clause-count
returns-clause-count g c =
    close_count g.R.RowSource.left g.R.RowSource.ended _ _ _ _ c.self.view_is c.take.ensures.after
    c.in_ok-find.ensures.step.count

pub returns-clause-asked : goal.returns-clause-asked
returns-clause-asked g c =
    subst (λ (m : Merging g.row.R.Denot). m.asked ≡ length m.sources) (sym c.self.view_is) c.in_ok-find.ensures.ok.asked

pub returns-clause-whole : goal.returns-clause-whole
returns-clause-whole g c =
    ap (λ (m : Merging g.row.R.Denot). map g.R.RowSource.whole m.sources) c.self.view_is ∙ c.find.ensures.whole
