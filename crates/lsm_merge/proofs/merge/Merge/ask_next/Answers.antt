use Rattle.std.proofs.Common.{ap, ◌∙◌, subst, ◌<◌, length, map}
use Rattle.lsm_merge.specs.Merging.{Merging}
use Rattle.lsm_merge.proofs.Closing.{close_none, close_fault, close_asked}
use Rattle.lsm_merge.proofs.Lists.{map_set}
use Rattle.lsm_merge.proofs.merge.Merge.ask_next.Goals as goal

pub returns-then-is_err-clause-step : goal.returns-then-is_err-clause-step
returns-then-is_err-clause-step g c = close_none _ _ _ _ _ _ c.self.view_is c.reserve.ensures.same c.requires.ready

pub returns-in-Ok-clause-step : goal.returns-in-Ok-clause-step
returns-in-Ok-clause-step g c =
    close_asked _ _ _ _ _ _ _ _ _ c.in-Ok.answer _ c.self.view_is c.reserve.ensures.same c.requires.ready
    c.requires.more c.index_mut.ensures.value c.in-Ok.ensures.ok c.in-Ok.ensures.end c.in-Ok.ensures.answered c.put.ensures

pub returns-in-Err-clause-step : goal.returns-in-Err-clause-step
returns-in-Err-clause-step g c =
    close_fault _ _ _ _ _ _ c.self.inside.asked _ _ c.in-Err.fault c.self.view_is c.reserve.ensures.same
    c.requires.ready (subst (λ (m : Merging _). m.asked < length m.sources → c.self.inside.asked < length m.sources)
    c.self.view_is (λ less. less) c.requires.more) c.index_mut.ensures.value c.in-Err.ensures.err c.in-Err.ensures.end
    c.in-Err.ensures.refused

pub returns-in-Ok-clause-whole : goal.returns-in-Ok-clause-whole
returns-in-Ok-clause-whole g c =
    map_set g.R.RowSource.whole c.self.inside.sources.items c.self.inside.asked c.index_mut.result.now c.next.new.self
    c.index_mut.ensures.value c.next.ensures.whole
    ∙ ap (λ (m : Merging g.row.R.Denot). map g.R.RowSource.whole m.sources) c.self.view_is

pub returns-in-Err-clause-whole : goal.returns-in-Err-clause-whole
returns-in-Err-clause-whole g c =
    map_set g.R.RowSource.whole c.self.inside.sources.items c.self.inside.asked c.index_mut.result.now c.next.new.self
    c.index_mut.ensures.value c.next.ensures.whole
    ∙ ap (λ (m : Merging g.row.R.Denot). map g.R.RowSource.whole m.sources) c.self.view_is

pub returns-then-is_err-clause-whole : goal.returns-then-is_err-clause-whole
returns-then-is_err-clause-whole g c =
    ap (λ (m : Merging g.row.R.Denot). map g.R.RowSource.whole m.sources) c.self.view_is
