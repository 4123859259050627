use Rattle.std.proofs.Common.{ap, ◌∙◌, length, map, Option, unwrap_or, refl, arith}
use Rattle.lsm_rows.specs.declared.rows.Row.{Row}
use Rattle.lsm_merge.specs.Merging.{Merging}
use Rattle.lsm_merge.proofs.Closing.{close_fault, close_taken, close_held, close_within}
use Rattle.lsm_merge.proofs.Lists.{map_set}
use Rattle.lsm_merge.proofs.merge.Merge.take_first.Goals as goal

pub first_place-place-requires : goal.first_place-place-requires
first_place-place-requires g c = close_held g.R.RowSource.left g.R.RowSource.ended g.R.RowSource.fault _ _
    c.self.view_is c.requires.more

pub index_mut-requires : goal.index_mut-requires
index_mut-requires g c =
    let within = close_within g.R.RowSource.left g.R.RowSource.ended g.R.RowSource.fault _ _
    c.first_place-place.result c.self.view_is c.requires.ready c.requires.more c.first_place-place.ensures in
    omega (arith, within, c.self.inside.sources.ok.0, ap (λ (m : Merging g.row.R.Denot). length m.sources) c.self.view_is)

pub replace-head-requires : goal.replace-head-requires
replace-head-requires g c = close_held g.R.RowSource.left g.R.RowSource.ended g.R.RowSource.fault _ _ c.self.view_is
    c.requires.more

pub returns-in-Ok-clause-step : goal.returns-in-Ok-clause-step
returns-in-Ok-clause-step g c =
    (close_taken g.R.RowSource.left g.R.RowSource.ended g.R.RowSource.fault _ _ c.first_place-place.result
    c.replace-head.result c.unwrap_or.result _ _ c.in-Ok.answer _ _ c.self.view_is c.requires.ready c.requires.more
    c.requires.asked
    c.replace-head.ensures.top c.first_place-place.ensures c.replace-head.ensures.first
    (c.unwrap_or.ensures ∙ ap (λ (o : Option Row). unwrap_or o c.replace-head.result.row) c.take.ensures.value)
    c.index_mut.ensures.value c.in-Ok.ensures.ok c.in-Ok.ensures.end c.in-Ok.ensures.answered
    c.replace-head.ensures.replaced).0

pub returns-in-Ok-clause-fewer : goal.returns-in-Ok-clause-fewer
returns-in-Ok-clause-fewer g c =
    (close_taken g.R.RowSource.left g.R.RowSource.ended g.R.RowSource.fault _ _ c.first_place-place.result
    c.replace-head.result c.unwrap_or.result _ _ c.in-Ok.answer _ (tt {0}) c.self.view_is c.requires.ready
    c.requires.more c.requires.asked
    c.replace-head.ensures.top c.first_place-place.ensures c.replace-head.ensures.first
    (c.unwrap_or.ensures ∙ ap (λ (o : Option Row). unwrap_or o c.replace-head.result.row) c.take.ensures.value)
    c.index_mut.ensures.value c.in-Ok.ensures.ok c.in-Ok.ensures.end c.in-Ok.ensures.answered
    c.replace-head.ensures.replaced).1

pub returns-in-Err-clause-step : goal.returns-in-Err-clause-step
returns-in-Err-clause-step g c =
    close_fault g.R.RowSource.left g.R.RowSource.ended g.R.RowSource.fault _ _ _ c.first_place-place.result _ _
    c.in-Err.fault c.self.view_is refl c.requires.ready
    (close_within g.R.RowSource.left g.R.RowSource.ended g.R.RowSource.fault _ _ c.first_place-place.result
    c.self.view_is c.requires.ready c.requires.more c.first_place-place.ensures)
    c.index_mut.ensures.value c.in-Err.ensures.err c.in-Err.ensures.end c.in-Err.ensures.refused

pub returns-in-Ok-clause-whole : goal.returns-in-Ok-clause-whole
returns-in-Ok-clause-whole g c =
    map_set g.R.RowSource.whole c.self.inside.sources.items c.first_place-place.result c.index_mut.result.now c.next.new.self
    c.index_mut.ensures.value c.next.ensures.whole
    ∙ ap (λ (m : Merging g.row.R.Denot). map g.R.RowSource.whole m.sources) c.self.view_is

pub returns-in-Err-clause-whole : goal.returns-in-Err-clause-whole
returns-in-Err-clause-whole g c =
    map_set g.R.RowSource.whole c.self.inside.sources.items c.first_place-place.result c.index_mut.result.now c.next.new.self
    c.index_mut.ensures.value c.next.ensures.whole
    ∙ ap (λ (m : Merging g.row.R.Denot). map g.R.RowSource.whole m.sources) c.self.view_is
