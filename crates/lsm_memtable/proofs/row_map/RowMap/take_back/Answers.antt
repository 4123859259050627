use Rattle.std.proofs.Common.{rules, List, ap, ◌∙◌}
use Rattle.std.specs.List.{filter}
use Rattle.lsm_rows.specs.declared.rows.Row.{Row}
use Rattle.lsm_memtable.specs.Kept.{rows_in}
use Rattle.lsm_memtable.proofs.KeptRows.{kept_order}
use Rattle.lsm_memtable.proofs.TakingBack.{is_below, retained, rows_below, kept_below}
use Rattle.lsm_memtable.proofs.row_map.RowMap.take_back.Goals as goal

pub invariant_of-self : goal.invariant_of-self
invariant_of-self c =
    let is = retained _ c.args.first _ (λ k rows b left g called. search rules) _ _ c.retain.ensures.filtered in
    kept_below c.args.first c.self.inside.keys.entries c.retain.new.self.entries is c.retain.ensures.ordered c.self.invariant

pub returns-clause-rows : goal.returns-clause-rows
returns-clause-rows c =
    let is = retained _ c.args.first _ (λ k rows b left g called. search rules) _ _ c.retain.ensures.filtered in
    ap rows_in is ∙ rows_below c.args.first c.self.inside.keys.entries ∙ ap (λ (rows : List Row). filter (is_below c.args.first) rows) c.self.view_is

pub returns-clause-order : goal.returns-clause-order
returns-clause-order c =
    let is = retained _ c.args.first _ (λ k rows b left g called. search rules) _ _ c.retain.ensures.filtered in
    kept_order c.retain.new.self.entries (kept_below c.args.first c.self.inside.keys.entries c.retain.new.self.entries is c.retain.ensures.ordered c.self.invariant)
