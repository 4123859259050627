use Rattle.std.proofs.Common.{rules, List, sym, ap, ◌∙◌, nat_lt}
use Rattle.std.specs.Prelude.{reverse}
use Rattle.std.specs.List.{filter}
use Rattle.std.proofs.lemmas.Fn.{filter_same}
use Rattle.lsm_rows.specs.declared.rows.Row.{Row}
use Rattle.lsm_memtable.proofs.VersionRows.{filter-reverse}
use Rattle.lsm_memtable.proofs.versions.Versions.take_back.Goals as goal

pub returns-clause-rows : goal.returns-clause-rows
returns-clause-rows c =
    let kept = filter_same _ (λ (row : Row). nat_lt row.sequence c.args.first) _ (λ x b f' k. search rules) _ _ c.retain.ensures.filtered in
    ap reverse kept ∙ sym (filter-reverse (λ (row : Row). nat_lt row.sequence c.args.first) c.self.inside.rows.items)
    ∙ ap (λ (rows : List Row). filter (λ row. nat_lt row.sequence c.args.first) rows) c.self.view_is
