use Rattle.std.proofs.Common.{◌∙◌, ap, rules}
use Rattle.std.specs.FinMap as map
use Rattle.std.specs.List.{each_same}
use Rattle.lsm_nametable.proofs.Tables.{shown_copy}
use Rattle.lsm_nametable.proofs.table.NameTable.copy.Goals as goal

pub returns : goal.returns
returns c = ap map.from_entries (shown_copy _ _ (λ k d is. each_same k.items d.items is.0) (λ t u is. search rules) c.self.inside.entries.entries c.in_ok-entries.entries.entries c.in_ok-entries.ensures.cases) ∙ c.self.view_is
