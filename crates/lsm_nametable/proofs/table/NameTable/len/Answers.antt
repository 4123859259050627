use Rattle.std.proofs.Common.{◌∙◌, ap}
use Rattle.std.specs.FinMap as map
use Rattle.lsm_disk.specs.Names.{Names}
use Rattle.lsm_nametable.proofs.Tables.{table_len}
use Rattle.lsm_nametable.proofs.table.NameTable.len.Goals as goal

pub returns-clause-len : goal.returns-clause-len
returns-clause-len c = c.len.ensures.len ∙ table_len c.self.inside.entries.entries c.len.ensures.ordered ∙ ap (λ (t : Names). map.len t) c.self.view_is
