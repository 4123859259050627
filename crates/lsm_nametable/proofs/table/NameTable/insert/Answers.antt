use Rattle.std.proofs.Common.{◌∙◌, ap, rules}
use Rattle.std.specs.FinMap as map
use Rattle.lsm_disk.specs.Names.{Names}
use Rattle.lsm_nametable.specs.Target.{node_of}
use Rattle.lsm_nametable.proofs.Tables.{table_insert}
use Rattle.lsm_nametable.proofs.table.NameTable.insert.Goals as goal

pub returns-clause-ok : goal.returns-clause-ok
returns-clause-ok c =
    table_insert c.args.path c.args.target c.self.inside.entries.entries c.insert.new.self.entries (search rules)
    ∙ ap (λ (t : Names). map.insert t c.args.path.items (node_of c.args.target)) c.self.view_is
