use Rattle.std.proofs.Common.{◌∙◌, ap}
use Rattle.std.specs.Prelude.{option_map}
use Rattle.std.specs.FinMap as map
use Rattle.lsm_disk.specs.Names.{Names}
use Rattle.lsm_nametable.specs.Target.{node_of}
use Rattle.lsm_nametable.proofs.Tables.{get_shown}
use Rattle.lsm_nametable.proofs.table.NameTable.get.Goals as goal

pub returns : goal.returns
returns c =
    ap (option_map node_of) (c.copied.ensures ∙ c.get.ensures.value) ∙ get_shown c.args.path.now c.self.inside.entries.entries
    ∙ ap (λ (t : Names). map.get t c.args.path.now) c.self.view_is
