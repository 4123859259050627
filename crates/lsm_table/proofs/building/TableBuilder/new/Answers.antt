use Rattle.std.proofs.Common.{refl, ap, ◌∙◌}
use Rattle.lsm_table.specs.Cuts.{size_of}
use Rattle.lsm_table.proofs.Cutting.{size_none}
use Rattle.lsm_table.proofs.BuiltRows.{built_none}
use Rattle.lsm_table.proofs.building.TableBuilder.new.Goals as goal

pub returns-clause-empty : goal.returns-clause-empty
returns-clause-empty c = ap size_of c.new-2.ensures ∙ size_none

pub returns-clause-built : goal.returns-clause-built
returns-clause-built c = built_none _ refl c.new-2.ensures
