use Rattle.std.proofs.Common.{List, subst, sym}
use Rattle.lsm_version.specs.declared.tables.Add.{Add}
use Rattle.lsm_compact.specs.Writing.{IsWhole}
use Rattle.lsm_compact.proofs.WholeOutputs.{whole_of}
use Rattle.lsm_compact.proofs.outputs.Outputs.take_adds.Goals as goal

pub returns-clause-whole : goal.returns-clause-whole
returns-clause-whole c = λ files written w closed.
    subst (λ (tables : List Add). IsWhole c.args.self.now.level tables files written) (sym c.replace.ensures.value)
    (whole_of c.args.self.now files written w closed)
