use Rattle.std.proofs.Common.{refl}
use Rattle.lsm_compact.specs.declared.outputs.Stage.TheVariants.{Closed}
use Rattle.lsm_compact.proofs.Writes.{none_written}
use Rattle.lsm_compact.proofs.outputs.Outputs.new.Goals as goal

pub returns-clause-writing : goal.returns-clause-writing
returns-clause-writing c = none_written
    (record { alloc = c.args.alloc; level = c.args.level; adds = c.new.result; stage = Closed }) c.new.ensures refl
