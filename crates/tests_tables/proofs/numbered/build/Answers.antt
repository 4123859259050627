use Rattle.std.proofs.Common.{arith}
use Rattle.lsm_table.specs.NumberedRows.{numbered}
use Rattle.lsm_table.proofs.NumberedRows.{before_none}
use Rattle.tests_tables.proofs.numbered.build.Goals as goal

pub loop-number-init : goal.loop-number-init
loop-number-init c = record {
  size = omega (arith, c.new-builder.ensures.empty);
  before = before_none c.new-builder.result (numbered 0) c.new-builder.ensures.built;
  count = c.new-builder.ensures.built.count_is;
}
