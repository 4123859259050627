use Rattle.std.proofs.Common.{◌≡◌, ◌+◌, ◌*◌, ◌≤◌}
use Rattle.lsm_table.specs.Cuts.{size_of}
use Rattle.lsm_table.specs.NumberedRows.{numbered, IsBuiltBefore}
use Rattle.tests_tables.proofs.numbered.build.Given as goal

abbrev pub invariant-loop-number : goal.invariant-loop-number
invariant-loop-number l = record {
  size : size_of l.builder.blocks ≤ 4 + 300 * l.number;
  before : IsBuiltBefore l.builder (numbered l.number);
  count : l.builder.count ≡ l.number;
}
