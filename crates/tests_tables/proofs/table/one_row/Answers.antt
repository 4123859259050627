use Rattle.lsm_table.proofs.BehindRows.{first_behind}
use Rattle.tests_tables.proofs.table.one_row.Goals as goal

pub add-requires-clause-behind : goal.add-requires-clause-behind
add-requires-clause-behind c = first_behind c.new-builder.result _ c.new-builder.ensures.built
