use Rattle.std.proofs.Common.{◌+◌}
use Rattle.lsm_table.specs.NumberedRows.{numbered}
use Rattle.lsm_table.proofs.NumberedRows.{next_may_come, before_next, numbers_ascend}
use Rattle.tests_tables.proofs.numbered.add_numbered.Goals as goal

pub add-requires-clause-behind : goal.add-requires-clause-behind
add-requires-clause-behind c = next_may_come c.args.builder.now (numbered c.args.number) c.in_ok-row.row
    c.requires.before c.in_ok-row.ensures.key c.in_ok-row.ensures.sequence

pub returns-clause-before : goal.returns-clause-before
returns-clause-before c =
    before_next c.args.builder.now c.add.new.self (numbered c.args.number) (numbered (c.args.number + 1))
    c.in_ok-row.row c.requires.before c.in_ok-row.ensures.key c.in_ok-row.ensures.sequence
    (numbers_ascend c.args.number c.requires.few) c.in_ok-add.ensures.ok
