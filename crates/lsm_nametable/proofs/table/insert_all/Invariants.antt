use Rattle.std.proofs.Common.{vec_len}
use Rattle.lsm_nametable.specs.Table.{shown, table_of}
use Rattle.lsm_nametable.proofs.Tables.{IsPutTo}
use Rattle.lsm_nametable.proofs.table.insert_all.Given as goal

abbrev pub invariant-loop-name : goal.invariant-loop-name
invariant-loop-name l = IsPutTo (shown l.fn.names.items) (shown l.moved.items) (table_of l.initial.entries.entries) (table_of l.entries.entries)

abbrev pub decreases-loop-name : goal.decreases-loop-name
decreases-loop-name l = vec_len l.moved
