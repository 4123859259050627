use Rattle.std.proofs.Common.{◌≡◌, ◌++◌, take}
use Rattle.std.specs.Prelude.{map}
use Rattle.lsm_table.specs.Rows.{row_at}
use Rattle.lsm_table.proofs.rows.push_rows.Given as goal

abbrev pub invariant-loop-entry : goal.invariant-loop-entry
invariant-loop-entry l = l.rows ≡ l.initial.rows ++ map row_at (take l.entry-index l.entries)
