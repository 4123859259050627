use Rattle.lsm_memtable.proofs.NewestRows.{newest_rows_are_a_table}
use Rattle.lsm_memtable.proofs.laws.newest_rows_make_a_table.Goals as goal

pub returns : goal.returns
returns c = newest_rows_are_a_table
