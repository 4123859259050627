use Rattle.lsm_memtable.specs.Newest.{newest_each}
use Rattle.lsm_memtable.specs.Kept.{rows_in}
use Rattle.lsm_memtable.proofs.Feeds.{IsFed}
use Rattle.lsm_memtable.proofs.row_map.add_keys.Given as goal

abbrev pub invariant-loop-key : goal.invariant-loop-key
invariant-loop-key l = IsFed l.fn.table l.table (newest_each (rows_in l.keys.entries)) l.key-iterator l.place l.until
