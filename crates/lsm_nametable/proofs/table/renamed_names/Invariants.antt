use Rattle.std.proofs.Common.{◌≡◌, ◌++◌}
use Rattle.lsm_disk.specs.Names.{moved_entries}
use Rattle.lsm_nametable.specs.Table.{shown}
use Rattle.lsm_nametable.proofs.table.renamed_names.Given as goal

abbrev pub invariant-loop-key : goal.invariant-loop-key
invariant-loop-key l = shown l.names.items ++ moved_entries l.from l.to (shown l.key-iterator) ≡ moved_entries l.from l.to (shown l.entries.entries)
