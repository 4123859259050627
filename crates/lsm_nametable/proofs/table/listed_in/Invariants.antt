use Rattle.std.proofs.Common.{◌≡◌, ◌++◌}
use Rattle.lsm_disk.specs.Listing.{listed}
use Rattle.lsm_nametable.specs.Table.{shown}
use Rattle.lsm_nametable.proofs.table.listed_in.Given as goal

abbrev pub invariant-loop-key : goal.invariant-loop-key
invariant-loop-key l = l.found.items ++ listed l.folder (shown l.key-iterator) ≡ listed l.folder (shown l.entries.entries)
