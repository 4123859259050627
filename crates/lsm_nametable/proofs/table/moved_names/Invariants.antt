use Rattle.std.proofs.Common.{◌≡◌, ◌++◌}
use Rattle.lsm_nametable.specs.Table.{shown, taken_along}
use Rattle.lsm_nametable.proofs.table.moved_names.Given as goal

abbrev pub invariant-loop-key : goal.invariant-loop-key
invariant-loop-key l = shown l.moved.items ++ taken_along l.from l.to (shown l.key-iterator) ≡ taken_along l.from l.to (shown l.entries.entries)
