use Rattle.std.proofs.Common.{◌≡◌, ◌<◌, ◌≤◌, ◌^◌, ◌++◌, take, length}
use Rattle.std.specs.Prelude.{All, reverse}
use Rattle.std.specs.Option.{option_map}
use Rattle.lsm_block.specs.Runs.{rows_after}
use Rattle.lsm_memtable.proofs.versions.Versions.copy_after.Given as goal

abbrev pub invariant-loop-row : goal.invariant-loop-row
invariant-loop-row l =
    (take l.count (l.out ++ rows_after (option_map (λ key. key.now) l.after) (reverse l.row-iterator.iter.rest.now)) ≡ take l.count (l.fn.out ++ rows_after (option_map (λ key. key.now) l.fn.after) l.self))
    × (length l.out ≤ l.count) × All (λ row. row.sequence < 2 ^ 56) (reverse l.row-iterator.iter.rest.now)
