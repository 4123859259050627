use Rattle.std.proofs.Common.{◌≡◌, ◌≤◌, ◌++◌, take, length}
use Rattle.std.specs.Option.{option_map}
use Rattle.std.specs.Range.Bound.{bound_map}
use Rattle.std.specs.declared.ops.Bound.TheVariants.{Unbounded}
use Rattle.std.specs.BTreeMap.Range.{entries_between}
use Rattle.lsm_block.specs.Runs.{rows_after}
use Rattle.lsm_memtable.specs.Kept.{rows_in}
use Rattle.lsm_memtable.proofs.KeptRows.{Each}
use Rattle.lsm_memtable.proofs.KeyRanges.{keys_cmp}
use Rattle.lsm_memtable.proofs.row_map.copy_from.Given as goal

abbrev pub invariant-loop-key : goal.invariant-loop-key
invariant-loop-key l =
    (take l.count (l.out ++ rows_after (option_map (λ key. key.now) l.after) (rows_in l._key-iterator))
    ≡ take l.count (rows_after (option_map (λ key. key.now) l.fn.after) (rows_in (entries_between keys_cmp (bound_map (λ key. key.now) l.fn.start) Unbounded l.keys.entries))))
    × (length l.out ≤ l.count) × Each l._key-iterator
