use Rattle.std.proofs.Common.{◌≡◌}
use Rattle.std.specs.Prelude.{reverse}
use Rattle.lsm_memtable.specs.Greatest.{greatest_from}
use Rattle.lsm_memtable.proofs.versions.Versions.last_from.Given as goal

abbrev pub invariant-loop-row : goal.invariant-loop-row
invariant-loop-row l = greatest_from l.last (reverse l.row-iterator.iter.rest.now) ≡ greatest_from l.fn.last l.self
