use Rattle.std.proofs.Common.{◌≡◌, length}
use Rattle.lsm_cache.specs.Kept.{without_table}
use Rattle.lsm_cache.proofs.blocks.BlockCache.forget.Given as goal

abbrev pub invariant-loop-at : goal.invariant-loop-at
invariant-loop-at l = without_table l.number l.self-inside.kept ≡ without_table l.number l.fn.self

abbrev pub decreases-loop-at : goal.decreases-loop-at
decreases-loop-at l = length l.self-inside.kept.entries
