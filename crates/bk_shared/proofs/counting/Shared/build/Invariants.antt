use Rattle.std.specs.Prelude.{take}
use Rattle.bk_shared.specs.SharedLines.{all_lines}
use Rattle.bk_shared.specs.Keeping.{KeepsLines}
use Rattle.bk_shared.proofs.counting.Shared.build.Given as goal

abbrev pub invariant-loop-meta : goal.invariant-loop-meta
invariant-loop-meta l = record {
  held : KeepsLines (all_lines (take l.meta-index l.metas)) l.files;
}
