use Rattle.std.specs.Prelude.{List, ◌++◌, take}
use Rattle.bk_shared.specs.SharedLines.{SharedLine}
use Rattle.bk_shared.specs.Keeping.{KeepsLines}
use Rattle.bk_shared.proofs.Clashes.{lines_in}
use Rattle.bk_shared.proofs.counting.add_meta.Given as goal

abbrev pub invariant-loop-file : goal.invariant-loop-file
invariant-loop-file l = record {
  held : (lines : List SharedLine) → KeepsLines lines l.fn.files
      → KeepsLines (lines ++ lines_in l.fn.meta.id (take l.file-index l.fn.meta.files)) l.files;
}
