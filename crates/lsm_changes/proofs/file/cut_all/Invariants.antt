use Rattle.std.proofs.Common.{take}
use Rattle.lsm_changes.specs.Files.{AreLeft}
use Rattle.lsm_changes.proofs.file.cut_all.Given as goal

abbrev pub invariant-loop-file : goal.invariant-loop-file
invariant-loop-file l = AreLeft (take l.file-index l.files) l.out.items
