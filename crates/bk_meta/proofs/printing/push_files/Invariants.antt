use Rattle.std.proofs.Common.{◌≡◌, ◌++◌, take}
use Rattle.bk_meta.specs.Metas.{files_text}
use Rattle.bk_meta.proofs.printing.push_files.Given as goal

abbrev pub invariant-loop-file : goal.invariant-loop-file
invariant-loop-file l = l.text ≡ l.initial.text ++ files_text (take l.file-index l.files)
