use Rattle.std.proofs.Common.{◌≡◌, take, []}
use Rattle.bk_restore.specs.Wrong.{currents}
use Rattle.bk_restore.proofs.current.current_of.Given as goal

abbrev pub invariant-loop-file : goal.invariant-loop-file
invariant-loop-file l = currents l.id (take l.file-index l.files) ≡ []
