-- The unlink that was refused.
use Rattle.std.specs.Prelude.{Err}
use Rattle.std.proofs.Common.{refl, ap}
use Rattle.lsm_dest.specs.FolderDests.{Not_taken}
use Rattle.lsm_dest.proofs.ending.AnyEnding.take_back.Goals as goal

pub returns-in-Err-clause-took : goal.returns-in-Err-clause-took
returns-in-Err-clause-took g c = Not_taken (c.if-not-leaves_name.ensures.leaves refl) c.in-Err.why c.refused.ensures (λ is. c.in-Err.ensures.memory (ap Err is)) c.in-Err.ensures.did c.in-Err.ensures.answer
