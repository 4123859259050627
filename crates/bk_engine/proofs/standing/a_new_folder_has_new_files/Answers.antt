use Rattle.std.specs.Prelude.{length}
use Rattle.lsm_disk.specs.State.{state_of}
use Rattle.lsm_disk.proofs.Runs.{went_weaker}
use Rattle.bk_engine.specs.Copying.{Whatever, Anything}
use Rattle.bk_engine.proofs.StandingNew.{HasNoOld, new_folder_is_new}
use Rattle.bk_engine.proofs.standing.a_new_folder_has_new_files.Goals as goal

pub returns : goal.returns
returns c dir story told lawful free w =
    let first = length (state_of story).files in
    went_weaker (λ s. Whatever s × HasNoOld dir first s) (HasNoOld dir first) (λ s is. is.1) (new_folder_is_new dir story told Anything Whatever lawful free w)
