use Rattle.lsm_model.proofs.Histories.{run_folder}
use Rattle.lsm_model.proofs.laws.a_checkpoint_never_changes.Goals as goal

pub returns : goal.returns
returns c = run_folder
