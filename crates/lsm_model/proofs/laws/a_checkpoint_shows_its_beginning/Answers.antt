use Rattle.lsm_model.proofs.CheckpointHistories.{checkpoint_shown, checkpoint_outlives}
use Rattle.lsm_model.proofs.laws.a_checkpoint_shows_its_beginning.Goals as goal

pub returns-clause-shown : goal.returns-clause-shown
returns-clause-shown c = checkpoint_shown

pub returns-clause-outlives : goal.returns-clause-outlives
returns-clause-outlives c = checkpoint_outlives
