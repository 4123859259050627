use Rattle.lsm_model.proofs.PinHistories.{file_same, file_listed}
use Rattle.lsm_model.proofs.laws.a_pinned_file_never_changes.Goals as goal

pub returns-clause-same : goal.returns-clause-same
returns-clause-same c = file_same

pub returns-clause-listed : goal.returns-clause-listed
returns-clause-listed c = file_listed
