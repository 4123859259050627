use Rattle.lsm_refine.proofs.NextOpening.{next_opened, next_reopened}
use Rattle.lsm_refine.proofs.life_laws.a_folder_with_rows_in_logs_may_be_opened.Goals as goal

pub returns-clause-opened : goal.returns-clause-opened
returns-clause-opened c = next_opened

pub returns-clause-good : goal.returns-clause-good
returns-clause-good c = λ dir folders fits. next_reopened dir fits folders
