use Rattle.lsm_wal.proofs.Texts.{text_push, sequence_push}
use Rattle.lsm_wal.proofs.laws.a_log_grows_by_one_record.Goals as goal

pub returns-clause-text : goal.returns-clause-text
returns-clause-text c = text_push

pub returns-clause-sequence : goal.returns-clause-sequence
returns-clause-sequence c = sequence_push
