use Rattle.lsm_refine.proofs.TableSteps.{unfinished_lone, append_good, sync_good, names_good, table_reads, table_halts}
use Rattle.lsm_refine.proofs.flush_laws.a_table_is_written.Goals as goal

pub returns-clause-lone : goal.returns-clause-lone
returns-clause-lone c = unfinished_lone

pub returns-clause-appended : goal.returns-clause-appended
returns-clause-appended c = append_good

pub returns-clause-synced : goal.returns-clause-synced
returns-clause-synced c = sync_good

pub returns-clause-names : goal.returns-clause-names
returns-clause-names c = names_good

pub returns-clause-images : goal.returns-clause-images
returns-clause-images c = table_reads

pub returns-clause-halted : goal.returns-clause-halted
returns-clause-halted c = table_halts
