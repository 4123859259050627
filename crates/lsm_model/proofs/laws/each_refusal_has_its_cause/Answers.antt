use Rattle.lsm_model.proofs.KnownLemmas.{known_refuses, known_passes}
use Rattle.lsm_model.proofs.RefusalLemmas.{has_cause}
use Rattle.lsm_model.proofs.RestoreRefusals.{restore_cause, restore_halted}
use Rattle.lsm_model.proofs.laws.each_refusal_has_its_cause.Goals as goal

pub returns-clause-known : goal.returns-clause-known
returns-clause-known c = known_refuses

pub returns-clause-cause : goal.returns-clause-cause
returns-clause-cause c = has_cause

pub returns-clause-passes : goal.returns-clause-passes
returns-clause-passes c = known_passes

pub returns-clause-restore : goal.returns-clause-restore
returns-clause-restore c = restore_cause

pub returns-clause-halted : goal.returns-clause-halted
returns-clause-halted c = restore_halted
