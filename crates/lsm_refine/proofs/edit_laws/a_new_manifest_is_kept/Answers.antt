use Rattle.lsm_refine.proofs.SwitchedLemmas.{switched_has, switched_sane, switched_known}
use Rattle.lsm_refine.proofs.edit_laws.a_new_manifest_is_kept.Goals as goal

pub returns-clause-edits : goal.returns-clause-edits
returns-clause-edits c = switched_has

pub returns-clause-sane : goal.returns-clause-sane
returns-clause-sane c = switched_sane

pub returns-clause-known : goal.returns-clause-known
returns-clause-known c = switched_known
