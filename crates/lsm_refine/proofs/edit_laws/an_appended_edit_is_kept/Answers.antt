use Rattle.lsm_refine.proofs.EditedLemmas.{edited_has, edit_ready, manifest_sane, edited_sane}
use Rattle.lsm_refine.proofs.edit_laws.an_appended_edit_is_kept.Goals as goal

pub returns-clause-edits : goal.returns-clause-edits
returns-clause-edits c = edited_has

pub returns-clause-sane : goal.returns-clause-sane
returns-clause-sane c = edited_sane

pub returns-clause-ready : goal.returns-clause-ready
returns-clause-ready c = edit_ready

pub returns-clause-again : goal.returns-clause-again
returns-clause-again c = manifest_sane
