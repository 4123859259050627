use Rattle.std.proofs.lemmas.Result.{err_from_is_err_and}
use Rattle.lsm_recover.proofs.StatedLemmas.{no_edit_refused, record_taken, record_refused}
use Rattle.lsm_recover.proofs.manifest.read_edit.Goals as goal

pub returns-in_err-edit-clause-refused : goal.returns-in_err-edit-clause-refused
returns-in_err-edit-clause-refused c =
    let p = err_from_is_err_and c.from_residual.result c.from_residual.ensures.1 in
    rw (p.1, p.2) (λ edits are. no_edit_refused c.args.name c.args.place c.args.text.now edits c.in_err-edit.field-0.0 c.in_err-edit.ensures.refused)

pub returns-clause-ok : goal.returns-clause-ok
returns-clause-ok c = record_taken c.args.name c.args.place c.args.text.now c.args.stated c.in_ok-edit.edit c.in_ok-edit.ensures.ok c.with_edit.result c.with_edit.ensures.ok

pub returns-clause-refused : goal.returns-clause-refused
returns-clause-refused c = record_refused c.args.name c.args.place c.args.text.now c.args.stated c.in_ok-edit.edit c.in_ok-edit.ensures.ok c.with_edit.result c.with_edit.ensures.refused
