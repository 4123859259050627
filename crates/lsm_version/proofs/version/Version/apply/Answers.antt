use Rattle.std.proofs.Common.{refl, sym, ap, ◌∙◌, Err}
use Rattle.std.proofs.lemmas.Result.{err_from_is_err_and}
use Rattle.lsm_version.proofs.Applied.{drop_refused, add_refused, levels_refused, all_applied}
use Rattle.lsm_version.proofs.version.Version.apply.Goals as goal

pub returns-in_err-drop_all-clause-refused : goal.returns-in_err-drop_all-clause-refused
returns-in_err-drop_all-clause-refused c =
    let p = err_from_is_err_and c.from_residual-in_err-drop_all.result c.from_residual-in_err-drop_all.ensures.1 in
    rw (p.1, p.2, c.in_err-drop_all.ensures.err) (λ _.
    drop_refused c.args.self.now c.in_ok-version.version c.args.edit.now c.as_slice.result.now c.args.edit.now.adds c.in_ok-version.ensures.ok c.as_slice.ensures refl c.in_err-drop_all.ensures.refused)

pub returns-in_err-add_all-clause-refused : goal.returns-in_err-add_all-clause-refused
returns-in_err-add_all-clause-refused c =
    let p = err_from_is_err_and c.from_residual-in_err-add_all.result c.from_residual-in_err-add_all.ensures.1 in
    rw (p.1, p.2) (λ other.
    let why = c.in_err-add_all.ensures.err other in
    add_refused c.args.self.now c.in_ok-version.version c.args.edit.now c.as_slice.result.now c.as_slice-2.result.now c.in_ok-version.ensures.ok c.as_slice.ensures c.as_slice-2.ensures
    c.drop_all.new.self c.in_ok-drop_all.ensures.ok why.1
    ∙ ap (λ e. Err e) (sym why.0))

pub returns-in_err-test_levels-clause-refused : goal.returns-in_err-test_levels-clause-refused
returns-in_err-test_levels-clause-refused c =
    let p = err_from_is_err_and c.from_residual-in_err-test_levels.result c.from_residual-in_err-test_levels.ensures.1 in
    rw (p.1, p.2) (λ _.
    levels_refused c.args.self.now c.in_ok-version.version c.args.edit.now c.as_slice.result.now c.as_slice-2.result.now c.in_ok-version.ensures.ok c.as_slice.ensures c.as_slice-2.ensures
    c.drop_all.new.self c.in_ok-drop_all.ensures.ok c.add_all.new.self c.in_ok-add_all.ensures.ok _ c.in_err-test_levels.ensures.refused)

pub returns-clause-ok : goal.returns-clause-ok
returns-clause-ok c =
    all_applied c.args.self.now c.in_ok-version.version c.args.edit.now c.as_slice.result.now c.as_slice-2.result.now c.in_ok-version.ensures.ok c.as_slice.ensures c.as_slice-2.ensures
    c.drop_all.new.self c.in_ok-drop_all.ensures.ok c.add_all.new.self c.in_ok-add_all.ensures.ok c.in_ok-test_levels.ensures.ok
