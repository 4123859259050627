use Rattle.std.proofs.Common.{◌≡◌, Some, ap, ◌∙◌, get_or, rules}
use Rattle.std.proofs.lemmas.Result.{err_from_is_err_and}
use Rattle.lsm_version.specs.Versions.{added}
use Rattle.lsm_version.proofs.TableMaps.{added_none}
use Rattle.lsm_version.proofs.Overlaps.{fold_stops}
use Rattle.lsm_version.proofs.version.Version.add_all.Goals as goal

pub returns-in_err-add_one-clause-err : goal.returns-in_err-add_one-clause-err
returns-in_err-add_one-clause-err c =
    let p = err_from_is_err_and c.from_residual.result c.from_residual.ensures.1 in
    let at : get_or c.args.adds.now c.loop-add.add-index c.add-item.result ≡ c.add-item.result = search rules in
    rw (p.1, p.2) (λ other.
    let why = c.in_err-add_one.ensures.err other in
    (why.0, fold_stops added added_none c.args.adds.now c.loop-add.add-index c.add-item.result (Some c.args.self.now) (Some c.loop-add.self) c.loop-add-test.true c.loop-add.invariant (ap (added (Some c.loop-add.self)) at ∙ why.1)))
