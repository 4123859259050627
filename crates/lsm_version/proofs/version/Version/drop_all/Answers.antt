use Rattle.std.proofs.Common.{Some}
use Rattle.std.proofs.lemmas.Result.{err_from_is_err_and}
use Rattle.lsm_version.specs.Versions.{dropped}
use Rattle.lsm_version.proofs.TableMaps.{dropped_none}
use Rattle.lsm_version.proofs.Overlaps.{fold_stops}
use Rattle.lsm_version.proofs.version.Version.drop_all.Goals as goal

pub returns-in_err-drop_one-clause-refused : goal.returns-in_err-drop_one-clause-refused
returns-in_err-drop_one-clause-refused c =
    let p = err_from_is_err_and c.from_residual.result c.from_residual.ensures.1 in
    rw (p.1) (fold_stops dropped dropped_none c.args.places.now c.loop-place.place-index _ (Some c.args.self.now) (Some c.loop-place.self) c.loop-place-test.true c.loop-place.invariant c.in_err-drop_one.ensures.refused)
