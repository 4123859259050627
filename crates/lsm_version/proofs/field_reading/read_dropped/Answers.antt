use Rattle.std.proofs.Common.{refl, subst, sym}
use Rattle.std.proofs.lemmas.Result.{err_from_is_err_and}
use Rattle.lsm_version.specs.Reading.{IsRest, GoesOn}
use Rattle.lsm_version.proofs.ReadTables.{bad_fault}
use Rattle.lsm_version.proofs.ReadFields.{NoField, tag_fault, no_dropped, dropped_fault, dropped_at}
use Rattle.lsm_version.proofs.field_reading.read_dropped.Goals as goal

pub returns-in_default-clause-bad : goal.returns-in_default-clause-bad
returns-in_default-clause-bad c =
    bad_fault (IsRest c.args.after) (GoesOn c.args.after) c.args.bytes.now c.args.at c.args.at _ refl
    (tag_fault c.args.bytes.now c.args.at c.args.after c.requires.at (subst (NoField c.args.after) (sym c.requires.tag) (no_dropped c.args.after c.in_default.ensures.none)))

pub returns-in_err-place-clause-bad : goal.returns-in_err-place-clause-bad
returns-in_err-place-clause-bad c =
    let p = err_from_is_err_and c.from_residual.result c.from_residual.ensures.1 in
    rw (p.1, p.2) (bad_fault (IsRest c.args.after) (GoesOn c.args.after) c.args.bytes.now c.args.at c.in_err-place.field-0.0.place _ refl
    (dropped_fault c.args.bytes.now c.args.at c.args.after c.in-Some.behind c.requires.at c.requires.tag c.in-Some.ensures.some c.in_err-place.field-0.0.place c.in_err-place.ensures.fault))

pub returns-clause-ok : goal.returns-clause-ok
returns-clause-ok c =
    dropped_at c.args.bytes.now c.args.at c.args.after c.in-Some.behind c.requires.at c.requires.tag c.in-Some.ensures.some c.in_ok-place.place c.in_ok-place.next c.in_ok-place.ensures.ok
