use Rattle.std.proofs.Common.{refl, subst, sym, arith}
use Rattle.std.proofs.lemmas.Result.{err_from_is_err_and}
use Rattle.lsm_version.specs.declared.fields.Field.TheVariants.{LogNumber}
use Rattle.lsm_version.specs.Edits.{last_number}
use Rattle.lsm_version.specs.Reading.{IsRest, GoesOn}
use Rattle.lsm_version.proofs.ReadTables.{bad_fault}
use Rattle.lsm_version.proofs.ReadFields.{NoField, tag_fault, no_number, log_field, number_fault, number_at}
use Rattle.lsm_version.proofs.field_reading.read_log.Goals as goal

pub returns-then-after-ge-LOG_NUMBER-clause-bad : goal.returns-then-after-ge-LOG_NUMBER-clause-bad
returns-then-after-ge-LOG_NUMBER-clause-bad c =
    bad_fault (IsRest c.args.after) (GoesOn c.args.after) c.args.bytes.now c.args.at c.args.at _ refl
    (tag_fault c.args.bytes.now c.args.at c.args.after c.requires.at (subst (NoField c.args.after) (sym c.requires.tag) (no_number c.args.after 1 (omega arith) c.if-after-ge-LOG_NUMBER.true)))

pub returns-in_err-number-clause-bad : goal.returns-in_err-number-clause-bad
returns-in_err-number-clause-bad c =
    let p = err_from_is_err_and c.from_residual.result c.from_residual.ensures.1 in
    rw (p.1, p.2) (bad_fault (IsRest c.args.after) (GoesOn c.args.after) c.args.bytes.now c.args.at c.in_err-number.field-0.0.place _ refl
    (number_fault c.args.bytes.now c.args.at 1 1 last_number LogNumber c.args.after c.requires.at c.requires.tag (log_field c.args.after (omega (arith, c.if-after-ge-LOG_NUMBER.false)))
    c.in_err-number.field-0.0.place c.in_err-number.ensures.fault))

pub returns-clause-ok : goal.returns-clause-ok
returns-clause-ok c =
    number_at c.args.bytes.now c.args.at 1 1 last_number LogNumber c.args.after c.requires.at c.requires.tag (log_field c.args.after (omega (arith, c.if-after-ge-LOG_NUMBER.false)))
    c.in_ok-number.number c.in_ok-number.next c.in_ok-number.ensures.ok
