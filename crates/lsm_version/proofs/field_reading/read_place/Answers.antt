use Rattle.std.proofs.lemmas.Result.{err_from_is_err_and}
use Rattle.lsm_version.proofs.ReadPlaces.{level_fault, number_fault, place_at}
use Rattle.lsm_version.proofs.field_reading.read_place.Goals as goal

pub returns-in_err-level-clause-fault : goal.returns-in_err-level-clause-fault
returns-in_err-level-clause-fault c =
    let p = err_from_is_err_and c.from_residual.result c.from_residual.ensures.1 in
    rw (p.1, p.2) (level_fault c.args.bytes.now c.args.at c.least_level-least.result c.in_err-level.field-0.0.place c.args.behind c.requires.behind
    (c.least_level-least.ensures.same, c.least_level-least.ensures.next) c.in_err-level.ensures.fault)

pub returns-in_err-number-clause-fault : goal.returns-in_err-number-clause-fault
returns-in_err-number-clause-fault c =
    let p = err_from_is_err_and c.from_residual-in_err-number.result c.from_residual-in_err-number.ensures.1 in
    rw (p.1, p.2) (number_fault c.args.bytes.now c.args.at c.least_level-least.result c.in_ok-level.level c.in_ok-level.number_at c.least_number-least.result c.args.behind
    (c.least_level-least.ensures.same, c.least_level-least.ensures.next) (c.least_number-least.ensures.same, c.least_number-least.ensures.other) c.in_ok-level.ensures.ok
    c.in_err-number.field-0.0.place c.in_err-number.ensures.fault)

pub returns-clause-ok : goal.returns-clause-ok
returns-clause-ok c =
    place_at c.args.bytes.now c.args.at c.least_level-least.result c.in_ok-level.level c.in_ok-level.number_at c.least_number-least.result c.args.behind
    (c.least_level-least.ensures.same, c.least_level-least.ensures.next) (c.least_number-least.ensures.same, c.least_number-least.ensures.other) c.in_ok-level.ensures.ok
    c.in_ok-number.number c.in_ok-number.next c.in_ok-number.ensures.ok
