use Rattle.std.proofs.Common.{ℕ, List, arith, refl, sym, subst}
use Rattle.std.proofs.lemmas.Result.{err_from_is_err_and}
use Rattle.lsm_rows.specs.declared.operations.Op.TheVariants.{Put}
use Rattle.lsm_rows.specs.Decoding.{IsOpIn, IsOpAt}
use Rattle.lsm_rows.proofs.ReadOps.{bad_fault, bad_memory, put_key_fault, put_value_fault, put_at, value_room}
use Rattle.lsm_rows.proofs.decoding.read_put.Goals as goal

pub returns-in_err-key-clause-bad : goal.returns-in_err-key-clause-bad
returns-in_err-key-clause-bad c =
    let p = err_from_is_err_and c.from_residual.result c.from_residual.ensures.1 in
    rw (p.1, p.2) (bad_fault (IsOpIn c.args.room) c.args.bytes.now c.args.at c.in_err-key.field-0.0.place _ refl
    (put_key_fault c.args.bytes.now c.args.at c.args.room c.longest-most_key.result c.in_err-key.field-0.0.place c.requires.at c.requires.kind c.requires.room c.longest-most_key.ensures c.in_err-key.ensures.fault))

pub overflow_sub-room-2 : goal.overflow_sub-room-2
overflow_sub-room-2 c =
    let left = value_room c.args.bytes.now c.args.at c.args.room c.longest-most_key.result c.in_ok-key.value_at c.in_ok-key.key.now c.requires.room c.longest-most_key.ensures c.in_ok-key.ensures.ok in
    omega (arith, left.1)

pub longest-most_value-requires-clause-room : goal.longest-most_value-requires-clause-room
longest-most_value-requires-clause-room c =
    let left = value_room c.args.bytes.now c.args.at c.args.room c.longest-most_key.result c.in_ok-key.value_at c.in_ok-key.key.now c.requires.room c.longest-most_key.ensures c.in_ok-key.ensures.ok in
    omega (arith, left.1)

pub returns-in_err-value-clause-bad : goal.returns-in_err-value-clause-bad
returns-in_err-value-clause-bad c =
    let p = err_from_is_err_and c.from_residual-in_err-value.result c.from_residual-in_err-value.ensures.1 in
    rw (p.1, p.2) (bad_fault (IsOpIn c.args.room) c.args.bytes.now c.args.at c.in_err-value.field-0.0.place _ refl
    (put_value_fault c.args.bytes.now c.args.at c.args.room c.longest-most_key.result c.longest-most_value.result c.in_ok-key.value_at c.in_ok-key.key.now c.in_err-value.field-0.0.place
    c.requires.at c.requires.kind c.requires.room c.longest-most_key.ensures c.in_ok-key.ensures.ok c.longest-most_value.ensures c.in_err-value.ensures.fault))

pub returns-in_err-key-2-clause-bad : goal.returns-in_err-key-2-clause-bad
returns-in_err-key-2-clause-bad c =
    let p = err_from_is_err_and c.from_residual-in_err-key-2.result c.from_residual-in_err-key-2.ensures.1 in
    rw (p.1, p.2) (bad_memory (IsOpIn c.args.room) c.args.bytes.now c.args.at _ refl)

pub returns-in_err-value-2-clause-bad : goal.returns-in_err-value-2-clause-bad
returns-in_err-value-2-clause-bad c =
    let p = err_from_is_err_and c.from_residual-in_err-value-2.result c.from_residual-in_err-value-2.ensures.1 in
    rw (p.1, p.2) (bad_memory (IsOpIn c.args.room) c.args.bytes.now c.args.at _ refl)

pub returns-clause-ok : goal.returns-clause-ok
returns-clause-ok c =
    subst (λ (key : List ℕ). IsOpAt c.args.bytes.now c.args.at c.args.room (Put key c.in_ok-value-2.value) c.in_ok-value.next) (sym c.in_ok-key-2.ensures)
    (subst (λ (value : List ℕ). IsOpAt c.args.bytes.now c.args.at c.args.room (Put c.in_ok-key.key.now value) c.in_ok-value.next) (sym c.in_ok-value-2.ensures)
    (put_at c.args.bytes.now c.args.at c.args.room c.longest-most_key.result c.longest-most_value.result c.in_ok-key.value_at c.in_ok-key.key.now c.in_ok-value.value.now c.in_ok-value.next
    c.requires.at c.requires.kind c.requires.room c.longest-most_key.ensures c.in_ok-key.ensures.ok c.longest-most_value.ensures c.in_ok-value.ensures.ok))
