use Rattle.std.proofs.Common.{ℕ, List, arith, refl, sym, subst}
use Rattle.std.proofs.lemmas.Result.{err_from_is_err_and}
use Rattle.lsm_rows.specs.declared.operations.Op.TheVariants.{Delete}
use Rattle.lsm_rows.specs.Decoding.{IsOpIn, IsOpAt}
use Rattle.lsm_rows.proofs.ReadOps.{bad_fault, bad_memory, delete_key_fault, delete_at}
use Rattle.lsm_rows.proofs.decoding.read_delete.Goals as goal

pub returns-in_err-key-clause-bad : goal.returns-in_err-key-clause-bad
returns-in_err-key-clause-bad c =
    let p = err_from_is_err_and c.from_residual.result c.from_residual.ensures.1 in
    rw (p.1, p.2) (bad_fault (IsOpIn c.args.room) c.args.bytes.now c.args.at c.in_err-key.field-0.0.place _ refl
    (delete_key_fault c.args.bytes.now c.args.at c.args.room c.longest-most.result c.in_err-key.field-0.0.place c.requires.at c.requires.kind (omega arith) c.longest-most.ensures c.in_err-key.ensures.fault))

pub returns-in_err-key-2-clause-bad : goal.returns-in_err-key-2-clause-bad
returns-in_err-key-2-clause-bad c =
    let p = err_from_is_err_and c.from_residual-in_err-key-2.result c.from_residual-in_err-key-2.ensures.1 in
    rw (p.1, p.2) (bad_memory (IsOpIn c.args.room) c.args.bytes.now c.args.at _ refl)

pub returns-clause-ok : goal.returns-clause-ok
returns-clause-ok c =
    subst (λ (key : List ℕ). IsOpAt c.args.bytes.now c.args.at c.args.room (Delete key) c.in_ok-key.next) (sym c.in_ok-key-2.ensures)
    (delete_at c.args.bytes.now c.args.at c.args.room c.longest-most.result c.in_ok-key.key.now c.in_ok-key.next c.requires.at c.requires.kind (omega arith) c.longest-most.ensures c.in_ok-key.ensures.ok)
