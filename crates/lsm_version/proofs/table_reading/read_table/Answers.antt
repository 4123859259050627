use Rattle.std.proofs.Common.{ℕ, List, refl, sym, subst}
use Rattle.std.proofs.lemmas.Result.{err_from_is_err_and}
use Rattle.lsm_rows.specs.Pieces.{Begins}
use Rattle.lsm_version.specs.Reading.{IsTableIn, IsTableAt}
use Rattle.lsm_version.proofs.ReadTables.{bad_memory, piece_bad, table_session_fault, table_size_fault, table_smallest_fault, table_largest_fault, table_at}
use Rattle.lsm_version.proofs.table_reading.read_table.Goals as goal

pub returns-in_err-session-clause-bad : goal.returns-in_err-session-clause-bad
returns-in_err-session-clause-bad c =
    let p = err_from_is_err_and c.from_residual.result c.from_residual.ensures.1 in
    rw (p.1, p.2) (piece_bad IsTableIn c.args.bytes.now c.args.at c.in_err-session.field-0.0.place _ refl
    (table_session_fault c.args.bytes.now c.args.at c.in_err-session.field-0.0.place c.in_err-session.ensures.fault))

pub returns-in_err-size-clause-bad : goal.returns-in_err-size-clause-bad
returns-in_err-size-clause-bad c =
    let p = err_from_is_err_and c.from_residual-in_err-size.result c.from_residual-in_err-size.ensures.1 in
    rw (p.1, p.2) (piece_bad IsTableIn c.args.bytes.now c.args.at c.in_err-size.field-0.0.place _ refl
    (table_size_fault c.args.bytes.now c.args.at c.in_ok-session.session c.in_ok-session.ensures.ok c.in_err-size.field-0.0.place c.in_err-size.ensures.fault))

pub returns-in_err-smallest-clause-bad : goal.returns-in_err-smallest-clause-bad
returns-in_err-smallest-clause-bad c =
    let p = err_from_is_err_and c.from_residual-in_err-smallest.result c.from_residual-in_err-smallest.ensures.1 in
    rw (p.1, p.2) (piece_bad IsTableIn c.args.bytes.now c.args.at c.in_err-smallest.field-0.0.place _ refl
    (table_smallest_fault c.args.bytes.now c.args.at c.in_ok-session.session c.in_ok-session.ensures.ok c.in_ok-size.size c.in_ok-size.smallest_at c.in_ok-size.ensures.ok
    c.in_err-smallest.field-0.0.place c.in_err-smallest.ensures.fault))

pub returns-in_err-largest-clause-bad : goal.returns-in_err-largest-clause-bad
returns-in_err-largest-clause-bad c =
    let p = err_from_is_err_and c.from_residual-in_err-largest.result c.from_residual-in_err-largest.ensures.1 in
    rw (p.1, p.2) (piece_bad IsTableIn c.args.bytes.now c.args.at c.in_err-largest.field-0.0.place _ refl
    (table_largest_fault c.args.bytes.now c.args.at c.in_ok-session.session c.in_ok-session.ensures.ok c.in_ok-size.size c.in_ok-size.smallest_at c.in_ok-size.ensures.ok
    c.in_ok-smallest.smallest.now c.in_ok-smallest.largest_at c.in_ok-smallest.ensures.ok c.in_err-largest.field-0.0.place c.in_err-largest.ensures.fault))

pub returns-in_err-smallest-2-clause-bad : goal.returns-in_err-smallest-2-clause-bad
returns-in_err-smallest-2-clause-bad c =
    let p = err_from_is_err_and c.from_residual-in_err-smallest-2.result c.from_residual-in_err-smallest-2.ensures.1 in
    rw (p.1, p.2) (bad_memory IsTableIn (Begins IsTableIn) c.args.bytes.now c.args.at _ refl)

pub returns-in_err-largest-2-clause-bad : goal.returns-in_err-largest-2-clause-bad
returns-in_err-largest-2-clause-bad c =
    let p = err_from_is_err_and c.from_residual-in_err-largest-2.result c.from_residual-in_err-largest-2.ensures.1 in
    rw (p.1, p.2) (bad_memory IsTableIn (Begins IsTableIn) c.args.bytes.now c.args.at _ refl)

pub returns-clause-ok : goal.returns-clause-ok
returns-clause-ok c =
    let session : List ℕ = c.in_ok-session.session in
    let size : ℕ = c.in_ok-size.size in
    subst (λ (smallest : List ℕ). IsTableAt c.args.bytes.now c.args.at (record { number = c.args.number; session = session; size = size; smallest = smallest; largest = c.in_ok-largest-2.largest }) c.in_ok-largest.next)
    (sym c.in_ok-smallest-2.ensures)
    (subst
    (λ (largest : List ℕ). IsTableAt c.args.bytes.now c.args.at (record { number = c.args.number; session = session; size = size; smallest = c.in_ok-smallest.smallest.now; largest = largest }) c.in_ok-largest.next)
    (sym c.in_ok-largest-2.ensures)
    (table_at c.args.bytes.now c.args.at session c.in_ok-session.ensures.ok size c.in_ok-size.smallest_at c.in_ok-size.ensures.ok
    c.in_ok-smallest.smallest.now c.in_ok-smallest.largest_at c.in_ok-smallest.ensures.ok c.args.number c.in_ok-largest.largest.now c.in_ok-largest.next c.in_ok-largest.ensures.ok))
