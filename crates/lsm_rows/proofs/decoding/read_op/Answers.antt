use Rattle.std.proofs.Common.{arith, refl}
use Rattle.lsm_rows.specs.Decoding.{IsOpIn}
use Rattle.lsm_rows.proofs.ReadOps.{bad_fault, op_end, op_kind}
use Rattle.lsm_rows.proofs.decoding.read_op.Goals as goal
use Rattle.lsm_rows.proofs.decoding.read_op.Goals.{else-kind-eq-PUT-via-then-kind-eq-PUT+else-room-ge-SHORTEST_PUT, else-kind-eq-PUT-via-else-kind-eq-PUT}

pub returns-then-at-bytes-clause-bad : goal.returns-then-at-bytes-clause-bad
returns-then-at-bytes-clause-bad c = bad_fault (IsOpIn c.args.room) c.args.bytes.now c.args.at c.args.at _ refl (op_end c.args.bytes.now c.args.at c.args.room c.if-at-bytes.true c.requires.some)

pub returns-else-kind-eq-PUT-clause-bad : goal.returns-else-kind-eq-PUT-clause-bad
returns-else-kind-eq-PUT-clause-bad c =
    bad_fault (IsOpIn c.args.room) c.args.bytes.now c.args.at c.args.at _ refl
    (op_kind c.args.bytes.now c.args.at c.args.room (omega arith) c.requires.some c.if-kind-eq-DELETE.false
    (elim c.else-kind-eq-PUT.branch [
      | else-kind-eq-PUT-via-then-kind-eq-PUT+else-room-ge-SHORTEST_PUT w ↦ λ _. w.if-room-ge-SHORTEST_PUT.false
      | else-kind-eq-PUT-via-else-kind-eq-PUT w ↦ λ put. absurd (w.if-kind-eq-PUT.false put)
    ]))
