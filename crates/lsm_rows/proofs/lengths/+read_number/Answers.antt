use Rattle.std.proofs.Common.{◌<◌, length, inl, inr, arith}
use Rattle.std.proofs.lemmas.Result.{err_from_is_err_and}
use Rattle.lsm_rows.proofs.ReadNumbers.{read_end, read_outside, read_high, read_last, read_more}
use Rattle.lsm_rows.proofs.lengths.+read_number.Goals as goal
use Rattle.lsm_rows.proofs.lengths.+read_number.Goals.{then-byte-least-via-then-byte-least, then-byte-least-via-else-byte-least+then-byte-most}

pub returns-then-at-bytes-clause-fault : goal.returns-then-at-bytes-clause-fault
returns-then-at-bytes-clause-fault t c = read_end c.args.bytes.now c.args.at c.args.least c.args.most c.if-at-bytes.true c.requires.some

pub returns-then-byte-least-clause-fault : goal.returns-then-byte-least-clause-fault
returns-then-byte-least-clause-fault t c =
    let below : c.args.at < length c.args.bytes.now = omega arith in
    elim c.then-byte-least.branch [
      | then-byte-least-via-then-byte-least w ↦ read_outside c.args.bytes.now c.args.at c.args.least c.args.most below c.requires.some c.requires.least (inl w.if-byte-least.true)
      | then-byte-least-via-else-byte-least+then-byte-most w ↦ read_outside c.args.bytes.now c.args.at c.args.least c.args.most below c.requires.some c.requires.least (inr w.if-byte-most.true)
    ]

pub returns-then-byte-lt128-clause-ok : goal.returns-then-byte-lt128-clause-ok
returns-then-byte-lt128-clause-ok t c = read_last c.args.bytes.now c.args.at c.args.least c.args.most (omega arith) c.if-byte-lt128.true c.if-byte-least.false c.if-byte-most.false

pub returns-in_err-high-clause-fault : goal.returns-in_err-high-clause-fault
returns-in_err-high-clause-fault t c =
    let p = err_from_is_err_and c.from_residual.result c.from_residual.ensures.1 in
    rw (p.1, p.2) (read_high c.args.bytes.now c.args.at c.args.least c.args.most c.in_err-high.field-0.0.place (omega arith) c.requires.least c.if-byte-lt128.false (omega arith) c.if-byte-most.false c.in_err-high.ensures.fault)

pub returns-clause-ok : goal.returns-clause-ok
returns-clause-ok t c =
    read_more c.args.bytes.now c.args.at c.args.least c.args.most c.in_ok-high.high c.in_ok-high.next (omega arith) c.requires.least c.if-byte-lt128.false (omega arith) c.if-byte-most.false c.in_ok-high.ensures.ok
