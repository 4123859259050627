use Rattle.std.proofs.Common.{◌<◌, length, inl, inr, arith}
use Rattle.lsm_rows.proofs.ReadNumbers.{read_byte_end, read_byte_outside, read_byte_at}
use Rattle.lsm_rows.proofs.lengths.read_byte.Goals as goal
use Rattle.lsm_rows.proofs.lengths.read_byte.Goals.{then-byte-least-via-then-byte-least, then-byte-least-via-else-byte-least+then-byte-most}

pub returns-then-at-bytes-clause-fault : goal.returns-then-at-bytes-clause-fault
returns-then-at-bytes-clause-fault c = read_byte_end c.args.bytes.now c.args.at c.args.least c.args.most c.if-at-bytes.true c.requires.least c.requires.some

pub returns-then-byte-least-clause-fault : goal.returns-then-byte-least-clause-fault
returns-then-byte-least-clause-fault c =
    let below : c.args.at < length c.args.bytes.now = omega arith in
    elim c.then-byte-least.branch [
      | then-byte-least-via-then-byte-least w ↦ read_byte_outside c.args.bytes.now c.args.at c.args.least c.args.most below c.requires.least c.requires.some (inl w.if-byte-least.true)
      | then-byte-least-via-else-byte-least+then-byte-most w ↦ read_byte_outside c.args.bytes.now c.args.at c.args.least c.args.most below c.requires.least c.requires.some (inr w.if-byte-most.true)
    ]

pub returns-clause-ok : goal.returns-clause-ok
returns-clause-ok c = read_byte_at c.args.bytes.now c.args.at c.args.least c.args.most (omega arith) (omega arith) c.if-byte-least.false c.if-byte-most.false
