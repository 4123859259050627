use Rattle.std.proofs.Common.{subst, sym}
use Rattle.lsm_bytes.specs.Varint.{BeginsWithVarint}
use Rattle.lsm_bytes.proofs.Fronts.{begins_there, past_fault}
use Rattle.lsm_bytes.proofs.varint.read_varint.Goals as goal

pub returns-then-at-bytes-clause-fault : goal.returns-then-at-bytes-clause-fault
returns-then-at-bytes-clause-fault c = past_fault c.args.bytes.now c.args.at c.if-at-bytes.true

pub returns-in-Err-clause-refused : goal.returns-in-Err-clause-refused
returns-in-Err-clause-refused c = λ n next found. c.in-Err.ensures.refused (subst BeginsWithVarint (sym c.split_at.ensures.back) (begins_there c.args.bytes.now c.args.at n next found))
