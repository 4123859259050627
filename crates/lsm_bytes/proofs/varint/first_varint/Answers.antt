use Rattle.std.proofs.Common.{◌<◌, arith}
use Rattle.lsm_bytes.proofs.Fronts.{before_tenth, end_fault, end_refused, fault_stuck, front_last, front_more, front_start, last_fits, more_fits, stuck_fault, stuck_refused}
use Rattle.lsm_bytes.proofs.varint.first_varint.Goals as goal

pub loop-index-init : goal.loop-index-init
loop-index-init c = record { few = omega arith; front = front_start c.args.bytes.now }

pub returns-then-is_fault-clause-refused : goal.returns-then-is_fault-clause-refused
returns-then-is_fault-clause-refused c =
    let l = c.loop-index in
    let front = l.invariant.front in
    stuck_refused c.args.bytes.now l.index l.number l.unit c.from-byte.result front c.loop-index-test.true c.from-byte.ensures (fault_stuck l.index l.number l.unit c.from-byte.result front.power c.if-is_fault.ensures.fault)

pub returns-then-is_fault-clause-fault : goal.returns-then-is_fault-clause-fault
returns-then-is_fault-clause-fault c =
    let l = c.loop-index in
    let front = l.invariant.front in
    stuck_fault c.args.bytes.now l.index l.number l.unit c.from-byte.result front c.loop-index-test.true c.from-byte.ensures l.invariant.few (fault_stuck l.index l.number l.unit c.from-byte.result front.power c.if-is_fault.ensures.fault)

pub returns-then-byte-lt128-clause-read : goal.returns-then-byte-lt128-clause-read
returns-then-byte-lt128-clause-read c =
    let l = c.loop-index in
    let front = l.invariant.front in
    let good = c.if-is_fault.ensures.good in
    let fits = last_fits l.index l.number l.unit c.from-byte.result front.below front.power l.invariant.few c.if-byte-lt128.true good.1 in
    front_last c.args.bytes.now l.index l.number l.unit c.from-byte.result front c.loop-index-test.true c.from-byte.ensures c.if-byte-lt128.true good.0 fits

pub overflow_mul-unit : goal.overflow_mul-unit
overflow_mul-unit c =
    let l = c.loop-index in
    omega (arith, more_fits l.index l.unit l.invariant.front.power (before_tenth l.index c.from-byte.result c.if-is_fault.ensures.good.1 l.invariant.few c.if-byte-lt128.false))

pub loop-index-preserved : goal.loop-index-preserved
loop-index-preserved c =
    let l = c.loop-index in
    let less : l.index < 9 = before_tenth l.index c.from-byte.result c.if-is_fault.ensures.good.1 l.invariant.few c.if-byte-lt128.false in
    let byte : c.from-byte.result < 256 = omega (arith, c.from-byte.ensures, c.type_inv.bytes l.index) in
    record {
      few = omega arith;
      front = front_more c.args.bytes.now l.index l.number l.unit c.from-byte.result l.invariant.front c.loop-index-test.true c.from-byte.ensures c.if-byte-lt128.false byte;
    }

pub returns-clause-refused : goal.returns-clause-refused
returns-clause-refused c =
    let l = c.loop-index in
    end_refused c.args.bytes.now l.index l.number l.unit l.invariant.front (omega arith)

pub returns-clause-fault : goal.returns-clause-fault
returns-clause-fault c =
    let l = c.loop-index in
    end_fault c.args.bytes.now l.index l.number l.unit l.invariant.front (omega arith) l.invariant.few
