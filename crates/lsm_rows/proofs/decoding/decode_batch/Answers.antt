use Rattle.std.proofs.Common.{refl, sym, ◌∙◌}
use Rattle.lsm_rows.proofs.ReadBatch.{bad_batch, extra_no_batch, read_whole, read_limits, text_len-is}
use Rattle.lsm_rows.proofs.decoding.decode_batch.Goals as goal

pub returns-then-end-bytes-clause-bad : goal.returns-then-end-bytes-clause-bad
returns-then-end-bytes-clause-bad c =
    bad_batch c.args.bytes.now c.in_ok-ops.end _ refl
    (extra_no_batch c.args.bytes.now c.in_ok-first.first c.in_ok-first.count c.in_ok-ops.ops.items c.in_ok-ops.end c.in_ok-first.ensures.ok c.in_ok-ops.ensures.ok c.if-end-bytes.true)

pub from_ops-requires-clause-limits : goal.from_ops-requires-clause-limits
from_ops-requires-clause-limits c =
    read_limits c.args.bytes.now c.in_ok-first.first c.in_ok-first.count c.in_ok-ops.ops.items c.in_ok-ops.end c.in_ok-first.ensures.ok c.in_ok-ops.ensures.ok

pub from_ops-requires-clause-size : goal.from_ops-requires-clause-size
from_ops-requires-clause-size c = c.in_ok-ops.ensures.ok.ends ∙ sym (text_len-is c.in_ok-ops.ops.items)

pub returns-clause-ok : goal.returns-clause-ok
returns-clause-ok c =
    rw c.from_ops.ensures
    (read_whole c.args.bytes.now c.in_ok-first.first c.in_ok-first.count c.in_ok-ops.ops.items c.in_ok-ops.end c.in_ok-first.ensures.ok c.in_ok-ops.ensures.ok c.if-end-bytes.false)
