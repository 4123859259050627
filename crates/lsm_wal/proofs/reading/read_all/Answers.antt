use Rattle.std.proofs.Common.{ℕ, ◌+◌, List, ap, subst}
use Rattle.lsm_frame.specs.Reader.{Tells}
use Rattle.lsm_wal.specs.Stepping.{IsNext, Follows}
use Rattle.lsm_wal.proofs.Following.{going_more}
use Rattle.lsm_wal.proofs.reading.read_all.Goals as goal

pub loop-batches-preserved : goal.loop-batches-preserved
loop-batches-preserved g c =
    let now = c.loop-batches.reader in
    going_more c.args.reader.now c.loop-batches.reader c.read_next.new.reader c.args.expected c.loop-batches.next c.loop-batches.batches c.loop-batches.invariant c.read_next.ensures.view
    c.in-More.batch (c.loop-batches.next + c.len.result) c.push.new.self
    (subst (λ step. (text : List ℕ) → Tells now.viewed text → IsNext text now.given c.loop-batches.next step) c.in-More.is c.in_ok-batch.ensures.next)
    (subst (λ step. Follows now c.read_next.new.reader c.loop-batches.next step) c.in-More.is c.in_ok-batch.ensures.follows)
    (ap (λ (n : ℕ). c.loop-batches.next + n) c.len.ensures.len) c.in-Ok.ensures.ok
