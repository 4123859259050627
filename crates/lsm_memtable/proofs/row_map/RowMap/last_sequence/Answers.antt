use Rattle.std.proofs.Common.{sym, ap, ◌∙◌}
use Rattle.lsm_memtable.specs.Greatest.{greatest_from}
use Rattle.lsm_memtable.proofs.Greatests.{greatest-append}
use Rattle.lsm_memtable.proofs.Totals.{joined, joined_values}
use Rattle.lsm_memtable.proofs.row_map.RowMap.last_sequence.Goals as goal

pub loop-versions-init : goal.loop-versions-init
loop-versions-init c =
    ap (greatest_from 0) (ap joined (c.into_iter-versions-iterator.ensures.into_iter_gives ∙ c.values-versions-items.ensures.rest)
    ∙ joined_values c.self.inside.keys.entries ∙ c.self.view_is)

pub loop-versions-preserved : goal.loop-versions-preserved
loop-versions-preserved c =
    ap (λ n. greatest_from n (joined c.next.new.self)) c.last_from-last.ensures
    ∙ sym (greatest-append c.loop-versions.last c.in-Some.versions.now (joined c.next.new.self))
    ∙ sym (ap (λ lists. greatest_from c.loop-versions.last (joined lists)) c.in-Some.ensures.steps) ∙ c.loop-versions.invariant
