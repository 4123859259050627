use Rattle.std.proofs.Common.{◌<◌, ◌∙◌, ap, sym, length, take, rules}
use Rattle.std.proofs.lemmas.List.{take_more}
use Rattle.lsm_memdisk.specs.Plan.{last_for, or_first}
use Rattle.lsm_memdisk.proofs.Plans.{last_push}
use Rattle.lsm_memdisk.proofs.plan.last_for.Goals as goal

pub loop-at-preserved : goal.loop-at-preserved
loop-at-preserved c =
    let call = c.args.call in
    let entries = c.args.entries.now in
    let at = c.loop-at.at in
    let lt : at < length entries = search rules in
    c.or_first-found.ensures ∙ (λ i. or_first (c.effect_at.ensures i) (c.loop-at.invariant i))
    ∙ sym (ap (last_for call) (take_more entries at _ lt) ∙ last_push call (take at entries) _)
