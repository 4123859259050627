use Rattle.std.proofs.Common.{◌∙◌, sym}
use Rattle.lsm_volume.proofs.Ties.{start_tied, blank_tree, blank_leads}
use Rattle.lsm_volume.proofs.Rooms.{room_start}
use Rattle.lsm_volume.proofs.volume.Volume.new.Goals as goal

pub invariant_of-result : goal.invariant_of-result
invariant_of-result c = (
  start_tied c.args.links c.new.result c.new-3.result c.new-2.result.items c.new-4.result.items c.new-5.result.log
      (c.new.ensures ∙ sym c.new-3.ensures) (c.new-2.ensures.items ∙ sym c.new-4.ensures.items) c.new-5.ensures (blank_tree c.new-3.result c.new-3.ensures) (blank_leads c.new-3.result _ c.new-3.ensures),
  room_start c.new.result c.new-2.result.items c.new-5.result.room c.new.ensures c.new-2.ensures.items,
)
