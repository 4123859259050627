use Rattle.std.proofs.Common.{◌≡◌, ◌∙◌, sym, ap, ◌++◌, ◌∷◌, [], false, arith}
use Rattle.std.specs.FinMap as map
use Rattle.lsm_disk.specs.Names.{Names, File_node, Put}
use Rattle.lsm_disk.specs.State.{Named}
use Rattle.lsm_volume.specs.Told.{start_of}
use Rattle.lsm_volume.proofs.Ties.{link_tied, file_within}
use Rattle.lsm_volume.proofs.Rooms.{room_grown, len_put}
use Rattle.lsm_volume.proofs.volume.Volume.link.Goals as goal

pub invariant_of-self-2 : goal.invariant_of-self-2
invariant_of-self-2 c =
    let m = c.self.inside in
    let path = c.args.to.now in
    let id = c.in-Some.id in
    let now : c.insert.new.self ≡ map.insert m.names path (File_node id) =
    c.in_ok-insert.ensures.ok ∙ (λ i. map.insert m.names ((c.in_ok-key.ensures.items ∙ c.as_bytes-2.ensures.bytes) i) (File_node id)) in (
      link_tied (start_of m.links m.first_names m.first_files.items) m.links m.names m.names_synced m.files.items m.history.log c.self.invariant.0 _ path id _
          (c.push.ensures.log ∙ (λ i. c.in_ok-reserve.ensures.log i ++ Named (Put ((c.in_ok-kept.ensures.items ∙ c.as_bytes-3.ensures.bytes) i) (File_node id)) ∷ []))
          now (sym c.in_default-refusal_of_new.ensures)
          (file_within m.links m.names m.names_synced m.files.items _ c.as_bytes.result.now id c.self.invariant.0 c.in-Some.ensures),
      room_grown m.names m.names_synced m.files.items m.loose m.history.room c.self.invariant.1 _ false _ m.loose c.push.new.self.room c.in_ok-room.room
          (c.self.invariant.1.counted) (omega (arith, ap (λ (n : Names). map.len n) now, len_put m.names path (File_node id))) (omega arith)
          (omega (arith, c.in_ok-room.ensures.room, c.len.ensures.len)) (omega (arith, c.in_ok-reserve.ensures.room, c.push.ensures.room)),
    )
