use Rattle.std.proofs.Common.{◌≡◌, ◌∙◌, sym, ap, ◌++◌, ◌∷◌, [], false, arith}
use Rattle.std.specs.FinMap as map
use Rattle.lsm_disk.specs.Names.{Names, Folder_node, Put}
use Rattle.lsm_disk.specs.State.{Named}
use Rattle.lsm_volume.specs.Told.{start_of}
use Rattle.lsm_volume.proofs.Ties.{folder_tied}
use Rattle.lsm_volume.proofs.Rooms.{room_grown, len_put}
use Rattle.lsm_volume.proofs.volume.Volume.make_folder.Goals as goal

pub invariant_of-self-2 : goal.invariant_of-self-2
invariant_of-self-2 c =
    let m = c.self.inside in
    let path = c.args.path.now in
    let now : c.insert.new.self ≡ map.insert m.names path Folder_node =
    c.in_ok-insert.ensures.ok ∙ (λ i. map.insert m.names ((c.in_ok-key.ensures.items ∙ c.as_bytes.ensures.bytes) i) Folder_node) in (
      folder_tied (start_of m.links m.first_names m.first_files.items) m.links m.names m.names_synced m.files.items m.history.log c.self.invariant.0 _ path _
          (c.push.ensures.log ∙ (λ i. c.in_ok-reserve.ensures.log i ++ Named (Put ((c.in_ok-kept.ensures.items ∙ c.as_bytes-2.ensures.bytes) i) Folder_node) ∷ []))
          now (sym c.in_default.ensures),
      room_grown m.names m.names_synced m.files.items m.loose m.history.room c.self.invariant.1 _ false _ m.loose c.push.new.self.room c.in_ok-room.room
          (c.self.invariant.1.counted) (omega (arith, ap (λ (n : Names). map.len n) now, len_put m.names path Folder_node)) (omega arith)
          (omega (arith, c.in_ok-room.ensures.room, c.len.ensures.len)) (omega (arith, c.in_ok-reserve.ensures.room, c.push.ensures.room)),
    )
