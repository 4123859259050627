use Rattle.std.proofs.Common.{◌≡◌, ◌∙◌, sym, ap, ◌++◌, ◌∷◌, [], false, length, arith, rules}
use Rattle.std.specs.FinMap as map
use Rattle.lsm_disk.specs.Names.{Names, File_node}
use Rattle.lsm_disk.specs.State.{Created, new_file}
use Rattle.lsm_volume.specs.Told.{start_of}
use Rattle.lsm_volume.specs.Room.{loose_files}
use Rattle.lsm_volume.proofs.Ties.{create_tied}
use Rattle.lsm_volume.proofs.Rooms.{room_grown, len_put, loose_new}
use Rattle.lsm_volume.proofs.volume.Volume.create.Goals as goal

pub invariant_of-self-2 : goal.invariant_of-self-2
invariant_of-self-2 c =
    let m = c.self.inside in
    let path = c.args.path.now in
    let number : c.len-2.result ≡ length m.files.items = search rules in
    let now : c.insert.new.self ≡ map.insert m.names path (File_node (length m.files.items)) =
    c.in_ok-insert.ensures.ok ∙ (λ i. map.insert m.names ((c.in_ok-key.ensures.items ∙ c.as_bytes.ensures.bytes) i) (File_node (number i))) in
    let longer : c.push_room.new.items.items ≡ m.files.items ++ new_file ∷ [] = c.push_room.ensures.items ∙ (λ i. c.in_ok-reserve.ensures.items i ++ c.new.ensures i ∷ []) in (
      create_tied (start_of m.links m.first_names m.first_files.items) m.links m.names m.names_synced m.files.items m.history.log c.self.invariant.0 _ path _ _
          (c.push.ensures.log ∙ (λ i. c.in_ok-reserve-2.ensures.log i ++ Created ((c.in_ok-kept.ensures.items ∙ c.as_bytes-2.ensures.bytes) i) ∷ []))
          now longer (sym c.in_default.ensures),
      room_grown m.names m.names_synced m.files.items m.loose m.history.room c.self.invariant.1 _ false _ m.loose c.push.new.self.room c.in_ok-room.room
          (c.self.invariant.1.counted ∙ sym (ap loose_files longer ∙ loose_new m.files.items)) (omega (arith, ap (λ (n : Names). map.len n) now, len_put m.names path (File_node (length m.files.items)))) (omega arith)
          (omega (arith, c.in_ok-room.ensures.room, c.len.ensures.len)) (omega (arith, c.in_ok-reserve-2.ensures.room, c.push.ensures.room)),
    )
