use Rattle.std.proofs.Common.{◌≡◌, ◌∙◌, sym, ap, ◌++◌, ◌∷◌, [], List, ℕ, false, arith}
use Rattle.std.specs.FinMap as map
use Rattle.std.specs.Prelude.{Some, None}
use Rattle.lsm_disk.specs.Names.{Names, Moved, renamed}
use Rattle.lsm_disk.specs.State.{Named}
use Rattle.lsm_volume.specs.Told.{start_of}
use Rattle.lsm_nametable.specs.Target.{node_of}
use Rattle.lsm_volume.proofs.Ties.{rename_tied, free_now}
use Rattle.lsm_volume.proofs.Rooms.{room_grown, len_moved}
use Rattle.std.specs.Prelude.{option_map}
use Rattle.lsm_disk.specs.Names.{stands}
use Rattle.lsm_disk.specs.Refusals.{no_move_in}
use Rattle.lsm_volume.proofs.Ties.{stood_named, folder_room}
use Rattle.lsm_volume.proofs.volume.Volume.rename.Goals as goal

pub rename-requires-clause-free : goal.rename-requires-clause-free
rename-requires-clause-free c is rest tail =
    let m = c.self.inside in
    let from = c.args.from.now in
    let to = c.args.to.now in
    let node = node_of c.unwrap-target.result in
    let stood : stands m.names from ≡ Some node = ap (stands m.names) (sym c.as_bytes.ensures.bytes) ∙ sym c.standing-standing.ensures ∙ ap (option_map node_of) c.unwrap-target.ensures in
    let allows : no_move_in from to m.names (Some node) ≡ None = ap (λ o. no_move_in from to m.names (option_map node_of o)) (sym c.unwrap-target.ensures) ∙ sym c.in_default.ensures in
    ap (λ (p : List ℕ). map.get m.names (p ++ rest)) c.as_bytes-5.ensures.bytes
    ∙ free_now m.links m.names m.names_synced m.files.items _ to rest c.self.invariant.0 (folder_room from to m.names node is allows) tail

pub invariant_of-self-2 : goal.invariant_of-self-2
invariant_of-self-2 c =
    let m = c.self.inside in
    let from = c.args.from.now in
    let to = c.args.to.now in
    let node = node_of c.unwrap-target.result in
    let stood : stands m.names from ≡ Some node = ap (stands m.names) (sym c.as_bytes.ensures.bytes) ∙ sym c.standing-standing.ensures ∙ ap (option_map node_of) c.unwrap-target.ensures in
    let allows : no_move_in from to m.names (Some node) ≡ None = ap (λ o. no_move_in from to m.names (option_map node_of o)) (sym c.unwrap-target.ensures) ∙ sym c.in_default.ensures in
    let there : map.get m.names from ≡ Some node = stood_named m.names from to node stood allows in
    let now : c.rename.new.self ≡ renamed from to (Some node) m.names = c.in_ok-rename.ensures.ok ∙ (λ i. renamed (c.as_bytes-4.ensures.bytes i) (c.as_bytes-5.ensures.bytes i) (Some node) m.names) in (
      rename_tied (start_of m.links m.first_names m.first_files.items) m.links m.names m.names_synced m.files.items m.history.log c.self.invariant.0 _ from to node _
          (c.push.ensures.log ∙ (λ i. c.in_ok-reserve.ensures.log i ++ Named (Moved ((c.in_ok-kept_from.ensures.items ∙ c.as_bytes-2.ensures.bytes) i) ((c.in_ok-kept_to.ensures.items ∙ c.as_bytes-3.ensures.bytes) i)) ∷ []))
          now there (ap (no_move_in from to m.names) stood ∙ allows),
      room_grown m.names m.names_synced m.files.items m.loose m.history.room c.self.invariant.1 _ false _ m.loose c.push.new.self.room c.in_ok-room.room c.self.invariant.1.counted
          (omega (arith, ap (λ (n : Names). map.len n) now, len_moved m.names from to node there)) (omega arith)
          (omega (arith, c.in_ok-room.ensures.room, c.len.ensures.len)) (omega (arith, c.in_ok-reserve.ensures.room, c.push.ensures.room)),
    )
