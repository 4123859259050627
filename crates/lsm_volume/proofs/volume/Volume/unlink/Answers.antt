use Rattle.std.proofs.Common.{◌≡◌, ◌∙◌, ap, ◌++◌, ◌∷◌, [], List, ℕ, true, arith, rules}
use Rattle.std.specs.FinMap as map
use Rattle.std.specs.Prelude.{is_some}
use Rattle.lsm_disk.specs.Names.{Gone, id_of}
use Rattle.lsm_disk.specs.State.{Named}
use Rattle.lsm_volume.specs.Told.{start_of}
use Rattle.lsm_volume.proofs.Ties.{unlink_tied}
use Rattle.lsm_volume.proofs.Rooms.{room_gone, len_gone}
use Rattle.lsm_volume.proofs.Ties.{some_file, some_name, taken_is}
use Rattle.lsm_volume.proofs.volume.Volume.unlink.Goals as goal

pub push-requires-clause-room : goal.push-requires-clause-room
push-requires-clause-room c =
    let m = c.self.inside in
    let path = c.args.path.now in
    let file : is_some (id_of (map.get m.names path)) ≡ true = some_file (id_of (map.get m.names path)) (search rules) in
    let there : is_some (map.get m.names path) ≡ true = some_name (map.get m.names path) file in
    let now : c.take.new.self ≡ map.remove m.names path = c.take.ensures.names ∙ ap (map.remove m.names) c.as_bytes-2.ensures.bytes in
    omega (arith, len_gone m.names path there, c.self.invariant.1.enough)

pub invariant_of-self-2 : goal.invariant_of-self-2
invariant_of-self-2 c =
    let m = c.self.inside in
    let path = c.args.path.now in
    let file : is_some (id_of (map.get m.names path)) ≡ true = some_file (id_of (map.get m.names path)) (search rules) in
    let there : is_some (map.get m.names path) ≡ true = some_name (map.get m.names path) file in
    let now : c.take.new.self ≡ map.remove m.names path = c.take.ensures.names ∙ ap (map.remove m.names) c.as_bytes-2.ensures.bytes in
    let key : c.unwrap-key.result.items ≡ path = taken_is c.take.result c.unwrap-key.result c.as_bytes-2.result.now c.unwrap-key.ensures c.take.ensures.key ∙ c.as_bytes-2.ensures.bytes in (
      unlink_tied (start_of m.links m.first_names m.first_files.items) m.links m.names m.names_synced m.files.items m.history.log c.self.invariant.0 _ path _ (c.push.ensures.log ∙ ap (λ (p : List ℕ). m.history.log ++ Named (Gone p) ∷ []) key) now file,
      room_gone m.names m.names_synced m.files.items m.loose m.history.room c.self.invariant.1 path _ _ now there c.push.ensures.room,
    )
