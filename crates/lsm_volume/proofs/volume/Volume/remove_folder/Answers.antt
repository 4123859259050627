use Rattle.std.proofs.Common.{◌≡◌, ◌∙◌, ap, ◌++◌, ◌∷◌, [], List, ℕ, true, false, arith, rules}
use Rattle.std.specs.FinMap as map
use Rattle.std.specs.Prelude.{is_some}
use Rattle.lsm_disk.specs.Names.{Gone, is_folder, is_occupied}
use Rattle.lsm_disk.specs.State.{Named}
use Rattle.lsm_volume.specs.Told.{start_of}
use Rattle.lsm_volume.proofs.Ties.{removal_tied}
use Rattle.lsm_volume.proofs.Rooms.{room_gone, len_gone}
use Rattle.lsm_volume.proofs.Ties.{folder_name, path_named, taken_is}
use Rattle.lsm_volume.proofs.volume.Volume.remove_folder.Goals as goal

pub unwrap-key-requires : goal.unwrap-key-requires
unwrap-key-requires c =
    let m = c.self.inside in
    let path = c.args.path.now in
    let folder : is_folder m.names path ≡ true = search rules in
    let there : is_some (map.get m.names path) ≡ true = folder_name m.names path (path_named path c.as_bytes-3.ensures.path) folder in
    c.take.ensures.found ∙ ap (λ (p : List ℕ). is_some (map.get m.names p)) c.as_bytes-3.ensures.bytes ∙ there

pub push-requires-clause-room : goal.push-requires-clause-room
push-requires-clause-room c =
    let m = c.self.inside in
    let path = c.args.path.now in
    let folder : is_folder m.names path ≡ true = search rules in
    let there : is_some (map.get m.names path) ≡ true = folder_name m.names path (path_named path c.as_bytes-3.ensures.path) folder in
    omega (arith, len_gone m.names path there, c.self.invariant.1.enough)

pub invariant_of-self-2 : goal.invariant_of-self-2
invariant_of-self-2 c =
    let m = c.self.inside in
    let path = c.args.path.now in
    let folder : is_folder m.names path ≡ true = search rules in
    let there : is_some (map.get m.names path) ≡ true = folder_name m.names path (path_named path c.as_bytes-3.ensures.path) folder in
    let empty : is_occupied m.names path ≡ false = search rules in
    let now : c.take.new.self ≡ map.remove m.names path = c.take.ensures.names ∙ ap (map.remove m.names) c.as_bytes-3.ensures.bytes in
    let key : c.unwrap-key.result.items ≡ path = taken_is c.take.result c.unwrap-key.result c.as_bytes-3.result.now c.unwrap-key.ensures c.take.ensures.key ∙ c.as_bytes-3.ensures.bytes in (
      removal_tied (start_of m.links m.first_names m.first_files.items) m.links m.names m.names_synced m.files.items m.history.log c.self.invariant.0 _ path _ (c.push.ensures.log ∙ ap (λ (p : List ℕ). m.history.log ++ Named (Gone p) ∷ []) key) now folder empty,
      room_gone m.names m.names_synced m.files.items m.loose m.history.room c.self.invariant.1 path _ _ now there c.push.ensures.room,
    )
