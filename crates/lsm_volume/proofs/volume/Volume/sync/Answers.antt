use Rattle.std.proofs.Common.{◌≡◌, ◌<◌, ◌≤◌, ◌∙◌, ap, refl, List, false, length, arith, rules}
use Rattle.lsm_disk.specs.State.{FileState, Synced, sure, file_or}
use Rattle.lsm_changes.specs.Files.{is_empty}
use Rattle.lsm_volume.specs.Told.{start_of}
use Rattle.lsm_volume.proofs.Ties.{file_tied, idle_tied, file_within}
use Rattle.lsm_volume.proofs.Rooms.{room_synced, room_more, loose_sure}
use Rattle.std.specs.Prelude.{slice_get}
use Rattle.lsm_volume.proofs.volume.Volume.sync.Goals as goal

pub is_synced_at-requires : goal.is_synced_at-requires
is_synced_at-requires c =
    let m = c.self.inside in
    let lt : c.in-Some.id < length m.files.items = file_within m.links m.names m.names_synced m.files.items _ c.as_bytes.result.now c.in-Some.id c.self.invariant.0 c.in-Some.ensures in
    search (rules, lt)

pub invariant_of-self-then-is_synced_at : goal.invariant_of-self-then-is_synced_at
invariant_of-self-then-is_synced_at c =
    let m = c.self.inside in (
      idle_tied (start_of m.links m.first_names m.first_files.items) m.links m.names m.names_synced m.files.items m.history.log c.self.invariant.0 _ c.idle.ensures.log,
      room_more m.names m.names_synced m.files.items m.loose m.history.room c.self.invariant.1 c.idle.new.self.room (omega (arith, c.idle.ensures.room)),
    )

pub sync_at-requires : goal.sync_at-requires
sync_at-requires c =
    let m = c.self.inside in
    let lt : c.in-Some.id < length m.files.items = file_within m.links m.names m.names_synced m.files.items _ c.as_bytes.result.now c.in-Some.id c.self.invariant.0 c.in-Some.ensures in
    search (rules, lt)

pub overflow_sub-self : goal.overflow_sub-self
overflow_sub-self c =
    let m = c.self.inside in
    let id = c.in-Some.id in
    let lt : id < length m.files.items = file_within m.links m.names m.names_synced m.files.items _ c.as_bytes.result.now c.in-Some.id c.self.invariant.0 c.in-Some.ensures in
    let unsynced : false ≡ is_empty (file_or (slice_get m.files.items id)).unsynced = c.if-is_synced_at.ensures ∙ ap (λ (fs : List FileState). is_empty (file_or (slice_get fs id)).unsynced) c.deref.ensures.value in
    let some : 1 ≤ m.loose = omega (arith, loose_sure m.files.items id lt unsynced, c.self.invariant.1.counted) in
    some

pub push-requires-clause-room : goal.push-requires-clause-room
push-requires-clause-room c =
    let m = c.self.inside in
    let id = c.in-Some.id in
    let lt : id < length m.files.items = file_within m.links m.names m.names_synced m.files.items _ c.as_bytes.result.now c.in-Some.id c.self.invariant.0 c.in-Some.ensures in
    let unsynced : false ≡ is_empty (file_or (slice_get m.files.items id)).unsynced = c.if-is_synced_at.ensures ∙ ap (λ (fs : List FileState). is_empty (file_or (slice_get fs id)).unsynced) c.deref.ensures.value in
    let some : 1 ≤ m.loose = omega (arith, loose_sure m.files.items id lt unsynced, c.self.invariant.1.counted) in
    omega (arith, some, c.self.invariant.1.enough)

pub invariant_of-self-2 : goal.invariant_of-self-2
invariant_of-self-2 c =
    let m = c.self.inside in
    let id = c.in-Some.id in
    let lt : id < length m.files.items = file_within m.links m.names m.names_synced m.files.items _ c.as_bytes.result.now c.in-Some.id c.self.invariant.0 c.in-Some.ensures in
    let unsynced : false ≡ is_empty (file_or (slice_get m.files.items id)).unsynced = c.if-is_synced_at.ensures ∙ ap (λ (fs : List FileState). is_empty (file_or (slice_get fs id)).unsynced) c.deref.ensures.value in
    let some : 1 ≤ m.loose = omega (arith, loose_sure m.files.items id lt unsynced, c.self.invariant.1.counted) in (
      file_tied (start_of m.links m.first_names m.first_files.items) m.links m.names m.names_synced m.files.items m.history.log c.self.invariant.0 _ sure id (Synced id) _ c.push.ensures.log (λ x. refl) c.sync_at.ensures,
      room_synced m.names m.names_synced m.files.items m.loose m.history.room c.self.invariant.1 id _ _ _ c.sync_at.ensures lt unsynced (omega (arith, some)) c.push.ensures.room,
    )
