use Rattle.std.proofs.Common.{◌≡◌, ◌+◌, ◌<◌, ◌∙◌, ap, refl, ◌++◌, ◌∷◌, [], List, length, arith, rules}
use Rattle.lsm_disk.specs.State.{FileState, Appended, longer, file_or}
use Rattle.lsm_changes.specs.Files.{is_empty}
use Rattle.lsm_volume.specs.Told.{start_of}
use Rattle.lsm_volume.specs.Room.{loose_files, newly_loose}
use Rattle.lsm_volume.proofs.Ties.{file_tied, file_within}
use Rattle.lsm_volume.proofs.Rooms.{room_grown, loose_longer, newly_at_most}
use Rattle.std.specs.Prelude.{slice_get}
use Rattle.lsm_volume.proofs.volume.Volume.append.Goals as goal

pub is_synced_at-requires : goal.is_synced_at-requires
is_synced_at-requires c =
    let m = c.self.inside in
    let lt : c.in-Some.id < length m.files.items = file_within m.links m.names m.names_synced m.files.items _ c.as_bytes.result.now c.in-Some.id c.self.invariant.0 c.in-Some.ensures in
    search (rules, lt)

pub append_at-requires : goal.append_at-requires
append_at-requires c =
    let m = c.self.inside in
    let lt : c.in-Some.id < length m.files.items = file_within m.links m.names m.names_synced m.files.items _ c.as_bytes.result.now c.in-Some.id c.self.invariant.0 c.in-Some.ensures in
    search (rules, lt)

pub invariant_of-self-2 : goal.invariant_of-self-2
invariant_of-self-2 c =
    let m = c.self.inside in
    let id = c.in-Some.id in
    let bytes = c.args.bytes.now in
    let lt : id < length m.files.items = file_within m.links m.names m.names_synced m.files.items _ c.as_bytes.result.now c.in-Some.id c.self.invariant.0 c.in-Some.ensures in
    let more : c.newly_loose-more.result ≡ newly_loose (is_empty (file_or (slice_get m.files.items id)).unsynced) bytes =
    c.newly_loose-more.ensures ∙ ap (λ b. newly_loose b bytes) (c.is_synced_at.ensures ∙ ap (λ (fs : List FileState). is_empty (file_or (slice_get fs id)).unsynced) c.deref.ensures.value) in (
      file_tied (start_of m.links m.first_names m.first_files.items) m.links m.names m.names_synced m.files.items m.history.log c.self.invariant.0 _ (longer bytes) id (Appended id bytes) _
          (c.push.ensures.log ∙ (λ i. c.in_ok-reserve.ensures.log i ++ Appended id (c.in_ok-kept.ensures.items i) ∷ [])) (λ x. refl) c.in_ok-append_at.ensures.ok,
      room_grown m.names m.names_synced m.files.items m.loose m.history.room c.self.invariant.1 m.names m.names_synced _ (m.loose + c.newly_loose-more.result) c.push.new.self.room c.in_ok-room.room
          (omega (arith, more, c.self.invariant.1.counted, ap loose_files c.in_ok-append_at.ensures.ok, loose_longer bytes m.files.items id lt))
          (omega arith) (omega (arith, more, newly_at_most (is_empty (file_or (slice_get m.files.items id)).unsynced) bytes))
          (omega (arith, c.in_ok-room.ensures.room, c.len.ensures.len)) (omega (arith, c.in_ok-reserve.ensures.room, c.push.ensures.room)),
    )
