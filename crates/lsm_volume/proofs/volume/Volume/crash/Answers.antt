use Rattle.std.proofs.Common.{◌≡◌, ◌∙◌, List, ap, sym, subst, length, refl, arith, rules}
use Rattle.lsm_disk.specs.Names.{Names}
use Rattle.lsm_disk.specs.State.{FileState, State, Seen}
use Rattle.lsm_disk.specs.Tree.{IsTree, LeadsToFiles}
use Rattle.lsm_disk.specs.Images.{Tree, IsImage}
use Rattle.lsm_disk.proofs.Lawful.{image_tree, image_leads}
use Rattle.lsm_changes.specs.Replay.{state_after}
use Rattle.lsm_volume.specs.Told.{start_of, seen_of}
use Rattle.lsm_changes.specs.Files.{AreLeft}
use Rattle.lsm_volume.specs.Crash.{IsCrashOf}
use Rattle.lsm_volume.proofs.Ties.{start_tied}
use Rattle.lsm_volume.proofs.Rooms.{room_left}
use Rattle.lsm_volume.proofs.Crashes.{left_synced, left_image, synced_of, synced_length}
use Rattle.lsm_volume.proofs.volume.Volume.crash.Goals as goal

pub invariant_of-result : goal.invariant_of-result
invariant_of-result c =
    let m = c.self.inside in
    let tied = c.self.invariant.0 in
    let start : State = start_of m.links m.first_names m.first_files.items in
    let s : State = state_after start m.history.log in
    let names = c.in_ok-names.names in
    let files = c.in_ok-files.files.items in
    let count : c.len.result ≡ length m.first_files.items = search rules in
    let kept = c.in_ok-names.ensures start refl count in
    let left : AreLeft m.files.items files = subst (λ (fs : List FileState). AreLeft fs files) c.deref.ensures.value c.in_ok-files.ensures in
    let t : Tree = record { names = names; contents = synced_of files } in
    let image : IsImage s t = left_image s names kept.0 m.files.items files kept.1 tied.files_are left in
    let first = c.in_ok-first_names.ensures in
    let copies = c.in_ok-first_files.ensures ∙ c.deref-2.ensures.value in
    let log = c.in_ok-reserve.ensures.log ∙ c.new-history.ensures in (
      start_tied m.links names c.in_ok-first_names.first_names files c.in_ok-first_files.first_files.items c.reserve.new.self.log
          (sym first) (sym copies) log
          (subst IsTree (sym first) (image_tree s t tied.lawful image))
          (subst (λ (n : Names). LeadsToFiles n (length c.in_ok-first_files.first_files.items)) (sym first)
          (subst (LeadsToFiles names) (synced_length files ∙ sym (ap length copies)) (image_leads s t tied.lawful image))),
      room_left names m.files.items files c.in_ok-room.room c.reserve.new.self.room left
          (omega (arith, c.in_ok-room.ensures.room, c.len-2.ensures.len)) c.in_ok-reserve.ensures.room,
    )

pub returns-clause-image : goal.returns-clause-image
returns-clause-image c =
    let m = c.self.inside in
    let tied = c.self.invariant.0 in
    let start : State = start_of m.links m.first_names m.first_files.items in
    let s : State = state_after start m.history.log in
    let names = c.in_ok-names.names in
    let files = c.in_ok-files.files.items in
    let count : c.len.result ≡ length m.first_files.items = search rules in
    let kept = c.in_ok-names.ensures start refl count in
    let left : AreLeft m.files.items files = subst (λ (fs : List FileState). AreLeft fs files) c.deref.ensures.value c.in_ok-files.ensures in
    let t : Tree = record { names = names; contents = synced_of files } in
    let image : IsImage s t = left_image s names kept.0 m.files.items files kept.1 tied.files_are left in
    let first = c.in_ok-first_names.ensures in
    let copies = c.in_ok-first_files.ensures ∙ c.deref-2.ensures.value in
    let log = c.in_ok-reserve.ensures.log ∙ c.new-history.ensures in
    let base = copies ∙ left_synced m.files.items files left in
    subst (λ (old : Seen). IsCrashOf old (seen_of (start_of m.links c.in_ok-first_names.first_names c.in_ok-first_files.first_files.items) c.reserve.new.self.log 0 0)) c.self.view_is
    (t, image, λ i. seen_of (start_of (tied.links_are i) (first i) (base i)) (log i) 0 0)
