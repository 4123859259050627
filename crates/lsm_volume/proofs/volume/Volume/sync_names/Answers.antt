use Rattle.std.proofs.Common.{arith}
use Rattle.lsm_volume.specs.Told.{start_of}
use Rattle.lsm_volume.proofs.Ties.{idle_tied, names_tied}
use Rattle.lsm_volume.proofs.Rooms.{room_names, room_more}
use Rattle.lsm_volume.proofs.volume.Volume.sync_names.Goals as goal

pub invariant_of-self-then-self : goal.invariant_of-self-then-self
invariant_of-self-then-self c =
    let m = c.self.inside in (
      idle_tied (start_of m.links m.first_names m.first_files.items) m.links m.names m.names_synced m.files.items m.history.log c.self.invariant.0 _ c.idle.ensures.log,
      room_more m.names m.names_synced m.files.items m.loose m.history.room c.self.invariant.1 c.idle.new.self.room (omega (arith, c.idle.ensures.room)),
    )

pub invariant_of-self-2 : goal.invariant_of-self-2
invariant_of-self-2 c =
    let m = c.self.inside in (
      names_tied (start_of m.links m.first_names m.first_files.items) m.links m.names m.names_synced m.files.items m.history.log c.self.invariant.0 _ c.push.ensures.log,
      room_names m.names m.names_synced m.files.items m.loose m.history.room c.self.invariant.1 c.push.new.self.room c.if-self.false c.push.ensures.room,
    )
