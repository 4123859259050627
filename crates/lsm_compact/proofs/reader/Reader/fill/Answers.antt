use Rattle.std.proofs.Common.{arith, refl}
use Rattle.lsm_compact.specs.Reading.{run_len}
use Rattle.lsm_compact.proofs.Given.{filled_gives, unread_gives}
use Rattle.lsm_compact.proofs.Readers.{filled_sound, filled_later, got, now_filled, wanting_within}
use Rattle.lsm_compact.proofs.reader.Reader.fill.Goals as goal

pub source-requires : goal.source-requires
source-requires g c = wanting_within c.args.self.now.merge c.args.place c.requires.wanting

pub returns-in-Ok-clause-sound : goal.returns-in-Ok-clause-sound
returns-in-Ok-clause-sound g c =
    let within = wanting_within c.args.self.now.merge c.args.place c.requires.wanting in
    let places = c.requires.sound.places in
    filled_sound c.args.self.now.readings.items c.args.self.now.merge c.args.place run_len c.in-Ok.run' c.index_mut.result.now
    c.read.new.self c.fill.new.self c.requires.sound c.requires.wanting
    (got c.args.self.now.readings.items c.args.place c.index_mut.result.now
    (omega (arith, within, places)) c.index_mut.ensures.value)
    c.in-Ok.ensures.run c.in-Ok.ensures.after c.fill.ensures.left

pub returns-in-Ok-clause-later : goal.returns-in-Ok-clause-later
returns-in-Ok-clause-later g c =
    let within = wanting_within c.args.self.now.merge c.args.place c.requires.wanting in
    let places = c.requires.sound.places in
    filled_later c.args.self.now.readings.items c.args.self.now.merge c.args.place run_len c.in-Ok.run' c.index_mut.result.now
    c.read.new.self c.fill.new.self c.requires.sound c.requires.wanting
    (got c.args.self.now.readings.items c.args.place c.index_mut.result.now
    (omega (arith, within, places)) c.index_mut.ensures.value)
    c.in-Ok.ensures.run c.in-Ok.ensures.after c.fill.ensures.left

pub returns-in-Ok-clause-contents : goal.returns-in-Ok-clause-contents
returns-in-Ok-clause-contents g c =
    let within = wanting_within c.args.self.now.merge c.args.place c.requires.wanting in
    let places = c.requires.sound.places in
    filled_gives (g.P.TablePort.told c.args.port.now) (g.P.TablePort.told c.read.new.port) c.args.self.now _ c.args.place
    c.in-Ok.run' c.index_mut.result.now c.read.new.self c.fill.new.self c.requires.wanting
    (got c.args.self.now.readings.items c.args.place c.index_mut.result.now
    (omega (arith, within, places)) c.index_mut.ensures.value)
    c.in-Ok.ensures.port.rows refl refl c.in-Ok.ensures.rows c.in-Ok.ensures.after c.read.ensures.number c.fill.ensures.left
    c.fill.ensures.ended

pub returns-in-Err-clause-contents : goal.returns-in-Err-clause-contents
returns-in-Err-clause-contents g c =
    unread_gives (g.P.TablePort.told c.args.port.now) (g.P.TablePort.told c.read.new.port) c.args.self.now _ c.args.place
    c.index_mut.result.now c.read.new.self c.in-Err.ensures.port.rows refl refl c.in-Err.ensures.err c.index_mut.ensures.value

pub returns-in-Ok-clause-filled : goal.returns-in-Ok-clause-filled
returns-in-Ok-clause-filled g c =
    now_filled c.args.self.now.merge c.args.place c.fill.new.self c.requires.wanting c.fill.ensures.fault
