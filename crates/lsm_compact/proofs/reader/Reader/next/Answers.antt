use Rattle.std.proofs.Common.{Option, None, [], refl, option_to_list}
use Rattle.lsm_rows.specs.declared.rows.Row.{Row}
use Rattle.lsm_compact.proofs.Given.{answer_gives, gives_none, gives_then, refused_gives}
use Rattle.lsm_compact.proofs.Ports.{unmoved, kept_then}
use Rattle.lsm_compact.proofs.Readers.{called_sound, called_later, given_row, later_itself, later_then, ok_kept, wanting_from}
use Rattle.lsm_compact.proofs.Writes.{and_then, no_call, goes_refused}
use Rattle.lsm_compact.proofs.reader.Reader.next.Goals as goal

pub loop-fill-init : goal.loop-fill-init
loop-fill-init g c = record {
  sound = c.requires;
  later = later_itself c.args.self.now.merge;
  contents = gives_none (g.P.TablePort.told c.args.port.now) (g.P.TablePort.told c.args.port.now) c.args.self.now refl;
  goes = λ over start calls o written led w. no_call g.P.TablePort.went start calls c.args.port.now over o written led w;
  port = unmoved g.P.TablePort.told g.P.TablePort.faults c.args.port.now;
}

pub returns-in-Ok-clause-sound : goal.returns-in-Ok-clause-sound
returns-in-Ok-clause-sound g c = called_sound c.loop-fill.self.readings.items c.loop-fill.self.merge c.next.new.self
    c.next.ensures.ready
    c.next.ensures.ahead
    (ok_kept c.loop-fill.self.merge c.next.new.self c.in-Ok.next c.in-Ok.ensures.ok) c.loop-fill.invariant.sound

pub returns-in-Ok-clause-later : goal.returns-in-Ok-clause-later
returns-in-Ok-clause-later g c = later_then c.args.self.now.merge c.loop-fill.self.merge c.next.new.self
    c.loop-fill.invariant.later
    (called_later c.loop-fill.self.readings.items c.loop-fill.self.merge c.next.new.self c.next.ensures.ready
    c.next.ensures.ahead
    (ok_kept c.loop-fill.self.merge c.next.new.self c.in-Ok.next c.in-Ok.ensures.ok))

pub returns-in-Ok-clause-row : goal.returns-in-Ok-clause-row
returns-in-Ok-clause-row g c =
    given_row c.loop-fill.self.readings.items c.loop-fill.self.merge c.next.new.self c.in-Ok.next c.loop-fill.invariant.sound
    c.in-Ok.ensures.ok c.in-Ok.ensures.asked c.args.self.now.merge c.loop-fill.invariant.later

pub fill-requires-clause-sound : goal.fill-requires-clause-sound
fill-requires-clause-sound g c = called_sound c.loop-fill.self.readings.items c.loop-fill.self.merge c.next.new.self
    c.next.ensures.ready
    c.next.ensures.ahead
    c.in-Err-Source.ensures.err.kept c.loop-fill.invariant.sound

pub fill-requires-clause-wanting : goal.fill-requires-clause-wanting
fill-requires-clause-wanting g c =
    wanting_from c.next.new.self c.in-Err-Source.field-0 c.in-Err-Source.place c.in-Err-Source.field-0-1
    c.in-Err-Source.field-0-is
    c.in-Err-Source.ensures.cause

pub returns-in-Err-clause-later : goal.returns-in-Err-clause-later
returns-in-Err-clause-later g c =
    later_then c.args.self.now.merge c.next.new.self c.fill.new.self.merge
    (later_then c.args.self.now.merge c.loop-fill.self.merge c.next.new.self c.loop-fill.invariant.later
    (called_later c.loop-fill.self.readings.items c.loop-fill.self.merge c.next.new.self c.next.ensures.ready
    c.next.ensures.ahead
    c.in-Err-Source.ensures.err.kept)) c.fill.ensures.later

pub returns-in-Err-clause-goes : goal.returns-in-Err-clause-goes
returns-in-Err-clause-goes g c = λ over start calls o written led w.
    let first = c.loop-fill.invariant.goes over start calls o written led w in
    goes_refused (Unit {0}) (Option Row) g.P.TablePort.went start calls c.fill.new.port over o written c.in-Err.fault
    (and_then g.P.TablePort.went start calls c.loop-fill.port c.fill.new.port over over o o written written _ first
    (c.in-Err.ensures.goes over start _ o written first.led first.writing))

pub returns-in-Err-NoMemory-clause-sound : goal.returns-in-Err-NoMemory-clause-sound
returns-in-Err-NoMemory-clause-sound g c = called_sound c.loop-fill.self.readings.items c.loop-fill.self.merge
    c.next.new.self c.next.ensures.ready
    c.next.ensures.ahead
    c.in-Err-NoMemory.ensures.err.kept c.loop-fill.invariant.sound

pub returns-in-Err-NoMemory-clause-later : goal.returns-in-Err-NoMemory-clause-later
returns-in-Err-NoMemory-clause-later g c = later_then c.args.self.now.merge c.loop-fill.self.merge c.next.new.self
    c.loop-fill.invariant.later
    (called_later c.loop-fill.self.readings.items c.loop-fill.self.merge c.next.new.self c.next.ensures.ready
    c.next.ensures.ahead
    c.in-Err-NoMemory.ensures.err.kept)

pub loop-fill-preserved : goal.loop-fill-preserved
loop-fill-preserved g c = record {
  sound = c.fill.ensures.sound;
  later = later_then c.args.self.now.merge c.next.new.self c.fill.new.self.merge
      (later_then c.args.self.now.merge c.loop-fill.self.merge c.next.new.self c.loop-fill.invariant.later
      (called_later c.loop-fill.self.readings.items c.loop-fill.self.merge c.next.new.self c.next.ensures.ready
      c.next.ensures.ahead
      c.in-Err-Source.ensures.err.kept)) c.fill.ensures.later;
  contents = gives_then (g.P.TablePort.told c.args.port.now) (g.P.TablePort.told c.loop-fill.port)
      (g.P.TablePort.told c.fill.new.port) c.args.self.now c.loop-fill.self c.fill.new.self [] []
      c.loop-fill.invariant.contents
      (gives_then (g.P.TablePort.told c.loop-fill.port) (g.P.TablePort.told c.loop-fill.port)
      (g.P.TablePort.told c.fill.new.port) c.loop-fill.self (record c.loop-fill.self { merge = c.next.new.self })
      c.fill.new.self [] []
      (refused_gives (g.P.TablePort.told c.loop-fill.port) c.loop-fill.self c.next.new.self c.loop-fill.invariant.sound
      c.next.ensures.ready c.next.ensures.ahead c.next.ensures.whole c.in-Err-Source.ensures.err)
      c.fill.ensures.contents);
  goes = λ over start calls o written led w.
      let first = c.loop-fill.invariant.goes over start calls o written led w in
      and_then g.P.TablePort.went start calls c.loop-fill.port c.fill.new.port over over o o written written None first
      (c.in-Ok-fill.ensures.goes over start _ o written first.led first.writing);
  port = kept_then g.P.TablePort.told g.P.TablePort.faults c.args.port.now c.loop-fill.port c.fill.new.port None
      c.loop-fill.invariant.port c.in-Ok-fill.ensures.port;
}

pub returns-in-Ok-clause-contents : goal.returns-in-Ok-clause-contents
returns-in-Ok-clause-contents g c =
    gives_then (g.P.TablePort.told c.args.port.now) (g.P.TablePort.told c.loop-fill.port)
    (g.P.TablePort.told c.loop-fill.port) c.args.self.now c.loop-fill.self
    (record c.loop-fill.self { merge = c.next.new.self }) [] (option_to_list c.in-Ok.next) c.loop-fill.invariant.contents
    (answer_gives (g.P.TablePort.told c.loop-fill.port) c.loop-fill.self c.next.new.self c.loop-fill.invariant.sound
    c.next.ensures.ready c.next.ensures.ahead c.next.ensures.whole c.in-Ok.next c.in-Ok.ensures.ok c.in-Ok.ensures.asked)

pub returns-in-Err-clause-contents : goal.returns-in-Err-clause-contents
returns-in-Err-clause-contents g c =
    gives_then (g.P.TablePort.told c.args.port.now) (g.P.TablePort.told c.loop-fill.port)
    (g.P.TablePort.told c.fill.new.port) c.args.self.now c.loop-fill.self c.fill.new.self [] []
    c.loop-fill.invariant.contents
    (gives_then (g.P.TablePort.told c.loop-fill.port) (g.P.TablePort.told c.loop-fill.port)
    (g.P.TablePort.told c.fill.new.port) c.loop-fill.self (record c.loop-fill.self { merge = c.next.new.self })
    c.fill.new.self [] []
    (refused_gives (g.P.TablePort.told c.loop-fill.port) c.loop-fill.self c.next.new.self c.loop-fill.invariant.sound
    c.next.ensures.ready c.next.ensures.ahead c.next.ensures.whole c.in-Err-Source.ensures.err)
    c.fill.ensures.contents)

pub returns-in-Err-NoMemory-clause-contents : goal.returns-in-Err-NoMemory-clause-contents
returns-in-Err-NoMemory-clause-contents g c =
    gives_then (g.P.TablePort.told c.args.port.now) (g.P.TablePort.told c.loop-fill.port)
    (g.P.TablePort.told c.loop-fill.port) c.args.self.now c.loop-fill.self
    (record c.loop-fill.self { merge = c.next.new.self }) [] [] c.loop-fill.invariant.contents
    (refused_gives (g.P.TablePort.told c.loop-fill.port) c.loop-fill.self c.next.new.self c.loop-fill.invariant.sound
    c.next.ensures.ready c.next.ensures.ahead c.next.ensures.whole c.in-Err-NoMemory.ensures.err)
