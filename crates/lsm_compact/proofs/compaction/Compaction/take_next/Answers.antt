use Rattle.std.proofs.Common.{sym, ◌∙◌, Bool, None, Some, Option}
use Rattle.lsm_rows.specs.declared.rows.Row.{Row}
use Rattle.lsm_compact.proofs.Compacts.{not_some, reader_moved, row_given, row_moved, still}
use Rattle.lsm_compact.proofs.Given.{gives_as}
use Rattle.lsm_compact.proofs.UnderWay.{read_sound, taken_sound}
use Rattle.lsm_compact.proofs.Writes.{goes_refused}
use Rattle.lsm_compact.proofs.compaction.Compaction.take_next.Goals as goal

pub returns-then-is_some-clause-moved : goal.returns-then-is_some-clause-moved
returns-then-is_some-clause-moved g c = still g.P.TablePort.went g.P.TablePort.told c.args.port.now c.args.self.now

pub returns-in-Ok-Some-clause-moved : goal.returns-in-Ok-Some-clause-moved
returns-in-Ok-Some-clause-moved g c =
    row_moved g.P.TablePort.went g.P.TablePort.told c.args.port.now c.next.new.port c.args.self.now None c.next.new.self
    c.in-Ok-Some.row (not_some c.args.self.now.kept (sym c.is_some.ensures ∙ c.if-is_some.false))
    (row_given c.args.self.now.reader.merge c.next.new.self.merge c.in-Ok-Some.field-0 c.in-Ok-Some.row
    c.in-Ok-Some.field-0-is c.in-Ok-Some.ensures.row)
    (gives_as (g.P.TablePort.told c.args.port.now) (g.P.TablePort.told c.next.new.port) c.args.self.now.reader c.next.new.self
    c.in-Ok-Some.field-0 (Some c.in-Ok-Some.row) c.in-Ok-Some.field-0-is c.in-Ok-Some.ensures.contents)
    c.in-Ok-Some.ensures.goes

pub returns-in-Ok-Some-clause-sound : goal.returns-in-Ok-Some-clause-sound
returns-in-Ok-Some-clause-sound g c =
    taken_sound c.args.self.now c.requires c.next.new.self c.in-Ok-Some.row
    (not_some c.args.self.now.kept (sym c.is_some.ensures ∙ c.if-is_some.false)) c.next.ensures.sound c.next.ensures.later
    (row_given c.args.self.now.reader.merge c.next.new.self.merge c.in-Ok-Some.field-0 c.in-Ok-Some.row
    c.in-Ok-Some.field-0-is c.in-Ok-Some.ensures.row)

pub returns-in-Ok-None-clause-moved : goal.returns-in-Ok-None-clause-moved
returns-in-Ok-None-clause-moved g c =
    reader_moved g.P.TablePort.went g.P.TablePort.told c.args.port.now c.next.new.port c.args.self.now None c.next.new.self
    c.next.ensures.later
    (gives_as (g.P.TablePort.told c.args.port.now) (g.P.TablePort.told c.next.new.port) c.args.self.now.reader c.next.new.self
    c.in-Ok-None.field-0 None c.in-Ok-None.field-0-is c.in-Ok-None.ensures.contents) c.in-Ok-None.ensures.goes

pub returns-in-Ok-None-clause-sound : goal.returns-in-Ok-None-clause-sound
returns-in-Ok-None-clause-sound g c =
    read_sound c.args.self.now c.requires c.next.new.self c.next.ensures.sound c.next.ensures.later

pub returns-in-Err-clause-moved : goal.returns-in-Err-clause-moved
returns-in-Err-clause-moved g c =
    reader_moved g.P.TablePort.went g.P.TablePort.told c.args.port.now c.next.new.port c.args.self.now _ c.next.new.self
    c.next.ensures.later c.in-Err.ensures.contents
    (λ over start calls o written led w. goes_refused (Option Row) Bool g.P.TablePort.went start calls c.next.new.port over o
    written c.in-Err.fault (c.in-Err.ensures.goes over start calls o written led w))

pub returns-in-Err-clause-sound : goal.returns-in-Err-clause-sound
returns-in-Err-clause-sound g c =
    read_sound c.args.self.now c.requires c.next.new.self c.next.ensures.sound c.next.ensures.later
