use Rattle.std.proofs.Common.{ℕ, List, [], ◌∷◌, ◌++◌, refl, subst, sym, ap, arith}
use Rattle.std.specs.Prelude.{Ok, Err}
use Rattle.ldb_script.specs.Input.{Reads, IsWhole, IsLast}
use Rattle.ldb_script.specs.Tools.{Tools, tools, ByLine}
use Rattle.ldb_script.specs.Run.{Stream}
use Rattle.ldb_script.specs.declared.input.Piece.{Piece}
use Rattle.ldb_script.specs.declared.input.InputError.{InputError}
use Rattle.ldb_script.proofs.Turning.{turned, stops_last, ends_with, fails, too_long, ends_behind}
use Rattle.ldb_script.proofs.script.turn.Goals as goal

stays : (at : Tools) → ByLine at at
stays at = record {
  store = record { counts = record { faults = omega arith; refusals = omega arith }; log = refl; sequence = omega arith; len = omega arith };
  backups = record { faults = omega arith; refusals = omega arith };
  clock = omega arith;
}

pub returns-in-Ok-Line-clause-turned : goal.returns-in-Ok-Line-clause-turned
returns-in-Ok-Line-clause-turned g c origin first done outcome under is_number =
    let source : Stream = record { bytes = g.S.Source.left c.args.source.now; faults = g.S.Source.faults c.args.source.now } in
    let source' : Stream = record { bytes = g.S.Source.left c.read_line.new.source; faults = g.S.Source.faults c.read_line.new.source } in
    let sink : Stream = record { bytes = g.K.Sink.taken c.args.sink.now; faults = g.K.Sink.faults c.args.sink.now } in
    let sink' : Stream = record { bytes = g.K.Sink.taken c.do_line.new.sink; faults = g.K.Sink.faults c.do_line.new.sink } in
    let clock : Stream = record { bytes = g.C.Clock.left c.args.clock.now; faults = g.C.Clock.faults c.args.clock.now } in
    let old : Tools = tools c.args.place.now c.args.backups.now clock in
    let clock' : Stream = record { bytes = g.C.Clock.left c.do_line.new.clock; faults = g.C.Clock.faults c.do_line.new.clock } in
    let new : Tools = tools c.do_line.new.place c.do_line.new.backups clock' in
    turned origin first source source' sink sink' old new c.args.actors.now c.do_line.new.actors done outcome c.args.number under is_number
    c.in-Ok-Line.ensures.later c.do_line.ensures.later c.do_line.ensures.line c.as_slice.result.now c.requires.few
    (subst (λ (l : List ℕ). IsWhole source.bytes source'.bytes l) (sym c.as_slice.ensures)
    (subst (λ (p : Piece). Reads source.bytes source'.bytes c.read_line.new.line (Ok p)) c.in-Ok-Line.field-0-is c.in-Ok-Line.ensures.read))
    c.do_line.result (c.do_line.ensures.done origin outcome under.stands under.named)

pub returns-in-Ok-clause-turned : goal.returns-in-Ok-clause-turned
returns-in-Ok-clause-turned g c origin first done outcome under is_number =
    let source : Stream = record { bytes = g.S.Source.left c.args.source.now; faults = g.S.Source.faults c.args.source.now } in
    let source' : Stream = record { bytes = g.S.Source.left c.read_line.new.source; faults = g.S.Source.faults c.read_line.new.source } in
    let sink : Stream = record { bytes = g.K.Sink.taken c.args.sink.now; faults = g.K.Sink.faults c.args.sink.now } in
    let sink' : Stream = record { bytes = g.K.Sink.taken c.do_line-in-Ok-Last.new.sink; faults = g.K.Sink.faults c.do_line-in-Ok-Last.new.sink } in
    let clock : Stream = record { bytes = g.C.Clock.left c.args.clock.now; faults = g.C.Clock.faults c.args.clock.now } in
    let old : Tools = tools c.args.place.now c.args.backups.now clock in
    let clock' : Stream = record { bytes = g.C.Clock.left c.do_line-in-Ok-Last.new.clock; faults = g.C.Clock.faults c.do_line-in-Ok-Last.new.clock } in
    let new : Tools = tools c.do_line-in-Ok-Last.new.place c.do_line-in-Ok-Last.new.backups clock' in
    ends_with origin first source source' sink sink' old new c.args.actors.now c.do_line-in-Ok-Last.new.actors done outcome c.args.number under is_number
    c.in-Ok-Last.ensures.later c.in-Ok.ensures.later c.in-Ok.ensures.line c.as_slice-in-Ok-Last.result.now c.requires.few
    (subst (λ (l : List ℕ). IsLast source.bytes source'.bytes l) (sym c.as_slice-in-Ok-Last.ensures)
    (subst (λ (p : Piece). Reads source.bytes source'.bytes c.read_line.new.line (Ok p)) c.in-Ok-Last.field-0-is c.in-Ok-Last.ensures.read))
    (c.in-Ok.ensures.done origin outcome under.stands under.named)

pub returns-in-Err-clause-turned : goal.returns-in-Err-clause-turned
returns-in-Err-clause-turned g c origin first done outcome under is_number =
    let source : Stream = record { bytes = g.S.Source.left c.args.source.now; faults = g.S.Source.faults c.args.source.now } in
    let source' : Stream = record { bytes = g.S.Source.left c.read_line.new.source; faults = g.S.Source.faults c.read_line.new.source } in
    let sink : Stream = record { bytes = g.K.Sink.taken c.args.sink.now; faults = g.K.Sink.faults c.args.sink.now } in
    let sink' : Stream = record { bytes = g.K.Sink.taken c.do_line-in-Ok-Last.new.sink; faults = g.K.Sink.faults c.do_line-in-Ok-Last.new.sink } in
    let clock : Stream = record { bytes = g.C.Clock.left c.args.clock.now; faults = g.C.Clock.faults c.args.clock.now } in
    let old : Tools = tools c.args.place.now c.args.backups.now clock in
    let clock' : Stream = record { bytes = g.C.Clock.left c.do_line-in-Ok-Last.new.clock; faults = g.C.Clock.faults c.do_line-in-Ok-Last.new.clock } in
    let new : Tools = tools c.do_line-in-Ok-Last.new.place c.do_line-in-Ok-Last.new.backups clock' in
    stops_last origin first source source' sink sink' old new c.args.actors.now c.do_line-in-Ok-Last.new.actors done outcome c.args.number under is_number
    c.in-Ok-Last.ensures.later c.in-Err.ensures.later c.in-Err.ensures.line c.as_slice-in-Ok-Last.result.now
    (subst (λ (l : List ℕ). IsLast source.bytes source'.bytes l) (sym c.as_slice-in-Ok-Last.ensures)
    (subst (λ (p : Piece). Reads source.bytes source'.bytes c.read_line.new.line (Ok p)) c.in-Ok-Last.field-0-is c.in-Ok-Last.ensures.read))
    c.in-Err.ended (c.in-Err.ensures.done origin outcome under.stands under.named)

pub returns-in-Ok-End-clause-turned : goal.returns-in-Ok-End-clause-turned
returns-in-Ok-End-clause-turned g c origin first done outcome under is_number =
    let source : Stream = record { bytes = g.S.Source.left c.args.source.now; faults = g.S.Source.faults c.args.source.now } in
    let source' : Stream = record { bytes = g.S.Source.left c.read_line.new.source; faults = g.S.Source.faults c.read_line.new.source } in
    let sink : Stream = record { bytes = g.K.Sink.taken c.args.sink.now; faults = g.K.Sink.faults c.args.sink.now } in
    let clock : Stream = record { bytes = g.C.Clock.left c.args.clock.now; faults = g.C.Clock.faults c.args.clock.now } in
    let old : Tools = tools c.args.place.now c.args.backups.now clock in
    ends_behind origin first source source' sink sink old old c.args.actors.now c.args.actors.now done outcome c.args.number under is_number
    c.in-Ok-End.ensures.later (omega arith) (stays old)
    (subst (λ (p : Piece). Reads source.bytes source'.bytes c.read_line.new.line (Ok p)) c.in-Ok-End.field-0-is c.in-Ok-End.ensures.read) refl refl

pub returns-in-Err-Failed-clause-turned : goal.returns-in-Err-Failed-clause-turned
returns-in-Err-Failed-clause-turned g c origin first done outcome under is_number =
    let source : Stream = record { bytes = g.S.Source.left c.args.source.now; faults = g.S.Source.faults c.args.source.now } in
    let source' : Stream = record { bytes = g.S.Source.left c.read_line.new.source; faults = g.S.Source.faults c.read_line.new.source } in
    let sink : Stream = record { bytes = g.K.Sink.taken c.args.sink.now; faults = g.K.Sink.faults c.args.sink.now } in
    let clock : Stream = record { bytes = g.C.Clock.left c.args.clock.now; faults = g.C.Clock.faults c.args.clock.now } in
    let old : Tools = tools c.args.place.now c.args.backups.now clock in
    fails origin first source source' sink sink old old c.args.actors.now c.args.actors.now done outcome c.args.number under is_number
    c.in-Err-Failed.ensures.later (omega arith) (stays old) c.read_line.new.line
    (subst (λ (e : InputError). Reads source.bytes source'.bytes c.read_line.new.line (Err e)) c.in-Err-Failed.field-0-is c.in-Err-Failed.ensures.read) (c.in-Err-Failed.ensures.rose (ap (λ (e : InputError). Err e) c.in-Err-Failed.field-0-is)) refl refl

pub returns-in-Err-TooLong-clause-turned : goal.returns-in-Err-TooLong-clause-turned
returns-in-Err-TooLong-clause-turned g c origin first done outcome under is_number =
    let source : Stream = record { bytes = g.S.Source.left c.args.source.now; faults = g.S.Source.faults c.args.source.now } in
    let source' : Stream = record { bytes = g.S.Source.left c.read_line.new.source; faults = g.S.Source.faults c.read_line.new.source } in
    let sink : Stream = record { bytes = g.K.Sink.taken c.args.sink.now; faults = g.K.Sink.faults c.args.sink.now } in
    let long = subst (λ (e : InputError). Reads source.bytes source'.bytes c.read_line.new.line (Err e)) c.in-Err-TooLong.field-0-is c.in-Err-TooLong.ensures.read in
    let clock : Stream = record { bytes = g.C.Clock.left c.args.clock.now; faults = g.C.Clock.faults c.args.clock.now } in
    let old : Tools = tools c.args.place.now c.args.backups.now clock in
    too_long origin first source source' sink sink old old c.args.actors.now c.args.actors.now done outcome c.args.number under is_number
    c.in-Err-TooLong.ensures.later (omega arith) (stays old) (c.read_line.new.line ++ long.0 ∷ []) long.1 refl refl
