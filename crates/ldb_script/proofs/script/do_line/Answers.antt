use Rattle.std.proofs.Common.{ℕ, List, refl, sym, ap, ◌∙◌}
use Rattle.std.specs.Prelude.{Some}
use Rattle.ldb_script.specs.declared.line.Line.{Line}
use Rattle.ldb_script.specs.Plain.{line_at, with_actor}
use Rattle.ldb_script.specs.Run.{Stream}
use Rattle.ldb_script.specs.Tools.{Tools, tools}
use Rattle.ldb_script.specs.Doing.{with_named}
use Rattle.ldb_script.proofs.Serving.{blank_done, asked_done, at_named}
use Rattle.ldb_script.proofs.script.do_line.Goals as goal

pub returns-in-Ok-Some-Blank-clause-done : goal.returns-in-Ok-Some-Blank-clause-done
returns-in-Ok-Some-Blank-clause-done g c origin outcome was names =
    let sink : Stream = record { bytes = g.K.Sink.taken c.args.sink.now; faults = g.K.Sink.faults c.args.sink.now } in
    let clock : Stream = record { bytes = g.C.Clock.left c.args.clock.now; faults = g.C.Clock.faults c.args.clock.now } in
    let at : Tools = tools c.args.place.now c.args.backups.now clock in
    blank_done origin sink sink at at c.args.actors.now outcome c.args.line.now c.args.number refl refl
    (sym (ap (λ (l : Line). Some l) c.in-Ok-Some-Blank.field-0-0-is) ∙ sym c.in-Ok-Some-Blank.field-0-is ∙ c.in-Ok-Some-Blank.ensures ∙ ap (λ (a : List (List ℕ)). line_at a c.args.line.now) names) names was

pub returns-in-Ok-clause-done : goal.returns-in-Ok-clause-done
returns-in-Ok-clause-done g c origin outcome was names =
    let before : Stream = record { bytes = g.K.Sink.taken c.args.sink.now; faults = g.K.Sink.faults c.args.sink.now } in
    let after : Stream = record { bytes = g.K.Sink.taken c.serve.new.sink; faults = g.K.Sink.faults c.serve.new.sink } in
    let actor = c.in-Ok-Some-Ask.actor in
    let clock : Stream = record { bytes = g.C.Clock.left c.args.clock.now; faults = g.C.Clock.faults c.args.clock.now } in
    let clock' : Stream = record { bytes = g.C.Clock.left c.serve.new.clock; faults = g.C.Clock.faults c.serve.new.clock } in
    let old : Tools = tools c.args.place.now c.args.backups.now clock in
    asked_done origin before after old (tools c.serve.new.place c.serve.new.backups clock') c.name.new.self outcome c.args.line.now c.args.number actor c.in-Ok-Some-Ask.command c.serve.result
    (sym (ap (λ (l : Line). Some l) c.in-Ok-Some-Ask.field-0-0-is) ∙ sym c.in-Ok-Some-Ask.field-0-is ∙ c.in-Ok-Some-Ask.ensures ∙ ap (λ (a : List (List ℕ)). line_at a c.args.line.now) names)
    (c.in-Ok.ensures ∙ (λ i. with_actor (names i) (c.as_slice.ensures i)))
    (c.serve.ensures.done origin (with_named outcome actor) (at_named origin old outcome actor was))
