use Rattle.std.proofs.Common.{◌≡◌, ◌++◌, ℕ, List, inr, refl, subst, ◌∙◌}
use Rattle.std.specs.Io.KnownBytes.{Appends}
use Rattle.ldb_script.specs.Run.{Stream}
use Rattle.ldb_script.specs.Tools.{tools}
use Rattle.ldb_script.proofs.Serving.{unserved}
use Rattle.ldb_script.proofs.script.serve.Goals as goal

pub returns-in-Ok-write-clause-done : goal.returns-in-Ok-write-clause-done
returns-in-Ok-write-clause-done g c origin outcome was =
    let a = c.in-Ok.ensures.done origin outcome was in
    record {
      next = a.next;
      answers = a.answers;
      took = subst (Appends (g.K.Sink.taken c.args.sink.now) (g.K.Sink.taken c.write.new.self)) (c.as_slice.ensures ∙ a.is_text) c.in-Ok-write.ensures.bytes;
      stands = a.stands;
    }

pub returns-clause-done : goal.returns-clause-done
returns-clause-done g c origin outcome was =
    let sink : Stream = record { bytes = g.K.Sink.taken c.args.sink.now; faults = g.K.Sink.faults c.args.sink.now } in
    let clock : Stream = record { bytes = g.C.Clock.left c.args.clock.now; faults = g.C.Clock.faults c.args.clock.now } in
    let clock' : Stream = record { bytes = g.C.Clock.left c.answer.new.clock; faults = g.C.Clock.faults c.answer.new.clock } in
    unserved origin sink sink (tools c.args.place.now c.args.backups.now clock) (tools c.answer.new.place c.answer.new.backups clock') outcome c.args.command.now refl c.in-Err.ended (c.in-Err.ensures.done origin outcome was)

pub returns-in-Ok-clause-done : goal.returns-in-Ok-clause-done
returns-in-Ok-clause-done g c origin outcome was =
    let a = c.in-Ok.ensures.done origin outcome was in
    let took = subst (λ (text : List ℕ). (front : List ℕ) × (rest : List ℕ) × (text ≡ front ++ rest) × Appends (g.K.Sink.taken c.args.sink.now) (g.K.Sink.taken c.write.new.self) front) (c.as_slice.ensures ∙ a.is_text) c.in-Err-write.ensures.bytes in
    record {
      next = a.next;
      answers = a.answers;
      spoke = record { front = took.0; rest = took.1; parts = took.2; took = took.3; whole = inr c.in-Err-write.ensures.cause.failed };
      rose = c.in-Err-write.ensures.cause.failed;
      stands = a.stands;
    }
