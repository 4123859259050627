use Rattle.std.proofs.Common.{◌≡◌, ℕ, ◌+◌, ◌-◌, ◌*◌, ◌≤◌, List, [], length}
use Rattle.ldb_script.specs.Plain.{Outcome, told, empty}
use Rattle.ldb_script.specs.Opening.{SeenStay}
use Rattle.ldb_script.specs.Run.{stream, met}
use Rattle.ldb_script.specs.Tools.{Origin, AreAt, tools}
use Rattle.ldb_script.specs.Doing.{Underway}
use Rattle.ldb_script.proofs.script.run.Given as goal

abbrev pub invariant-loop-number : goal.invariant-loop-number
invariant-loop-number g l = record {
  source_later : g.S.Source.faults l.fn.source ≤ g.S.Source.faults l.source;
  sink_later : g.K.Sink.faults l.fn.sink ≤ g.K.Sink.faults l.sink;
  clock_later : g.C.Clock.faults l.fn.clock ≤ g.C.Clock.faults l.clock;
  stay : SeenStay l.fn.place.disk l.place.disk;
  backups_stay : SeenStay l.fn.backups.disk l.backups.disk;
  log : l.place.log ≡ l.fn.place.log;
  first : 1 ≤ l.number;
  sequence : l.place.sequence ≤ 1024 * (l.number - 1);
  len : l.place.len ≤ 67108864 * (l.number - 1);
  under : (origin : Origin) → AreAt origin (tools l.fn.place l.fn.backups (stream g.C.Clock.left g.C.Clock.faults l.fn.clock)) (told (empty origin.start) []) → (done : List (List ℕ)) × (outcome : Outcome)
      × Underway origin (met (stream g.S.Source.left g.S.Source.faults l.fn.source) (stream g.S.Source.left g.S.Source.faults l.source) (stream g.K.Sink.taken g.K.Sink.faults l.fn.sink) (stream g.K.Sink.taken g.K.Sink.faults l.sink)
      l.fn.place.disk l.place.disk l.fn.backups.disk l.backups.disk (stream g.C.Clock.left g.C.Clock.faults l.fn.clock) (stream g.C.Clock.left g.C.Clock.faults l.clock))
      (tools l.place l.backups (stream g.C.Clock.left g.C.Clock.faults l.clock)) l.actors done outcome
      × (l.number ≡ length done + 1);
}
