use Rattle.std.proofs.Common.{[], ◌∷◌, ◌++◌, refl, arith, length-append}
use Rattle.ldb_script.specs.Run.{Met, first_met}
use Rattle.ldb_script.specs.Tools.{tools}
use Rattle.ldb_script.proofs.Running.{begun, over}
use Rattle.ldb_script.proofs.script.run.Goals as goal

pub loop-number-init : goal.loop-number-init
loop-number-init g c = record {
  source_later = omega arith;
  sink_later = omega arith;
  clock_later = omega arith;
  stay = record { faults = omega arith; refusals = omega arith };
  backups_stay = record { faults = omega arith; refusals = omega arith };
  log = refl;
  first = omega arith;
  sequence = omega (arith, c.requires.sequence);
  len = omega (arith, c.requires.len);
  under = λ origin stood. (
    [],
    _,
    begun origin (record { bytes = g.S.Source.left c.args.source.now; faults = g.S.Source.faults c.args.source.now })
        (record { bytes = g.K.Sink.taken c.args.sink.now; faults = g.K.Sink.faults c.args.sink.now }) (tools c.args.place.now c.args.backups.now (record { bytes = g.C.Clock.left c.args.clock.now; faults = g.C.Clock.faults c.args.clock.now })) c.new-actors.result stood c.new-actors.ensures,
    refl,
  );
}

pub returns-in-Err-clause-ran : goal.returns-in-Err-clause-ran
returns-in-Err-clause-ran g c origin stood =
    let first : Met = first_met (record { bytes = g.S.Source.left c.args.source.now; faults = g.S.Source.faults c.args.source.now }) (record { bytes = g.K.Sink.taken c.args.sink.now; faults = g.K.Sink.faults c.args.sink.now })
    c.args.place.now.disk c.args.backups.now.disk (record { bytes = g.C.Clock.left c.args.clock.now; faults = g.C.Clock.faults c.args.clock.now }) in
    let u = c.loop-number.invariant.under origin stood in
    c.in-Err.ensures.turned origin first u.0 u.1 u.2 u.3

pub loop-number-preserved : goal.loop-number-preserved
loop-number-preserved g c =
    let inv = c.loop-number.invariant in
    let line = c.in-Ok.ensures.line in record {
      source_later = omega (arith, inv.source_later, c.in-Ok.ensures.source_later);
      sink_later = omega (arith, inv.sink_later, c.in-Ok.ensures.sink_later);
      clock_later = omega (arith, inv.clock_later, line.clock);
      stay = record { faults = omega (arith, inv.stay.faults, line.store.counts.faults); refusals = omega (arith, inv.stay.refusals, line.store.counts.refusals) };
      backups_stay = record { faults = omega (arith, inv.backups_stay.faults, line.backups.faults); refusals = omega (arith, inv.backups_stay.refusals, line.backups.refusals) };
      log = cc (inv.log, line.store.log);
      first = omega (arith, inv.first);
      sequence = omega (arith, inv.first, inv.sequence, line.store.sequence);
      len = omega (arith, inv.first, inv.len, line.store.len);
      under = λ origin stood.
          let first : Met = first_met (record { bytes = g.S.Source.left c.args.source.now; faults = g.S.Source.faults c.args.source.now }) (record { bytes = g.K.Sink.taken c.args.sink.now; faults = g.K.Sink.faults c.args.sink.now })
          c.args.place.now.disk c.args.backups.now.disk (record { bytes = g.C.Clock.left c.args.clock.now; faults = g.C.Clock.faults c.args.clock.now }) in
          let u = inv.under origin stood in
          let t = c.in-Ok.ensures.turned origin first u.0 u.1 u.2 u.3 in
          (u.0 ++ t.0 ∷ [], t.1, t.2, omega (arith, u.3, length-append u.0 (t.0 ∷ [])));
    }

pub returns-clause-ran : goal.returns-clause-ran
returns-clause-ran g c origin stood =
    let first : Met = first_met (record { bytes = g.S.Source.left c.args.source.now; faults = g.S.Source.faults c.args.source.now }) (record { bytes = g.K.Sink.taken c.args.sink.now; faults = g.K.Sink.faults c.args.sink.now })
    c.args.place.now.disk c.args.backups.now.disk (record { bytes = g.C.Clock.left c.args.clock.now; faults = g.C.Clock.faults c.args.clock.now }) in
    let u = c.loop-number.invariant.under origin stood in
    over origin first (record { bytes = g.S.Source.left c.loop-number.source; faults = g.S.Source.faults c.loop-number.source }) (record { bytes = g.S.Source.left c.behind.new.source; faults = g.S.Source.faults c.behind.new.source })
    (record { bytes = g.K.Sink.taken c.loop-number.sink; faults = g.K.Sink.faults c.loop-number.sink })
    (tools c.loop-number.place c.loop-number.backups (record { bytes = g.C.Clock.left c.loop-number.clock; faults = g.C.Clock.faults c.loop-number.clock })) c.loop-number.actors u.0 u.1 u.2
    (omega (arith, u.3, c.loop-number-test.false, c.loop-number.auto.number-end)) c.behind.ensures.later c.behind.result c.behind.ensures.left c.behind.ensures.rose
