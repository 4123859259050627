use Rattle.std.specs.Prelude.{Err}
use Rattle.std.proofs.Common.{sym, subst}
use Rattle.bk_copy.proofs.Files.{none_gained}
use Rattle.bk_engine.specs.Stopping.{HasStopped}
use Rattle.bk_engine.specs.declared.stopping.Stop.{Stop}
use Rattle.bk_engine.specs.declared.stopping.Stop.TheVariants.{Source, NoMemory}
use Rattle.bk_engine.proofs.Copies.{made_went, stops_went, made_cause, stops_cause, stops_rose, stops_risen}
use Rattle.bk_engine.proofs.copying.copy_bytes.Goals as goal

pub copy_view-requires-clause-none : goal.copy_view-requires-clause-none
copy_view-requires-clause-none g c κs within = none_gained c.args.path.now (g.B.Disk.seen c.args.disk.now)

pub returns-in-Ok-clause-went : goal.returns-in-Ok-clause-went
returns-in-Ok-clause-went g c = made_went (Unit {0}) _ c.args.path.now (g.B.Disk.seen c.args.disk.now) (g.B.Disk.seen c.copy_view.new.holder) c.in-Ok.ensures.copied

pub returns-in-Ok-clause-cause : goal.returns-in-Ok-clause-cause
returns-in-Ok-clause-cause g c =
    made_cause (Unit {0}) _ c.args.path.now (g.B.Disk.seen c.args.disk.now) (g.B.Disk.seen c.copy_view.new.holder)
    (g.V.View.viewed c.args.view.now).faults (g.V.View.viewed c.copy_view.new.view).faults c.in-Ok.crc c.in-Ok.ensures.copied

pub returns-in-Err-Refused-clause-went : goal.returns-in-Err-Refused-clause-went
returns-in-Err-Refused-clause-went g c = stops_went _ _ c.args.path.now (g.B.Disk.seen c.args.disk.now) (g.B.Disk.seen c.copy_view.new.holder) c.in-Err-Refused.field-0 c.in-Err-Refused.ensures.stopped

pub returns-in-Err-Source-clause-went : goal.returns-in-Err-Source-clause-went
returns-in-Err-Source-clause-went g c = stops_went _ _ c.args.path.now (g.B.Disk.seen c.args.disk.now) (g.B.Disk.seen c.copy_view.new.holder) c.in-Err-Source.field-0 c.in-Err-Source.ensures.stopped

pub returns-in-Err-NoMemory-clause-went : goal.returns-in-Err-NoMemory-clause-went
returns-in-Err-NoMemory-clause-went g c = stops_went _ _ c.args.path.now (g.B.Disk.seen c.args.disk.now) (g.B.Disk.seen c.copy_view.new.holder) c.in-Err-NoMemory.field-0 c.in-Err-NoMemory.ensures.stopped

pub returns-in-Err-Refused-clause-cause : goal.returns-in-Err-Refused-clause-cause
returns-in-Err-Refused-clause-cause g c =
    let path = c.args.path.now in
    let first = g.B.Disk.seen c.args.disk.now in
    let now = g.B.Disk.seen c.copy_view.new.holder in
    let before = (g.V.View.viewed c.args.view.now).faults in
    let later = (g.V.View.viewed c.copy_view.new.view).faults in
    let stops = c.in-Err-Refused.ensures.stopped in
    stops_cause _ _ path first now before later c.in-Err-Refused.field-0 c.stopped.result stops
    (subst (λ (stop : Stop). HasStopped first now before later stop) (sym c.stopped.ensures)
    (stops_risen _ _ path first now c.in-Err-Refused.field-0 c.in-Err-Refused.why c.in-Err-Refused.field-0-is stops))

pub returns-in-Err-Source-clause-cause : goal.returns-in-Err-Source-clause-cause
returns-in-Err-Source-clause-cause g c =
    let path = c.args.path.now in
    let first = g.B.Disk.seen c.args.disk.now in
    let now = g.B.Disk.seen c.copy_view.new.holder in
    let stops = c.in-Err-Source.ensures.stopped in
    stops_cause _ _ path first now (g.V.View.viewed c.args.view.now).faults (g.V.View.viewed c.copy_view.new.view).faults c.in-Err-Source.field-0 Source stops
    (stops_rose _ _ path first now c.in-Err-Source.field-0 c.in-Err-Source.field-0-is stops)

pub returns-in-Err-NoMemory-clause-cause : goal.returns-in-Err-NoMemory-clause-cause
returns-in-Err-NoMemory-clause-cause g c =
    stops_cause _ _ c.args.path.now (g.B.Disk.seen c.args.disk.now) (g.B.Disk.seen c.copy_view.new.holder) (g.V.View.viewed c.args.view.now).faults (g.V.View.viewed c.copy_view.new.view).faults
    c.in-Err-NoMemory.field-0 NoMemory c.in-Err-NoMemory.ensures.stopped tt
