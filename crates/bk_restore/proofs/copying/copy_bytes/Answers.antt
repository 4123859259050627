use Rattle.std.specs.Prelude.{[], Err}
use Rattle.std.proofs.Common.{sym, subst}
use Rattle.bk_restore.specs.declared.errors.RestoreError.{RestoreError}
use Rattle.bk_restore.specs.Causes.{HasCauses, counts_of}
use Rattle.bk_restore.specs.Refusals.{IsOfCopying}
use Rattle.bk_copy.proofs.Hands.{none_gained}
use Rattle.bk_restore.proofs.Copies.{made_unfinished, stops_unfinished, stops_kind, stops_causes}
use Rattle.bk_restore.proofs.copying.copy_bytes.Goals as goal

pub copy_view-requires-clause-none : goal.copy_view-requires-clause-none
copy_view-requires-clause-none g c κs within = (none_gained (g.T.Dest.seen c.args.dest.now), λ begin leads. leads)

pub returns-in-Ok-clause-went : goal.returns-in-Ok-clause-went
returns-in-Ok-clause-went g c = made_unfinished (g.T.Dest.seen c.args.dest.now) (g.T.Dest.seen c.copy_view.new.holder) c.in-Ok.ensures.copied

pub returns-in-Err-Source-clause-went : goal.returns-in-Err-Source-clause-went
returns-in-Err-Source-clause-went g c = stops_unfinished _ _ _ (g.T.Dest.seen c.args.dest.now) (g.T.Dest.seen c.copy_view.new.holder) c.in-Err-Source.field-0 c.in-Err-Source.ensures.stopped

pub returns-in-Err-NoMemory-clause-went : goal.returns-in-Err-NoMemory-clause-went
returns-in-Err-NoMemory-clause-went g c = stops_unfinished _ _ _ (g.T.Dest.seen c.args.dest.now) (g.T.Dest.seen c.copy_view.new.holder) c.in-Err-NoMemory.field-0 c.in-Err-NoMemory.ensures.stopped

pub returns-in-Err-Refused-clause-kind : goal.returns-in-Err-Refused-clause-kind
returns-in-Err-Refused-clause-kind g c =
    subst IsOfCopying (sym (c.dest_refused.ensures []))
    (stops_kind _ _ _ (g.T.Dest.seen c.args.dest.now) (g.T.Dest.seen c.copy_view.new.holder) [] c.in-Err-Refused.field-0 c.in-Err-Refused.why c.in-Err-Refused.field-0-is c.in-Err-Refused.ensures.stopped)

pub returns-in-Err-Refused-clause-cause : goal.returns-in-Err-Refused-clause-cause
returns-in-Err-Refused-clause-cause g c =
    let old = g.V.View.viewed c.args.view.now in
    let new = g.V.View.viewed c.copy_view.new.view in
    let first = g.T.Dest.seen c.args.dest.now in
    let now = g.T.Dest.seen c.copy_view.new.holder in
    subst (λ (e : RestoreError). HasCauses (counts_of old) (counts_of new) first.disk now.disk (Err e)) (sym (c.dest_refused.ensures []))
    (stops_causes _ _ _ old new first now [] c.in-Err-Refused.field-0 c.in-Err-Refused.why c.in-Err-Refused.field-0-is c.copy_view.ensures.view c.in-Err-Refused.ensures.stopped)
