-- Each exit, by what the calls before it left.
use Rattle.std.proofs.Common.{◌≡◌, None, inl, inr, refl, subst, sym}
use Rattle.lsm_disk.specs.State.{State}
use Rattle.lsm_disk.specs.Refusals.{no_room}
use Rattle.lsm_disk.specs.declared.calls.DiskCall.TheVariants as call
use Rattle.ldb_script.specs.Filling.{AddsFile}
use Rattle.ldb_script.specs.Opening.{IsHindered, file_calls}
use Rattle.ldb_script.proofs.Telling.{stay_then, leads_by, hindered}
use Rattle.ldb_script.proofs.Calls.{append_fits, sync_fits, file_made}
use Rattle.ldb_script.proofs.opening.write_file.Goals as goal

pub returns-in-Err-append-clause-refused : goal.returns-in-Err-append-clause-refused
returns-in-Err-append-clause-refused g c =
    let seen = g.D.Disk.seen in
    let path = c.args.path.now in
    let P : State → Type 0 = λ (s : State). no_room path s ≡ None in
    subst (IsHindered (file_calls path) P (seen c.args.disk.now) (seen c.append.new.self)) (sym c.open_refused-in-Err-append.ensures)
    (hindered (file_calls path) P (seen c.args.disk.now) (seen c.create.new.self) (seen c.append.new.self) (record { faults = c.create.ensures.cause.faults_later; refusals = c.create.ensures.cause.refusals_later })
    call.Append path c.in-Err-append.error (inr (inl refl)) (λ story tells fits. append_fits path c.args.bytes.now story tells c.in_default.ensures.did c.in-Err-append.error c.in-Err-append.ensures.answer)
    c.in-Err-append.ensures.cause.counted)

pub returns-in-Err-sync-clause-refused : goal.returns-in-Err-sync-clause-refused
returns-in-Err-sync-clause-refused g c =
    let seen = g.D.Disk.seen in
    let path = c.args.path.now in
    let P : State → Type 0 = λ (s : State). no_room path s ≡ None in
    subst (IsHindered (file_calls path) P (seen c.args.disk.now) (seen c.sync.new.self)) (sym c.open_refused-in-Err-sync.ensures)
    (hindered (file_calls path) P (seen c.args.disk.now) (seen c.append.new.self) (seen c.sync.new.self)
    (stay_then (seen c.args.disk.now) (seen c.create.new.self) (seen c.append.new.self)
    (record { faults = c.create.ensures.cause.faults_later; refusals = c.create.ensures.cause.refusals_later }) (record { faults = c.append.ensures.cause.faults_later; refusals = c.append.ensures.cause.refusals_later }))
    call.Sync path c.in-Err-sync.error (inr (inr (inl refl))) (λ story tells fits. sync_fits path c.args.bytes.now story tells c.in_default.ensures.did c.in_default-append.ensures.did c.in-Err-sync.error c.in-Err-sync.ensures.answer)
    c.in-Err-sync.ensures.cause.counted)

pub returns-clause-made : goal.returns-clause-made
returns-clause-made g c =
    let seen = g.D.Disk.seen in
    leads_by (λ (s : State). no_room c.args.path.now s ≡ None) (AddsFile c.args.path.now c.args.bytes.now) (seen c.args.disk.now).told (seen c.sync.new.self).told
    (λ story tells fits. file_made c.args.path.now c.args.bytes.now story tells c.in_default.ensures.did c.in_default-append.ensures.did c.in_default-sync.ensures.did)
