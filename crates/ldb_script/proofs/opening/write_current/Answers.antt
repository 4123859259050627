-- What the writing leaves, or why it was refused.
use Rattle.std.proofs.Common.{◌≡◌, ◌∙◌, ℕ, List, subst, sym, ap}
use Rattle.std.specs.Prelude.{◌≢◌, length}
use Rattle.lsm_disk.specs.State.{state_of}
use Rattle.lsm_disk.specs.Goes.{Went}
use Rattle.lsm_disk.specs.Halts.{IsAmong}
use Rattle.lsm_disk.specs.Refusals.{no_room}
use Rattle.lsm_disk.specs.declared.calls.Halt.{Halt}
use Rattle.lsm_publish.specs.Publishing.{Not_known, HasOld, Writes, IsReady, write_calls}
use Rattle.ldb_script.specs.Stored.{temporary_path, current_path, first_current}
use Rattle.ldb_script.specs.Filling.{Fills, HasManifest, HasTemporary}
use Rattle.ldb_script.specs.Opening.{IsHindered}
use Rattle.ldb_script.proofs.Telling.{stay, leads_by, hindered, refuses_none}
use Rattle.ldb_script.proofs.Folders.{temporary_spelled, current_not_temporary, temporary_room, has_temporary}
use Rattle.ldb_script.proofs.opening.write_current.Goals as goal

pub returns-in-Ok-clause-made : goal.returns-in-Ok-clause-made
returns-in-Ok-clause-made g c =
    let seen = g.D.Disk.seen in
    let folder : List ℕ = c.args.folder.now in
    let new = (seen c.write_temporary.new.disk).told in
    let from : c.file-temporary.result ≡ temporary_path folder = c.file-temporary.ensures ∙ temporary_spelled folder in
    leads_by (HasManifest folder) (Fills folder (HasTemporary folder)) (seen c.args.disk.now).told new
    (λ story tells has.
    let apart : current_path folder ≢ c.file-temporary.result = λ same. current_not_temporary folder (same ∙ from) in
    let id = length (state_of story).files in
    let w : Went story new (Writes (temporary_path folder) id) (HasOld (current_path folder) Not_known) (IsReady (temporary_path folder) (current_path folder) Not_known id first_current) =
    subst (λ (t : List ℕ). Went story new (Writes t id) (HasOld (current_path folder) Not_known) (IsReady t (current_path folder) Not_known id first_current)) from
    (subst (λ (b : List ℕ). Went story new (Writes c.file-temporary.result id) (HasOld (current_path folder) Not_known) (IsReady c.file-temporary.result (current_path folder) Not_known id b)) c.requires
    (c.in-Ok.ensures.went story (current_path folder) Not_known tells tt apart)) in
    record { story = w.story; tells = w.tells; holds = has_temporary folder story has w })

pub returns-in-Err-clause-refused : goal.returns-in-Err-clause-refused
returns-in-Err-clause-refused g c =
    let seen = g.D.Disk.seen in
    let folder : List ℕ = c.args.folder.now in
    let why = c.in-Err.field-0.why in
    let from : c.file-temporary.result ≡ temporary_path folder = c.file-temporary.ensures ∙ temporary_spelled folder in
    let calls : List Halt = write_calls (temporary_path folder) in
    let among : IsAmong c.in-Err.field-0.at calls = subst (λ (t : List ℕ). IsAmong c.in-Err.field-0.at (write_calls t)) from c.in-Err.ensures.at in
    subst (IsHindered calls (HasManifest folder) (seen c.args.disk.now) (seen c.write_temporary.new.disk)) (sym c.open_refused.ensures)
    (hindered calls (HasManifest folder) (seen c.args.disk.now) (seen c.args.disk.now) (seen c.write_temporary.new.disk) (stay (seen c.args.disk.now)) c.in-Err.field-0.at.call c.in-Err.field-0.at.path why among
    (λ story tells has. refuses_none (HasManifest folder) (no_room c.file-temporary.result)
    (λ s h. ap (λ (p : List ℕ). no_room p s) from ∙ temporary_room folder s h) why c.in-Err.ensures.answer (record { story = story; tells = tells; holds = has }))
    c.in-Err.ensures.cause.counted)
