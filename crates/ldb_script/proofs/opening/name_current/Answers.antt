-- What the switch leaves, or why it was refused.
use Rattle.std.proofs.Common.{◌≡◌, ◌∙◌, ℕ, List, subst, sym}
use Rattle.lsm_disk.specs.State.{state_of}
use Rattle.lsm_disk.specs.Goes.{Went}
use Rattle.lsm_disk.specs.Halts.{IsAmong}
use Rattle.lsm_disk.specs.Refusals.{no_rename}
use Rattle.lsm_disk.specs.declared.calls.Halt.{Halt}
use Rattle.lsm_publish.specs.Publishing.{Not_known, HasOldOrNew, Switches, IsReady, IsPublished, switch_calls}
use Rattle.ldb_script.specs.Stored.{temporary_path, current_path, first_current}
use Rattle.ldb_script.specs.Filling.{Fills, HasTemporary, HasCurrent}
use Rattle.ldb_script.specs.Opening.{IsHindered}
use Rattle.ldb_script.proofs.Telling.{stay, leads_by, hindered, refuses_none}
use Rattle.ldb_script.proofs.Folders.{temporary_spelled, current_spelled, may_switch, has_current}
use Rattle.ldb_script.proofs.opening.name_current.Goals as goal

pub returns-in-Ok-clause-made : goal.returns-in-Ok-clause-made
returns-in-Ok-clause-made g c =
    let seen = g.D.Disk.seen in
    let folder : List ℕ = c.args.folder.now in
    let new = (seen c.switch.new.disk).told in
    let from : c.file-temporary.result ≡ temporary_path folder = c.file-temporary.ensures ∙ temporary_spelled folder in
    let to : c.file-path.result ≡ current_path folder = c.file-path.ensures ∙ current_spelled folder in
    leads_by (HasTemporary folder) (Fills folder (HasCurrent folder)) (seen c.args.disk.now).told new
    (λ story tells has.
    let ready : IsReady c.file-temporary.result c.file-path.result Not_known has.id first_current (state_of story) =
    subst (λ (t : List ℕ). IsReady t c.file-path.result Not_known has.id first_current (state_of story)) (sym from)
    (subst (λ (p : List ℕ). IsReady (temporary_path folder) p Not_known has.id first_current (state_of story)) (sym to) has.ready) in
    let w : Went story new (Switches (temporary_path folder) (current_path folder)) (HasOldOrNew (current_path folder) Not_known first_current) (IsPublished (current_path folder) has.id first_current) =
    subst (λ (t : List ℕ). Went story new (Switches t (current_path folder)) (HasOldOrNew (current_path folder) Not_known first_current) (IsPublished (current_path folder) has.id first_current)) from
    (subst (λ (p : List ℕ). Went story new (Switches c.file-temporary.result p) (HasOldOrNew p Not_known first_current) (IsPublished p has.id first_current)) to
    (c.in-Ok.ensures.went story Not_known has.id first_current tells ready)) in
    record { story = w.story; tells = w.tells; holds = has_current folder story has w })

pub returns-in-Err-clause-refused : goal.returns-in-Err-clause-refused
returns-in-Err-clause-refused g c =
    let seen = g.D.Disk.seen in
    let folder : List ℕ = c.args.folder.now in
    let why = c.in-Err.field-0.why in
    let from : c.file-temporary.result ≡ temporary_path folder = c.file-temporary.ensures ∙ temporary_spelled folder in
    let to : c.file-path.result ≡ current_path folder = c.file-path.ensures ∙ current_spelled folder in
    let calls : List Halt = switch_calls (current_path folder) in
    let among : IsAmong c.in-Err.field-0.at calls = subst (λ (p : List ℕ). IsAmong c.in-Err.field-0.at (switch_calls p)) to c.in-Err.ensures.at in
    subst (IsHindered calls (HasTemporary folder) (seen c.args.disk.now) (seen c.switch.new.disk)) (sym c.open_refused.ensures)
    (hindered calls (HasTemporary folder) (seen c.args.disk.now) (seen c.args.disk.now) (seen c.switch.new.disk) (stay (seen c.args.disk.now)) c.in-Err.field-0.at.call c.in-Err.field-0.at.path why among
    (λ story tells has. refuses_none (HasTemporary folder) (no_rename c.file-temporary.result c.file-path.result)
    (λ s h. (λ i. no_rename (from i) (to i) s) ∙ may_switch folder s h) why c.in-Err.ensures.answer (record { story = story; tells = tells; holds = has }))
    c.in-Err.ensures.cause.counted)
