-- The log that is made, or why not.
use Rattle.std.proofs.Common.{◌≡◌, ◌∙◌, ℕ, List, [], inl, inr, ⊎_elim, ap, subst, sym}
use Rattle.lsm_disk.specs.State.{State, Story, state_of}
use Rattle.lsm_disk.specs.Refusals.{no_room}
use Rattle.lsm_disk.specs.Goes.{Went}
use Rattle.lsm_disk.specs.Kept.{Making}
use Rattle.lsm_disk.specs.Answers.{RefusesBy}
use Rattle.lsm_disk.specs.Halts.{halt_at, IsAmong}
use Rattle.lsm_wal.specs.Making.{MayHaveNew, with_made}
use Rattle.lsm_disk.proofs.Runs.{went_weaker}
use Rattle.lsm_wal.specs.Shown.{Shown}
use Rattle.lsm_wal.specs.Standing.{IsWal}
use Rattle.ldb_script.specs.Stored.{log_path}
use Rattle.ldb_script.specs.Filling.{Fills, HasCurrent, HasStore}
use Rattle.ldb_script.specs.Opening.{IsHindered, log_calls}
use Rattle.ldb_script.proofs.Telling.{stay, leads_by, hindered, refuses_none}
use Rattle.ldb_script.proofs.Folders.{log_spelled, log_room}
use Rattle.ldb_script.proofs.Opened.{fills_store}
use Rattle.ldb_script.proofs.Broken.{first_of}
use Rattle.ldb_script.proofs.opening.make_log.Goals as goal

pub returns-in-Ok-clause-log : goal.returns-in-Ok-clause-log
returns-in-Ok-clause-log g c =
    c.in-Ok.ensures.log ∙ ap (λ (p : List ℕ). let s : Shown = record { path = p; len = 0 } in s) (c.file.ensures ∙ log_spelled c.args.folder.now)

pub returns-in-Ok-clause-made : goal.returns-in-Ok-clause-made
returns-in-Ok-clause-made g c =
    let seen = g.D.Disk.seen in
    let folder : List ℕ = c.args.folder.now in
    let told = (seen c.create.new.disk).told in
    leads_by (HasCurrent folder) (Fills folder (HasStore folder)) (seen c.args.disk.now).told told
    (λ story tells has.
    let path : List ℕ = c.file.result in
    let made : Went story told (Making path) (MayHaveNew (state_of story) path) (λ (s : State). IsWal s path [] 0) =
    went_weaker (λ (s : State). IsWal s path [] 0 × (s ≡ with_made path (state_of story))) (λ (s : State). IsWal s path [] 0)
    (λ s is. is.0) (c.in-Ok.ensures.went story tells) in
    let w : Went story told (Making (log_path folder)) (MayHaveNew (state_of story) (log_path folder)) (λ (s : State). IsWal s (log_path folder) [] 0) =
    subst (λ (p : List ℕ). Went story told (Making p) (MayHaveNew (state_of story) p) (λ (s : State). IsWal s p [] 0))
    (c.file.ensures ∙ log_spelled folder) made in
    record { story = w.story; tells = w.tells; holds = fills_store folder story told (MayHaveNew (state_of story) (log_path folder)) has w })

pub returns-in-Err-clause-refused : goal.returns-in-Err-clause-refused
returns-in-Err-clause-refused g c =
    let seen = g.D.Disk.seen in
    let folder : List ℕ = c.args.folder.now in
    let why = c.in-Err.field-0.why in
    let told = (seen c.args.disk.now).told in
    let path : c.file.result ≡ log_path folder = c.file.ensures ∙ log_spelled folder in
    let refused = c.in-Err.ensures.refused in
    let among : IsAmong (halt_at c.in-Err.field-0.at.call c.in-Err.field-0.at.path) (log_calls folder) =
    ⊎_elim (λ is. inl (λ i. halt_at (is i) ((refused.path_is ∙ path) i))) (λ is. inr (inl (λ i. halt_at (is i) ((refused.path_is ∙ path) i)))) refused.call_is in
    subst (IsHindered (log_calls folder) (HasCurrent folder) (seen c.args.disk.now) (seen c.create.new.disk)) (sym c.open_refused.ensures)
    (hindered (log_calls folder) (HasCurrent folder) (seen c.args.disk.now) (seen c.args.disk.now) (seen c.create.new.disk) (stay (seen c.args.disk.now)) c.in-Err.field-0.at.call c.in-Err.field-0.at.path why among
    (λ story tells has. refuses_none (HasCurrent folder) (no_room c.file.result) (λ s h. ap (λ (p : List ℕ). no_room p s) path ∙ log_room folder s h) why
    (first_of told (λ (x : Story). RefusesBy (no_room c.file.result (state_of x)) why) _ c.in-Err.ensures.answer) (record { story = story; tells = tells; holds = has }))
    c.in-Err.ensures.cause.counted)
