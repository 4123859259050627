-- Each exit, by what the calls before it told.
use Rattle.std.specs.Prelude.{◌≡◌, ℕ, List, None}
use Rattle.std.proofs.Common.{refl, subst, ap, ◌∙◌}
use Rattle.lsm_disk.specs.State.{State}
use Rattle.lsm_disk.specs.Refusals.{no_view}
use Rattle.lsm_disk.specs.Viewed.{opened}
use Rattle.ldb_script.specs.Stored.{manifest_path, current_path}
use Rattle.ldb_script.specs.Files.{HasPair, IsRefused}
use Rattle.ldb_script.proofs.Telling.{given_on}
use Rattle.ldb_script.proofs.Folders.{manifest_spelled, current_spelled}
use Rattle.ldb_script.proofs.Refused.{seen_same, refused_between}
use Rattle.ldb_script.proofs.files.open_pair.Goals as goal

pub returns-in_err-current-clause-refused : goal.returns-in_err-current-clause-refused
returns-in_err-current-clause-refused g c =
    let seen = g.D.Disk.seen in
    let folder : List ℕ = c.args.home.now in
    let Q : State → Type 0 = λ (s : State). no_view (current_path folder) 16 s ≡ None in
    let why = c.in_err-current.field-0.0 in
    given_on c.from_residual.result why (IsRefused (HasPair folder) (seen c.args.disk.now) (seen c.open_view.new.disk)) c.from_residual.ensures.1
    (refused_between (HasPair folder) Q (seen c.args.disk.now) (seen c.args.disk.now) (seen c.open_view.new.disk) (seen c.open_view.new.disk) (λ s has. has.current) refl (seen_same (seen c.args.disk.now)) (seen_same (seen c.open_view.new.disk)) why
    (subst (λ (p : List ℕ). IsRefused (λ (s : State). no_view p 16 s ≡ None) (seen c.args.disk.now) (seen c.open_view.new.disk) why) (c.file.ensures ∙ current_spelled folder) c.in_err-current.ensures.refused))

pub returns-in-Ok-clause-current : goal.returns-in-Ok-clause-current
returns-in-Ok-clause-current g c =
    c.in_ok-current.ensures.view ∙ ap (λ (p : List ℕ). opened p 16 (g.D.Disk.seen c.args.disk.now).told) (c.file.ensures ∙ current_spelled c.args.home.now)

pub returns-in-Ok-clause-manifest : goal.returns-in-Ok-clause-manifest
returns-in-Ok-clause-manifest g c =
    c.in-Ok.ensures.view
    ∙ ap (λ (p : List ℕ). opened p 13 (g.D.Disk.seen c.open_view.new.disk).told) (c.file-2.ensures ∙ manifest_spelled c.args.home.now)
    ∙ ap (opened (manifest_path c.args.home.now) 13) c.open_view.ensures.told

pub returns-in-Err-clause-refused : goal.returns-in-Err-clause-refused
returns-in-Err-clause-refused g c =
    let seen = g.D.Disk.seen in
    let folder : List ℕ = c.args.home.now in
    let Q : State → Type 0 = λ (s : State). no_view (manifest_path folder) 13 s ≡ None in
    let why = c.in-Err.why in
    refused_between (HasPair folder) Q (seen c.args.disk.now) (seen c.open_view.new.disk) (seen c.open_view-2.new.disk) (seen c.close.new.self) (λ s has. has.manifest) c.open_view.ensures.told c.open_view.ensures.counts
    (record { faults = c.close.ensures.later; refusals = c.close.ensures.refusals }) why
    (subst (λ (p : List ℕ). IsRefused (λ (s : State). no_view p 13 s ≡ None) (seen c.open_view.new.disk) (seen c.open_view-2.new.disk) why) (c.file-2.ensures ∙ manifest_spelled folder) c.in-Err.ensures.refused)
