-- Each exit, by what the calls before it left.
use Rattle.std.proofs.Common.{◌≡◌, ◌∙◌, ℕ, List, None, inr, subst}
use Rattle.lsm_disk.specs.State.{State, folder_made, state_of}
use Rattle.lsm_disk.specs.Answers.{Makes}
use Rattle.lsm_disk.specs.Refusals.{no_room}
use Rattle.ldb_script.specs.Stored.{manifest_path, first_manifest}
use Rattle.ldb_script.specs.Filling.{IsFreeFolder, AddsFile, Fills, HasManifest}
use Rattle.ldb_script.specs.Opening.{IsHindered, Leads, file_calls, manifest_calls}
use Rattle.ldb_script.proofs.Telling.{told_more, leads_by, hindered_then, given_on}
use Rattle.ldb_script.proofs.Folders.{manifest_spelled, manifest_room}
use Rattle.ldb_script.proofs.Calls.{EmptyIn, told_folder, told_manifest}
use Rattle.ldb_script.proofs.opening.make_manifest.Goals as goal

pub returns-in_err-write_file-clause-refused : goal.returns-in_err-write_file-clause-refused
returns-in_err-write_file-clause-refused g c =
    let seen = g.D.Disk.seen in
    let folder : List ℕ = c.args.folder.now in
    let P : State → Type 0 = IsFreeFolder folder in
    let Q : State → Type 0 = λ (s : State). no_room (manifest_path folder) s ≡ None in
    let why = c.in_err-write_file.field-0.0 in
    let made : Makes (seen c.args.disk.now).told (folder_made folder) (seen c.make_folder.new.self).told =
    subst (λ (p : List ℕ). Makes (seen c.args.disk.now).told (folder_made p) (seen c.make_folder.new.self).told) c.path-path.ensures.path c.in_default.ensures.did in
    given_on c.from_residual.result why (IsHindered (manifest_calls folder) P (seen c.args.disk.now) (seen c.write_file.new.disk)) c.from_residual.ensures.1
    (hindered_then (manifest_calls folder) P (seen c.args.disk.now) (seen c.make_folder.new.self) (seen c.write_file.new.disk) (record { faults = c.make_folder.ensures.cause.faults_later; refusals = c.make_folder.ensures.cause.refusals_later }) (file_calls (manifest_path folder)) Q (λ at h. inr h)
    (λ story tells free. told_more (EmptyIn folder (state_of story)) Q (λ s e. manifest_room folder s e.has) (told_folder folder c.path-path.ensures.root c.make_folder.ensures.lawful made story tells free)) why
    (subst (λ (p : List ℕ). IsHindered (file_calls p) (λ (s : State). no_room p s ≡ None) (seen c.make_folder.new.self) (seen c.write_file.new.disk) why) (c.file.ensures ∙ manifest_spelled folder) c.in_err-write_file.ensures.refused))

pub returns-clause-made : goal.returns-clause-made
returns-clause-made g c =
    let seen = g.D.Disk.seen in
    let folder : List ℕ = c.args.folder.now in
    let made : Makes (seen c.args.disk.now).told (folder_made folder) (seen c.make_folder.new.self).told =
    subst (λ (p : List ℕ). Makes (seen c.args.disk.now).told (folder_made p) (seen c.make_folder.new.self).told) c.path-path.ensures.path c.in_default.ensures.did in
    let adds : Leads (λ (s : State). no_room (manifest_path folder) s ≡ None) (AddsFile (manifest_path folder) first_manifest) (seen c.make_folder.new.self).told (seen c.write_file.new.disk).told =
    subst (λ (p : List ℕ). Leads (λ (s : State). no_room p s ≡ None) (AddsFile p first_manifest) (seen c.make_folder.new.self).told (seen c.write_file.new.disk).told) (c.file.ensures ∙ manifest_spelled folder)
    (subst (λ (b : List ℕ). Leads (λ (s : State). no_room c.file.result s ≡ None) (AddsFile c.file.result b) (seen c.make_folder.new.self).told (seen c.write_file.new.disk).told) c.requires c.in_ok-write_file.ensures.made) in
    leads_by (IsFreeFolder folder) (Fills folder (HasManifest folder)) (seen c.args.disk.now).told (seen c.write_file.new.disk).told
    (λ story tells free. told_manifest folder (state_of story) adds (manifest_room folder) (told_folder folder c.path-path.ensures.root c.make_folder.ensures.lawful made story tells free))
