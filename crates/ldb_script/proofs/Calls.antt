-- What the calls of an opening leave, one after another.
use Rattle.std.specs.Prelude.{◌≡◌, ℕ, List, [], Option, Some, None, IfSome}
use Rattle.std.proofs.Common.{sym, ap, subst, ◌∙◌}
use Rattle.lsm_names.specs.Paths.{parent_of}
use Rattle.lsm_disk.specs.State.{State, Story, state_of, after, Created, created, appended, file_synced, folder_made}
use Rattle.lsm_disk.specs.Tree.{IsLawful}
use Rattle.lsm_disk.specs.Refusals.{no_file, no_room}
use Rattle.lsm_disk.specs.Answers.{Makes, RefusesBy}
use Rattle.lsm_disk.specs.declared.calls.DiskError.{DiskError}
use Rattle.ldb_script.specs.Stored.{manifest_path, first_manifest}
use Rattle.ldb_script.specs.Filling.{IsFreeFolder, AddsFile, Fills, HasManifest}
use Rattle.ldb_script.specs.Opening.{Leads}
use Rattle.ldb_script.proofs.Telling.{Tells, told_now, told_more, told_step, refuses_none, leads_told}
use Rattle.ldb_script.proofs.Folders.{made, filled, synced, made_there, filled_there, adds, IsEmptyFolder, empty_folder, empty_elsewhere, has_manifest, manifest_elsewhere}

-- ---- a new file

module _ (path bytes : List ℕ) (story : Story) {o0 o1 : Option Story} (tells : o0 ≡ Some story) (makes_one : Makes o0 (created path) o1) where
  abbrev s0 : State
  s0 = state_of story

  told_made : Tells o1 (λ s. s ≡ made path bytes (state_of story))
  told_made = told_step (created path) (λ s. s ≡ state_of story) (λ s. s ≡ made path bytes (state_of story)) (λ s is. ap (λ (x : State). after x (Created path)) is) makes_one (told_now o0 story tells)

  -- the append is not refused
  pub append_fits : (e : DiskError) → IfSome o1 (λ x. RefusesBy (no_file path (state_of x)) e) → RefusesBy None e
  append_fits e answer = refuses_none (λ s. s ≡ made path bytes (state_of story)) (no_file path) (λ s is. ap (no_file path) is ∙ made_there path bytes (state_of story)) e answer told_made

  module _ {o2 : Option Story} (makes_two : Makes o1 (appended path bytes) o2) where
    told_filled : Tells o2 (λ s. s ≡ filled path bytes (state_of story))
    told_filled = told_step (appended path bytes) (λ s. s ≡ made path bytes (state_of story)) (λ s. s ≡ filled path bytes (state_of story)) (λ s is. ap (λ (x : State). after x (appended path bytes x)) is) makes_two told_made

    -- nor the sync
    pub sync_fits : (e : DiskError) → IfSome o2 (λ x. RefusesBy (no_file path (state_of x)) e) → RefusesBy None e
    sync_fits e answer = refuses_none (λ s. s ≡ filled path bytes (state_of story)) (no_file path) (λ s is. ap (no_file path) is ∙ filled_there path bytes (state_of story)) e answer told_filled

    pub file_made : {o3 : Option Story} → Makes o2 (file_synced path) o3 → Tells o3 (AddsFile path bytes (state_of story))
    file_made makes_three =
        told_more (λ s. s ≡ synced path bytes (state_of story)) (AddsFile path bytes (state_of story)) (λ s is. subst (AddsFile path bytes (state_of story)) (sym is) (adds path bytes (state_of story)))
        (told_step (file_synced path) (λ s. s ≡ filled path bytes (state_of story)) (λ s. s ≡ synced path bytes (state_of story)) (λ s is. ap (λ (x : State). after x (file_synced path x)) is) makes_three told_filled)

-- ---- the folder and its manifest

-- the empty folder, and outside it all as it was
abbrev pub EmptyIn : List ℕ → State → State → Type 0
EmptyIn folder old new = Fills folder (IsEmptyFolder folder) old new

pub told_folder : (folder : List ℕ) {o0 o1 : Option Story} → parent_of folder ≡ [] → IfSome o0 (λ x. IsLawful (state_of x)) → Makes o0 (folder_made folder) o1 → (story : Story) → o0 ≡ Some story → IsFreeFolder folder (state_of story) → Tells o1 (EmptyIn folder (state_of story))
told_folder folder {o0} {o1} root lawful makes story tells free =
    let law : IsLawful (state_of story) = subst (λ (o : Option Story). IfSome o (λ x. IsLawful (state_of x))) tells lawful in
    told_step (folder_made folder) (λ s. s ≡ state_of story) (EmptyIn folder (state_of story))
    (λ s is. subst (λ (x : State). EmptyIn folder (state_of story) (after x (folder_made folder x))) (sym is)
    (record { has = empty_folder folder (state_of story) root law free; elsewhere = empty_elsewhere folder (state_of story) })) makes (told_now o0 story tells)

pub told_manifest : (folder : List ℕ) (old : State) {o1 o2 : Option Story} → Leads (λ s. no_room (manifest_path folder) s ≡ None) (AddsFile (manifest_path folder) first_manifest) o1 o2 → ((s : State) → IsEmptyFolder folder s → no_room (manifest_path folder) s ≡ None)
    → Tells o1 (EmptyIn folder old) → Tells o2 (Fills folder (HasManifest folder) old)
told_manifest folder old {o1} {o2} leads fits t =
    told_more (AddsFile (manifest_path folder) first_manifest (state_of t.story)) (Fills folder (HasManifest folder) old)
    (λ s added. record {
      has = has_manifest folder (state_of t.story) s t.holds.has added;
      elsewhere = λ path out. manifest_elsewhere folder (state_of t.story) s added path out ∙ t.holds.elsewhere path out;
    })
    (leads_told (λ s. no_room (manifest_path folder) s ≡ None) (AddsFile (manifest_path folder) first_manifest) o1 o2 leads (record { story = t.story; tells = t.tells; holds = fits (state_of t.story) t.holds.has }))
