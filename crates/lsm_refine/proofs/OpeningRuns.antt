-- The runs of an opening, part by part: each image on the way is kept from the start.
use Rattle.std.specs.Prelude.{◌≡◌, ◌⊎◌, ℕ, true, List, [], ◌∷◌, length, Option, Some, None}
use Rattle.std.specs.FinMap as finmap
use Rattle.lsm_names.specs.Folders.{is_folder_name}
use Rattle.lsm_names.specs.FileNames.{IsFileName}
use Rattle.lsm_names.specs.declared.file_names.FileName.TheVariants.{Log, Table, Manifest, Temp, Current}
use Rattle.lsm_rows.specs.Replay.{Contents}
use Rattle.lsm_disk.specs.Names.{Folder_node}
use Rattle.lsm_disk.specs.State.{State, Story, Change, Created, Named, Appended, Synced, Names_synced, Idle, after, state_of, names_now}
use Rattle.lsm_disk.specs.Images.{Tree}
use Rattle.lsm_disk.specs.Kept.{Making}
use Rattle.lsm_disk.specs.Answers.{Makes, LeftBy, Allowed}
use Rattle.lsm_disk.specs.Goes.{Shows, Went}
use Rattle.lsm_disk.specs.Dest.{path_in}
use Rattle.lsm_disk.specs.declared.calls.DiskError.{DiskError}
use Rattle.lsm_disk.proofs.Runs.{goes_shows, went_ok, went_err, went_then, went_wider}
use Rattle.lsm_version.specs.declared.edits.Edit.{Edit}
use Rattle.lsm_wal.specs.Making.{MayHaveNew}
use Rattle.lsm_folder.specs.Names.{current_text}
use Rattle.lsm_folder.specs.Manifests.{manifest_text, log_after}
use Rattle.lsm_refine.specs.Sane.{IsWholeFile}
use Rattle.lsm_refine.specs.Beside.{WritesNew, MakesAt}
use Rattle.lsm_refine.specs.Naming.{Replaces, ReplacesAt}
use Rattle.lsm_refine.specs.New.{first_edit}
use Rattle.lsm_refine.specs.Openings.{IsKeptImage}
use Rattle.lsm_refine.specs.OpeningImages.{KeepsFolder, IsAtRest, AllStand, AllFresh, SaysAs, MayBecome, HasOldOrNamesNew, HasNoneOrNamesNew, MaySwitch, MayBegin, MayMakeLog}
use Rattle.lsm_refine.proofs.NewFileLemmas.{went_making}
use Rattle.lsm_refine.proofs.OpeningBeside.{beside_kept}
use Rattle.lsm_refine.proofs.OpeningGoesOn.{image_both}
use Rattle.lsm_refine.proofs.OpeningLog.{log_kept}
use Rattle.lsm_refine.proofs.OpeningManifest.{old_or_new, none_or_new}
use Rattle.lsm_refine.proofs.ReplacedFrames.{went_replacing}

-- ---- what a run leaves

-- the image is kept from this disk
abbrev pub Keeps : List ℕ → State → State → Tree → Type 0
Keeps dir d x t = IsKeptImage dir d t

pub kept_shows : (dir : List ℕ) (d x : State) → KeepsFolder dir d x → Shows (Keeps dir d) x
kept_shows dir d x kept = record { each = kept.each }

-- where each image on the way is kept, so are those behind it
pub kept_behind : (dir : List ℕ) (d : State) {start : Story} {told : Option Story} {q : Change → Type 0} (J : State → Type 0)
    → Went start told q (Keeps dir d) J → Went start told q (Keeps dir d) (λ x. J x × KeepsFolder dir d x)
kept_behind dir d J went = record {
  story = went.story;
  tells = went.tells;
  goes = went.goes;
  now = (went.now, record { each = (goes_shows went.goes).each });
}

-- one part behind another, whatever its changes are
pub opening_then : (dir : List ℕ) (d : State) {start : Story} {told now : Option Story} (q : Change → Type 0)
    (I J : State → Type 0) → Went start told (λ c. Unit {0}) (Keeps dir d) I
    → ((mid : Story) → told ≡ Some mid → I (state_of mid) → Went mid now q (Keeps dir d) J)
    → Went start now (λ c. Unit {0}) (Keeps dir d) J
opening_then dir d q I J went next =
    went_then went (λ mid here is. went_wider q (λ c. Unit {0}) (Keeps dir d) (Keeps dir d) (λ c kind. tt) (λ x t kept. kept)
    (next mid here is))

-- ---- a call that keeps the folder, as a sync

module _ (dir : List ℕ) (d : State) (I J : State → Type 0) (c : State → Change)
    (step : (x : State) → I x → J (after x (c x)))
    (keeps : (x : State) → I x → KeepsFolder dir d x → KeepsFolder dir d (after x (c x))) where
  abbrev Was : State → Type 0
  Was x = I x × KeepsFolder dir d x

  abbrev Is : State → Type 0
  Is x = J x × KeepsFolder dir d x

  pub kept_ok : {start : Story} {told now : Option Story} → Makes told c now
      → Went start told (λ c. Unit {0}) (Keeps dir d) (λ x. I x × KeepsFolder dir d x)
      → Went start now (λ c. Unit {0}) (Keeps dir d) (λ x. J x × KeepsFolder dir d x)
  kept_ok makes went = went_ok Was Is c makes (λ x is. tt) (λ x is. (step x is.0, keeps x is.0 is.1))
      (λ x is. kept_shows dir d x is.1) went

  pub kept_err : {start : Story} {told now : Option Story} (refusal : State → Option DiskError) (e : DiskError)
      → LeftBy (now ≡ told) (Allowed refusal told × Makes told c now) e
      → Went start told (λ c. Unit {0}) (Keeps dir d) (λ x. I x × KeepsFolder dir d x)
      → Went start now (λ c. Unit {0}) (Keeps dir d) (λ x. (I x × KeepsFolder dir d x) ⊎ (J x × KeepsFolder dir d x))
  kept_err refusal e did went = went_err Was Is c refusal e did (λ x is. tt) (λ x is. (step x is.0, keeps x is.0 is.1))
      (λ x is. kept_shows dir d x is.1) went

-- ---- the parts

-- what makes a file may go on to write it
as_written : (path : List ℕ) (id : ℕ) (c : Change) → Making path c → WritesNew path id c
as_written path id (Created other) kind = kind
as_written path id (Named op) kind = absurd kind
as_written path id (Appended k bytes) kind = absurd kind
as_written path id (Synced k) kind = absurd kind
as_written path id Names_synced kind = tt
as_written path id Idle kind = tt

module _ (dir : List ℕ) (named : is_folder_name dir ≡ true) (start : State) (before : Story)
    (kept : KeepsFolder dir start (state_of before)) (rest : IsAtRest dir (state_of before)) where
  abbrev d : State
  d = state_of before

  abbrev first : ℕ
  first = length (state_of before).files

  -- a table's file is made and written
  pub table_went : {told : Option Story} {P : State → Tree → Type 0} (J : State → Type 0)
      → AllStand dir (state_of before) → (number : ℕ) → IsFileName (Table number)
      → finmap.get (names_now (state_of before)) (path_in dir (Table number)) ≡ None
      → Went before told (WritesNew (path_in dir (Table number)) (length (state_of before).files)) P J
      → Went before told (WritesNew (path_in dir (Table number)) (length (state_of before).files)) (Keeps dir start)
      (λ x. (J x × MakesAt dir (Table number) (state_of before) x) × KeepsFolder dir start x)
  table_went J stand number fits free went =
      kept_behind dir start (λ x. J x × MakesAt dir (Table number) d x)
      (went_making dir (Table number) named fits (Keeps dir start) J rest.lead
      (λ x t makes image held. image_both dir named start d kept t
      ((beside_kept dir named d rest stand number fits free x makes).each t image)) went)

  module _ (number : ℕ) (fits : IsFileName (Manifest number)) (contents : Contents) (sequence : ℕ)
      (may : MayBecome dir start contents sequence) (edits : List Edit)
      (says : SaysAs (state_of before) dir edits contents sequence) where
    -- CURRENT comes to name a new manifest in a folder that stands
    pub manifest_went : {told : Option Story} {P : State → Tree → Type 0} (J : State → Type 0)
        → AllStand dir (state_of before) → (bytes : List ℕ)
        → IsWholeFile (state_of before) (path_in dir Current) bytes
        → finmap.get (names_now (state_of before)) (path_in dir (Manifest number)) ≡ None
        → finmap.get (names_now (state_of before)) (path_in dir (Temp number)) ≡ None
        → ((x : State) (t : Tree) → P x t → HasOldOrNamesNew dir bytes number edits t)
        → Went before told (Replaces dir number (length (state_of before).files)) P J
        → Went before told (Replaces dir number (length (state_of before).files)) (Keeps dir start)
        (λ x. (J x × ReplacesAt dir number (state_of before) x) × KeepsFolder dir start x)
    manifest_went {told = told} {P = P} J stand bytes current no_manifest no_temporary shows went =
        kept_behind dir start (λ x. J x × ReplacesAt dir number d x)
        (went_replacing dir named number fits fits before told P (Keeps dir start) J rest.lead rest.files
        (λ x t replaces image held. old_or_new dir named start d kept rest number fits contents sequence may edits says x
        replaces t image stand bytes current no_manifest no_temporary (shows x t held)) went)

    -- and in a fresh one
    pub first_manifest_went : {told : Option Story} {P : State → Tree → Type 0} (J : State → Type 0)
        → AllFresh dir (state_of before)
        → finmap.get (names_now (state_of before)) dir ≡ Some Folder_node
        → ((x : State) (t : Tree) → P x t → HasNoneOrNamesNew dir number edits t)
        → Went before told (Replaces dir number (length (state_of before).files)) P J
        → Went before told (Replaces dir number (length (state_of before).files)) (Keeps dir start)
        (λ x. (J x × ReplacesAt dir number (state_of before) x) × KeepsFolder dir start x)
    first_manifest_went {told = told} {P = P} J fresh folder shows went =
        kept_behind dir start (λ x. J x × ReplacesAt dir number d x)
        (went_replacing dir named number fits fits before told P (Keeps dir start) J rest.lead rest.files
        (λ x t replaces image held. none_or_new dir named start d kept rest number fits contents sequence may edits says x
        replaces t image fresh folder (shows x t held)) went)

    -- the empty log is made behind it
    pub log_went : {told : Option Story} (J : State → Type 0) → finmap.get (names_now (state_of before)) dir ≡ Some Folder_node
        → IsWholeFile (state_of before) (path_in dir Current) (current_text number)
        → IsWholeFile (state_of before) (path_in dir (Manifest number)) (manifest_text edits)
        → IsFileName (Log (log_after edits))
        → Went before told (Making (path_in dir (Log (log_after edits))))
        (MayHaveNew (state_of before) (path_in dir (Log (log_after edits)))) J
        → Went before told (WritesNew (path_in dir (Log (log_after edits))) (length (state_of before).files)) (Keeps dir start)
        (λ x. (J x × MakesAt dir (Log (log_after edits)) (state_of before) x) × KeepsFolder dir start x)
    log_went J folder current manifest log_fits went =
        kept_behind dir start (λ x. J x × MakesAt dir (Log (log_after edits)) d x)
        (went_making dir (Log (log_after edits)) named log_fits (Keeps dir start) J rest.lead
        (λ x t makes image held. log_kept dir named start d kept rest folder number fits edits current manifest contents
        sequence may says log_fits x makes t image held)
        (went_wider (Making (path_in dir (Log (log_after edits)))) (WritesNew (path_in dir (Log (log_after edits))) first)
        (MayHaveNew d (path_in dir (Log (log_after edits)))) (MayHaveNew d (path_in dir (Log (log_after edits))))
        (as_written (path_in dir (Log (log_after edits))) first) (λ x t held. held) went))

-- ---- the parts, by how far the opening has come

module _ (dir : List ℕ) (named : is_folder_name dir ≡ true) (start : State) (before : Story) (number : ℕ) where
  -- behind the switch of CURRENT the empty log may be made, where it was Ok
  pub switch_went : (edits : List Edit) (may : MaySwitch dir start (state_of before) number edits)
      → {told : Option Story} {P : State → Tree → Type 0} (J : State → Type 0)
      → ((x : State) (t : Tree) → P x t → HasOldOrNamesNew dir (current_text may.found) number edits t)
      → Went before told (Replaces dir number (length (state_of before).files)) P J
      → Went before told (Replaces dir number (length (state_of before).files)) (Keeps dir start)
      (λ x. (J x × ReplacesAt dir number (state_of before) x) × KeepsFolder dir start x)
  switch_went edits may J shows went =
      manifest_went dir named start before may.kept may.rest number may.numbered may.contents may.sequence may.may edits
      may.says J may.stand (current_text may.found) may.current may.no_manifest may.no_temporary shows went

  pub begin_went : MayBegin dir start (state_of before) number
      → {told : Option Story} {P : State → Tree → Type 0} (J : State → Type 0)
      → ((x : State) (t : Tree) → P x t → HasNoneOrNamesNew dir number (first_edit number ∷ []) t)
      → Went before told (Replaces dir number (length (state_of before).files)) P J
      → Went before told (Replaces dir number (length (state_of before).files)) (Keeps dir start)
      (λ x. (J x × ReplacesAt dir number (state_of before) x) × KeepsFolder dir start x)
  begin_went may J shows went =
      first_manifest_went dir named start before may.kept may.rest number may.numbered finmap.empty 0 may.may
      (first_edit number ∷ []) may.says J may.fresh may.folder shows went

  pub made_went : (edits : List Edit) → MayMakeLog dir start (state_of before) number edits
      → {told : Option Story} (J : State → Type 0)
      → Went before told (Making (path_in dir (Log (log_after edits))))
      (MayHaveNew (state_of before) (path_in dir (Log (log_after edits)))) J
      → Went before told (WritesNew (path_in dir (Log (log_after edits))) (length (state_of before).files)) (Keeps dir start)
      (λ x. (J x × MakesAt dir (Log (log_after edits)) (state_of before) x) × KeepsFolder dir start x)
  made_went edits may J went =
      log_went dir named start before may.kept may.rest number may.numbered may.contents may.sequence may.may edits may.says J
      may.folder may.current may.manifest may.log_fits went
