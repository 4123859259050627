-- What each disk call of a restore changes is in its folder alone.
use Rattle.std.specs.Prelude.{◌≡◌, ◌≢◌, ℕ, true, false, List, ◌∷◌, ◌++◌, length, Option, Some}
use Rattle.std.proofs.Common.{⊎_elim, refl, sym, ap, ◌∙◌}
use Rattle.std.specs.FinMap as finmap
use Rattle.lsm_names.specs.Folders.{is_folder_name}
use Rattle.lsm_names.specs.FileNames.{spelled, IsFileName}
use Rattle.lsm_names.specs.declared.file_names.FileName.{FileName}
use Rattle.lsm_disk.specs.Names.{Names, Folder_node, Put, is_in}
use Rattle.lsm_disk.specs.State.{State, Story, Change, Created, Named, Appended, Synced, Names_synced, Idle, after, file_at, names_now, state_of}
use Rattle.lsm_disk.specs.Images.{Tree}
use Rattle.lsm_disk.specs.Goes.{Went}
use Rattle.lsm_disk.specs.Kept.{InFile}
use Rattle.lsm_disk.specs.Dest.{path_in}
use Rattle.lsm_disk.specs.Building.{IsWithin}
use Rattle.lsm_disk.proofs.Built.{not_in}
use Rattle.lsm_disk.proofs.Runs.{went_weaker, went_wider}
use Rattle.lsm_dest.proofs.Places.{inside_folder, folder_itself}
use Rattle.lsm_refine.specs.Sane.{IsAlone}
use Rattle.lsm_refine.specs.Folders.{ChangesInside}
use Rattle.lsm_refine.specs.Beside.{LeadToFiles, ChangesAt}
use Rattle.lsm_refine.specs.Within.{ChangesWithin, BuildsWithin}
use Rattle.lsm_refine.proofs.ChangeLemmas.{at_cut, file_written_at, made_at, made_alone}
use Rattle.lsm_refine.proofs.OutsideLemmas.{change_inside, created_spares}
use Rattle.lsm_refine.proofs.WithinLemmas.{within_none, all_older}
use Rattle.lsm_refine.proofs.WithinRuns.{builds_once, run_builds}
use Rattle.lsm_restoring.specs.Restoring.{ChangesOnly}

-- what changes at one path in a folder changes in the folder alone
at_within : (folder rest : List ℕ) (d later : State) → ChangesAt (folder ++ 47 ∷ rest) d later → ChangesWithin folder d later
at_within folder rest d later at = record {
  now = λ path out. at.now path (apart path out);
  cuts = λ k. ⊎_elim
      (λ was. record { count = was.0; same = λ path out. ap (λ (names : Names). finmap.get names path) was.1 })
      (λ now. record {
        count = length d.pending;
        same = λ path out. now path (apart path out) ∙ sym (at_cut d path (finmap.get (names_now d) path) refl);
      })
      (at.cuts k);
  files = λ path id f out is. at.files path id f (apart path out) is;
  alone = λ path out is. at.alone path is;
  quiet = λ path out are. at.quiet path (apart path out) are;
  fewer = at.fewer;
}
  where
    apart : (path : List ℕ) → is_in folder path ≡ false → path ≢ folder ++ 47 ∷ rest
    apart path out = not_in folder path (folder ++ 47 ∷ rest) out (inside_folder folder rest)

pub only_none : (folder : List ℕ) (d : State) → ChangesOnly folder d d
only_none folder d = record {
  within = within_none folder d;
  inside = change_inside folder d Idle (record { names = λ name ok other. tt; files = λ name file ok other is. tt }) tt;
}

-- the folder is made
pub only_folder : (folder : List ℕ) → is_folder_name folder ≡ true → (d : State) → LeadToFiles d
    → ChangesOnly folder d (after d (Named (Put folder Folder_node)))
only_folder folder named d lead =
    let builds = builds_once folder (length d.files) named d (Named (Put folder Folder_node)) (all_older folder d lead)
    (folder_itself folder, refl) in
    record { within = builds.within; inside = builds.inside }

module _ (folder : List ℕ) (named : is_folder_name folder ≡ true) (name : FileName) (fits : IsFileName name) (d : State) where
  abbrev path : List ℕ
  path = path_in folder name

  -- a file is made in it, which has no other name
  pub only_created : LeadToFiles d → ChangesOnly folder d (after d (Created path))
  only_created lead = record {
    within = at_within folder (spelled name) d (after d (Created path)) (made_at path d lead);
    inside = change_inside folder d (Created path) (created_spares folder name named fits) tt;
  }

  pub created_alone : LeadToFiles d → IsAlone (after d (Created path)) path
  created_alone lead = made_alone path d lead

  inside_by : (id : ℕ) → file_at d path ≡ Some id → IsAlone d path → (c : Change) → InFile id c → ChangesInside folder d
      (after d c)
  inside_by id there alone (Created other) kind = absurd kind
  inside_by id there alone (Named op) kind = absurd kind
  inside_by id there alone (Appended k more) kind = change_inside folder d (Appended k more)
      (record { names = λ other ok differs. tt; files = λ other file ok differs is. tt })
      (name, fits, there ∙ ap Some (sym kind), alone)
  inside_by id there alone (Synced k) kind = change_inside folder d (Synced k)
      (record { names = λ other ok differs. tt; files = λ other file ok differs is. tt }) tt
  inside_by id there alone Names_synced kind = absurd kind
  inside_by id there alone Idle kind = change_inside folder d Idle
      (record { names = λ other ok differs. tt; files = λ other file ok differs is. tt }) tt

  -- a file of it that has no other name is written or synced
  pub only_written : (id : ℕ) → file_at d path ≡ Some id → IsAlone d path → (c : Change) → InFile id c
      → ChangesOnly folder d (after d c) × IsAlone (after d c) path
  only_written id there alone c kind =
      let at = file_written_at path d id there alone c kind in (
        record { within = at_within folder (spelled name) d (after d c) at; inside = inside_by id there alone c kind },
        at.alone path alone,
      )

-- a run of changes within the folder, in files that were made on the way: now, and at each moment
pub only_run : (folder : List ℕ) → is_folder_name folder ≡ true → (before : Story) (told : Option Story)
    (P : State → Tree → Type 0) (J : State → Type 0) → LeadToFiles (state_of before)
    → Went before told (IsWithin folder (length (state_of before).files)) P J
    → Went before told (IsWithin folder (length (state_of before).files))
    (λ x t. P x t × ChangesOnly folder (state_of before) x)
    (λ x. J x × ChangesOnly folder (state_of before) x)
only_run folder named before told P J lead went =
    let first : ℕ = length (state_of before).files in
    let d : State = state_of before in
    let only : (x : State) → BuildsWithin folder first d x → ChangesOnly folder d x =
    λ x builds. record { within = builds.within; inside = builds.inside } in
    went_weaker (λ x. J x × BuildsWithin folder first d x) (λ x. J x × ChangesOnly folder d x) (λ x is. (is.0, only x is.1))
    (went_wider (IsWithin folder first) (IsWithin folder first) (λ x t. P x t × BuildsWithin folder first d x)
    (λ x t. P x t × ChangesOnly folder d x) (λ c is. is) (λ x t is. (is.0, only x is.1))
    (run_builds folder first named before told P J (all_older folder d lead) went))

-- the same of a run of which nothing else is said
pub plain_run : (folder : List ℕ) → is_folder_name folder ≡ true → (before : Story) (told : Option Story)
    → LeadToFiles (state_of before)
    → Went before told (IsWithin folder (length (state_of before).files)) (λ (x : State) (t : Tree). Unit {0})
    (λ (x : State). Unit {0})
    → Went before told (IsWithin folder (length (state_of before).files))
    (λ (x : State) (t : Tree). ChangesOnly folder (state_of before) x) (λ (x : State). ChangesOnly folder (state_of before) x)
plain_run folder named before told lead went =
    let first : ℕ = length (state_of before).files in
    let d : State = state_of before in
    went_weaker (λ (x : State). Unit {0} × ChangesOnly folder d x) (λ (x : State). ChangesOnly folder d x) (λ x is. is.1)
    (went_wider (IsWithin folder first) (IsWithin folder first)
    (λ (x : State) (t : Tree). Unit {0} × ChangesOnly folder d x) (λ (x : State) (t : Tree). ChangesOnly folder d x)
    (λ c is. is) (λ x t is. is.1)
    (only_run folder named before told (λ (x : State) (t : Tree). Unit {0}) (λ (x : State). Unit {0}) lead went))
