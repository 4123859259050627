-- A run of changes within one folder, and the folders that it leaves.
use Rattle.std.specs.Prelude.{◌≡◌, ◌≢◌, ◌⊎◌, ℕ, take, ◌<◌, true, false, is_some, List, Option, Some}
use Rattle.std.proofs.Common.{inl, inr, sym, ap, subst, ◌∙◌, arith}
use Rattle.std.specs.FinMap as finmap
use Rattle.lsm_names.specs.Folders.{is_folder_name}
use Rattle.lsm_names.specs.FileNames.{spelled}
use Rattle.lsm_names.specs.declared.file_names.FileName.{FileName}
use Rattle.lsm_names.proofs.FolderLemmas.{folder_is_component, folder_has_bytes}
use Rattle.lsm_disk.specs.Names.{is_in}
use Rattle.lsm_disk.specs.State as disk
use Rattle.lsm_disk.specs.State.{Story, Change, Created, Named, Appended, Synced, Names_synced, Idle, after, state_of}
use Rattle.lsm_disk.specs.Images.{Tree, IsImage, tree_now}
use Rattle.lsm_disk.specs.Goes.{Went}
use Rattle.lsm_disk.specs.Dest.{path_in}
use Rattle.lsm_disk.specs.Building.{IsWithin}
use Rattle.lsm_disk.proofs.Built.{within_spares_name}
use Rattle.lsm_disk.proofs.Runs.{went_weaker, went_wider, went_kept}
use Rattle.lsm_disk.proofs.Paths.{path_cases}
use Rattle.lsm_rows.specs.Replay.{replayed, sequence_after}
use Rattle.lsm_folder.specs.Files.{Files}
use Rattle.lsm_folder.specs.Needed.{Stands}
use Rattle.lsm_model.specs.declared.states.State.{State}
use Rattle.lsm_model.specs.declared.states.FolderRead.{FolderRead}
use Rattle.lsm_model.specs.States.{written, folder_of}
use Rattle.lsm_model.specs.Reads.{known_reading}
use Rattle.lsm_refine.proofs.CrashLemmas.{listed}
use Rattle.lsm_refine.specs.Folders.{folder_reading, StandsFrom, IsSure, FoldersRead, ChangesInside, SparesOutside, AreAlikeOutside}
use Rattle.lsm_refine.specs.Within.{AreOlderOutside, BuildsWithin, AreOthers, ReadsHere}
use Rattle.lsm_refine.proofs.OtherFileLemmas.{flat}
use Rattle.lsm_refine.proofs.OutsideLemmas.{files_same, outside_reading, outside_there, append_inside, change_inside, inside_both}
use Rattle.lsm_refine.proofs.WithinLemmas.{within_none, within_both, older_stay, change_within}
use Rattle.lsm_refine.proofs.WithinStores.{head_outside, path_outside}

module _ (folder : List ℕ) (first : ℕ) (named : is_folder_name folder ≡ true) where
  name_out : (name : List ℕ) → is_folder_name name ≡ true → name ≢ folder → is_in folder name ≡ false
  name_out name fits other = head_outside folder named name (flat name (folder_is_component name fits)) other

  item_out : (name : List ℕ) (file : FileName) → is_folder_name name ≡ true → name ≢ folder → is_in folder (path_in name file) ≡ false
  item_out name file fits other = path_outside folder named name (flat name (folder_is_component name fits)) other (spelled file)

  spares : (c : Change) → IsWithin folder first c → SparesOutside folder c
  spares c within = record {
    names = λ name fits other. within_spares_name folder name first c within (name_out name fits other);
    files = λ name file fits other is. within_spares_name folder (path_in name file) first c within (item_out name file fits other);
  }

  inside_once : (d : disk.State) (c : Change) → AreOlderOutside folder first d → IsWithin folder first c
      → ChangesInside folder d (after d c)
  inside_once d (Created path) are within = change_inside folder d (Created path) (spares (Created path) within) tt
  inside_once d (Named op) are within = change_inside folder d (Named op) (spares (Named op) within) tt
  inside_once d (Appended id more) are within = append_inside d folder id more
      (λ k name file ok other is leads. let less : id < first = are.older k id (path_in name file)
      (item_out name file ok other) leads in omega (arith, less, within))
  inside_once d (Synced id) are within = change_inside folder d (Synced id) (spares (Synced id) within) tt
  inside_once d Names_synced are within = change_inside folder d Names_synced (spares Names_synced within) tt
  inside_once d Idle are within = change_inside folder d Idle (spares Idle within) tt

  pub builds_once : (d : disk.State) (c : Change) → AreOlderOutside folder first d → IsWithin folder first c
      → BuildsWithin folder first d (after d c)
  builds_once d c are within =
      let changes = change_within folder first d are c within in
      record { within = changes; inside = inside_once d c are within; older = older_stay folder first d (after d c) changes are }

  pub builds_none : (d : disk.State) → AreOlderOutside folder first d → BuildsWithin folder first d d
  builds_none d are = record { within = within_none folder d; inside = change_inside folder d Idle (spares Idle tt) tt; older = are }

  pub builds_both : (d mid later : disk.State) → BuildsWithin folder first d mid → BuildsWithin folder first mid later
      → BuildsWithin folder first d later
  builds_both d mid later one two = record {
    within = within_both folder d mid later one.within two.within;
    inside = inside_both folder d mid later one.inside two.inside;
    older = two.older;
  }

  -- a run, now and at each moment on the way
  pub run_builds : (before : Story) (told : Option Story) (P : disk.State → Tree → Type 0) (J : disk.State → Type 0)
      → AreOlderOutside folder first (state_of before) → Went before told (IsWithin folder first) P J
      → Went before told (IsWithin folder first) (λ s t. P s t × BuildsWithin folder first (state_of before) s)
      (λ s. J s × BuildsWithin folder first (state_of before) s)
  run_builds before told P J are went = went_kept (λ s t. P s t × BuildsWithin folder first (state_of before) s)
      (BuildsWithin folder first (state_of before))
      (λ s c within builds. builds_both (state_of before) s (after s c) builds (builds_once s c builds.older within))
      (λ s t builds image has. (has, builds)) J (builds_none (state_of before) are) went

  -- the same where nothing else is known of the run
  pub plain_run : (before : Story) (told : Option Story) → AreOlderOutside folder first (state_of before)
      → Went before told (IsWithin folder first) (λ s t. Unit {0}) (λ s. Unit {0})
      → Went before told (IsWithin folder first) (λ s t. BuildsWithin folder first (state_of before) s)
      (λ s. BuildsWithin folder first (state_of before) s)
  plain_run before told are went =
      let run = run_builds before told (λ s t. Unit {0}) (λ s. Unit {0}) are went in
      went_weaker (λ s. Unit {0} × BuildsWithin folder first (state_of before) s) (BuildsWithin folder first (state_of before))
      (λ s has. has.1)
      (went_wider (IsWithin folder first) (IsWithin folder first)
      (λ s t. Unit {0} × BuildsWithin folder first (state_of before) s)
      (λ s t. BuildsWithin folder first (state_of before) s) (λ c is. is) (λ s t has. has.1) run)

-- ---- what folders read as

module _ (folder : List ℕ) (d later : disk.State) (changes : ChangesInside folder d later) (name : List ℕ)
    (fits : is_folder_name name ≡ true) (other : name ≢ folder) where
  pub reading_within : folder_reading name (tree_now later) ≡ folder_reading name (tree_now d)
  reading_within = outside_reading folder (tree_now d) (tree_now later) changes.now name fits other

  pub there_within : is_some (finmap.get (tree_now later).names name) ≡ is_some (finmap.get (tree_now d).names name)
  there_within = outside_there folder (tree_now d) (tree_now later) changes.now name fits other

  -- each image of the later disk has the folder as an image of the earlier one
  pub image_within : (u : Tree) → IsImage later u → (t : Tree) × IsImage d t × (folder_reading name u ≡ folder_reading name t)
      × (is_some (finmap.get u.names name) ≡ is_some (finmap.get t.names name))
  image_within u image =
      let before = changes.images u image in
      (before.0, before.1, outside_reading folder before.0 u before.2 name fits other, outside_there folder before.0 u before.2 name fits other)

pub sure_within : (folder : List ℕ) (d later : disk.State) → ChangesInside folder d later → (entry : FolderRead)
    → is_folder_name entry.name ≡ true → entry.name ≢ folder → IsSure d entry → IsSure later entry
sure_within folder d later changes entry fits other sure = record {
  there = λ u i. let was = image_within folder d later changes entry.name fits other u i in was.3 ∙ sure.there was.0 was.1;
  reads = λ u i. let was = image_within folder d later changes entry.name fits other u i in was.2 ∙ sure.reads was.0 was.1;
}

-- the store's own folder stands where it stood
pub stands_within : (folder : List ℕ) (t u : Tree) → AreAlikeOutside folder t u → (s : State) (least : ℕ)
    → is_folder_name s.own ≡ true → s.own ≢ folder → StandsFrom s least t → StandsFrom s least u
stands_within folder t u alike s least fits other stands = record {
  count = stands.count;
  enough = stands.enough;
  within = stands.within;
  stands = record {
    folder = alike.names s.own fits other ∙ stands.stands.folder;
    stands = subst (λ (files : Files). Stands files (replayed s.opening (take stands.count (written s)))
        (sequence_after s.began (take stands.count (written s))))
        (sym (files_same t u s.own (folder_has_bytes s.own fits) (λ file is. alike.items s.own file fits other is))) stands.stands.stands;
  };
}

-- all folders read as another state says, where they do but for this one, which reads so now
pub folders_within : (folder : List ℕ) (d later : disk.State) (s t : State) → ChangesInside folder d later → t.own ≡ s.own
    → ((name : List ℕ) → name ≢ folder → folder_of name t.folders ≡ folder_of name s.folders) → FoldersRead d s → AreOthers t
    → ReadsHere folder later t → FoldersRead later t
folders_within folder d later s t changes own same are only here = record {
  now = record {
    only = only;
    reads = λ name fits apart. reads name fits apart (path_cases name folder);
    taken = λ name fits apart. taken name fits apart (path_cases name folder);
  };
  sure = λ name entry found is_sure. sure name entry found is_sure (path_cases name folder);
}
  where
    reads : (name : List ℕ) → is_folder_name name ≡ true → name ≢ t.own → (name ≡ folder) ⊎ (name ≢ folder)
        → folder_reading name (tree_now later) ≡ known_reading name (folder_of name t.folders)
    reads name fits apart (inl is) = subst (λ (n : List ℕ). folder_reading n (tree_now later)
        ≡ known_reading n (folder_of n t.folders)) (sym is) here.reads
    reads name fits apart (inr other) =
        reading_within folder d later changes name fits other ∙ are.now.reads name fits (λ is. apart (is ∙ sym own)) ∙ ap
        (known_reading name) (sym (same name other))

    taken : (name : List ℕ) → is_folder_name name ≡ true → name ≢ t.own → (name ≡ folder) ⊎ (name ≢ folder)
        → is_some (folder_of name t.folders) ≡ is_some (finmap.get (tree_now later).names name)
    taken name fits apart (inl is) = subst (λ (n : List ℕ). is_some (folder_of n t.folders)
        ≡ is_some (finmap.get (tree_now later).names n)) (sym is) here.taken
    taken name fits apart (inr other) =
        ap is_some (same name other) ∙ are.now.taken name fits (λ is. apart (is ∙ sym own)) ∙ sym
        (there_within folder d later changes name fits other)

    sure : (name : List ℕ) (entry : FolderRead) → folder_of name t.folders ≡ Some entry → entry.sure ≡ true
        → (name ≡ folder) ⊎ (name ≢ folder) → IsSure later entry
    sure name entry found is_sure (inl is) = here.sure entry (ap (λ (n : List ℕ). folder_of n t.folders) (sym is) ∙ found) is_sure
    sure name entry found is_sure (inr other) =
        let before : folder_of name s.folders ≡ Some entry = sym (same name other) ∙ found in
        let entries = listed s.own name entry s.folders are.now.only before in
        sure_within folder d later changes entry entries.1 (λ is. other (sym entries.0 ∙ is)) (are.sure name entry before is_sure)
