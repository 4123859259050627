-- The making of a new store keeps the folder: each image on the way is one that an opening may leave of the disk as it was.
use Rattle.std.specs.Prelude.{◌≡◌, ℕ, ◌+◌, true, List, [], ◌∷◌, length, All, Option, Some, Result, Ok, Err}
use Rattle.std.proofs.Common.{⊎_elim, sym, subst, ◌∙◌, arith}
use Rattle.std.proofs.lemmas.List.Elements.{All-nil, All-cons}
use Rattle.std.specs.FinMap as finmap
use Rattle.lsm_names.specs.Folders.{is_folder_name}
use Rattle.lsm_names.specs.FileNames.{IsFileName}
use Rattle.lsm_names.specs.declared.file_names.FileName.{FileName}
use Rattle.lsm_names.specs.declared.file_names.FileName.TheVariants.{Log, Manifest, Temp, Current}
use Rattle.lsm_disk.specs.Names.{Folder_node}
use Rattle.lsm_disk.specs.State.{State, Story, after, folder_made, names_now, state_of}
use Rattle.lsm_disk.specs.Images.{Tree, IsImage, tree_now}
use Rattle.lsm_disk.specs.Goes.{Went}
use Rattle.lsm_disk.specs.Kept.{Making}
use Rattle.lsm_disk.specs.Dest.{path_in}
use Rattle.lsm_disk.proofs.Images.{after_names_synced, reads_image}
use Rattle.lsm_disk.proofs.Runs.{went_kept, went_weaker, went_wider}
use Rattle.lsm_folder.specs.Files.{place_of}
use Rattle.lsm_folder.specs.Manifests.{log_after}
use Rattle.lsm_folder.specs.Needed.{IsFresh}
use Rattle.lsm_version.specs.declared.edits.Edit.{Edit}
use Rattle.lsm_wal.specs.Making.{MayHaveNew}
use Rattle.lsm_model.specs.declared.errors.StoreError.{StoreError}
use Rattle.lsm_refine.specs.Among.{switched_names}
use Rattle.lsm_refine.specs.Beside.{WritesNew}
use Rattle.lsm_refine.specs.Naming.{Replaces, ReplacesAt, HasReplaced}
use Rattle.lsm_refine.specs.New.{first_edit}
use Rattle.lsm_refine.specs.OpeningImages.{KeepsFolder, IsAtRest, AllFresh, SaysAs, MayBecome}
use Rattle.lsm_refine.specs.Vacant.{IsVacant, with_folder}
use Rattle.lsm_refine.proofs.NewLemmas.{first_log}
use Rattle.lsm_refine.proofs.NewStoreLemmas.{new_vacant}
use Rattle.lsm_refine.proofs.OpeningBegins.{names_kept}
use Rattle.lsm_refine.proofs.OpeningFirst.{first_says}
use Rattle.lsm_refine.proofs.OpeningFresh.{free_fresh, made_fresh, folder_kept}
use Rattle.lsm_refine.proofs.OpeningGoesOn.{kept_both, may_be_made, read_fresh}
use Rattle.lsm_refine.proofs.OpeningManifest.{says_still}
use Rattle.lsm_refine.proofs.OpeningRuns.{Keeps, first_manifest_went, log_went, opening_then}
use Rattle.lsm_refine.proofs.SwitchedLemmas.{dir_elsewhere, files_among, clear_among}
use Rattle.lsm_store.specs.declared.opening_new.NewParts.{NewParts}
use Rattle.lsm_store.specs.NewStores.{GoesToManifest, GoesToLog, FilesGo, FilesGoTo, HasMadeFolder, GoesToFolder, IsFree, MakesAnew, Anything}
use Rattle.lsm_store.proofs.NewFiles.{file_number}

same_story : (x y : Story) → Some x ≡ Some y → x ≡ y
same_story x y same = cc

-- the way to a told story is the way to it
at_told : (dir : List ℕ) (start : State) (before now : Story) (told : Option Story) → told ≡ Some now
    → Went before (Some now) (λ c. Unit {0}) (Keeps dir start) Anything → Went before told (λ c. Unit {0})
    (Keeps dir start) Anything
at_told dir start before now told is went =
    subst (λ (o : Option Story). Went before o (λ c. Unit {0}) (Keeps dir start) Anything) (sym is) went

-- ---- in a folder that stands

module _ (dir : List ℕ) (named : is_folder_name dir ≡ true) (start : State) (before : Story)
    (kept : KeepsFolder dir start (state_of before)) (m : ℕ) (beside : List FileName)
    (vacant : IsVacant (state_of before) dir m beside) (all_fresh : AllFresh dir (state_of before))
    (may : MayBecome dir start finmap.empty 0) where
  abbrev d : State
  d = state_of before

  abbrev edits : List Edit
  edits = first_edit m ∷ []

  abbrev names : List FileName
  names = switched_names m m

  fits : IsFileName (Manifest m)
  fits = file_number m vacant.least (omega (arith, vacant.most))

  log_fits : IsFileName (Log (m + 1))
  log_fits = file_number (m + 1) (omega arith) (omega (arith, vacant.most))

  all_fit : All IsFileName (switched_names m m)
  all_fit = All-cons IsFileName (Manifest m) (Temp m ∷ Current ∷ []) fits
      (All-cons IsFileName (Temp m) (Current ∷ []) fits (All-cons IsFileName Current [] tt (All-nil IsFileName)))

  rest : IsAtRest dir (state_of before)
  rest = record { quiet = vacant.settled; lead = vacant.lead; files = vacant.files; clear = vacant.clear }

  says : SaysAs (state_of before) dir (first_edit m ∷ []) finmap.empty 0
  says = first_says dir named d all_fresh vacant.folder m vacant.least vacant.most

  manifest_kept : (now : Story) (I : State → Type 0) → GoesToManifest dir m before now I
      → Went before (Some now) (Replaces dir m (length (state_of before).files)) (Keeps dir start)
      (λ x. (I x × ReplacesAt dir m (state_of before) x) × KeepsFolder dir start x)
  manifest_kept now I went =
      first_manifest_went dir named start before kept rest m fits finmap.empty 0 may edits says I all_fresh
      vacant.folder (λ x t held. held) went

  module _ (mid : Story) (has : HasReplaced (state_of mid) dir m (first_edit m ∷ []))
      (at : ReplacesAt dir m (state_of before) (state_of mid))
      (kept_mid : KeepsFolder dir start (state_of mid)) where
    rest_mid : IsAtRest dir (state_of mid)
    rest_mid = record {
      quiet = has.quiet;
      lead = at.lead;
      files = files_among dir named names all_fit d (state_of mid) at.among vacant.files;
      clear = clear_among dir named names all_fit d (state_of mid) at.among vacant.files vacant.clear;
    }

    says_mid : SaysAs (state_of mid) dir (first_edit m ∷ []) finmap.empty 0
    says_mid = says_still dir named d m fits finmap.empty 0 edits says (state_of mid) at

    folder_mid : finmap.get (names_now (state_of mid)) dir ≡ Some Folder_node
    folder_mid = at.among.now dir (dir_elsewhere dir named names all_fit d (state_of mid) at.among) ∙ vacant.folder

    log_kept : (now : Story) (I : State → Type 0)
        → Went mid (Some now) (Making (path_in dir (Log (m + 1)))) (MayHaveNew (state_of mid) (path_in dir (Log (m + 1)))) I
        → Went mid (Some now) (λ c. Unit {0}) (Keeps dir start) Anything
    log_kept now I went =
        let number : m + 1 ≡ log_after edits = sym (first_log m) in
        let path = path_in dir (Log (log_after edits)) in
        let made =
        log_went dir named start mid kept_mid rest_mid m fits finmap.empty 0 may edits says_mid I folder_mid has.current
        has.manifest (subst (λ (n : ℕ). IsFileName (Log n)) number log_fits)
        (subst (λ (n : ℕ). Went mid (Some now) (Making (path_in dir (Log n)))
        (MayHaveNew (state_of mid) (path_in dir (Log n))) I)
        number went) in
        went_weaker _ Anything (λ x held. tt)
        (went_wider (WritesNew path (length (state_of mid).files)) (λ c. Unit {0}) (Keeps dir start) (Keeps dir start)
        (λ c kind. tt)
        (λ x t held. held) made)

  stops_kept : (now : Story) → GoesToManifest dir m before now Anything
      → Went before (Some now) (λ c. Unit {0}) (Keeps dir start) Anything
  stops_kept now went = went_weaker _ Anything (λ x held. tt)
      (went_wider (Replaces dir m (length d.files)) (λ c. Unit {0}) (Keeps dir start) (Keeps dir start) (λ c kind. tt)
      (λ x t held. held) (manifest_kept now Anything went))

  both_kept : (now : Story) (I : State → Type 0) → GoesToLog dir m before now I
      → Went before (Some now) (λ c. Unit {0}) (Keeps dir start) Anything
  both_kept now I gone =
      let first = manifest_kept gone.mid (λ x. HasReplaced x dir m edits) gone.manifest in
      opening_then dir start (λ c. Unit {0})
      (λ x. (HasReplaced x dir m edits × ReplacesAt dir m d x) × KeepsFolder dir start x) Anything
      (went_wider (Replaces dir m (length d.files)) (λ c. Unit {0}) (Keeps dir start) (Keeps dir start) (λ c kind. tt)
      (λ x t held. held) first)
      (λ mid is held. log_kept mid held.0.0 held.0.1 held.1 now I
      (subst (λ (s : Story). Went s (Some now) (Making (path_in dir (Log (m + 1))))
      (MayHaveNew (state_of s) (path_in dir (Log (m + 1)))) I)
      (same_story gone.mid mid is) gone.log))

  files_kept : {T E : Type 0} (now : Story) (result : Result T E) → FilesGoTo dir m beside before now result
      → Went before (Some now) (λ c. Unit {0}) (Keeps dir start) Anything
  files_kept now (Ok value) gone = both_kept now _ gone
  files_kept now (Err e) gone = ⊎_elim (stops_kept now) (both_kept now Anything) gone

-- beside other files
pub beside_keeps : {T E : Type 0} (dir : List ℕ) → is_folder_name dir ≡ true → (start : State) (before : Story)
    → KeepsFolder dir start (state_of before) → (m : ℕ) (beside : List FileName) → IsVacant (state_of before) dir m beside
    → IsFresh (place_of dir (tree_now (state_of before))) → (told : Option Story) (result : Result T E)
    → FilesGo dir m beside before told result → Went before told (λ c. Unit {0}) (Keeps dir start) Anything
beside_keeps dir named start before kept m beside vacant fresh told result gone =
    at_told dir start before gone.now told gone.tells
    (files_kept dir named start before kept m beside vacant
    (read_fresh dir named start (state_of before) kept vacant.settled fresh)
    (may_be_made dir named start (state_of before) kept fresh) gone.now result gone.goes)

-- ---- where nothing has the name

module _ (dir : List ℕ) (named : is_folder_name dir ≡ true) (start : State) (before : Story)
    (kept : KeepsFolder dir start (state_of before)) (free : IsFree (state_of before) dir) where
  abbrev was : State
  was = state_of before

  abbrev made : State
  made = after (state_of before) (folder_made dir (state_of before))

  fresh_was : AllFresh dir (state_of before)
  fresh_was = free_fresh dir named was free.settled free.free

  may_be : MayBecome dir start finmap.empty 0
  may_be = may_be_made dir named start was kept (fresh_was.each (tree_now was) (reads_image was))

  made_kept : KeepsFolder dir start (after (state_of before) (folder_made dir (state_of before)))
  made_kept = kept_both dir named start was made kept
      (folder_kept dir named was free.lawful free.free free.clear free.settled)

  sure_kept : KeepsFolder dir start (with_folder dir (state_of before))
  sure_kept = subst (KeepsFolder dir start) (after_names_synced made) (names_kept dir start made made_kept)

  each_kept : (x : State) (t : Tree) → IsImage x t → HasMadeFolder dir (state_of before) x t → Keeps dir start x t
  each_kept x t image held = ⊎_elim
      (λ same. kept.each t (subst (λ (y : State). IsImage y t) same image))
      (λ later. ⊎_elim
      (λ here. made_kept.each t (subst (λ (y : State). IsImage y t) here image))
      (λ sure. sure_kept.each t (subst (λ (y : State). IsImage y t) sure image)) later)
      held

  going : (now : Story) (I : State → Type 0) → GoesToFolder dir before now I
      → Went before (Some now) (λ c. Unit {0}) (Keeps dir start) I
  going now I went = went_weaker (λ x. I x × Unit {0}) I (λ x held. held.0)
      (went_kept (Keeps dir start) (λ x. Unit {0}) (λ x c kind held. tt)
      (λ x t nothing image held. each_kept x t image held) I tt went)

  in_it : {T E : Type 0} (now mid : Story) (result : Result T E) → state_of mid ≡ with_folder dir (state_of before)
      → FilesGoTo dir 1 [] mid now result → Went mid (Some now) (λ c. Unit {0}) (Keeps dir start) Anything
  in_it now mid result is gone =
      files_kept dir named start mid (subst (KeepsFolder dir start) (sym is) sure_kept) 1 []
      (subst (λ (x : State). IsVacant x dir 1 []) (sym is) (new_vacant was dir named free.lawful free.free free.clear))
      (subst (AllFresh dir) (sym is) (made_fresh dir named was free.lawful free.free free.clear).0)
      may_be now result gone

  in_folder : {T E : Type 0} (now mid : Story) (result : Result T E)
      → GoesToFolder dir before mid (λ x. x ≡ with_folder dir (state_of before)) → FilesGoTo dir 1 [] mid now result
      → Went before (Some now) (λ c. Unit {0}) (Keeps dir start) Anything
  in_folder now mid result folder files =
      opening_then dir start (λ c. Unit {0}) (λ x. x ≡ with_folder dir was) Anything
      (going mid (λ x. x ≡ with_folder dir was) folder)
      (λ story is held. in_it now story result held
      (subst (λ (s : Story). FilesGoTo dir 1 [] s now result) (same_story mid story is) files))

-- in a new folder
pub anew_keeps : (dir : List ℕ) → is_folder_name dir ≡ true → (start : State) (before : Story)
    → KeepsFolder dir start (state_of before) → IsFree (state_of before) dir → (told : Option Story)
    → (result : Result NewParts StoreError) → MakesAnew dir before told result
    → Went before told (λ c. Unit {0}) (Keeps dir start) Anything
anew_keeps dir named start before kept free told (Ok parts) gone =
    at_told dir start before gone.now told gone.tells
    (in_folder dir named start before kept free {E = StoreError} gone.now gone.goes.mid (Ok parts)
    gone.goes.folder gone.goes.next)
anew_keeps dir named start before kept free told (Err e) gone =
    at_told dir start before gone.now told gone.tells (⊎_elim
    (λ stopped. going dir named start before kept free gone.now Anything stopped)
    (λ later. in_folder dir named start before kept free {T = NewParts} gone.now later.mid (Err e) later.folder later.next)
    gone.goes)
