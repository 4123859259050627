-- While a restore goes on, each image reads as a crash leaves the state, which doesn't list the restore's folder as sure.
use Rattle.std.specs.Prelude.{◌≡◌, ◌≢◌, ◌⊎◌, ℕ, Bool, true, false, cond, is_some, List, [], ◌∷◌, length, All, Option, Some, None, Err}
use Rattle.std.proofs.Common.{⊎_elim, refl, sym, ap, subst, ◌∙◌, arith}
use Rattle.std.proofs.lemmas.List.Elements.{All-nil, All-cons, All-head, All-tail}
use Rattle.std.specs.Str.{bytes_eq}
use Rattle.std.specs.FinMap as finmap
use Rattle.lsm_names.specs.Folders.{is_folder_name}
use Rattle.lsm_names.proofs.FolderLemmas.{folder_has_bytes}
use Rattle.lsm_disk.specs.Names.{Node, stands}
use Rattle.lsm_disk.specs.State as disk
use Rattle.lsm_disk.specs.State.{Story, Change, after, state_of, names_now}
use Rattle.lsm_disk.specs.Images.{Tree, IsImage, tree_now}
use Rattle.lsm_disk.specs.Goes.{Went}
use Rattle.lsm_disk.specs.Answers.{Makes}
use Rattle.lsm_disk.proofs.Runs.{went_kept, went_wider}
use Rattle.lsm_disk.proofs.Lawful.{get_named}
use Rattle.lsm_disk.proofs.Paths.{path_cases}
use Rattle.lsm_folder.specs.Files.{Place}
use Rattle.lsm_folder.specs.Reading.{reading}
use Rattle.lsm_folder.proofs.FileLemmas.{no_place}
use Rattle.lsm_folder.proofs.NameLemmas.{same_text, equal_texts}
use Rattle.lsm_model.specs.declared.errors.StoreError.TheVariants as error
use Rattle.lsm_model.specs.declared.states.State.{State}
use Rattle.lsm_model.specs.declared.states.FolderRead.{FolderRead}
use Rattle.lsm_model.specs.States.{folder_of}
use Rattle.lsm_model.specs.Reads.{known_reading}
use Rattle.lsm_refine.specs.Kept.{Shown}
use Rattle.lsm_refine.specs.Folders.{StandsFrom, as_shown, folder_reading, FoldersRead, ChangesInside}
use Rattle.lsm_refine.specs.Good.{Good}
use Rattle.lsm_refine.specs.Moments.{ReadsAsCrashed, ImagesShow}
use Rattle.lsm_refine.specs.Within.{AreOthers, ReadsHere}
use Rattle.lsm_refine.proofs.CrashLemmas.{front_reads}
use Rattle.lsm_refine.proofs.GoodLemmas.{good_image}
use Rattle.lsm_refine.proofs.OneCall.{call_shows}
use Rattle.lsm_refine.proofs.UnneededLemmas.{shows_first}
use Rattle.lsm_refine.proofs.WritingLemmas.{runs}
use Rattle.lsm_refine.proofs.WithinRuns.{folders_within, stands_within}
use Rattle.lsm_restoring.specs.Restoring.{ChangesOnly, MayRestore}

-- ---- the folders without one

abbrev without_folder : List ℕ → List FolderRead → List FolderRead
without_folder name [] = []
without_folder name (f ∷ fs) = cond (bytes_eq f.name name) (without_folder name fs) (f ∷ without_folder name fs)

-- two names that are the same text are one name
differ : (a b : List ℕ) → a ≢ b → bytes_eq a b ≡ false
differ a b other = by (bytes_eq a b) refl
  where
    by : (t : Bool) → bytes_eq a b ≡ t → t ≡ false
    by true same = absurd (other (equal_texts a b same))
    by false is = refl

module _ (folder : List ℕ) where
  others_by_test : (name : List ℕ) → name ≢ folder → (f : FolderRead) (fs : List FolderRead) (t : Bool)
      → bytes_eq f.name folder ≡ t
      → folder_of name (without_folder folder fs) ≡ folder_of name fs
      → folder_of name (cond t (without_folder folder fs) (f ∷ without_folder folder fs)) ≡ folder_of name (f ∷ fs)
  others_by_test name other f fs true same rest = rest ∙ sym (ap (λ (b : Bool). cond b (Some f) (folder_of name fs))
      (differ f.name name (λ is. other (sym is ∙ equal_texts f.name folder same))))
  others_by_test name other f fs false is rest = ap (cond (bytes_eq f.name name) (Some f)) rest

  without_others : (name : List ℕ) → name ≢ folder → (fs : List FolderRead) → folder_of name
      (without_folder folder fs) ≡ folder_of name fs
  without_others name other [] = refl
  without_others name other (f ∷ fs) = others_by_test name other f fs (bytes_eq f.name folder) refl
      (without_others name other fs)

  itself_by_test : (f : FolderRead) (fs : List FolderRead) (t : Bool) → bytes_eq f.name folder ≡ t
      → folder_of folder (without_folder folder fs) ≡ None
      → folder_of folder (cond t (without_folder folder fs) (f ∷ without_folder folder fs)) ≡ None
  itself_by_test f fs true same rest = rest
  itself_by_test f fs false is rest = ap (λ (b : Bool). cond b (Some f) (folder_of folder (without_folder folder fs))) is
      ∙ rest

  without_itself : (fs : List FolderRead) → folder_of folder (without_folder folder fs) ≡ None
  without_itself [] = refl
  without_itself (f ∷ fs) = itself_by_test f fs (bytes_eq f.name folder) refl (without_itself fs)

  all_by_test : (P : FolderRead → Type 0) (f : FolderRead) (fs : List FolderRead) (t : Bool) → P f → All P
      (without_folder folder fs)
      → All P (cond t (without_folder folder fs) (f ∷ without_folder folder fs))
  all_by_test P f fs true one rest = rest
  all_by_test P f fs false one rest = All-cons P f (without_folder folder fs) one rest

  without_all : (P : FolderRead → Type 0) (fs : List FolderRead) → All P fs → All P (without_folder folder fs)
  without_all P [] are = All-nil P
  without_all P (f ∷ fs) are = all_by_test P f fs (bytes_eq f.name folder) (All-head P f fs are)
      (without_all P fs (All-tail P f fs are))

-- where nothing has the name, there is no folder to read
pub nothing_reads : (folder : List ℕ) → is_folder_name folder ≡ true → (t : Tree) → finmap.get t.names folder ≡ None
    → folder_reading folder t ≡ Err (error.NoFolder folder)
unfolding folder_reading
nothing_reads folder named t is =
    let free : stands t.names folder ≡ None = sym (get_named t.names folder
    (λ empty. omega (arith, folder_has_bytes folder named, ap (λ (p : List ℕ). length p) empty))) ∙ is in
    ap (λ (place : Place). as_shown folder (reading place)) (no_place folder t free)

-- ---- the state that lists the folder as it reads now, and not as sure

module _ (folder : List ℕ) (named : is_folder_name folder ≡ true) (d x : disk.State) (changes : ChangesInside folder d x)
    (s : State)
    (apart : folder ≢ s.own) (are : FoldersRead d s) where
  abbrev as_now : FolderRead
  as_now = record { name = folder; reading = folder_reading folder (tree_now x); sure = false }

  abbrev folders_by : Option Node → List FolderRead
  folders_by None = without_folder folder s.folders
  folders_by (Some node) = as_now ∷ without_folder folder s.folders

  abbrev mid_by : Option Node → State
  mid_by node = record s { folders = folders_by node }

  same_by : (node : Option Node) (name : List ℕ) → name ≢ folder → folder_of name (folders_by node) ≡ folder_of name s.folders
  same_by None name other = without_others folder name other s.folders
  same_by (Some node) name other =
      ap (λ (b : Bool). cond b (Some as_now) (folder_of name (without_folder folder s.folders)))
      (differ folder name (λ is. other (sym is)))
      ∙ without_others folder name other s.folders

  itself : (node : Node) → folder_of folder (folders_by (Some node)) ≡ Some as_now
  itself node = ap (λ (b : Bool). cond b (Some as_now) (folder_of folder (without_folder folder s.folders)))
      (same_text folder)

  others_by : (node : Option Node) → AreOthers (mid_by node)
  others_by None = without_all folder
      (λ (entry : FolderRead). (is_folder_name entry.name ≡ true) × (entry.name ≢ s.own)) s.folders
      are.now.only
  others_by (Some node) = All-cons (λ (entry : FolderRead). (is_folder_name entry.name ≡ true) × (entry.name ≢ s.own)) as_now
      (without_folder folder s.folders) (named, apart)
      (without_all folder (λ (entry : FolderRead). (is_folder_name entry.name ≡ true) ×
      (entry.name ≢ s.own)) s.folders are.now.only)

  unlisted : (entry : FolderRead) → None ≡ Some entry → ⊥
  unlisted entry is = cc

  not_sure : (entry : FolderRead) → Some as_now ≡ Some entry → entry.sure ≡ true → ⊥
  not_sure entry is sure = let same : as_now ≡ entry = cc in
      let clash : false ≡ true = ap (λ (e : FolderRead). e.sure) same ∙ sure in cc

  here_by : (node : Option Node) → finmap.get (names_now x) folder ≡ node → ReadsHere folder x (mid_by node)
  here_by None is = record {
    reads = nothing_reads folder named (tree_now x) is ∙ sym (ap (known_reading folder) (without_itself folder s.folders));
    taken = ap is_some (without_itself folder s.folders) ∙ sym (ap is_some is);
    sure = λ entry found is_sure. absurd (unlisted entry (sym (without_itself folder s.folders) ∙ found));
  }
  here_by (Some node) is = record {
    reads = sym (ap (known_reading folder) (itself node));
    taken = ap is_some (itself node) ∙ sym (ap is_some is);
    sure = λ entry found is_sure. absurd (not_sure entry (sym (itself node) ∙ found) is_sure);
  }

  abbrev mid : State
  mid = mid_by (finmap.get (names_now x) folder)

  mid_reads : FoldersRead x mid
  mid_reads = folders_within folder d x s mid changes refl (same_by (finmap.get (names_now x) folder)) are
      (others_by (finmap.get (names_now x) folder)) (here_by (finmap.get (names_now x) folder) refl)

  pub read_crashed : ((entry : FolderRead) → folder_of folder s.folders ≡ Some entry → entry.sure ≡ false) → (u : Tree)
      → IsImage x u
      → StandsFrom s s.durable u → ReadsAsCrashed s u
  read_crashed unsure u image front =
      let is = front_reads x mid u image mid_reads (record {
        count = front.count;
        enough = front.enough;
        within = front.within;
        stands = record { folder = front.stands.folder; stands = front.stands.stands };
      }) in
      record {
        left = is.0;
        crashed = record {
          kept = is.1.kept;
          durable = is.1.durable;
          accepted = is.1.accepted;
          all = is.1.all;
          folders = λ name entry found is_sure. ⊎_elim
              (λ same. let clash : false ≡ true = sym
              (unsure entry (ap (λ (n : List ℕ). folder_of n s.folders) (sym same) ∙ found))
              ∙ is_sure in absurd (cc))
              (λ other. is.1.folders name entry (same_by (finmap.get (names_now x) folder) name other ∙ found) is_sure)
              (path_cases name folder);
          rest = is.1.rest;
        };
        reads = is.2;
      }

-- ---- a good store

-- what is so of each image of a run, by what is so of its state besides
went_images : {start : Story} {told : Option Story} (q : Change → Type 0) (P R : disk.State → Tree → Type 0)
    → ((x : disk.State) (t : Tree) → IsImage x t → P x t → R x t) → (J : disk.State → Type 0) → Went start told q P J
    → Went start told q R (λ x. J x × Unit {0})
went_images q P R shows J went = went_kept R (λ x. Unit {0}) (λ x c kind is. tt)
    (λ x t is image has. shows x t image has) J tt went

module _ (v : Shown) (s : State) (good : Good v s) (none : v.halt ≡ None) (folder : List ℕ) (may : MayRestore folder v s) where
  own : is_folder_name s.own ≡ true
  own = subst (λ (dir : List ℕ). is_folder_name dir ≡ true) good.kept.own (runs v s good none).sane.current.named

  apart_own : folder ≢ s.own
  apart_own is = may.apart (is ∙ sym good.kept.own)

  pub restored_image : (x : disk.State) → ChangesInside folder (state_of good.story) x → (u : Tree) → IsImage x u
      → ReadsAsCrashed s u
  restored_image x changes u image =
      let before = changes.images u image in
      read_crashed folder may.named (state_of good.story) x changes s apart_own good.folders may.unsure u image
      (stands_within folder before.0 u before.2 s s.durable own (λ is. apart_own (sym is))
      (good_image v s good before.0 before.1))

  -- all images of a run of such changes
  pub restored_shows : (told : Option Story) (q : Change → Type 0) (P : disk.State → Tree → Type 0) (J : disk.State → Type 0)
      → Went good.story told q (λ x t. P x t × ChangesOnly folder (state_of good.story) x) J
      → (later : State) → ImagesShow good.story told s later
  restored_shows told q P J went later =
      shows_first good.story told s later q (λ x. J x × Unit {0})
      (went_images q (λ x t. P x t × ChangesOnly folder (state_of good.story) x) (λ x t. ReadsAsCrashed s t)
      (λ x t image has. restored_image x has.1.inside t image) J went)

  -- whatever is changed
  pub plain_shows : (told : Option Story) → Went good.story told (λ (c : Change). Unit {0})
      (λ (x : disk.State) (t : Tree). ChangesOnly folder (state_of good.story) x) (λ (x : disk.State). Unit {0})
      → (later : State) → ImagesShow good.story told s later
  plain_shows told went later =
      restored_shows told (λ (c : Change). Unit {0}) (λ (x : disk.State) (t : Tree). Unit {0}) (λ (x : disk.State). Unit {0})
      (went_wider (λ (c : Change). Unit {0}) (λ (c : Change). Unit {0})
      (λ (x : disk.State) (t : Tree). ChangesOnly folder (state_of good.story) x)
      (λ (x : disk.State) (t : Tree). Unit {0} × ChangesOnly folder (state_of good.story) x) (λ c is. is)
      (λ x t is. (tt, is)) went) later

  -- all images of one such call
  pub restored_call : (c : disk.State → Change)
      → ChangesOnly folder (state_of good.story) (after (state_of good.story) (c (state_of good.story)))
      → (told : Option Story) → (told ≡ v.disk.told) ⊎ Makes v.disk.told c told → (later : State)
      → ImagesShow good.story told s later
  restored_call c only = call_shows v s good c
      (λ t image. restored_image (after (state_of good.story) (c (state_of good.story)))
      only.inside t image)
