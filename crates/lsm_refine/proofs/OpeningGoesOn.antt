-- One part of an opening behind another, and what a folder is by what is read of it now.
use Rattle.std.specs.Prelude.{◌≡◌, ℕ, ◌≤◌, true, is_some, List, [], length, option_map, Option, Some, None, Ok, Err}
use Rattle.std.proofs.Common.{⊎_elim, inl, inr, refl, sym, ap, subst, ◌∙◌}
use Rattle.std.specs.FinMap as finmap
use Rattle.lsm_names.specs.Folders.{is_folder_name}
use Rattle.lsm_names.specs.declared.file_names.FileName.TheVariants.{Current}
use Rattle.lsm_names.proofs.FolderLemmas.{folder_has_bytes}
use Rattle.lsm_rows.specs.Replay.{Contents}
use Rattle.lsm_disk.specs.Names.{Node, Names, Folder_node}
use Rattle.lsm_disk.specs.State as disk
use Rattle.lsm_disk.specs.State.{Story, state_of, names_now}
use Rattle.lsm_disk.specs.Images.{Tree, IsImage, tree_now}
use Rattle.lsm_disk.specs.Dest.{path_in}
use Rattle.lsm_disk.specs.Goes.{Went}
use Rattle.lsm_disk.proofs.Images.{reads_image}
use Rattle.lsm_disk.proofs.Runs.{went_wider}
use Rattle.lsm_folder.specs.declared.refusals.Refusal.TheVariants.{NoCurrent}
use Rattle.lsm_folder.specs.Files.{Item, item_of, files_in, file_at, place_of}
use Rattle.lsm_folder.specs.Needed.{IsFresh, is_aside}
use Rattle.lsm_folder.proofs.CurrentLemmas.{no_current}
use Rattle.lsm_folder.proofs.FileLemmas.{files_are}
use Rattle.lsm_folder.proofs.LiveLemmas.{a_file}
use Rattle.lsm_model.specs.declared.states.State.{State}
use Rattle.lsm_refine.specs.Beside.{LeadToFiles}
use Rattle.lsm_refine.specs.Folders.{AreAlikeOutside}
use Rattle.lsm_refine.specs.Openings.{IsFound, LosesNothing, IsLeftOf, StandsAs, IsAsBefore, Same, Still_fresh, Made, IsKeptImage}
use Rattle.lsm_refine.specs.OpeningImages.{KeepsFolder, IsAtRest, StandsForSome, AllStand, AllFresh, MayBecome}
use Rattle.lsm_refine.proofs.IdleLemmas.{stands_once, not_fresh}
use Rattle.lsm_refine.proofs.KeptLemmas.{kept_left}
use Rattle.lsm_refine.proofs.NewStoreLemmas.{settled_kept}
use Rattle.lsm_refine.proofs.OpeningBegins.{image_clear}
use Rattle.lsm_refine.proofs.OpeningFolders.{texts_of_it}
use Rattle.lsm_refine.proofs.OpeningFresh.{fresh_at}
use Rattle.lsm_refine.proofs.TableSyncs.{image_files, files_image}

-- ---- the folder, in three trees

module _ (dir : List ℕ) (some : 1 ≤ length dir) (t m u : Tree) where
  -- what it stood for, it stands for then
  stands_then : (one other : Contents) (first second : ℕ) → StandsAs dir one first m → StandsAs dir other second m
      → StandsAs dir other second u → StandsAs dir one first u
  stands_then one other first second was is then =
      let same = stands_once (files_in dir m) other one second first is.stands was.stands in
      subst (λ (c : Contents). StandsAs dir c first u) same.0 (subst (λ (n : ℕ). StandsAs dir other n u) same.1 then)

  clash : {A : Type 0} (contents : Contents) (sequence : ℕ) → StandsAs dir contents sequence m → IsFresh (place_of dir m) → A
  clash contents sequence is fresh = not_fresh dir m contents sequence some is.folder is.stands fresh

  before_both : IsAsBefore dir t m → IsAsBefore dir m u → IsAsBefore dir t u
  before_both (Same one first was is) (Same other second before then) =
      Same one first was (stands_then one other first second is before then)
  before_both (Same one first was is) (Still_fresh fresh then) = clash one first is fresh
  before_both (Same one first was is) (Made fresh then) = clash one first is fresh
  before_both (Still_fresh was is) (Same other second before then) = clash other second before is
  before_both (Still_fresh was is) (Still_fresh fresh then) = Still_fresh was then
  before_both (Still_fresh was is) (Made fresh then) = Made was then
  before_both (Made was is) (Same other second before then) =
      Made was (stands_then finmap.empty other 0 second is before then)
  before_both (Made was is) (Still_fresh fresh then) = clash finmap.empty 0 is fresh
  before_both (Made was is) (Made fresh then) = clash finmap.empty 0 is fresh

-- where the folder stands for that, it is as it was in an image of the start, or is a new store made of a fresh one
pub may_stand : (dir : List ℕ) (start : disk.State) (contents : Contents) (sequence : ℕ)
    → (may : MayBecome dir start contents sequence) → (u : Tree) → StandsAs dir contents sequence u → IsAsBefore dir may.one u
may_stand dir start contents sequence may u is = ⊎_elim
    (λ stood. Same contents sequence stood is)
    (λ made. Made made.0 (subst (λ (c : Contents). StandsAs dir c 0 u) made.1
    (subst (λ (n : ℕ). StandsAs dir contents n u) made.2 is)))
    may.may

pub outside_both : (own : List ℕ) (t m u : Tree) → AreAlikeOutside own t m → AreAlikeOutside own m u → AreAlikeOutside own t u
outside_both own t m u one two = record {
  names = λ name fits other. two.names name fits other ∙ one.names name fits other;
  items = λ name file fits other is. two.items name file fits other is ∙ one.items name file fits other is;
}

-- ---- one part behind another

module _ (dir : List ℕ) (named : is_folder_name dir ≡ true) where
  some : 1 ≤ length dir
  some = folder_has_bytes dir named

  -- an image that is kept from a disk that kept the folder is kept from the one before it
  pub image_both : (d mid : disk.State) → KeepsFolder dir d mid → (t : Tree) → IsKeptImage dir mid t → IsKeptImage dir d t
  image_both d mid first t second =
      let own = first.each second.one second.of in
      let beside = first.each second.other second.also in
      record {
        one = own.one;
        of = own.of;
        own = before_both dir some own.one second.one t own.own second.own;
        files = λ only. second.files (own.files only);
        other = beside.other;
        also = beside.also;
        outside = outside_both dir beside.other second.other t beside.outside second.outside;
        clear = second.clear;
      }

  pub kept_both : (d mid later : disk.State) → KeepsFolder dir d mid → KeepsFolder dir mid later → KeepsFolder dir d later
  kept_both d mid later first second = record { each = λ t image. image_both d mid first t (second.each t image) }

  pub kept_stands : (d later : disk.State) → AllStand dir d → KeepsFolder dir d later → AllStand dir later
  kept_stands d later stand kept = record {
    each = λ t image. by t (kept.each t image).one
        (stand.each (kept.each t image).one (kept.each t image).of) (kept.each t image).own;
  }
    where
      by : (t one : Tree) → StandsForSome dir one → IsAsBefore dir one t → StandsForSome dir t
      by t one was (Same contents sequence before is) =
          record { contents = contents; sequence = sequence; stands = is }
      by t one was (Still_fresh fresh is) =
          not_fresh dir one was.contents was.sequence some was.stands.folder was.stands.stands fresh
      by t one was (Made fresh is) =
          not_fresh dir one was.contents was.sequence some was.stands.folder was.stands.stands fresh

  -- ---- by what is read now

  -- a fresh folder has no CURRENT
  not_fresh_there : {A : Type 0} (t : Tree) → finmap.get t.names dir ≡ Some Folder_node
      → is_some (finmap.get t.names (path_in dir Current)) ≡ true → IsFresh (place_of dir t) → A
  not_fresh_there {A = A} t folder there fresh = by (finmap.get t.names (path_in dir Current)) refl there
    where
      by : (node : Option Node) → finmap.get t.names (path_in dir Current) ≡ node → is_some node ≡ true → A
      by None at is = absurd (cc)
      by (Some node) at is =
          let aside : is_aside (Current, item_of t.contents node) ≡ true =
          fresh_at dir named t folder fresh Current (item_of t.contents node) tt (ap (option_map (item_of t.contents)) at) in
          absurd (cc)

  -- a folder that stands has one
  current_there : (t : Tree) (contents : Contents) (sequence : ℕ) → StandsAs dir contents sequence t
      → is_some (finmap.get t.names (path_in dir Current)) ≡ true
  current_there t contents sequence is = by_file (file_at (files_in dir t) Current) refl
    where
      by_node : (node : Option Node) (item : Item) → option_map (item_of t.contents) node ≡ Some item → is_some node ≡ true
      by_node None item at = cc
      by_node (Some node) item at = refl

      by_file : (o : Option (List ℕ)) → file_at (files_in dir t) Current ≡ o
          → is_some (finmap.get t.names (path_in dir Current)) ≡ true
      by_file (Some bytes) there = by_node (finmap.get t.names (path_in dir Current)) _
          (sym (files_are dir t Current some tt) ∙ a_file (finmap.get (files_in dir t) Current) bytes there)
      by_file None none =
          let texts = texts_of_it (files_in dir t) contents sequence is.stands in
          let clashes : Err NoCurrent ≡ Ok texts.manifest = no_current (files_in dir t) (sym none) ∙ texts.current in
          absurd (cc)

  module _ (d later : disk.State) (kept : KeepsFolder dir d later) (quiet : later.pending ≡ []) where
    same_name : (t : Tree) → IsImage later t → (path : List ℕ) → finmap.get t.names path ≡ finmap.get (names_now later) path
    same_name t image path =
        ap (λ (names : Names). finmap.get names path) image.names
        ∙ settled_kept later quiet path (finmap.get (names_now later) path) refl image.kept

    pub read_stands : finmap.get (names_now later) dir ≡ Some Folder_node
        → is_some (finmap.get (names_now later) (path_in dir Current)) ≡ true → AllStand dir later
    read_stands folder there = record { each = λ t image. by t image (kept.each t image).one (kept.each t image).own }
      where
        by : (t : Tree) → IsImage later t → (one : Tree) → IsAsBefore dir one t → StandsForSome dir t
        by t image one (Same contents sequence before is) =
            record { contents = contents; sequence = sequence; stands = is }
        by t image one (Still_fresh fresh is) =
            not_fresh_there t (same_name t image dir ∙ folder) (ap is_some (same_name t image (path_in dir Current)) ∙ there) is
        by t image one (Made fresh is) = record { contents = finmap.empty; sequence = 0; stands = is }

    pub read_fresh : IsFresh (place_of dir (tree_now later)) → AllFresh dir later
    read_fresh now = record { each = λ t image. by t image (kept.each t image).one (kept.each t image).own }
      where
        standing : (t : Tree) → IsImage later t → (contents : Contents) (sequence : ℕ) → StandsAs dir contents sequence t
            → IsFresh (place_of dir t)
        standing t image contents sequence is =
            not_fresh_there (tree_now later) (sym (same_name t image dir) ∙ is.folder)
            (ap is_some (sym (same_name t image (path_in dir Current))) ∙ current_there t contents sequence is) now

        by : (t : Tree) → IsImage later t → (one : Tree) → IsAsBefore dir one t → IsFresh (place_of dir t)
        by t image one (Same contents sequence before is) = standing t image contents sequence is
        by t image one (Still_fresh fresh is) = is
        by t image one (Made fresh is) = standing t image finmap.empty 0 is

  module _ (d later : disk.State) (kept : KeepsFolder dir d later) where
    abbrev now : IsKeptImage dir d (tree_now later)
    now = kept.each (tree_now later) (reads_image later)

    pub may_stay : (contents : Contents) (sequence : ℕ) → StandsAs dir contents sequence (tree_now later)
        → MayBecome dir d contents sequence
    may_stay contents sequence is = by now.one now.of now.own
      where
        by : (one : Tree) → IsImage d one → IsAsBefore dir one (tree_now later) → MayBecome dir d contents sequence
        by one of (Same other second before then) =
            let same = stands_once (files_in dir (tree_now later)) other contents second sequence then.stands is.stands in
            record {
              one = one;
              of = of;
              may = inl (subst (λ (c : Contents). StandsAs dir c sequence one) same.0
                  (subst (λ (n : ℕ). StandsAs dir other n one) same.1 before));
            }
        by one of (Still_fresh fresh then) =
            not_fresh dir (tree_now later) contents sequence some is.folder is.stands then
        by one of (Made fresh then) =
            let same = stands_once (files_in dir (tree_now later)) contents finmap.empty sequence 0 is.stands then.stands in
            record { one = one; of = of; may = inr (fresh, same.0, same.1) }

    pub may_be_made : IsFresh (place_of dir (tree_now later)) → MayBecome dir d finmap.empty 0
    may_be_made is = by now.one now.of now.own
      where
        by : (one : Tree) → IsImage d one → IsAsBefore dir one (tree_now later) → MayBecome dir d finmap.empty 0
        by one of (Same contents sequence before then) =
            not_fresh dir (tree_now later) contents sequence some then.folder then.stands is
        by one of (Still_fresh fresh then) = record { one = one; of = of; may = inr (fresh, refl, refl) }
        by one of (Made fresh then) = not_fresh dir (tree_now later) finmap.empty 0 some then.folder then.stands is

-- ---- the disk behind a part

pub kept_rest : (dir : List ℕ) (d later : disk.State) → IsAtRest dir d → KeepsFolder dir d later → later.pending ≡ []
    → LeadToFiles later → IsAtRest dir later
kept_rest dir d later rest kept quiet lead = record {
  quiet = quiet;
  lead = lead;
  files = files_image later dir (λ t image. (kept.each t image).files
      (image_files d dir rest.files (kept.each t image).one (kept.each t image).of));
  clear = image_clear later (λ t image. (kept.each t image).clear);
}

-- where each image on the way is kept, whatever was found, nothing is lost
pub way_loses : (before : Story) (dir : List ℕ) (told : Option Story) → is_folder_name dir ≡ true
    → ((s : State) → s.own ≡ dir → IsFound (state_of before) s
    → Went before told (λ c. Unit {0}) (λ d t. IsKeptImage dir (state_of before) t) (λ d. Unit {0}))
    → LosesNothing before dir told
way_loses before dir told named way s own found =
    went_wider (λ c. Unit {0}) (λ c. Unit {0}) (λ d t. IsKeptImage dir (state_of before) t) (λ d t. IsLeftOf s t) (λ c done. tt)
    (λ d t kept. kept_left (state_of before) s dir t named own found kept) (way s own found)
