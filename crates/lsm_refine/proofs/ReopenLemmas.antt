-- An opening of what a crash left of a good store gives a good store again.
use Rattle.std.specs.Prelude.{◌≡◌, ℕ, List, [], ◌++◌, take, length, All, Option, Some, None, true}
use Rattle.std.proofs.Common.{refl, sym, ap, subst, ◌∙◌, arith}
use Rattle.std.proofs.lemmas.List.{append-nil, take_all}
use Rattle.std.specs.FinMap as finmap
use Rattle.lsm_rows.specs.declared.operations.Op.{Op}
use Rattle.lsm_rows.specs.Replay.{Contents}
use Rattle.lsm_disk.specs.Names.{Folder_node}
use Rattle.lsm_disk.specs.State as disk
use Rattle.lsm_disk.specs.State.{Story, state_of}
use Rattle.lsm_disk.specs.Images.{Tree, IsImage, tree_now}
use Rattle.lsm_disk.specs.Goes.{Went}
use Rattle.lsm_disk.proofs.Runs.{went_wider}
use Rattle.lsm_folder.specs.Files.{files_in}
use Rattle.lsm_folder.specs.Needed.{Stands}
use Rattle.lsm_model.specs.declared.states.State.{State}
use Rattle.lsm_model.specs.declared.states.FolderRead.{FolderRead}
use Rattle.lsm_model.specs.States.{shown_after, written, none_or_one}
use Rattle.lsm_model.specs.Crashes.{KeepsSure, Crashed, Opened, closed}
use Rattle.lsm_refine.specs.Kept.{Shown}
use Rattle.lsm_refine.specs.Folders.{FoldersAre, FoldersRead}
use Rattle.lsm_refine.specs.Good.{Good}
use Rattle.lsm_refine.specs.New.{new_state}
use Rattle.lsm_refine.specs.Settled.{IsSettled}
use Rattle.lsm_refine.specs.Openings.{As_store, IsUnwritten, HasOnlyFiles, IsClearable, IsLeftOf, IsFound, found_state, OpensTo, ReopensTo, first_number, IsNewStore, LosesNothing, HasOpened}
use Rattle.lsm_refine.proofs.FoundLemmas.{good_leaves, left_found, mark_left, mark_sure}
use Rattle.lsm_refine.proofs.NewLemmas.{new_good}

-- ---- two crashes are one

keeps_twice : (old mid new : List FolderRead) → KeepsSure old mid → KeepsSure mid new → KeepsSure old new
keeps_twice old mid new first second name folder found sure = second name folder (first name folder found sure) sure

crashed_twice : (s mid t : State) → Crashed s mid → Crashed mid t → Crashed s t
crashed_twice s mid t first second =
    let certain : mid.doubtful ≡ None = ap (λ (q : State). q.doubtful) first.rest in
    let all : written mid ≡ mid.accepted = ap (λ (o : Option (List Op)). mid.accepted ++ none_or_one o) certain ∙ append-nil mid.accepted in
    record {
      kept = first.kept;
      durable = first.durable;
      accepted =
          second.accepted ∙ ap (take second.kept) all ∙ take_all second.kept mid.accepted
          (omega (arith, first.all, second.durable)) ∙ first.accepted;
      all = second.all;
      folders = keeps_twice s.folders mid.folders t.folders first.folders second.folders;
      rest = second.rest ∙ ap (λ (q : State). record (closed q) {
        accepted = t.accepted;
        durable = t.durable;
        folders = t.folders;
        tables = t.tables;
        next = t.next;
        manifest_len = t.manifest_len;
        faults = t.faults;
        refusals = t.refusals;
      }) first.rest;
    }

left_twice : (s mid : State) (t : Tree) → Crashed s mid → IsLeftOf mid t → IsLeftOf s t
left_twice s mid t first is = record { left = is.left; crashed = crashed_twice s mid is.left first is.crashed; holds = is.holds }

-- ---- what a crash left, as an opening finds it

module _ (s : State) (before : Story) (is : IsLeftOf s (tree_now (state_of before))) (settled : IsSettled (state_of before)) where
  own_is : is.left.own ≡ s.own
  own_is = ap (λ (q : State). q.own) is.crashed.rest

  found : IsFound (state_of before) is.left
  found = left_found (state_of before) is.left settled is.holds (omega (arith, is.crashed.all))

  opens_again : (dir : List ℕ) (v : Shown) → s.own ≡ dir → HasOpened before dir v → OpensTo is.left v
  opens_again dir v own opened = opened.leads is.left (own_is ∙ own) found

  stays_left : (dir : List ℕ) (told : Option Story) → s.own ≡ dir → LosesNothing before dir told
      → Went before told (λ c. Unit {0}) (λ d t. IsLeftOf s t) (λ d. Unit {0})
  stays_left dir told own loses =
      went_wider (λ c. Unit {0}) (λ c. Unit {0}) (λ d t. IsLeftOf is.left t) (λ d t. IsLeftOf s t) (λ c done. tt)
      (λ d t left. left_twice s is.left t is.crashed left)
      (loses is.left (own_is ∙ own) found)

pub reopens : (s : State) (t : Tree) (before : Story) (dir : List ℕ) (v : Shown) → IsLeftOf s t → IsSettled (state_of before)
    → tree_now (state_of before) ≡ t → s.own ≡ dir → HasOpened before dir v
    → ReopensTo s v
reopens s t before dir v is settled same own opened =
    let there : IsLeftOf s (tree_now (state_of before)) = subst (IsLeftOf s) (sym same) is in
    let left : IsLeftOf s (tree_now (state_of before)) = mark_left s (tree_now (state_of before)) there in
    let opens = opens_again s before left settled dir v own opened in
    record {
      left = left.left;
      crashed = left.crashed;
      opens = opens;
      sure = subst (All (λ (folder : FolderRead). folder.sure ≡ true)) (sym opens.folders) (mark_sure s (tree_now (state_of before)) there);
    }

-- so it is with an image of a good store's disk
pub good_reopens : (v w : Shown) (s : State) (t : Tree) (before : Story) (good : Good v s) → IsImage (state_of good.story) t
    → IsSettled (state_of before) → tree_now (state_of before) ≡ t
    → HasOpened before v.dir w → ReopensTo s w
good_reopens v w s t before good image settled same opened =
    reopens s t before v.dir w (good_leaves v s good t image) settled same (sym good.kept.own) opened

-- an opening that a crash cuts off leaves what the first crash may have left
pub cut_off : (s : State) (t : Tree) (before : Story) (dir : List ℕ) (told : Option Story) → IsLeftOf s t
    → IsSettled (state_of before) → tree_now (state_of before) ≡ t → s.own ≡ dir
    → LosesNothing before dir told → Went before told (λ c. Unit {0}) (λ d u. IsLeftOf s u) (λ d. Unit {0})
cut_off s t before dir told is settled same own loses = stays_left s before (subst (IsLeftOf s) (sym same) is) settled dir told own loses

-- ---- a folder that stands

-- on a settled disk it is found as the state of its contents and its sequence
pub stands_found : (d : disk.State) (dir : List ℕ) (contents : Contents) (sequence : ℕ) (folders : List FolderRead) → IsSettled d
    → finmap.get (tree_now d).names dir ≡ Some Folder_node → Stands (files_in dir (tree_now d)) contents sequence
    → HasOnlyFiles dir (tree_now d).names → FoldersAre dir folders (tree_now d)
    → IsClearable (tree_now d).names → IsFound d (found_state dir contents sequence folders)
stands_found d dir contents sequence folders settled folder stands files are clear =
    left_found d (found_state dir contents sequence folders) settled
    (record { own = As_store (record { folder = folder; stands = stands }); files = files; others = are; clear = clear })
    (omega arith)

-- ---- a fresh folder

module _ (s : State) (before : Story) (v : Shown) (new : IsNewStore before s.own v) (none : IsUnwritten s) where
  abbrev made : State
  made = new_state v.disk s.own (first_number before s.own) s.folders

  nothing_kept : (k : ℕ) → take k (written s) ≡ []
  nothing_kept k = ap (take k) none.none ∙ take_all k [] (omega arith)

  new_opened : Opened s made
  new_opened = record {
    kept = length s.accepted;
    accepted = omega arith;
    shown = (λ i. record { sequence = sym none.began i; contents = sym none.opening i }) ∙ sym
        (ap (shown_after s) (nothing_kept (length s.accepted)));
    folders = λ name. refl;
    sure = λ name folder found sure. found;
    rest = refl;
  }

  pub new_opens : FoldersRead (state_of new.story) s → OpensTo s v
  new_opens read = record {
    state = made;
    opened = new_opened;
    folders = refl;
    good = subst (λ (w : Shown). Good w made) (sym new.is)
        (new_good v.disk s.own (first_number before s.own) new.beside s.folders new.story new.told new.has
        (record { now = read.now; sure = read.sure }));
  }
