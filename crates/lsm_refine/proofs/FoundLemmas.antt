-- What is left of a good store, and what an opening finds of it.
use Rattle.std.specs.Prelude.{◌≡◌, ◌≢◌, ℕ, ◌≤◌, true, false, cond, is_some, List, [], ◌∷◌, ◌++◌, map, take, length, All, Option, Some, None, option_map}
use Rattle.std.proofs.Common.{refl, sym, ap, subst, ◌∙◌, arith}
use Rattle.std.proofs.lemmas.List.{length-append, take_all}
use Rattle.std.proofs.lemmas.List.Elements.{All-nil, All-cons, All-head, All-tail}
use Rattle.std.specs.Str.{bytes_eq}
use Rattle.std.specs.FinMap as finmap
use Rattle.lsm_names.specs.Folders.{is_folder_name}
use Rattle.lsm_disk.specs.Names.{Names, NameOp, all_named}
use Rattle.lsm_disk.specs.State as disk
use Rattle.lsm_disk.specs.State.{Story, state_of}
use Rattle.lsm_disk.specs.Images.{Tree, IsImage, tree_now}
use Rattle.lsm_disk.proofs.Images.{reads_image}
use Rattle.lsm_model.specs.declared.states.State.{State}
use Rattle.lsm_model.specs.declared.states.FolderRead.{FolderRead}
use Rattle.lsm_model.specs.Halting.{built_in}
use Rattle.lsm_model.specs.States.{written, none_or_one, folder_of}
use Rattle.lsm_model.specs.Reads.{known_reading}
use Rattle.lsm_model.specs.Crashes.{KeepsSure, closed}
use Rattle.lsm_refine.specs.Kept.{Shown}
use Rattle.lsm_refine.specs.Pins.{AreClearable}
use Rattle.lsm_refine.specs.Sane.{TablesAreSynced}
use Rattle.lsm_refine.specs.Folders.{StandsFrom, FoldersAre, IsSure, folder_reading}
use Rattle.lsm_refine.specs.Good.{Good}
use Rattle.lsm_refine.specs.Settled.{IsSettled}
use Rattle.lsm_refine.specs.Openings.{Holds, As_store, As_fresh, HasOnlyFiles, HoldsFrom, IsClearable, HoldsAs, IsLeftOf, IsFound}
use Rattle.lsm_refine.proofs.CrashLemmas.{listed, folders_in, folders_are, keeps_sure, after_crash, stands_after, crashed, image_reads}
use Rattle.lsm_refine.proofs.GoodLemmas.{good_image, good_now, good_files, good_synced}
use Rattle.lsm_refine.proofs.SettledLemmas.{none_pending, one_image}
use Rattle.lsm_refine.proofs.TableSyncs.{all_synced, image_files}

-- ---- places of checkpoints

pub clear_image : (d : disk.State) → AreClearable d → (t : Tree) → IsImage d t → IsClearable t.names
clear_image d clear t image = record {
  no_file = λ dir id named is. clear.no_file dir image.kept id named
      (ap (λ (names : Names). finmap.get names (built_in dir)) (sym image.names) ∙ is);
  no_folder = λ dir rest named is. clear.no_folder dir rest image.kept named
      (ap (λ (names : Names). finmap.get names (built_in dir ++ 47 ∷ rest)) (sym image.names) ∙ is);
}

clear_settled : (d : disk.State) → IsSettled d → IsClearable (tree_now d).names → AreClearable d
clear_settled d settled clear = record {
  no_file = λ dir k id named is.
      clear.no_file dir id named (ap (λ (ops : List NameOp). finmap.get (all_named ops d.durable) (built_in dir))
      (sym (none_pending d settled k)) ∙ is);
  no_folder = λ dir rest k named is.
      clear.no_folder dir rest named (ap (λ (ops : List NameOp). finmap.get (all_named ops d.durable)
      (built_in dir ++ 47 ∷ rest)) (sym (none_pending d settled k)) ∙ is);
}

-- ---- what a crash leaves of a good store

good_only : (v : Shown) (s : State) (good : Good v s) (t : Tree) → IsImage (state_of good.story) t → HasOnlyFiles s.own t.names
good_only v s good t image = subst (λ (dir : List ℕ). HasOnlyFiles dir t.names) good.kept.own
    (image_files (state_of good.story) v.dir (good_files v s good) t image)

pub good_leaves : (v : Shown) (s : State) (good : Good v s) (t : Tree) → IsImage (state_of good.story) t → IsLeftOf s t
good_leaves v s good t image =
    let left = image_reads v s good t image in
    record {
      left = left.0;
      crashed = left.1;
      holds = record {
        own = As_store left.2.own;
        files = subst (λ (dir : List ℕ). HasOnlyFiles dir t.names) (sym (ap (λ (q : State). q.own) left.1.rest))
            (good_only v s good t image);
        others = left.2.others;
        clear = clear_image (state_of good.story) good.clear t image;
      };
    }

-- where no crash comes between, the next opening finds the state itself
pub good_found : (v : Shown) (s : State) (good : Good v s) → IsFound (state_of good.story) s
good_found v s good = record {
  now = with_tables (length s.accepted) (tree_now (state_of good.story)) (reads_image (state_of good.story)) (good_now v s good);
  images = λ t image. with_tables s.durable t image (good_image v s good t image);
  synced = subst (TablesAreSynced (state_of good.story)) good.kept.own (good_synced v s good);
  folders = good.folders;
  clear = good.clear;
}
  where
    with_tables : (least : ℕ) (t : Tree) → IsImage (state_of good.story) t → StandsFrom s least t → HoldsFrom s least t
    with_tables least t image front = record {
      count = front.count;
      enough = front.enough;
      within = front.within;
      holds = As_store front.stands;
      files = good_only v s good t image;
    }

-- ---- what a crash leaves of what is found

module _ (d : disk.State) (s : State) (found : IsFound d s) (t : Tree) (image : IsImage d t) where
  only : HasOnlyFiles s.own t.names
  only = (found.images t image).files

  by_holds : (count : ℕ) → s.durable ≤ count → count ≤ length (written s) → Holds s t count → IsLeftOf s t
  by_holds count enough within (As_store stands) =
      let front : StandsFrom s s.durable t = record { count = count; enough = enough; within = within; stands = stands } in
      record {
        left = after_crash s t front;
        crashed = crashed s t front d image found.folders;
        holds = record {
          own = As_store (stands_after s t front);
          files = only;
          others = folders_are s t;
          clear = clear_image d found.clear t image;
        };
      }
  by_holds count enough within (As_fresh fresh none) = record {
    left = record (closed s) { accepted = []; durable = 0; folders = folders_in s t };
    crashed = record {
      kept = count;
      durable = enough;
      accepted = sym (ap (take count) none.none ∙ take_all count [] (omega arith));
      all = refl;
      folders = keeps_sure s t d image found.folders;
      rest = refl;
    };
    holds = record {
      own = As_fresh fresh (record { opening = none.opening; began = none.began; none = refl });
      files = only;
      others = folders_are s t;
      clear = clear_image d found.clear t image;
    };
  }

  pub found_leaves : IsLeftOf s t
  found_leaves = let from = found.images t image in by_holds from.count from.enough from.within from.holds

-- ---- what is found of it on a settled disk

-- there each listed folder reads so in each image
module _ (d : disk.State) (settled : IsSettled d) (own : List ℕ) (folders : List FolderRead)
    (are : FoldersAre own folders (tree_now d)) where
  settled_sure : (name : List ℕ) (folder : FolderRead) → folder_of name folders ≡ Some folder → IsSure d folder
  settled_sure name folder found =
      let entry = listed own name folder folders are.only found in
      let here : folder_of folder.name folders ≡ Some folder = ap (λ (n : List ℕ). folder_of n folders) entry.0 ∙ found in
      record {
        there = λ t image.
            subst (λ (u : Tree). is_some (finmap.get u.names folder.name) ≡ true) (sym (one_image d settled t image))
            (sym (are.taken folder.name entry.1 entry.2) ∙ ap is_some here);
        reads = λ t image.
            subst (λ (u : Tree). folder_reading folder.name u ≡ folder.reading) (sym (one_image d settled t image))
            (are.reads folder.name entry.1 entry.2 ∙ ap (known_reading folder.name) here);
      }

pub left_found : (d : disk.State) (s : State) → IsSettled d → HoldsAs (tree_now d) s → s.durable ≤ length s.accepted → IsFound d s
left_found d s settled holds durable = record {
  now = front (length s.accepted) (omega arith);
  images = λ t image. subst (HoldsFrom s s.durable) (sym (one_image d settled t image)) (front s.durable durable);
  synced = all_synced d s.own settled.files;
  folders = record { now = holds.others; sure = λ name folder found is. settled_sure d settled s.own s.folders holds.others name folder found };
  clear = clear_settled d settled holds.clear;
}
  where
    front : (least : ℕ) → least ≤ length s.accepted → HoldsFrom s least (tree_now d)
    front least few = record {
      count = length s.accepted;
      enough = few;
      within = omega (arith, length-append s.accepted (none_or_one s.doubtful));
      holds = holds.own;
      files = holds.files;
    }

-- ---- marks

abbrev mark : FolderRead → FolderRead
mark folder = record folder { sure = true }

abbrev marked : List FolderRead → List FolderRead
marked folders = map mark folders

abbrev IsOther : List ℕ → FolderRead → Type 0
IsOther own folder = (is_folder_name folder.name ≡ true) × (folder.name ≢ own)

folder_marked : (name : List ℕ) (folders : List FolderRead) → folder_of name (marked folders) ≡ option_map mark (folder_of name folders)
folder_marked name [] = refl
folder_marked name (folder ∷ folders) =
    elim (bytes_eq folder.name name) as (λ b. cond b (Some (mark folder)) (folder_of name (marked folders))
    ≡ option_map mark (cond b (Some folder) (folder_of name folders))) [
      | true ↦ refl
      | false ↦ folder_marked name folders
    ]

others_marked : (own : List ℕ) (folders : List FolderRead) → All (IsOther own) folders → All (IsOther own) (marked folders)
others_marked own [] each = All-nil (IsOther own)
others_marked own (folder ∷ folders) each =
    All-cons (IsOther own) (mark folder) (marked folders) (All-head (IsOther own) folder folders each)
    (others_marked own folders (All-tail (IsOther own) folder folders each))

all_marked : (folders : List FolderRead) → All (λ (folder : FolderRead). folder.sure ≡ true) (marked folders)
all_marked [] = All-nil (λ (folder : FolderRead). folder.sure ≡ true)
all_marked (folder ∷ folders) = All-cons (λ (folder : FolderRead). folder.sure ≡ true) (mark folder) (marked folders) refl
    (all_marked folders)

same_reading : (name : List ℕ) (found : Option FolderRead) → known_reading name (option_map mark found) ≡ known_reading name found
same_reading name None = refl
same_reading name (Some folder) = refl

same_there : (found : Option FolderRead) → is_some (option_map mark found) ≡ is_some found
same_there None = refl
same_there (Some folder) = refl

folders_marked : (own : List ℕ) (folders : List FolderRead) (t : Tree) → FoldersAre own folders t → FoldersAre own (marked folders) t
folders_marked own folders t are = record {
  only = others_marked own folders are.only;
  reads = λ name named other. are.reads name named other ∙ sym
      (ap (known_reading name) (folder_marked name folders) ∙ same_reading name (folder_of name folders));
  taken = λ name named other. ap is_some (folder_marked name folders) ∙ same_there (folder_of name folders) ∙ are.taken name named other;
}

keeps_marked : (old folders : List FolderRead) → KeepsSure old folders → KeepsSure old (marked folders)
keeps_marked old folders keeps name folder found sure =
    folder_marked name folders ∙ ap (option_map mark) (keeps name folder found sure)
    ∙ (λ i. Some (record { name = folder.name; reading = folder.reading; sure = sym sure i }))

module _ (s : State) (t : Tree) (is : IsLeftOf s t) where
  abbrev with_marks : State
  with_marks = record is.left { folders = marked is.left.folders }

  held_by : Holds is.left t (length is.left.accepted) → Holds with_marks t (length is.left.accepted)
  held_by (As_store stands) = As_store (record { folder = stands.folder; stands = stands.stands })
  held_by (As_fresh fresh none) = As_fresh fresh (record { opening = none.opening; began = none.began; none = none.none })

  -- whatever a crash left may be marked
  pub mark_left : IsLeftOf s t
  mark_left = record {
    left = with_marks;
    crashed = record {
      kept = is.crashed.kept;
      durable = is.crashed.durable;
      accepted = is.crashed.accepted;
      all = is.crashed.all;
      folders = keeps_marked s.folders is.left.folders is.crashed.folders;
      rest = ap (λ (q : State). record q { folders = marked is.left.folders }) is.crashed.rest;
    };
    holds = record {
      own = held_by is.holds.own;
      files = is.holds.files;
      others = folders_marked is.left.own is.left.folders t is.holds.others;
      clear = is.holds.clear;
    };
  }

  pub mark_sure : All (λ (folder : FolderRead). folder.sure ≡ true) mark_left.left.folders
  unfolding mark_left
  mark_sure = all_marked is.left.folders
