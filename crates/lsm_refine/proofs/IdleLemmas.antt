-- An opening of a store's own folder that has nothing to do.
use Rattle.std.specs.Prelude.{◌≡◌, ℕ, ◌≤◌, true, List, [], ◌++◌, take, length, Option, Some, None, Result, Ok}
use Rattle.std.proofs.Common.{⊎_elim, refl, sym, ap, subst, ◌∙◌, arith}
use Rattle.std.proofs.lemmas.List.{take_all}
use Rattle.std.specs.FinMap as finmap
use Rattle.lsm_names.specs.Folders.{is_folder_name}
use Rattle.lsm_rows.specs.declared.operations.Op.{Op}
use Rattle.lsm_rows.specs.Replay.{Contents}
use Rattle.lsm_disk.specs.Names.{Node, Folder_node, stands}
use Rattle.lsm_disk.specs.State as disk
use Rattle.lsm_disk.specs.State.{Seen, Story, state_of}
use Rattle.lsm_disk.specs.Images.{Tree, tree_now}
use Rattle.lsm_disk.specs.declared.calls.Halt.{Halt}
use Rattle.lsm_disk.proofs.Lawful.{get_named}
use Rattle.lsm_folder.specs.Files.{Files, Stands_with, files_in, place_by, place_of}
use Rattle.lsm_folder.specs.declared.refusals.Refusal.{Refusal}
use Rattle.lsm_folder.specs.Needed.{IsFresh, Stands}
use Rattle.lsm_folder.specs.Reading.{Shown as Read, reading}
use Rattle.lsm_folder.proofs.FreshLemmas.{fresh_is_none}
use Rattle.lsm_model.specs.declared.states.State.{State}
use Rattle.lsm_model.specs.declared.states.Pin.{Pin}
use Rattle.lsm_model.specs.declared.states.FolderRead.{FolderRead}
use Rattle.lsm_model.specs.States.{shown_after, written, none_or_one}
use Rattle.lsm_model.specs.Counts.{IsThere}
use Rattle.lsm_model.specs.Crashes.{Opened, closed}
use Rattle.lsm_refine.specs.Kept.{KeptPin, Shown}
use Rattle.lsm_refine.specs.Pins.{IsKeptPin}
use Rattle.lsm_refine.specs.Folders.{StandsFor, FoldersRead}
use Rattle.lsm_refine.specs.Good.{IsRunning, IsInMode, Good}
use Rattle.lsm_refine.specs.Settled.{IsSettled}
use Rattle.lsm_refine.specs.Openings.{Holds, As_store, As_fresh, IsFound, OpensTo, IsLeftOf, found_state, HasOpened}
use Rattle.lsm_refine.specs.Disks.{untouched, as_seen}
use Rattle.lsm_refine.specs.New.{new_files, new_store, new_state, new_disk}
use Rattle.lsm_refine.proofs.FolderDisks.{settled_disk}
use Rattle.lsm_refine.proofs.NewDiskLemmas.{new_apart, new_there}
use Rattle.lsm_refine.proofs.NewLemmas.{new_listed}
use Rattle.lsm_refine.proofs.FoundLemmas.{found_leaves}
use Rattle.lsm_refine.proofs.GoodLemmas.{good_now}
use Rattle.lsm_refine.proofs.MomentLemmas.{stays}
use Rattle.lsm_refine.proofs.PinnedLemmas.{pins_fit}
use Rattle.lsm_names.proofs.FolderLemmas.{folder_has_bytes}

-- ---- a folder stands for one thing

read_once : (read : Result Read Refusal) (one two : Read) → read ≡ Ok one → read ≡ Ok two → one ≡ two
read_once read one two first second = let same : Ok one ≡ Ok two = sym first ∙ second in cc

pub stands_once : (files : Files) (one two : Contents) (m n : ℕ) → Stands files one m → Stands files two n → (one ≡ two) × (m ≡ n)
stands_once files one two m n first second =
    let same = read_once (reading (Stands_with files)) (record { sequence = m; contents = one })
    (record { sequence = n; contents = two }) first.read second.read in
    (ap (λ (shown : Read). shown.contents) same, ap (λ (shown : Read). shown.sequence) same)

-- and what stands isn't fresh
pub not_fresh : {A : Type 0} (dir : List ℕ) (t : Tree) (contents : Contents) (sequence : ℕ) → 1 ≤ length dir
    → finmap.get t.names dir ≡ Some Folder_node → Stands (files_in dir t) contents sequence
    → IsFresh (place_of dir t) → A
unfolding place_of
not_fresh dir t contents sequence some folder is fresh =
    let node : stands t.names dir ≡ Some Folder_node = sym (get_named t.names dir
    (λ empty. omega (arith, some, ap (λ (p : List ℕ). length p) empty))) ∙ folder in
    let read : reading (place_by (stands t.names dir) (files_in dir t)) ≡ Ok (record { sequence = sequence; contents = contents }) =
    ap (λ (n : Option Node). reading (place_by n (files_in dir t))) node ∙ is.read in
    ⊎_elim (λ none. absurd (cc)) (λ none. absurd (cc)) (fresh_is_none (place_by (stands t.names dir) (files_in dir t)) fresh)

-- ---- the state with other folders listed

module _ (s : State) (folders : List FolderRead) where
  abbrev listing : State
  listing = record s { folders = folders }

  kept_pin : (kept : KeptPin) (pin : Pin) → IsKeptPin s kept pin → IsKeptPin listing kept pin
  kept_pin kept pin is = record {
    number = is.number;
    sequence = is.sequence;
    files = is.files;
    manifest = is.manifest;
    holder = is.holder;
    within = is.within;
    stands = is.stands;
  }

  running : (d : disk.State) (v : Shown) → IsRunning d v s → IsRunning d v listing
  running d v is = record {
    parts = is.parts;
    sane = is.sane;
    tied = record {
      flushed = is.tied.flushed;
      within = is.tied.within;
      below = is.tied.below;
      last = is.tied.last;
      above = is.tied.above;
      durable = is.tied.durable;
    };
    works = record {
      active = is.works.active;
      frozen = is.works.frozen;
      log_len = is.works.log_len;
      older_len = is.works.older_len;
      active_len = is.works.active_len;
      frozen_len = is.works.frozen_len;
      tables = is.works.tables;
      merging = is.works.merging;
      outputs = is.works.outputs;
      next = is.works.next;
      manifest_len = is.works.manifest_len;
    };
    jobs = record { apart = is.jobs.apart; each = is.jobs.each };
    certain = is.certain;
  }

  by_halt : (halt : Option Halt) (d : disk.State) (v : Shown) → halt ≡ None → IsInMode halt d v s → IsInMode halt d v listing
  by_halt None d v is mode = running d v mode
  by_halt (Some first) d v is mode = absurd (cc)

  listed_good : (v : Shown) (good : Good v s) → v.halt ≡ None → s.begun ≡ None → FoldersRead (state_of good.story) listing → Good v listing
  listed_good v good runs none read = record {
    story = good.story;
    told = good.told;
    mode = by_halt v.halt (state_of good.story) v runs good.mode;
    pinned = record {
      pins = pins_fit (IsKeptPin s) (IsKeptPin listing) kept_pin v.kept.pins s.pins good.pinned.pins;
      files = good.pinned.files;
    };
    folders = read;
    clear = good.clear;
    counted = record {
      durable = good.counted.durable;
      numbers = good.counted.numbers;
      fronts = good.counted.fronts;
      begun = subst (IsThere folders) (sym none) tt;
    };
    kept = record {
      own = good.kept.own;
      sequence = good.kept.sequence;
      greatest_pin = good.kept.greatest_pin;
      disables = good.kept.disables;
      begun = good.kept.begun;
      halt = good.kept.halt;
    };
    counts = record { faults = good.counts.faults; refusals = good.counts.refusals };
  }

-- ---- an opening that leaves the disk as it is

module _ (v : Shown) (s was : State) (good : Good v s) (opened : Opened was s) (settled : IsSettled (state_of good.story))
    (runs : v.halt ≡ None) where
  abbrev d : disk.State
  d = state_of good.story

  none_written : written s ≡ []
  none_written =
      let accepted : s.accepted ≡ [] = ap (λ (q : State). q.accepted) opened.rest in
      let certain : s.doubtful ≡ None = ap (λ (q : State). q.doubtful) opened.rest in
      λ i. accepted i ++ none_or_one (certain i)

  -- its folder stands for what the store began with
  stands_so : StandsFor s (tree_now d) 0
  stands_so =
      let front = good_now v s good in
      let none : take front.count (written s) ≡ [] = ap (take front.count) none_written ∙ take_all front.count [] (omega arith) in
      let nothing : take 0 (written s) ≡ [] = refl in
      record {
        folder = front.stands.folder;
        stands = subst (λ (l : List (List Op)). Stands (files_in s.own (tree_now d)) (shown_after s l).contents
            (shown_after s l).sequence) (none ∙ sym nothing) front.stands.stands;
      }

  named : 1 ≤ length s.own
  named = by_halt_named v.halt runs good.mode
    where
      by_halt_named : (halt : Option Halt) → halt ≡ None → IsInMode halt d v s → 1 ≤ length s.own
      by_halt_named None is mode = subst (λ (dir : List ℕ). 1 ≤ length dir) good.kept.own (folder_has_bytes v.dir mode.sane.current.named)
      by_halt_named (Some first) is mode = absurd (cc)

  module _ (found : State) (own : found.own ≡ s.own) (is : IsFound d found) where
    abbrev left : State
    left = record s { folders = found.folders }

    shown_by : (count : ℕ) → Holds found (tree_now d) count → shown_after s [] ≡ shown_after found (take count (written found))
    shown_by count (As_store stands) =
        let same = stands_once (files_in s.own (tree_now d)) s.opening
        (shown_after found (take count (written found))).contents s.began (shown_after found (take count (written found))).sequence
        stands_so.stands
        (subst (λ (dir : List ℕ). Stands (files_in dir (tree_now d)) (shown_after found (take count (written found))).contents
        (shown_after found (take count (written found))).sequence) own stands.stands) in
        λ i. record { sequence = same.1 i; contents = same.0 i }
    shown_by count (As_fresh fresh none) =
        not_fresh s.own (tree_now d) s.opening s.began named stands_so.folder stands_so.stands
        (subst (λ (dir : List ℕ). IsFresh (place_of dir (tree_now d))) own fresh)

    own_was : was.own ≡ found.own
    own_was = sym (ap (λ (q : State). q.own) opened.rest) ∙ sym own

    opens_so : Opened found left
    opens_so = record {
      kept = is.now.count;
      accepted = is.now.enough;
      shown = shown_by is.now.count is.now.holds;
      folders = λ name. refl;
      sure = λ name folder listed sure. listed;
      rest = ap (λ (q : State). record q { folders = found.folders }) opened.rest ∙
          (λ i. record (closed (record found { own = own_was i })) {
            opening = s.opening;
            began = s.began;
            accepted = [];
            durable = 0;
            folders = found.folders;
            tables = s.tables;
            next = s.next;
            manifest_len = s.manifest_len;
            faults = s.faults;
            refusals = s.refusals;
          });
    }

    reads_so : FoldersRead d left
    reads_so =
        let all : FoldersRead d (record found { own = s.own }) =
        subst (λ (dir : List ℕ). FoldersRead d (record found { own = dir })) own
        (record { now = is.folders.now; sure = is.folders.sure }) in
        record { now = all.now; sure = all.sure }

    idle_opens : OpensTo found v
    idle_opens = record {
      state = left;
      opened = opens_so;
      folders = refl;
      good = listed_good s found.folders v good runs (ap (λ (q : State). q.begun) opened.rest) reads_so;
    }

  pub idle_opened : HasOpened good.story v.dir v
  idle_opened = record {
    leads = λ found own is. idle_opens found (own ∙ good.kept.own) is;
    fresh = λ fresh clear.
        not_fresh s.own (tree_now d) s.opening s.began named stands_so.folder stands_so.stands
        (subst (λ (dir : List ℕ). IsFresh (place_of dir (tree_now d))) good.kept.own fresh);
    moments = λ found own is. record {
      story = good.story;
      tells = good.told;
      goes = stays good.story (λ e t. IsLeftOf found t) (λ t image. found_leaves d found is t image);
      now = tt;
    };
  }

-- ---- a new store

new_was_opened : (seen : Seen) (dir : List ℕ) (folders : List FolderRead)
    → Opened (found_state dir finmap.empty 0 folders) (new_state seen dir 1 folders)
new_was_opened seen dir folders = record {
  kept = 0;
  accepted = omega arith;
  shown = refl;
  folders = λ name. refl;
  sure = λ name folder listed sure. listed;
  rest = refl;
}

module _ (dir : List ℕ) (fits : is_folder_name dir ≡ true) where
  abbrev fresh_seen : Seen
  fresh_seen = as_seen (new_disk dir)

  same_story : (one two : Story) → Some one ≡ Some two → one ≡ two
  same_story one two same = cc

  at_story : (story : Story) → untouched (new_disk dir) ≡ story → IsSettled (state_of story)
  at_story story same = subst (λ (q : Story). IsSettled (state_of q)) same (settled_disk dir fits (new_files 1) new_apart)

  pub new_idle : HasOpened (untouched (new_disk dir)) dir (new_store fresh_seen dir 1 [])
  new_idle =
      let made = new_listed fresh_seen dir 1 [] (untouched (new_disk dir)) refl (new_there dir fits) in
      let same : untouched (new_disk dir) ≡ made.1.story = same_story (untouched (new_disk dir)) made.1.story made.1.told in
      subst (λ (q : Story). HasOpened q dir (new_store fresh_seen dir 1 [])) (sym same)
      (idle_opened (new_store fresh_seen dir 1 []) (new_state fresh_seen dir 1 made.0)
      (found_state dir finmap.empty 0 made.0) made.1 (new_was_opened fresh_seen dir made.0) (at_story made.1.story same) refl)
