-- A good store whose disk changed within the folder of a restore alone is good still, for the state that lists the folders so;
-- and so it is where a disk call on the way halted it.
use Rattle.std.specs.Prelude.{◌≡◌, ℕ, List, Option, Some, None}
use Rattle.std.proofs.Common.{⊎_elim, inl, inr, refl, sym, subst}
use Rattle.std.proofs.lemmas.List.Elements.{All-nil, All-weaker}
use Rattle.lsm_names.specs.declared.file_names.FileName.{FileName}
use Rattle.lsm_names.specs.declared.file_names.FileName.TheVariants.{Log, Table, Manifest, Temp, Current}
use Rattle.lsm_rows.specs.declared.rows.Row.{Row}
use Rattle.lsm_disk.specs.State as disk
use Rattle.lsm_disk.specs.State.{Seen, Story, state_of}
use Rattle.lsm_disk.specs.Images.{Tree, tree_now}
use Rattle.lsm_disk.specs.Dest.{Begun}
use Rattle.lsm_disk.specs.declared.calls.Halt.{Halt}
use Rattle.lsm_model.specs.declared.states.State.{State}
use Rattle.lsm_model.specs.declared.states.Pin.{Pin}
use Rattle.lsm_model.specs.declared.states.FolderRead.{FolderRead}
use Rattle.lsm_model.specs.Counts.{IsThere}
use Rattle.lsm_refine.specs.Kept.{Kept, Shown}
use Rattle.lsm_refine.specs.Parts.{Parts}
use Rattle.lsm_refine.specs.Sane.{HasTables, IsNeeded, IsHeld}
use Rattle.lsm_refine.specs.Pins.{PinFiles}
use Rattle.lsm_refine.specs.Folders.{StandsFrom, FoldersRead}
use Rattle.lsm_refine.specs.Good.{IsRunning, IsHalted, IsInMode, Good, stopped}
use Rattle.lsm_refine.specs.Grown.{halted_shown}
use Rattle.lsm_refine.specs.Within.{SaneOutside}
use Rattle.lsm_refine.proofs.PinnedLemmas.{pins_alike}
use Rattle.lsm_refine.proofs.UnchangedLemmas.{halted_good}
use Rattle.lsm_refine.proofs.WritingLemmas.{runs}
use Rattle.lsm_refine.proofs.WithinStores.{sane_is, sane_again, sane_within, pins_within, clear_within, jobs_within}
use Rattle.lsm_restoring.specs.Restoring.{ChangesOnly, MayRestore, IsRestoring, folder_begun, restored_shown, restored_state}

-- ---- what is kept of a restore is no part of the rest

module _ (begun : Option Begun) (hand : Option FileName) (kept : Kept) where
  abbrev other : Kept
  other = record kept { begun = begun; hand = hand }

  needed_same : (name : FileName) → IsNeeded other name → IsNeeded kept name
  needed_same (Log number) is = is
  needed_same (Table number) is = is
  needed_same (Manifest number) is = is
  needed_same (Temp number) is = is
  needed_same Current is = is

  held_same : (name : FileName) → IsHeld other name → IsHeld kept name
  held_same name is = ⊎_elim (λ needed. inl (needed_same name needed)) (λ pinned. inr pinned) is

  tables_same : (d : disk.State) (dir : List ℕ) (rows : ℕ → List Row) → HasTables d dir kept rows → HasTables d dir other rows
  tables_same d dir rows has = record {
    each = λ number placed found. let table = has.each number placed found in
        record {
          numbered = table.numbered;
          bytes = table.bytes;
          file = table.file;
          table = table.table;
          size = table.size;
          viewed = table.viewed;
        };
  }

  outside_same : (d : disk.State) (dir : List ℕ) (parts : Parts) → SaneOutside d dir kept parts
      → SaneOutside d dir other parts
  outside_same d dir parts sane = record {
    current = record {
      named = sane.current.named;
      folder = sane.current.folder;
      numbered = sane.current.numbered;
      file = sane.current.file;
    };
    edits = record {
      are = sane.edits.are;
      file = sane.edits.file;
      len = sane.edits.len;
      version = sane.edits.version;
      log = sane.edits.log;
      last = sane.edits.last;
    };
    tables = tables_same d dir parts.rows sane.tables;
    logs = record {
      numbers = sane.logs.numbers;
      ascend = sane.logs.ascend;
      live = sane.logs.live;
      older = sane.logs.older;
      last = sane.logs.last;
      only = sane.logs.only;
      frozen = sane.logs.frozen;
      active = sane.logs.active;
    };
    quiet = record { spares = λ name fits held. sane.quiet.spares name fits (held_same name held) };
    known = record { there = sane.known.there; all = sane.known.all };
    files = sane.files;
    lawful = sane.lawful;
    written = record { tables = sane.written.tables; alone = sane.written.alone };
  }

-- ---- a store that goes on

module _ (v : Shown) (s : State) (good : Good v s) (none : v.halt ≡ None) (folder : List ℕ)
    (may : MayRestore folder v s) (seen : Seen) (story : Story) (told : seen.told ≡ Some story)
    (only : ChangesOnly folder (state_of good.story) (state_of story)) where
  abbrev run : IsRunning (state_of good.story) v s
  run = runs v s good none

  abbrev d : disk.State
  d = state_of good.story

  abbrev x : disk.State
  x = state_of story

  module _ (begun : Option Begun) (hand : Option FileName) (restores : IsRestoring x v.dir begun hand)
      (folders : List FolderRead)
      (read : FoldersRead x (restored_state seen folders (folder_begun begun) s))
      (there : IsThere folders (folder_begun begun)) where
    abbrev w : Shown
    w = restored_shown seen begun hand v

    abbrev t : State
    t = restored_state seen folders (folder_begun begun) s

    restored_running : IsRunning x w t
    restored_running =
        let dir_named = run.sane.current.named in
        let outside : SaneOutside x v.dir v.kept run.parts =
        sane_within folder v.dir may.named dir_named may.apart d x only.within v.kept run.parts
        (sane_is d v.dir v.kept run.parts run.sane) in
        let jobs = jobs_within folder v.dir may.named dir_named may.apart d x only.within v.kept.pins s may.jobs run.jobs in
        record {
          parts = run.parts;
          sane = sane_again x v.dir w.kept run.parts
              (outside_same begun hand v.kept x v.dir run.parts outside) restores.builds restores.alone;
          tied = record {
            flushed = run.tied.flushed;
            within = run.tied.within;
            below = run.tied.below;
            last = run.tied.last;
            above = run.tied.above;
            durable = run.tied.durable;
          };
          works = record {
            active = run.works.active;
            frozen = run.works.frozen;
            log_len = run.works.log_len;
            older_len = run.works.older_len;
            active_len = run.works.active_len;
            frozen_len = run.works.frozen_len;
            tables = run.works.tables;
            merging = run.works.merging;
            outputs = run.works.outputs;
            next = run.works.next;
            manifest_len = run.works.manifest_len;
          };
          jobs = record { apart = jobs.apart; each = jobs.each };
          certain = run.certain;
        }

    pub restored_good : Good w t
    restored_good = record {
      story = story;
      told = told;
      mode = subst (λ (h : Option Halt). IsInMode h x w t) (sym none) restored_running;
      pinned = record {
        pins = pins_alike s t refl refl refl v.kept.pins s.pins good.pinned.pins;
        files = All-weaker (λ (pin : Pin). PinFiles d v.dir pin.files) (λ (pin : Pin). PinFiles x v.dir pin.files)
            (λ pin are. pins_within folder v.dir may.named run.sane.current.named may.apart d x only.within pin.files are)
            s.pins good.pinned.files;
      };
      folders = read;
      clear = clear_within folder v.dir may.named run.sane.current.named may.apart d x only.within good.clear;
      counted = record {
        durable = good.counted.durable;
        numbers = good.counted.numbers;
        fronts = good.counted.fronts;
        begun = there;
      };
      kept = record {
        own = good.kept.own;
        sequence = good.kept.sequence;
        greatest_pin = good.kept.greatest_pin;
        disables = good.kept.disables;
        begun = refl;
        halt = good.kept.halt;
      };
      counts = record { faults = refl; refusals = refl };
    }

-- ---- a store that is halted

-- what a halted store keeps of a restore is no part of what it is good for
module _ (w : Shown) (t : State) (good : Good w t) (first : Halt) (halts : w.halt ≡ Some first) (begun : Option Begun)
    (hand : Option FileName) (there : IsThere t.folders (folder_begun begun)) where
  abbrev w' : Shown
  w' = record w { kept = record w.kept { begun = begun; hand = hand } }

  abbrev t' : State
  t' = record t { begun = folder_begun begun }

  still_stands : (least : ℕ) (tree : Tree) → StandsFrom t least tree → StandsFrom t' least tree
  still_stands least tree is = record {
    count = is.count;
    enough = is.enough;
    within = is.within;
    stands = record { folder = is.stands.folder; stands = is.stands.stands };
  }

  still_halted : (d : disk.State) → IsHalted d w t → IsHalted d w' t'
  still_halted d is = record {
    reads = record {
      rows = is.reads.rows;
      tables = tables_same begun hand w.kept d w.dir is.reads.rows is.reads.tables;
      order = record {
        levels = is.reads.order.levels;
        leveled = is.reads.order.leveled;
        listed = is.reads.order.listed;
        distinct = is.reads.order.distinct;
        frozen = is.reads.order.frozen;
        last = is.reads.order.last;
      };
      shown = is.reads.shown;
      active = record { same = is.reads.active.same; newest_is = is.reads.active.newest_is };
    };
    now = still_stands _ (tree_now d) is.now;
    images = λ tree i. still_stands _ tree (is.images tree i);
    files = is.files;
    synced = is.synced;
  }

  pub put_back : Good w' t'
  put_back = record {
    story = good.story;
    told = good.told;
    mode = subst (λ (h : Option Halt). IsInMode h (state_of good.story) w' t') (sym halts)
        (still_halted (state_of good.story)
        (subst (λ (h : Option Halt). IsInMode h (state_of good.story) w t) halts good.mode));
    pinned = record { pins = pins_alike t t' refl refl refl w.kept.pins t.pins good.pinned.pins; files = good.pinned.files };
    folders = record { now = good.folders.now; sure = good.folders.sure };
    clear = good.clear;
    counted = record {
      durable = good.counted.durable;
      numbers = good.counted.numbers;
      fronts = good.counted.fronts;
      begun = there;
    };
    kept = record {
      own = good.kept.own;
      sequence = good.kept.sequence;
      greatest_pin = good.kept.greatest_pin;
      disables = good.kept.disables;
      begun = refl;
      halt = good.kept.halt;
    };
    counts = record { faults = good.counts.faults; refusals = good.counts.refusals };
  }

-- A disk call of a restore failed, and may have changed the folder. The store is halted, and keeps what it kept of the restore.
module _ (v : Shown) (s : State) (good : Good v s) (none : v.halt ≡ None) (folder : List ℕ)
    (may : MayRestore folder v s) (seen : Seen) (story : Story) (told : seen.told ≡ Some story)
    (only : ChangesOnly folder (state_of good.story) (state_of story)) (at : Halt)
    (folders : List FolderRead) (read : FoldersRead (state_of story) (restored_state seen folders None s))
    (there : IsThere folders (folder_begun v.kept.begun)) where
  pub failed_good : Good (halted_shown seen at v) (stopped at (restored_state seen folders (folder_begun v.kept.begun) s))
  unfolding restored_good
  failed_good =
      let idle = restored_good v s good none folder may seen story told only None None
      (record { builds = refl; alone = All-nil _ }) folders read tt in
      let w : Shown = restored_shown seen None None v in
      let halted = halted_good w (record w { halt = Some at }) (restored_state seen folders None s) at idle (record {
        later = story;
        told = told;
        state = refl;
        dir = refl;
        kept = refl;
        views = λ number view found. inl found;
      }) none refl in
      put_back (record w { halt = Some at })
      (stopped at (restored_state seen folders None s)) halted at refl v.kept.begun v.kept.hand there
