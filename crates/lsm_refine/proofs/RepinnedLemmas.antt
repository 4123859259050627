-- A store stays good where its pins change and how often deletion is disabled, and nothing else.
use Rattle.std.specs.Prelude.{ℕ, List, length, All, Contains, Option, Some, None}
use Rattle.std.specs.List.{flat_map}
use Rattle.std.proofs.Common.{⊎_elim, inl, refl}
use Rattle.lsm_names.specs.FileNames.{IsFileName}
use Rattle.lsm_names.specs.declared.file_names.FileName.{FileName}
use Rattle.lsm_names.specs.declared.file_names.FileName.TheVariants.{Log, Table, Manifest, Temp, Current}
use Rattle.lsm_rows.specs.declared.rows.Row.{Row}
use Rattle.lsm_disk.specs.State as disk
use Rattle.lsm_disk.specs.State.{state_of}
use Rattle.lsm_disk.specs.Images.{Tree, tree_now}
use Rattle.lsm_disk.specs.Kept.{OpSpares}
use Rattle.lsm_disk.specs.Dest.{path_in}
use Rattle.lsm_disk.specs.declared.calls.Halt.{Halt}
use Rattle.lsm_model.specs.declared.states.State.{State}
use Rattle.lsm_model.specs.declared.states.Pin.{Pin}
use Rattle.lsm_model.specs.Counts.{IsCounted}
use Rattle.lsm_refine.specs.Kept.{KeptPin, Kept, Shown}
use Rattle.lsm_refine.specs.Parts.{Parts}
use Rattle.lsm_refine.specs.Sane.{IsNeeded, HasTables, Sane, names_held}
use Rattle.lsm_refine.specs.Pins.{ArePins, IsKeptPin, PinFiles, JobsBuild}
use Rattle.lsm_refine.specs.Folders.{StandsFrom}
use Rattle.lsm_refine.specs.Good.{ShowsAccepted, IsRunning, IsHalted, IsInMode, Good}
use Rattle.lsm_refine.specs.Calls.{with_pins, state_with_pins}

-- no operation that a crash may undo touches a name that these pins hold
abbrev pub AreHeldQuiet : disk.State → List ℕ → List KeptPin → Type 0
AreHeldQuiet d dir pins = (name : FileName) → IsFileName name → Contains (flat_map names_held pins) name
    → All (OpSpares (path_in dir name)) d.pending

module _ (v : Shown) (s : State) (pins : List KeptPin) (of : List Pin) (greatest disables : ℕ) where
  abbrev w : Shown
  w = with_pins pins greatest disables v

  abbrev t : State
  t = state_with_pins of greatest disables s

  abbrev k : Kept
  k = w.kept

  -- the same names are needed
  needed : (name : FileName) → IsNeeded k name → IsNeeded v.kept name
  needed Current is = is
  needed (Manifest number) is = is
  needed (Table number) is = is
  needed (Log number) is = is
  needed (Temp number) is = is

  module _ (d : disk.State) where
    tables : (rows : ℕ → List Row) → HasTables d v.dir v.kept rows → HasTables d v.dir k rows
    tables rows has = record {
      each = λ number placed found. let table = has.each number placed found in
          record {
            numbered = table.numbered;
            bytes = table.bytes;
            file = table.file;
            table = table.table;
            size = table.size;
            viewed = table.viewed;
          };
    }

    sane : (parts : Parts) → AreHeldQuiet d v.dir pins → Sane d v.dir v.kept parts → Sane d v.dir k parts
    sane parts quiet is = record {
      current = record { named = is.current.named; folder = is.current.folder; numbered = is.current.numbered; file = is.current.file };
      edits = record {
        are = is.edits.are;
        file = is.edits.file;
        len = is.edits.len;
        version = is.edits.version;
        log = is.edits.log;
        last = is.edits.last;
      };
      tables = tables parts.rows is.tables;
      logs = record {
        numbers = is.logs.numbers;
        ascend = is.logs.ascend;
        live = is.logs.live;
        older = is.logs.older;
        last = is.logs.last;
        only = is.logs.only;
        frozen = is.logs.frozen;
        active = is.logs.active;
      };
      quiet = record {
        spares = λ name fits held. ⊎_elim (λ need. is.quiet.spares name fits (inl (needed name need)))
            (λ pinned. quiet name fits pinned) held;
      };
      known = record { there = is.known.there; all = is.known.all };
      files = is.files;
      lawful = is.lawful;
      written = record { tables = is.written.tables; alone = is.written.alone };
      restored = is.restored;
    }

    running : AreHeldQuiet d v.dir pins → JobsBuild d v.dir pins t → IsRunning d v s → IsRunning d w t
    running quiet jobs is = record {
      parts = is.parts;
      sane = sane is.parts quiet is.sane;
      tied = record {
        flushed = is.tied.flushed;
        within = is.tied.within;
        below = is.tied.below;
        last = is.tied.last;
        above = is.tied.above;
        durable = is.tied.durable;
      };
      works = record {
        active = is.works.active;
        frozen = is.works.frozen;
        log_len = is.works.log_len;
        older_len = is.works.older_len;
        active_len = is.works.active_len;
        frozen_len = is.works.frozen_len;
        tables = is.works.tables;
        merging = is.works.merging;
        outputs = is.works.outputs;
        next = is.works.next;
        manifest_len = is.works.manifest_len;
      };
      jobs = jobs;
      certain = is.certain;
    }

    reads : ShowsAccepted d v s → ShowsAccepted d w t
    reads is = record {
      rows = is.rows;
      tables = tables is.rows is.tables;
      order = record {
        levels = is.order.levels;
        leveled = is.order.leveled;
        listed = is.order.listed;
        distinct = is.order.distinct;
        frozen = is.order.frozen;
        last = is.order.last;
      };
      shown = is.shown;
      active = is.active;
    }

    stands : (least : ℕ) (tree : Tree) → StandsFrom s least tree → StandsFrom t least tree
    stands least tree is = record {
      count = is.count;
      enough = is.enough;
      within = is.within;
      stands = record { folder = is.stands.folder; stands = is.stands.stands };
    }

    halted : IsHalted d v s → IsHalted d w t
    halted is = record {
      reads = reads is.reads;
      now = stands (length s.accepted) (tree_now d) is.now;
      images = λ tree i. stands s.durable tree (is.images tree i);
      files = is.files;
      synced = is.synced;
    }

    in_mode : (h : Option Halt) → (IsRunning d v s → AreHeldQuiet d v.dir pins × JobsBuild d v.dir pins t) → IsInMode h d v s
        → IsInMode h d w t
    in_mode None runs is = let has = runs is in running has.0 has.1 is
    in_mode (Some first) runs is = halted is

  -- The new pins fit those of the new state, and their files are there; while the store runs, no operation that a crash may
  -- undo touches a name that they hold, and their checkpoints are built.
  pub repinned_good : (good : Good v s) → ArePins (IsKeptPin t) pins of
      → All (λ (pin : Pin). PinFiles (state_of good.story) v.dir pin.files) of → IsCounted t
      → (IsRunning (state_of good.story) v s → AreHeldQuiet (state_of good.story) v.dir pins
      × JobsBuild (state_of good.story) v.dir pins t) → Good w t
  repinned_good good fit files counted runs = record {
    story = good.story;
    told = good.told;
    mode = in_mode (state_of good.story) v.halt runs good.mode;
    pinned = record { pins = fit; files = files };
    folders = record { now = good.folders.now; sure = good.folders.sure };
    clear = good.clear;
    counted = counted;
    kept = record {
      own = good.kept.own;
      sequence = good.kept.sequence;
      greatest_pin = refl;
      disables = refl;
      begun = good.kept.begun;
      halt = good.kept.halt;
    };
    counts = record { faults = good.counts.faults; refusals = good.counts.refusals };
  }
