-- What a store's tables have on its disk; and that a store stays good where views of them are closed, or opened over what
-- the files have.
use Rattle.std.specs.Prelude.{◌≡◌, ℕ, List, Option, Some, None}
use Rattle.std.proofs.Common.{◌∙◌, inl, inr, ⊎_elim}
use Rattle.std.specs.Ordering.{nat_cmp}
use Rattle.std.specs.FinMap as finmap
use Rattle.lsm_names.specs.declared.file_names.FileName.{FileName}
use Rattle.lsm_names.specs.declared.file_names.FileName.TheVariants.{Log, Table, Manifest, Temp, Current}
use Rattle.lsm_rows.specs.declared.rows.Row.{Row}
use Rattle.lsm_disk.specs.State as disk
use Rattle.lsm_disk.specs.State.{state_of}
use Rattle.lsm_disk.specs.Images.{tree_now}
use Rattle.lsm_disk.specs.Dest.{path_in}
use Rattle.lsm_disk.specs.Viewed.{Viewed}
use Rattle.lsm_disk.specs.declared.calls.Halt.{Halt}
use Rattle.lsm_disk.proofs.Images.{reads_image}
use Rattle.lsm_version.specs.declared.tables.Placed.{Placed}
use Rattle.lsm_model.specs.declared.states.State.{State}
use Rattle.lsm_refine.specs.Kept.{Kept, Shown}
use Rattle.lsm_refine.specs.Parts.{Parts}
use Rattle.lsm_refine.specs.Sane.{IsNeeded, HasTable, HasTables, Sane}
use Rattle.lsm_refine.specs.Good.{ViewsTell, ShowsAccepted, IsRunning, IsHalted, IsInMode, Good}
use Rattle.lsm_refine.proofs.FileLemmas.{whole_image}

module _ (d : disk.State) (v : Shown) (views : finmap.FinMap nat_cmp Viewed) (tell : ViewsTell d v views) where
  abbrev k : Kept
  k = record v.kept { views = views }

  abbrev w : Shown
  w = record v { kept = k }

  -- each view of a live table tells what its file has
  view_tells : (number : ℕ) (placed : Placed) (rows : List Row) (table : HasTable d v.dir v.kept number placed rows)
      (view : Viewed) → finmap.get views number ≡ Some view
      → view.bytes ≡ Some table.bytes
  view_tells number placed rows table view is = ⊎_elim
      (λ old. table.viewed view old)
      (λ new. new ∙ whole_image d (path_in v.dir (Table number)) table.bytes table.file (tree_now d) (reads_image d))
      (tell number view is)

  tables : (rows : ℕ → List Row) → HasTables d v.dir v.kept rows → HasTables d v.dir k rows
  tables rows has = record {
    each = λ number placed found. let table = has.each number placed found in
        record {
          numbered = table.numbered;
          bytes = table.bytes;
          file = table.file;
          table = table.table;
          size = table.size;
          viewed = view_tells number placed (rows number) table;
        };
  }

  -- the same names are needed
  needed : (name : FileName) → IsNeeded k name → IsNeeded v.kept name
  needed Current is = is
  needed (Manifest number) is = is
  needed (Table number) is = is
  needed (Log number) is = is
  needed (Temp number) is = is

  sane : (parts : Parts) → Sane d v.dir v.kept parts → Sane d v.dir k parts
  sane parts is = record {
    current = record { named = is.current.named; folder = is.current.folder; numbered = is.current.numbered; file = is.current.file };
    edits = record {
      are = is.edits.are;
      file = is.edits.file;
      len = is.edits.len;
      version = is.edits.version;
      log = is.edits.log;
      last = is.edits.last;
    };
    tables = tables parts.rows is.tables;
    logs = record {
      numbers = is.logs.numbers;
      ascend = is.logs.ascend;
      live = is.logs.live;
      older = is.logs.older;
      last = is.logs.last;
      only = is.logs.only;
      frozen = is.logs.frozen;
      active = is.logs.active;
    };
    quiet = record { spares = λ name fits held. is.quiet.spares name fits (⊎_elim (λ n. inl (needed name n)) (λ p. inr p) held) };
    known = record { there = is.known.there; all = is.known.all };
    files = is.files;
    lawful = is.lawful;
    written = record { tables = is.written.tables; alone = is.written.alone };
    restored = is.restored;
  }

  running : (s : State) → IsRunning d v s → IsRunning d w s
  running s is = record {
    parts = is.parts;
    sane = sane is.parts is.sane;
    tied = is.tied;
    works = record {
      active = is.works.active;
      frozen = is.works.frozen;
      log_len = is.works.log_len;
      older_len = is.works.older_len;
      active_len = is.works.active_len;
      frozen_len = is.works.frozen_len;
      tables = is.works.tables;
      merging = is.works.merging;
      outputs = is.works.outputs;
      next = is.works.next;
      manifest_len = is.works.manifest_len;
    };
    jobs = is.jobs;
    certain = is.certain;
  }

  reads : (s : State) → ShowsAccepted d v s → ShowsAccepted d w s
  reads s is = record {
    rows = is.rows;
    tables = tables is.rows is.tables;
    order = record {
      levels = is.order.levels;
      leveled = is.order.leveled;
      listed = is.order.listed;
      distinct = is.order.distinct;
      frozen = is.order.frozen;
      last = is.order.last;
    };
    shown = is.shown;
    active = is.active;
  }

  halted : (s : State) → IsHalted d v s → IsHalted d w s
  halted s is = record {
    reads = reads s is.reads;
    now = is.now;
    images = is.images;
    files = is.files;
    synced = is.synced;
  }

  pub in_mode : (h : Option Halt) (s : State) → IsInMode h d v s → IsInMode h d w s
  in_mode None s is = running s is
  in_mode (Some first) s is = halted s is

-- the store with these views is good
abbrev pub viewed_good : (v : Shown) (s : State) (good : Good v s) (views : finmap.FinMap nat_cmp Viewed)
    → ViewsTell (state_of good.story) v views
    → Good (record v { kept = record v.kept { views = views } }) s
viewed_good v s good views tell = record {
  story = good.story;
  told = good.told;
  mode = in_mode (state_of good.story) v views tell v.halt s good.mode;
  pinned = good.pinned;
  folders = good.folders;
  clear = good.clear;
  counted = good.counted;
  kept = record {
    own = good.kept.own;
    sequence = good.kept.sequence;
    greatest_pin = good.kept.greatest_pin;
    disables = good.kept.disables;
    begun = good.kept.begun;
    halt = good.kept.halt;
  };
  counts = record { faults = good.counts.faults; refusals = good.counts.refusals };
}
