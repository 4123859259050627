-- A good store that a disk call halts, which may have changed the disk at one file.
use Rattle.std.specs.Prelude.{◌≡◌, ℕ, ◌≤◌, List, length, All, Option, Some}
use Rattle.std.proofs.Common.{refl, arith}
use Rattle.lsm_rows.specs.declared.operations.Op.{Op}
use Rattle.lsm_rows.specs.declared.rows.Row.{Row}
use Rattle.lsm_disk.specs.State as disk
use Rattle.lsm_disk.specs.State.{Seen, Story, state_of}
use Rattle.lsm_disk.specs.Images.{Tree, IsImage, tree_now}
use Rattle.lsm_disk.specs.declared.calls.Halt.{Halt}
use Rattle.lsm_model.specs.declared.states.State.{State}
use Rattle.lsm_model.specs.declared.states.Pin.{Pin}
use Rattle.lsm_refine.specs.Kept.{Shown}
use Rattle.lsm_refine.specs.Pins.{AreClearable, PinFiles}
use Rattle.lsm_refine.specs.Sane.{HasTables, AreFiles, TablesAreSynced}
use Rattle.lsm_refine.specs.Folders.{StandsFrom, FoldersRead}
use Rattle.lsm_refine.specs.Good.{IsRunning, IsHalted, Good}
use Rattle.lsm_refine.specs.Grown.{IsLeftHalted, halted_shown, halted_state}
use Rattle.lsm_refine.proofs.PinnedLemmas.{pins_alike}
use Rattle.lsm_refine.proofs.ShownLemmas.{running_shown, running_active, running_order}

-- so many batches more are no fewer
pub stands_less : (s : State) (least fewer : ℕ) (t : Tree) → fewer ≤ least → StandsFrom s least t → StandsFrom s fewer t
stands_less s least fewer t less is = record {
  count = is.count;
  enough = omega (arith, is.enough, less);
  within = is.within;
  stands = is.stands;
}

-- a state with its own doubtful batch is itself
pub left_same : (x : disk.State) (v : Shown) (rows : ℕ → List Row) (s : State) → HasTables x v.dir v.kept rows
    → StandsFrom s (length s.accepted) (tree_now x)
    → ((t : Tree) → IsImage x t → StandsFrom s s.durable t) → All (λ (pin : Pin). PinFiles x v.dir pin.files) s.pins
    → FoldersRead x s → AreClearable x → AreFiles x v.dir → TablesAreSynced x v.dir → IsLeftHalted x v rows s s.doubtful
left_same x v rows s tables now images pinned folders clear files synced = record {
  tables = tables;
  now = same (length s.accepted) (tree_now x) now;
  images = λ t i. same s.durable t (images t i);
  files = files;
  synced = synced;
  pinned = pinned;
  folders = folders;
  clear = clear;
}
  where
    same : (least : ℕ) (t : Tree) → StandsFrom s least t → StandsFrom (record s { doubtful = s.doubtful }) least t
    same least t is = record {
      count = is.count;
      enough = is.enough;
      within = is.within;
      stands = record { folder = is.stands.folder; stands = is.stands.stands };
    }

module _ (v : Shown) (s : State) (good : Good v s) (run : IsRunning (state_of good.story) v s) (seen : Seen) (at : Halt)
    (doubtful : Option (List Op)) where
  abbrev t : State
  t = halted_state seen at doubtful s

  abbrev w : Shown
  w = halted_shown seen at v

  as_halted : (least : ℕ) (tree : Tree) → StandsFrom (record s { doubtful = doubtful }) least tree → StandsFrom t least tree
  as_halted least tree is = record {
    count = is.count;
    enough = is.enough;
    within = is.within;
    stands = record { folder = is.stands.folder; stands = is.stands.stands };
  }

  is_halted : (x : disk.State) → IsLeftHalted x v run.parts.rows s doubtful → IsHalted x w t
  is_halted x left =
      let order = running_order (state_of good.story) v s run in
      let active = running_active (state_of good.story) v s run in
      record {
        reads = record {
          rows = run.parts.rows;
          tables = left.tables;
          order = record {
            levels = order.levels;
            leveled = order.leveled;
            listed = order.listed;
            distinct = order.distinct;
            frozen = order.frozen;
            last = order.last;
          };
          shown = running_shown (state_of good.story) v s run;
          active = record { same = active.same; newest_is = active.newest_is };
        };
        now = as_halted (length s.accepted) (tree_now x) left.now;
        images = λ tree i. as_halted s.durable tree (left.images tree i);
        files = left.files;
        synced = left.synced;
      }

  -- it is good for the state that the call halted
  pub halts_good : (story : Story) → seen.told ≡ Some story → IsLeftHalted (state_of story) v run.parts.rows s doubtful
      → Good (halted_shown seen at v) (halted_state seen at doubtful s)
  halts_good story told left = record {
    story = story;
    told = told;
    mode = is_halted (state_of story) left;
    pinned = record { pins = pins_alike s t refl refl refl v.kept.pins s.pins good.pinned.pins; files = left.pinned };
    folders = record { now = left.folders.now; sure = left.folders.sure };
    clear = left.clear;
    counted = record {
      durable = good.counted.durable;
      numbers = good.counted.numbers;
      fronts = good.counted.fronts;
      begun = good.counted.begun;
    };
    kept = record {
      own = good.kept.own;
      sequence = good.kept.sequence;
      greatest_pin = good.kept.greatest_pin;
      disables = good.kept.disables;
      begun = good.kept.begun;
      halt = refl;
    };
    counts = record { faults = refl; refusals = refl };
  }
