-- When a store is good for a state of the abstract store.
use Rattle.std.specs.Prelude.{◌≡◌, ◌⊎◌, ℕ, ◌+◌, ◌-◌, ◌<◌, nat_eq, List, ◌++◌, take, length, All, Option, Some, None}
use Rattle.std.specs.List.{IsDistinct}
use Rattle.std.specs.Option.{option_map}
use Rattle.std.specs.Ordering.{nat_cmp}
use Rattle.std.specs.FinMap as finmap
use Rattle.lsm_rows.specs.declared.rows.Row.{Row}
use Rattle.lsm_rows.specs.Replay.{sequence_after}
use Rattle.lsm_rows.specs.Contents.{contents_of}
use Rattle.lsm_disk.specs.State as disk
use Rattle.lsm_disk.specs.State.{Seen, Story, state_of}
use Rattle.lsm_names.specs.declared.file_names.FileName.TheVariants.{Table}
use Rattle.lsm_disk.specs.Images.{Tree, IsImage, bytes_at, tree_now}
use Rattle.lsm_disk.specs.Viewed.{Viewed}
use Rattle.lsm_disk.specs.Dest.{Begun, path_in}
use Rattle.lsm_disk.specs.declared.calls.Halt.{Halt}
use Rattle.lsm_version.specs.declared.tables.Placed.{Placed}
use Rattle.lsm_version.specs.Levels.{IsLeveled}
use Rattle.lsm_version.specs.Orders.{AreLevels}
use Rattle.lsm_folder.specs.Needed.{IsAsListed, sequences}
use Rattle.lsm_folder.specs.Parts.{rows_of_tables}
use Rattle.lsm_model.specs.declared.states.State.{State}
use Rattle.lsm_model.specs.States.{contents_now, last_of, active_batches}
use Rattle.lsm_model.specs.Counts.{IsCounted}
use Rattle.lsm_model.specs.Steps.{Made, Run}
use Rattle.lsm_refine.specs.Kept.{Kept, Shown}
use Rattle.lsm_refine.specs.Parts.{Parts, AreRowsOf}
use Rattle.lsm_refine.specs.Sane.{Sane, HasTables, AreFiles, TablesAreSynced}
use Rattle.lsm_refine.specs.Tied.{Tied, WorksAs}
use Rattle.lsm_refine.specs.Pins.{AreClearable, Pinned, JobsBuild}
use Rattle.lsm_refine.specs.Folders.{StandsFrom, FoldersRead}

-- ---- by mode

-- While nothing has halted the store, what it keeps is so on the disk, its parts have the state's batches, and its
-- checkpoints are built as far as the state says. No batch is doubtful.
pub record IsRunning (d : disk.State) (v : Shown) (s : State) : Type 0 where
  pub parts : Parts
  pub sane : Sane d v.dir v.kept parts
  pub tied : Tied parts s
  pub works : WorksAs v.kept parts s
  pub jobs : JobsBuild d v.dir v.kept.pins s
  pub certain : s.doubtful ≡ None

-- the rows that readings go through: those of the tables that are kept, and those in memory
abbrev pub rows_kept : Kept → (ℕ → List Row) → List Row
rows_kept kept rows = rows_of_tables kept.version rows ++ (kept.frozen ++ kept.active)

-- the first sequence of the active batches
abbrev pub first_active : State → ℕ
first_active s = sequence_after s.began (take (length s.accepted - s.active) s.accepted) + 1

-- A reading may stop at the first level at which it meets a row of the key: tables stand at the seven levels, these are in
-- order, tables are as the version lists them, no two of their rows have one sequence, and they come before the frozen ones,
-- which come before the first active sequence.
pub record AreInOrder (kept : Kept) (rows : ℕ → List Row) (first : ℕ) : Type 0 where
  pub levels : AreLevels kept.version
  pub leveled : IsLeveled kept.version rows
  pub listed : (number : ℕ) (placed : Placed) → finmap.get kept.version number ≡ Some placed
      → IsAsListed placed.info (rows number) kept.last
  pub distinct : IsDistinct nat_eq (sequences (rows_of_tables kept.version rows))
  pub frozen : All (λ (row : Row). (kept.last < row.sequence) × (row.sequence < first)) kept.frozen
  pub last : kept.last < first

-- What readings go through shows the accepted batches: the live tables are there and in order, their rows and those in memory
-- stand for these batches, and the active rows are those of the active ones.
pub record ShowsAccepted (d : disk.State) (v : Shown) (s : State) : Type 0 where
  pub rows : ℕ → List Row
  pub tables : HasTables d v.dir v.kept rows
  pub order : AreInOrder v.kept rows (first_active s)
  pub shown : contents_of (rows_kept v.kept rows) ≡ contents_now s
  pub active : AreRowsOf (first_active s) (active_batches s) v.kept.active

-- Once a disk call has halted it, readings still show the accepted batches; its folder stands for these, or for these and the
-- doubtful one; and in each image for a front of them that has the durable ones. No folder stands under a file's name, and
-- the tables that the folder's manifest names are synced.
pub record IsHalted (d : disk.State) (v : Shown) (s : State) : Type 0 where
  pub reads : ShowsAccepted d v s
  pub now : StandsFrom s (length s.accepted) (tree_now d)
  pub images : (t : Tree) → IsImage d t → StandsFrom s s.durable t
  pub files : AreFiles d v.dir
  pub synced : TablesAreSynced d v.dir

abbrev pub IsInMode : Option Halt → disk.State → Shown → State → Type 0
IsInMode None d v s = IsRunning d v s
IsInMode (Some first) d v s = IsHalted d v s

-- ---- in each mode

-- what a store keeps beside its folder, its pins and its work is the state's
pub record KeptIs (v : Shown) (s : State) : Type 0 where
  pub own : v.dir ≡ s.own
  pub sequence : v.kept.sequence ≡ last_of s
  pub greatest_pin : v.kept.greatest_pin ≡ s.greatest_pin
  pub disables : v.kept.disables ≡ s.disables
  pub begun : option_map (λ (begun : Begun). begun.folder) v.kept.begun ≡ s.begun
  pub halt : v.halt ≡ s.halt

-- the state's counts are the disk's
pub record CountsAre (v : Shown) (s : State) : Type 0 where
  pub faults : v.disk.faults ≡ s.faults
  pub refusals : v.disk.refusals ≡ s.refusals

-- A store is good for a state: its disk tells a story, and what the store keeps and what its disk has now and after each
-- crash is as the state says; the state's counts go with its lists; and a checkpoint may be built. Of a disk that doesn't tell
-- nothing is so.
pub record Good (v : Shown) (s : State) : Type 0 where
  pub story : Story
  pub told : v.disk.told ≡ Some story
  pub mode : IsInMode v.halt (state_of story) v s
  pub pinned : Pinned (state_of story) v.dir v.kept.pins s
  pub folders : FoldersRead (state_of story) s
  pub clear : AreClearable (state_of story)
  pub counted : IsCounted s
  pub kept : KeptIs v s
  pub counts : CountsAre v s

-- These calls with their answers, events and a restore's calls, lead from the start to what is seen of a store: they are a run
-- to a state for which the store is good.
pub record Leads (start : State) (steps : List Made) (v : Shown) : Type 0 where
  pub end : State
  pub run : Run start steps end
  pub good : Good v end

-- ---- where nothing happened

-- each view of a table is one that was kept before, or tells what the file has
abbrev pub ViewsTell : disk.State → Shown → finmap.FinMap nat_cmp Viewed → Type 0
ViewsTell d v views = (number : ℕ) (view : Viewed) → finmap.get views number ≡ Some view
    → (finmap.get v.kept.views number ≡ Some view) ⊎ (view.bytes ≡ bytes_at (tree_now d) (path_in v.dir (Table number)))

-- nothing has changed but the disk's counts and its clock, the views that are open, and perhaps the halting call
pub record IsUnchanged (story : Story) (v w : Shown) : Type 0 where
  pub later : Story
  pub told : w.disk.told ≡ Some later
  pub state : state_of later ≡ state_of story
  pub dir : w.dir ≡ v.dir
  pub kept : w.kept ≡ record v.kept { views = w.kept.views }
  pub views : ViewsTell (state_of story) v w.kept.views

-- the state with a disk's counts
abbrev pub with_counts : Seen → State → State
with_counts seen s = record s { faults = seen.faults; refusals = seen.refusals }

-- the state that this call halted
abbrev pub stopped : Halt → State → State
stopped first s = record s { halt = Some first }
