-- What calls make of the parts of a store's folder, of what the store keeps of itself, and of a state.
use Rattle.std.specs.Prelude.{ℕ, ◌+◌, ◌<◌, Bool, List, [], ◌∷◌, ◌++◌, length, All, Option, Some}
use Rattle.lsm_names.specs.declared.file_names.FileName.{FileName}
use Rattle.lsm_names.specs.declared.file_names.FileName.TheVariants.{Log, Table, Manifest, Temp, Current}
use Rattle.lsm_rows.specs.declared.operations.Op.{Op}
use Rattle.lsm_rows.specs.declared.rows.Row.{Row}
use Rattle.lsm_disk.specs.State as disk
use Rattle.lsm_disk.specs.State.{Seen}
use Rattle.lsm_disk.specs.Images.{Tree, IsImage, tree_now}
use Rattle.lsm_disk.specs.declared.calls.Halt.{Halt}
use Rattle.lsm_wal.specs.Batches.{Logged, in_sequence}
use Rattle.lsm_wal.specs.Standing.{durable_after}
use Rattle.lsm_model.specs.declared.states.State.{State}
use Rattle.lsm_model.specs.declared.states.Pin.{Pin}
use Rattle.lsm_model.specs.Writes.{with_batch}
use Rattle.lsm_model.specs.Upkeep.{with_frozen}
use Rattle.lsm_refine.specs.Kept.{Kept, Shown}
use Rattle.lsm_refine.specs.Parts.{Parts, batches_in, logs_of, first_in_last}
use Rattle.lsm_refine.specs.Sane.{HasTables, AreFiles, TablesAreSynced}
use Rattle.lsm_refine.specs.Pins.{AreClearable, PinFiles}
use Rattle.lsm_refine.specs.Folders.{StandsFrom, FoldersRead}
use Rattle.lsm_refine.specs.Good.{with_counts, stopped}

-- ---- batches

-- how many of the accepted batches are synced, where this many are in the last log
abbrev pub sure_batches : ℕ → Parts → ℕ → ℕ
sure_batches flushed parts many = flushed + (length (batches_in parts.older) + many)

-- a batch as it comes next
abbrev pub next_batch : Kept → List Op → Logged
next_batch kept ops = record { first = kept.sequence + 1; ops = ops }

-- ---- a batch more

-- it stands in the last log, and with `sync` all of that log is synced
abbrev pub grown : List Op → Bool → Parts → Parts
grown ops sync parts = record parts {
  last = record { number = parts.last.number; batches = parts.last.batches ++ ops ∷ [] };
  synced = durable_after sync parts.synced (in_sequence (first_in_last parts) (parts.last.batches ++ ops ∷ []));
}

-- the store keeps these rows with it, and that its last log is so long
abbrev pub grown_kept : List Op → List Row → ℕ → Kept → Kept
grown_kept ops rows len kept = record kept { sequence = kept.sequence + length ops; active = rows; log_len = len }

abbrev pub grown_shown : Seen → List Op → List Row → ℕ → Shown → Shown
grown_shown seen ops rows len v = record v { disk = seen; kept = grown_kept ops rows len v.kept }

abbrev pub grown_state : Seen → List Op → Bool → ℕ → State → State
grown_state seen ops sync len s = with_counts seen (record (with_batch ops sync s) { active_len = len })

-- ---- the last log synced

abbrev pub synced_shown : Seen → Shown → Shown
synced_shown seen v = record v { disk = seen }

-- so many of the accepted batches are durable then
abbrev pub synced_state : Seen → ℕ → State → State
synced_state seen durable s = with_counts seen (record s { durable = durable })

-- ---- halted

abbrev pub halted_shown : Seen → Halt → Shown → Shown
halted_shown seen at v = record v { disk = seen; halt = Some at }

-- the state that a call halted, which perhaps left a doubtful batch
abbrev pub halted_state : Seen → Halt → Option (List Op) → State → State
halted_state seen at doubtful s = stopped at (with_counts seen (record s { doubtful = doubtful }))

-- What a halting call has left: the tables and the pinned files are there, and the other folders read as they did. The
-- store's own one stands for the accepted batches, and in each image for a front of them that has the durable ones; there
-- the doubtful one may come behind them. No folder stands under a file's name in it, and the tables that its manifest names
-- are synced.
pub record IsLeftHalted (x : disk.State) (v : Shown) (rows : ℕ → List Row) (s : State) (doubtful : Option (List Op)) : Type 0 where
  pub tables : HasTables x v.dir v.kept rows
  pub now : StandsFrom (record s { doubtful = doubtful }) (length s.accepted) (tree_now x)
  pub images : (t : Tree) → IsImage x t → StandsFrom (record s { doubtful = doubtful }) s.durable t
  pub files : AreFiles x v.dir
  pub synced : TablesAreSynced x v.dir
  pub pinned : All (λ (pin : Pin). PinFiles x v.dir pin.files) s.pins
  pub folders : FoldersRead x s
  pub clear : AreClearable x

-- ---- a new log behind the last one

-- the rows of the last log are frozen, and the new one, of this number, is empty
abbrev pub rolled : ℕ → Parts → Parts
rolled number parts = record parts { older = logs_of parts; last = record { number = number; batches = [] }; synced = 0 }

-- the name's number, if it has one, was drawn
abbrev pub IsDrawn : ℕ → FileName → Type 0
IsDrawn next (Log number) = number < next
IsDrawn next (Table number) = number < next
IsDrawn next (Manifest number) = number < next
IsDrawn next (Temp number) = number < next
IsDrawn next Current = Unit {0}

-- the new log has the next number
abbrev pub frozen_kept : Kept → Kept
frozen_kept kept = record kept {
  active = [];
  frozen = kept.active;
  logs = kept.logs ++ kept.next ∷ [];
  log_len = 0;
  older_len = kept.log_len;
  next = kept.next + 1;
  known = kept.known ++ Log kept.next ∷ [];
}

abbrev pub frozen_shown : Seen → Shown → Shown
frozen_shown seen v = record v { disk = seen; kept = frozen_kept v.kept }

-- all accepted batches are durable
abbrev pub frozen_state : Seen → State → State
frozen_state seen s = with_counts seen (record (with_frozen s) { durable = length s.accepted })
