-- A table that is made of rows.
use Rattle.std.specs.Prelude.{◌≡◌, ℕ, ◌<◌, List, [], ◌∷◌, length, map, Option, Some, None}
use Rattle.lsm_names.specs.declared.file_names.FileName.TheVariants.{Table}
use Rattle.lsm_rows.specs.declared.rows.Row.{Row}
use Rattle.lsm_block.specs.Parts.{last_key}
use Rattle.lsm_block.specs.TableText.{row_entry, table_text}
use Rattle.lsm_disk.specs.State.{State, Story}
use Rattle.lsm_disk.specs.Dest.{path_in}
use Rattle.lsm_table.specs.WholeTables.{IsTable}
use Rattle.lsm_table.specs.declared.building.Finished.{Finished}
use Rattle.lsm_version.specs.declared.tables.TableInfo.{TableInfo}
use Rattle.lsm_version.specs.Edits as version
use Rattle.lsm_memtable.specs.Flushes.{Flushing, bytes_of}
use Rattle.lsm_memtable.specs.Joining.{AreJoined}
use Rattle.lsm_memtable.specs.Newest.{newest_each}
use Rattle.lsm_refine.specs.FoundFolder.{NewTable, IsTableFile}
use Rattle.lsm_refine.specs.Flushed.{HasKeys}
use Rattle.lsm_opening.specs.RowFiles.{WritesFile}

-- the bytes of a flush's table
abbrev pub flushed_text : Flushing → List ℕ
flushed_text f = table_text (newest_each f.rows) f.number f.session

-- a finished table of the newest rows, and what it says of itself: its size, and the keys of its first and its last row
pub record IsEndOf (f : Flushing) (last : Finished) : Type 0 where
  pub size : last.size ≡ length (flushed_text f)
  pub table : IsTable (flushed_text f) (newest_each f.rows) f.number f.session
  pub smallest : (row : Row) (more : List Row) → newest_each f.rows ≡ row ∷ more → last.smallest ≡ (row_entry row).key
  pub largest : last.largest ≡ last_key (map row_entry (newest_each f.rows))

-- the bytes of a flush's table up to the rows that were taken, or all of them
abbrev pub bytes_with : Flushing → Flushing → Option Finished → List ℕ
bytes_with f now None = bytes_of (newest_each f.rows) now.taken
bytes_with f now (Some last) = flushed_text f

-- more of the table's rows were taken, and some are left; or the table has ended
abbrev pub IsStepped : Flushing → Flushing → Option Finished → Type 0
IsStepped f now None = (f.taken < now.taken) × (now.taken < length (newest_each f.rows))
IsStepped f now (Some last) = IsEndOf f last

-- the flush is of the same rows into the same table
pub record IsSameFlush (f now : Flushing) : Type 0 where
  pub rows : now.rows ≡ f.rows
  pub number : now.number ≡ f.number
  pub session : now.session ≡ f.session

-- a table of each key's newest row among these
abbrev pub newest_table : TableInfo → List Row → NewTable
newest_table info rows = record { info = info; rows = newest_each rows }

-- The rows, in their order in memory, are in a table of this number, each key's newest, and what is said of it an edit may say.
-- Where the disk tells, nothing has come but the table's file, which is there for good.
pub record HasRowTable (dir : List ℕ) (rows : List Row) (number : ℕ) (old new : Option Story)
    (info : TableInfo) : Type 0 where
  pub frozen : List Row
  pub joined : AreJoined [] rows frozen
  pub keys : HasKeys info (newest_each frozen)
  pub said : version.IsTable info
  pub number_is : info.number ≡ number
  pub there : (start : Story) → old ≡ Some start → WritesFile (path_in dir (Table number)) start new
      (λ (x : State). IsTableFile x dir (newest_table info frozen) × (x.pending ≡ []))
