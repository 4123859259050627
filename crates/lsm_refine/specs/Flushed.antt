-- What a flush makes of the parts of a store's folder, of what the store keeps of itself, and of a state.
use Rattle.std.specs.Prelude.{◌≡◌, ℕ, ◌≤◌, Bool, ◌==◌, if◌then◌else◌, List, [], ◌∷◌, ◌++◌, map, All, Contains, Some, None}
use Rattle.std.specs.List.{filter}
use Rattle.std.specs.Ordering.{nat_cmp}
use Rattle.std.specs.FinMap as finmap
use Rattle.lsm_names.specs.declared.file_names.FileName.TheVariants.{Table}
use Rattle.lsm_rows.specs.declared.rows.Row.{Row}
use Rattle.lsm_rows.specs.Contents.{newest}
use Rattle.lsm_block.specs.Parts.{last_key}
use Rattle.lsm_block.specs.TableText.{row_entry}
use Rattle.lsm_disk.specs.State as disk
use Rattle.lsm_disk.specs.State.{Seen}
use Rattle.lsm_disk.specs.Kept.{OpSpares}
use Rattle.lsm_disk.specs.Dest.{path_in}
use Rattle.lsm_disk.specs.Viewed.{Viewed}
use Rattle.lsm_version.specs.declared.edits.Edit.{Edit}
use Rattle.lsm_version.specs.declared.tables.Placed.{Placed}
use Rattle.lsm_version.specs.declared.tables.TableInfo.{TableInfo}
use Rattle.lsm_version.specs.Levels.{Tables}
use Rattle.lsm_folder.specs.Manifests.{tables_after, log_after, last_after}
use Rattle.lsm_folder.specs.Parts.{AreEdits}
use Rattle.lsm_model.specs.declared.states.State.{State}
use Rattle.lsm_refine.specs.Kept.{Unfinished, Kept, Shown}
use Rattle.lsm_refine.specs.Parts.{Parts}
use Rattle.lsm_refine.specs.Sane.{HasTable}
use Rattle.lsm_refine.specs.Tied.{live_table}
use Rattle.lsm_refine.specs.Good.{ViewsTell, with_counts}

-- ---- the table

-- the rows are some of the frozen ones, in their order, and each key's newest row is the same
pub record AreFlushed (frozen rows : List Row) : Type 0 where
  pub which : Row → Bool
  pub are : rows ≡ filter which frozen
  pub newest_is : (key : List ℕ) → newest key rows ≡ newest key frozen

-- an edit says of the table the keys of its first and its last row
pub record HasKeys (info : TableInfo) (rows : List Row) : Type 0 where
  pub smallest : (row : Row) (more : List Row) → rows ≡ row ∷ more → info.smallest ≡ (row_entry row).key
  pub largest : info.largest ≡ last_key (map row_entry rows)

-- this is the greatest sequence of the rows
pub record IsLastOf (last : ℕ) (rows : List Row) : Type 0 where
  pub row : Row
  pub among : Contains rows row
  pub is : row.sequence ≡ last
  pub most : All (λ (other : Row). other.sequence ≤ last) rows

-- ---- the edits

-- the table at level 0
abbrev pub at_top : TableInfo → Placed
at_top info = record { level = 0; info = info }

-- The edit adds the table at level 0 and drops none; it sets the log number, the next file number and the last sequence.
abbrev pub flush_edit : TableInfo → ℕ → ℕ → ℕ → Edit
flush_edit info log next last = record {
  log = Some log;
  next = Some next;
  last = Some last;
  adds = record { level = 0; table = info } ∷ [];
  drops = [];
}

-- These edits come to what the earlier ones do, with the table at level 0 besides, and with this log number and this last
-- sequence. They are the earlier ones with one more, or those of a new manifest.
pub record AddTable (before : List Edit) (info : TableInfo) (log last : ℕ) (edits : List Edit) : Type 0 where
  pub are : AreEdits edits
  pub tables : tables_after edits ≡ finmap.insert (tables_after before) info.number (at_top info)
  pub log_is : log_after edits ≡ log
  pub last_is : last_after edits ≡ last

-- ---- the parts

-- the rows of tables by their numbers, with those of one more
abbrev pub rows_with : ℕ → List Row → (ℕ → List Row) → ℕ → List Row
rows_with number new rows = λ k. if k == number then new else rows k

-- The folder has these edits and the rows of the table, and of the logs the last one alone.
abbrev pub flushed : List Edit → ℕ → List Row → Parts → Parts
flushed edits number new parts = record parts { edits = edits; rows = rows_with number new parts.rows; older = [] }

-- ---- the store

-- The table of the frozen rows is there for good with its rows, and no crash undoes anything at its name. Its number is no live
-- table's.
pub record HasFlushTable (d : disk.State) (dir : List ℕ) (kept : Kept) (info : TableInfo) (rows : List Row) : Type 0 where
  pub picked : AreFlushed kept.frozen rows
  pub keys : HasKeys info rows
  pub fresh : finmap.get kept.version info.number ≡ None
  pub sealed : HasTable d dir kept info.number (at_top info) rows
  pub quiet : All (OpSpares (path_in dir (Table info.number))) d.pending

-- the number is that of the last live log, and the sequence the greatest of the frozen rows
pub record EndsFrozen (kept : Kept) (log last : ℕ) : Type 0 where
  pub front : List ℕ
  pub logs : kept.logs ≡ front ++ log ∷ []
  pub greatest : IsLastOf last kept.frozen

-- what changes in the store besides: its version with the edit, the views that are open, and the tables that are still written
pub record Renewed : Type 0 where
  pub version : Tables
  pub views : finmap.FinMap nat_cmp Viewed
  pub unfinished : List Unfinished

-- The version is that of the edits. A view is one that was kept before, or tells what its file has; and each table that
-- is still written was so before.
pub record IsRenewed (d : disk.State) (v : Shown) (edits : List Edit) (renewed : Renewed) : Type 0 where
  pub version : renewed.version ≡ tables_after edits
  pub views : ViewsTell d v renewed.views
  pub unfinished : All (Contains v.kept.unfinished) renewed.unfinished

-- The store keeps the version with the table, and the edit's numbers. No row is frozen, of the logs the last one alone is live,
-- and no flush is under way.
abbrev pub flushed_kept : Renewed → ℕ → ℕ → ℕ → Kept → Kept
flushed_kept renewed log last len kept = record kept {
  version = renewed.version;
  views = renewed.views;
  log = log;
  last = last;
  frozen = [];
  logs = log ∷ [];
  older_len = 0;
  manifest_len = len;
  flushing = record { taken = 0; table = None };
  unfinished = renewed.unfinished;
}

-- what is seen of a store whose disk is seen so, and which keeps this
abbrev pub shown_with : Seen → Kept → Shown → Shown
shown_with seen kept v = record v { disk = seen; kept = kept }

-- The frozen batches are in a table.
abbrev pub flushed_state : Seen → Tables → ℕ → State → State
flushed_state seen version len s = with_counts seen (record s {
  frozen = 0;
  frozen_len = 0;
  tables = map live_table (finmap.entries version);
  manifest_len = len;
})
