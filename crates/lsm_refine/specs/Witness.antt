-- A store that has something in each place: a live table, an older log, the last log, a file that isn't needed, and a pin of
-- the caller's. All is synced. So good stores are not new ones alone. And what the next opening of its folder may leave.
use Rattle.std.specs.Prelude.{ℕ, ◌%◌, ◌==◌, if◌then◌else◌, List, [], ◌∷◌, map, length, codes, Some, None}
use Rattle.std.specs.FinMap as finmap
use Rattle.lsm_names.specs.declared.file_names.FileName.TheVariants.{Log, Table, Manifest, Current}
use Rattle.lsm_rows.specs.declared.operations.Op.{Op}
use Rattle.lsm_rows.specs.declared.operations.Op.TheVariants.{Put}
use Rattle.lsm_rows.specs.declared.rows.Row.{Row}
use Rattle.lsm_rows.specs.Rows.{rows_of}
use Rattle.lsm_disk.specs.State as disk
use Rattle.lsm_disk.specs.State.{Change, Appended, Synced, Created, Names_synced}
use Rattle.lsm_disk.specs.Dest.{path_in}
use Rattle.lsm_disk.specs.Building.{Part, names_of}
use Rattle.lsm_block.specs.TableText.{row_entry, table_text}
use Rattle.lsm_frame.specs.Frames.{record_text}
use Rattle.lsm_wal.specs.Batches.{in_sequence, wal_text}
use Rattle.lsm_folder.specs.Names.{current_text}
use Rattle.lsm_version.specs.EditText.{edit_text}
use Rattle.lsm_version.specs.declared.edits.Edit.{Edit}
use Rattle.lsm_version.specs.declared.tables.TableInfo.{TableInfo}
use Rattle.lsm_version.specs.declared.tables.Placed.{Placed}
use Rattle.lsm_version.specs.Levels.{Tables}
use Rattle.lsm_version.specs.Versions.{empty_version}
use Rattle.lsm_folder.specs.Manifests.{manifest_text}
use Rattle.lsm_model.specs.declared.states.State.{State}
use Rattle.lsm_model.specs.declared.states.PinnedFile.{PinnedFile}
use Rattle.lsm_model.specs.declared.states.FolderRead.{FolderRead}
use Rattle.lsm_model.specs.declared.states.Holder.TheVariants.{Caller}
use Rattle.lsm_model.specs.Pins.{held}
use Rattle.lsm_model.specs.Plain.{empty_state}
use Rattle.lsm_refine.specs.Disks.{folder_disk, as_seen}
use Rattle.lsm_refine.specs.Kept.{KeptPin, Kept, Shown}
use Rattle.lsm_refine.specs.Parts.{Parts}
use Rattle.lsm_refine.specs.Tied.{live_table}

-- ---- three batches, each of one put

abbrev pub one_put : ℕ → ℕ → List Op
one_put key value = Put (key ∷ []) (value ∷ []) ∷ []

-- `put a 1` is in the table, `put b 2` in the older log, and `put c 3` in the last one
abbrev pub tabled : List Op
tabled = one_put 97 49

abbrev pub older : List Op
older = one_put 98 50

abbrev pub newer : List Op
newer = one_put 99 51

-- ---- the files

abbrev pub its_session : List ℕ
its_session = codes "0123456789ABCDEFGHIJ"

abbrev pub its_row : Row
its_row = record { key = 97 ∷ []; sequence = 1; value = Some (49 ∷ []) }

unfoldable pub its_table : List ℕ
its_table = table_text (its_row ∷ []) 3 its_session

unfoldable pub older_log : List ℕ
older_log = wal_text (in_sequence 2 (older ∷ []))

unfoldable pub last_log : List ℕ
last_log = wal_text (in_sequence 3 (newer ∷ []))

abbrev pub older_row : Row
older_row = record { key = 98 ∷ []; sequence = 2; value = Some (50 ∷ []) }

abbrev pub newer_row : Row
newer_row = record { key = 99 ∷ []; sequence = 3; value = Some (51 ∷ []) }

-- An earlier flush wrote a table of the logs' rows, and was cut off before an edit had it: no version has this table yet.
unfoldable pub next_table : List ℕ
next_table = table_text (older_row ∷ newer_row ∷ []) 6 its_session

abbrev pub its_info : TableInfo
its_info = record {
  number = 3;
  session = its_session;
  size = length its_table;
  smallest = (row_entry its_row).key;
  largest = (row_entry its_row).key;
}

abbrev pub its_placed : Placed
its_placed = record { level = 0; info = its_info }

-- the manifest's one edit
abbrev pub its_edit : Edit
its_edit = record { log = Some 4; next = Some 6; last = Some 1; adds = (record { level = 0; table = its_info }) ∷ []; drops = [] }

unfoldable pub its_manifest : List ℕ
its_manifest = manifest_text (its_edit ∷ [])

abbrev pub its_files : List Part
its_files =
    (record { name = Current; bytes = current_text 1 })
    ∷ (record { name = Table 3; bytes = its_table })
    ∷ (record { name = Log 4; bytes = older_log })
    ∷ (record { name = Log 5; bytes = last_log })
    ∷ (record { name = Table 6; bytes = next_table })
    ∷ (record { name = Manifest 1; bytes = its_manifest })
    ∷ []

abbrev pub its_disk : List ℕ → disk.State
its_disk dir = folder_disk dir its_files

-- ---- what the store keeps

abbrev pub its_version : Tables
its_version = finmap.insert empty_version 3 its_placed

abbrev pub its_parts : Parts
its_parts = record {
  edits = its_edit ∷ [];
  rows = λ number. its_row ∷ [];
  older = (record { number = 4; batches = older ∷ [] }) ∷ [];
  last = record { number = 5; batches = newer ∷ [] };
  synced = 1;
}

-- the pin's files, in the order in which a cut lists them
abbrev pub pinned_files : List PinnedFile
pinned_files =
    (record { name = Table 3; bytes = its_table })
    ∷ (record { name = Log 4; bytes = older_log })
    ∷ (record { name = Log 5; bytes = last_log })
    ∷ (record { name = Manifest 1; bytes = its_manifest })
    ∷ []

abbrev pub its_pin : KeptPin
its_pin = record { number = 1; sequence = 3; manifest = 1; files = map held pinned_files; job = None }

abbrev pub its_kept : Kept
its_kept = record {
  version = its_version;
  views = finmap.empty;
  log = 4;
  last = 1;
  sequence = 3;
  active = rows_of 3 (newer ∷ []);
  frozen = rows_of 2 (older ∷ []);
  logs = 4 ∷ 5 ∷ [];
  log_len = length last_log;
  older_len = length older_log;
  manifest = 1;
  manifest_len = length its_manifest;
  next = 7;
  known = names_of its_files;
  pins = its_pin ∷ [];
  greatest_pin = 1;
  disables = 0;
  flushing = record { taken = 0; table = None };
  unfinished = [];
  merging = None;
  merge_level = 0;
  outputs = 0;
  merged = 0;
  begun = None;
  hand = None;
}

abbrev pub its_store : List ℕ → Shown
its_store dir = record { disk = as_seen (its_disk dir); dir = dir; kept = its_kept; halt = None }

-- ---- its state, with these other folders

abbrev pub its_state : List ℕ → List FolderRead → State
its_state dir folders = record (empty_state dir) {
  accepted = tabled ∷ older ∷ newer ∷ [];
  durable = 3;
  pins = (record { number = 1; batches = 3; manifest = 1; files = pinned_files; holder = Caller }) ∷ [];
  greatest_pin = 1;
  folders = folders;
  active = 1;
  frozen = 1;
  active_len = length last_log;
  frozen_len = length older_log;
  tables = live_table (3, its_placed) ∷ [];
  next = 7;
  manifest_len = length its_manifest;
}

-- ---- the next opening: it adds the table of the logs' rows to the manifest, and begins a new log

abbrev pub next_info : TableInfo
next_info = record {
  number = 6;
  session = its_session;
  size = length next_table;
  smallest = (row_entry older_row).key;
  largest = (row_entry newer_row).key;
}

abbrev pub next_placed : Placed
next_placed = record { level = 0; info = next_info }

abbrev pub next_edit : Edit
next_edit = record { log = Some 7; next = Some 8; last = Some 3; adds = (record { level = 0; table = next_info }) ∷ []; drops = [] }

-- what is added to the manifest
unfoldable pub added_record : List ℕ
added_record = record_text (length its_manifest % 32768) (edit_text next_edit)

unfoldable pub next_manifest : List ℕ
next_manifest = manifest_text (its_edit ∷ next_edit ∷ [])

abbrev pub next_files : List Part
next_files =
    (record { name = Current; bytes = current_text 1 })
    ∷ (record { name = Table 3; bytes = its_table })
    ∷ (record { name = Log 4; bytes = older_log })
    ∷ (record { name = Log 5; bytes = last_log })
    ∷ (record { name = Table 6; bytes = next_table })
    ∷ (record { name = Manifest 1; bytes = next_manifest })
    ∷ (record { name = Log 7; bytes = [] })
    ∷ []

-- the changes of the disk
abbrev pub next_changes : List ℕ → List Change
next_changes dir = Appended 5 added_record ∷ Synced 5 ∷ Created (path_in dir (Log 7)) ∷ Names_synced ∷ []

abbrev pub next_version : Tables
next_version = finmap.insert its_version 6 next_placed

abbrev pub next_parts : Parts
next_parts = record {
  edits = its_edit ∷ next_edit ∷ [];
  rows = λ number. if number == 3 then its_row ∷ [] else older_row ∷ newer_row ∷ [];
  older = [];
  last = record { number = 7; batches = [] };
  synced = 0;
}

abbrev pub next_kept : Kept
next_kept = record {
  version = next_version;
  views = finmap.empty;
  log = 7;
  last = 3;
  sequence = 3;
  active = [];
  frozen = [];
  logs = 7 ∷ [];
  log_len = 0;
  older_len = 0;
  manifest = 1;
  manifest_len = length next_manifest;
  next = 8;
  known = names_of next_files;
  pins = [];
  greatest_pin = 0;
  disables = 0;
  flushing = record { taken = 0; table = None };
  unfinished = [];
  merging = None;
  merge_level = 0;
  outputs = 0;
  merged = 0;
  begun = None;
  hand = None;
}

abbrev pub next_store : List ℕ → Shown
next_store dir = record {
  disk = record { told = Some (record { start = its_disk dir; log = next_changes dir }); faults = 0; refusals = 0 };
  dir = dir;
  kept = next_kept;
  halt = None;
}
