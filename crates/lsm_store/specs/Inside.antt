-- What a store holds, what contracts see of it, and what is so of every store.
use Rattle.std.specs.Prelude.{◌≡◌, ℕ, ◌+◌, ◌^◌, ◌<◌, ◌≤◌, true, is_some, List, [], ◌∷◌, ◌++◌, length, All, Option, Some, None}
use Rattle.std.specs.FinMap as finmap
use Rattle.lsm_names.specs.FileNames.{IsFileName}
use Rattle.lsm_names.specs.declared.file_names.FileName.{FileName}
use Rattle.lsm_names.specs.declared.file_names.FileName.TheVariants.{Log, Manifest}
use Rattle.lsm_rows.specs.declared.rows.Row.{Row}
use Rattle.lsm_rows.specs.Contents.{AllBefore}
use Rattle.lsm_rows.specs.Limits.{key_limit}
use Rattle.lsm_disk.specs.State.{Seen}
use Rattle.lsm_disk.specs.Dest.{Begun, path_in}
use Rattle.lsm_disk.specs.declared.calls.Halt.{Halt}
use Rattle.lsm_wal.specs.Shown as wal
use Rattle.lsm_manifest.specs.Shown as manifest
use Rattle.lsm_version.specs.Edits.{IsFileNumber}
use Rattle.lsm_version.specs.Levels.{Tables}
use Rattle.lsm_flush.specs.declared.frozen.Held.{Held}
use Rattle.lsm_flush.specs.declared.frozen.Held.TheVariants.{Rows, Table}
use Rattle.lsm_flush.specs.Frozen.{rows_of}
use Rattle.lsm_flush.specs.Writing.{in_file, given}
use Rattle.lsm_refine.specs.Kept.{Unfinished, Flushing, KeptPin, Kept, Shown}
use Rattle.lsm_refine.specs.Grown.{IsDrawn}
use Rattle.lsm_refine.specs.Within.{IsNamedJob}

-- the number of the log of the frozen rows, if there is one
abbrev pub older_logs : Option ℕ → List ℕ
older_logs None = []
older_logs (Some log) = log ∷ []

-- how far the flush of these rows came
abbrev pub flushing_of : Held → Flushing
flushing_of (Rows rows) = record { taken = 0; table = None }
flushing_of (Table w) = record { taken = in_file w; table = Some w.number }

-- the table that they are written to, with the bytes that its file was given
abbrev pub unfinished_of : Held → List Unfinished
unfinished_of (Rows rows) = []
unfinished_of (Table w) = record { number = w.number; bytes = given w } ∷ []

-- What a store holds: the disk, its folder, the last log with its number, the older log with its
-- length, the rows in memory, the last sequence, the next number, the known names, the halting
-- call, the manifest, the catalog, and the folder that a restore builds with the file in hand.
pub record Inner : Type 0 where
  pub disk : Seen
  pub home : List ℕ
  pub wal : wal.Shown
  pub log : ℕ
  pub older : Option ℕ
  pub older_len : ℕ
  pub active : List Row
  pub frozen : Held
  pub sequence : ℕ
  pub next : ℕ
  pub known : List FileName
  pub halt : Option Halt
  pub manifest : manifest.Shown
  pub catalog : Kept
  pub begun : Option Begun
  pub hand : Option FileName

-- what contracts see of it
abbrev pub shown_of : Inner → Shown
shown_of s = record {
  disk = s.disk;
  dir = s.home;
  kept = record s.catalog {
    sequence = s.sequence;
    active = s.active;
    frozen = rows_of s.frozen;
    logs = older_logs s.older ++ s.log ∷ [];
    log_len = s.wal.len;
    older_len = s.older_len;
    manifest = s.manifest.number;
    manifest_len = s.manifest.len;
    next = s.next;
    known = s.known;
    flushing = flushing_of s.frozen;
    unfinished = unfinished_of s.frozen;
    begun = s.begun;
    hand = s.hand;
  };
  halt = s.halt;
}

-- a table of the frozen rows is begun
abbrev pub HasBegunTable : Kept → Type 0
HasBegunTable kept = (number : ℕ) × (kept.flushing.table ≡ Some number)

-- the row's key is within its limit
abbrev pub HasShortKey : Row → Type 0
HasShortKey row = length row.key ≤ key_limit

-- the table that the frozen rows are written to has a number that was drawn, and isn't live
abbrev pub IsNewTable : ℕ → Tables → Held → Type 0
IsNewTable next tables (Rows rows) = Unit {0}
IsNewTable next tables (Table w) = IsFileNumber w.number × (w.number < next) × (finmap.get tables w.number ≡ None)

-- What a flush stands on: the log has a file's number; rows in memory have keys that an edit may say; live tables have numbers
-- that were drawn, and the table under way is none of them.
pub record CanFlush (next log : ℕ) (active : List Row) (frozen : Held) (tables : Tables) : Type 0 where
  pub log_number : IsFileNumber log
  pub active_keys : All HasShortKey active
  pub frozen_keys : All HasShortKey (rows_of frozen)
  pub below : (number : ℕ) → is_some (finmap.get tables number) ≡ true → number < next
  pub table : IsNewTable next tables frozen

-- The log's file is that of its number, and the manifest's that of its own. The active rows are
-- older than the next sequence, which is at most one past the last. All known names are files' and
-- have numbers that were drawn, where no rows are frozen there is one log, frozen rows can be
-- flushed, and the folders of checkpoints under way have folders' names.
pub record IsInside (s : Inner) : Type 0 where
  pub path_is : s.wal.path ≡ path_in s.home (Log s.log)
  pub manifest_in : s.manifest.dir ≡ s.home
  pub manifest_is : s.manifest.path ≡ path_in s.home (Manifest s.manifest.number)
  pub before : AllBefore (s.sequence + 1) s.active
  pub small : s.sequence < 2 ^ 56
  pub one : rows_of s.frozen ≡ [] → s.older ≡ None
  pub drawn : 1 ≤ s.next
  pub most : s.next < 2 ^ 56
  pub below : All (IsDrawn s.next) s.known
  pub fit : All IsFileName s.known
  pub flush : CanFlush s.next s.log s.active s.frozen s.catalog.version
  pub jobs : All (λ (pin : KeptPin). IsNamedJob pin.job) s.catalog.pins
