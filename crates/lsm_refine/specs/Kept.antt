-- What contracts see of a store: what is seen of its disk, its folder, what it keeps of itself, and the call that halted it.
use Rattle.std.specs.Prelude.{ℕ, Bool, List, Option}
use Rattle.std.specs.Ordering.{nat_cmp}
use Rattle.std.specs.FinMap as finmap
use Rattle.lsm_names.specs.declared.file_names.FileName.{FileName}
use Rattle.lsm_rows.specs.declared.rows.Row.{Row}
use Rattle.lsm_disk.specs.State.{Seen}
use Rattle.lsm_disk.specs.Dest.{Begun}
use Rattle.lsm_disk.specs.Viewed.{Viewed}
use Rattle.lsm_disk.specs.declared.calls.Halt.{Halt}
use Rattle.lsm_version.specs.declared.tables.Place.{Place}
use Rattle.lsm_version.specs.Levels.{Tables}

-- A checkpoint under way: the folder that it builds, how many of its pin's files aren't whole there, whether the first of
-- these was made, and how many of its bytes were copied.
pub record Job : Type 0 where
  pub dir : List ℕ
  pub left : ℕ
  pub made : Bool
  pub copied : ℕ

-- a pin: its number, its last sequence, the manifest that its CURRENT names, its files with how many of their bytes are the
-- pin's, and the checkpoint that it belongs to
pub record KeptPin : Type 0 where
  pub number : ℕ
  pub sequence : ℕ
  pub manifest : ℕ
  pub files : List (FileName × ℕ)
  pub job : Option Job

-- a table that a flush or a compaction is writing: its number, and the bytes that its file was given so far
pub record Unfinished : Type 0 where
  pub number : ℕ
  pub bytes : List ℕ

-- how far the flush of the frozen rows came: how many of them it has taken, and the number of its table, once one is drawn
pub record Flushing : Type 0 where
  pub taken : ℕ
  pub table : Option ℕ

-- What a store keeps of itself.
pub record Kept : Type 0 where
  -- the live tables by their numbers, the views of them, the number from which on logs are needed, and the last sequence in
  -- tables
  pub version : Tables
  pub views : finmap.FinMap nat_cmp Viewed
  pub log : ℕ
  pub last : ℕ
  -- the last sequence that an operation has, the rows in memory, in the order of their internal keys, the numbers of the live
  -- logs, and how many bytes the last one of them has and the older ones
  pub sequence : ℕ
  pub active : List Row
  pub frozen : List Row
  pub logs : List ℕ
  pub log_len : ℕ
  pub older_len : ℕ
  -- the manifest's number and its length in bytes, and the next file number
  pub manifest : ℕ
  pub manifest_len : ℕ
  pub next : ℕ
  -- the names of a store's files that are in the folder
  pub known : List FileName
  -- the pins in the order in which they were given, the greatest number that one had, and how often deletion is disabled
  pub pins : List KeptPin
  pub greatest_pin : ℕ
  pub disables : ℕ
  -- what is under way: the flush; the tables that are written; the inputs of the compaction, the level that it writes to, how
  -- many tables it has begun and how many rows it has taken; and the folder that a restore builds, with the file in hand
  pub flushing : Flushing
  pub unfinished : List Unfinished
  pub merging : Option (List Place)
  pub merge_level : ℕ
  pub outputs : ℕ
  pub merged : ℕ
  pub begun : Option Begun
  pub hand : Option FileName

pub record Shown : Type 0 where
  pub disk : Seen
  pub dir : List ℕ
  pub kept : Kept
  pub halt : Option Halt
