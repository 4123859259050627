-- Frozen rows, with the table that they are written to.
use Rattle.std.specs.Prelude.{◌≡◌, ℕ, List, Option, Some, None, Result, MatchResult}
use Rattle.lsm_rows.specs.declared.rows.Row.{Row}
use Rattle.lsm_version.specs.declared.tables.TableInfo.{TableInfo}
use Rattle.lsm_disk.specs.State.{Seen}
use Rattle.lsm_disk.specs.declared.calls.DiskRefusal.{DiskRefusal}
use Rattle.lsm_flush.specs.declared.frozen.Held.{Held}
use Rattle.lsm_flush.specs.declared.frozen.Held.TheVariants.{Rows, Table}
use Rattle.lsm_flush.specs.Writing.{Written, whole}
use Rattle.lsm_flush.specs.Adding.{HasAdded, HasNotAdded}

-- the rows
abbrev pub rows_of : Held → List Row
rows_of (Rows rows) = rows
rows_of (Table w) = w.rows

-- the table that they are written to, once it is begun
abbrev pub table_of : Held → Option Written
table_of (Rows rows) = None
table_of (Table w) = Some w

-- its number
abbrev pub number_of : Held → Option ℕ
number_of (Rows rows) = None
number_of (Table w) = Some w.number

-- what an edit says of it, once its file is whole
abbrev pub whole_table : Held → Option TableInfo
whole_table (Rows rows) = None
whole_table (Table w) = whole w

-- The table was written on, or the disk refused it.
pub record WritesOn (path : List ℕ) (old new : Seen) (w : Written) (held : Held) (result : Result (Unit {0}) DiskRefusal)
    : Type 0 where
  pub now : Written
  pub held_is : held ≡ Table now
  pub did : MatchResult result (λ done. HasAdded path old new w now) (HasNotAdded path old new w now)
