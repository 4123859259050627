-- Tables that are opened for one key, and what a look into them finds.
use Rattle.std.specs.Prelude.{◌≡◌, ℕ, List, map, All, slice_get, Option, Some}
use Rattle.lsm_io.specs.Causes.{Rose}
use Rattle.lsm_rows.specs.declared.rows.Row.{Row}
use Rattle.lsm_rows.specs.Contents.{newest, value_of}
use Rattle.lsm_frame.specs.Reader.{Stays}
use Rattle.lsm_table.specs.Tables.{Opened}
use Rattle.lsm_table.specs.WholeTables.{IsTable}
use Rattle.lsm_version.specs.declared.tables.Place.{Place}
use Rattle.lsm_version.specs.Levels.{Tables}
use Rattle.lsm_folder.specs.Parts.{rows_of_tables}
use Rattle.lsm_core.specs.Searching.{IsSearchable, looked_at}

-- an open table with its level
pub record Leveled : Type 0 where
  pub level : ℕ
  pub table : Opened

-- where it stands
abbrev pub place_at : Leveled → Place
place_at t = record { level = t.level; number = t.table.properties.number }

-- the table's view tells a whole table of these rows
pub record TellsTable (rows : List Row) (t : Leveled) : Type 0 where
  pub bytes : List ℕ
  pub session : List ℕ
  pub told : t.table.viewed.bytes ≡ Some bytes
  pub table : IsTable bytes rows t.table.properties.number session

-- the tables of these places, in turn, each with the rows of its number
pub record AreOpened (rows : ℕ → List Row) (places : List Place) (tables : List Leveled) : Type 0 where
  pub places_are : map place_at tables ≡ places
  pub tell : All (λ (t : Leveled). TellsTable (rows t.table.properties.number) t) tables

-- The tables are those of a version that a search for the key looks at, and this is the value that
-- its tables give the key.
pub record TellsValue (tables : List Leveled) (key : List ℕ) (value : Option (List ℕ)) : Type 0 where
  pub version : Tables
  pub rows : ℕ → List Row
  pub searchable : IsSearchable version rows
  pub opened : AreOpened rows (looked_at version key) tables
  pub value_is : value ≡ value_of (newest key (rows_of_tables version rows))

-- a table is the same, but that its view may have had faults
pub record StaysTable (a b : Leveled) : Type 0 where
  pub level : b.level ≡ a.level
  pub viewed : Stays a.table.viewed b.table.viewed
  pub properties : b.table.properties ≡ a.table.properties

-- one of the tables' views has failed
pub record HasFailed (old new : List Leveled) : Type 0 where
  pub place : ℕ
  pub before : Leveled
  pub after : Leveled
  pub was : slice_get old place ≡ Some before
  pub is : slice_get new place ≡ Some after
  pub rose : Rose before.table.viewed.faults after.table.viewed.faults
