-- What a folder opens to: its manifest and its logs are read, and of each table as much as its
-- opening reads.
use Rattle.std.specs.Prelude.{◌≡◌, ℕ, ◌+◌, ◌==◌, if◌then◌else◌, List, [], ◌∷◌, ◌++◌, map, length, Some, Result, Ok, Err}
use Rattle.std.specs.FinMap as finmap
use Rattle.lsm_names.specs.declared.file_names.FileName.TheVariants.{Table}
use Rattle.lsm_rows.specs.Replay.{sequence_after}
use Rattle.lsm_rows.specs.Rows.{rows_of}
use Rattle.lsm_frame.specs.Reader.{Tells}
use Rattle.lsm_table.specs.declared.parts.Properties.{Properties}
use Rattle.lsm_table.specs.Opening.{footer_of, contents_at, properties_at}
use Rattle.lsm_table.specs.Tables.{Opened}
use Rattle.lsm_version.specs.declared.edits.Edit.{Edit}
use Rattle.lsm_version.specs.declared.tables.Placed.{Placed}
use Rattle.lsm_version.specs.declared.tables.TableInfo.{TableInfo}
use Rattle.lsm_folder.specs.declared.refusals.Refusal.{Refusal}
use Rattle.lsm_folder.specs.declared.refusals.Refusal.TheVariants.{NoFolder, Missing, Short, Malformed}
use Rattle.lsm_folder.specs.Files.{Files, Place, Nothing, Not_a_folder, Stands_with, file_at}
use Rattle.lsm_folder.specs.Logs.{logs_of, all_batches}
use Rattle.lsm_folder.specs.Manifests.{tables_after, log_after, last_after}
use Rattle.lsm_folder.specs.Needed.{edits_at}
use Rattle.lsm_folder.specs.Reading.{AllRows}
use Rattle.lsm_folder.specs.Steps.{◌>>=◌, some_or, table_says}
use Rattle.lsm_folder.specs.Tables.{index_of, is_of}

-- ---- one table

-- properties that stand at a place, where they are those of the table of this number that the
-- version has
abbrev pub own_properties : ℕ → TableInfo → ℕ → Properties → Result Properties Refusal
own_properties number info place properties = if is_of number info properties then Ok properties
    else Err (Malformed (Table number) place)

-- the properties of the table of this number that bytes open to
unfoldable pub opened_in : ℕ → TableInfo → List ℕ → Result Properties Refusal
opened_in number info bytes = do
  places ← table_says (Table number) (footer_of bytes)
  contents ← table_says (Table number) (contents_at places.index places.len bytes)
  index ← some_or (Malformed (Table number) places.index) (index_of contents)
  properties ← table_says (Table number) (properties_at places.properties bytes)
  own_properties number info places.properties properties

-- the same, where the bytes are as many as the version says
unfoldable pub opened_said : ℕ → TableInfo → List ℕ → Result Properties Refusal
opened_said number info bytes = if length bytes == info.size then opened_in number info bytes
    else Err (Short (Table number) info.size (length bytes))

-- what the table of a number opens to, which the version has so
unfoldable pub opened_of : Files → ℕ → Placed → Result Properties Refusal
opened_of files number placed = do
  bytes ← some_or (Missing (Table number)) (file_at files (Table number))
  opened_said number placed.info bytes

-- a table is open on its file: its view tells the file's bytes, and its properties are those that
-- these open to
pub record IsOpenOn (files : Files) (number : ℕ) (placed : Placed) (table : Opened) : Type 0 where
  pub bytes : List ℕ
  pub there : file_at files (Table number) ≡ Some bytes
  pub tells : Tells table.viewed bytes
  pub is : opened_of files number placed ≡ Ok table.properties

-- ---- the folder

-- what these tables open to
abbrev pub all_opened : Files → List (ℕ × Placed) → Result (List Properties) Refusal
all_opened files [] = Ok []
all_opened files (table ∷ tables) = do
  first ← opened_of files table.0 table.1
  more ← all_opened files tables
  Ok (first ∷ more)

-- tables are open on their files, in the order of their numbers
abbrev pub AreOpenOn : Files → List (ℕ × Placed) → List Opened → Type 0
AreOpenOn files [] [] = Unit {0}
AreOpenOn files [] (table ∷ tables) = ⊥
AreOpenOn files (e ∷ es) [] = ⊥
AreOpenOn files (e ∷ es) (table ∷ tables) = IsOpenOn files e.0 e.1 table × AreOpenOn files es tables

-- behind tables that were open before, those of these entries are open
pub record IsOpenBehind (files : Files) (es : List (ℕ × Placed)) (before after : List Opened) : Type 0 where
  pub tables : List Opened
  pub are : AreOpenOn files es tables
  pub after_is : after ≡ before ++ tables
  pub said : all_opened files es ≡ Ok (map (λ (table : Opened). table.properties) tables)

-- the rows of the logs of a folder whose manifest has these edits, and the last sequence
unfoldable pub opening_behind : Files → List Edit → Result AllRows Refusal
opening_behind files edits = do
  tables ← all_opened files (finmap.entries (tables_after edits))
  batches ← all_batches (last_after edits + 1) (finmap.entries (logs_of (log_after edits) files))
  Ok (record { sequence = sequence_after (last_after edits) batches; rows = rows_of (last_after edits + 1) batches })

-- what stands in a folder's place opens to the rows of its logs and the last sequence, or to its
-- first refusal: as it is read, but that no table's data blocks are
abbrev pub opening : Place → Result AllRows Refusal
opening Nothing = Err NoFolder
opening Not_a_folder = Err NoFolder
opening (Stands_with files) = edits_at files >>= opening_behind files
