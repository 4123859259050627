-- What a table's bytes say: they are opened as a table is, and then its data blocks are read in the order of its index.
use Rattle.std.specs.Prelude.{ℕ, ◌+◌, ◌^◌, Bool, ◌&&◌, ◌==◌, nat_lt, if◌then◌else◌, List, [], ◌∷◌, ◌++◌, length, map, Option, Some, None, Result, Ok, Err}
use Rattle.std.specs.Str.{bytes_eq}
use Rattle.lsm_bytes.specs.Varint.{varint}
use Rattle.lsm_names.specs.declared.file_names.FileName.{FileName}
use Rattle.lsm_names.specs.declared.file_names.FileName.TheVariants.{Table}
use Rattle.lsm_rows.specs.declared.rows.Row.{Row}
use Rattle.lsm_folder.specs.Batches.{number_ahead}
use Rattle.lsm_block.specs.declared.entries.Entry.{Entry}
use Rattle.lsm_table.specs.declared.parts.Properties.{Properties}
use Rattle.lsm_table.specs.Opening.{footer_of, contents_at, properties_at}
use Rattle.lsm_table.specs.Rows.{row_at}
use Rattle.lsm_version.specs.declared.tables.TableInfo.{TableInfo}
use Rattle.lsm_folder.specs.declared.refusals.Refusal.{Refusal}
use Rattle.lsm_folder.specs.declared.refusals.Refusal.TheVariants.{Short, Malformed}
use Rattle.lsm_folder.specs.Blocks.{block_of}
use Rattle.lsm_folder.specs.Steps.{◌>>=◌, some_or, table_says}

-- where a data block stands, and how long its contents are
pub record Told : Type 0 where
  pub place : ℕ
  pub len : ℕ

-- what the value of an index's entry tells: two varints that fit 64 bits
unfoldable pub told_in : List ℕ → Option Told
told_in value =
    let place : ℕ × List ℕ = number_ahead value in
    let len : ℕ × List ℕ = number_ahead place.1 in
    if nat_lt place.0 (2 ^ 64) && nat_lt len.0 (2 ^ 64) && bytes_eq value (varint place.0 ++ varint len.0)
    then Some (record { place = place.0; len = len.0 }) else None

-- what an entry tells, before what the others do
abbrev pub with_told : Option Told → Option (List Told) → Option (List Told)
with_told None more = None
with_told (Some told) None = None
with_told (Some told) (Some more) = Some (told ∷ more)

-- what the entries of an index tell, where each tells a data block
abbrev pub all_told : List Entry → Option (List Told)
all_told [] = Some []
all_told (e ∷ es) = with_told (told_in e.value) (all_told es)

abbrev pub told_by_block : Option (List Entry) → Option (List Told)
told_by_block None = None
told_by_block (Some es) = all_told es

-- what the contents of an index tell
unfoldable pub index_of : List ℕ → Option (List Told)
index_of contents = told_by_block (block_of contents)

-- the entries of the data block that is told
unfoldable pub data_block : FileName → List ℕ → Told → Result (List Entry) Refusal
data_block name bytes told =
    if nat_lt (length bytes) (told.place + told.len + 5) then Err (Malformed name told.place)
    else (table_says name (contents_at told.place told.len bytes) >>= λ (contents : List ℕ). some_or
    (Malformed name told.place) (block_of contents))

-- the rows of the data blocks that are told, in turn
abbrev pub rows_told : FileName → List ℕ → List Told → Result (List Row) Refusal
rows_told name bytes [] = Ok []
rows_told name bytes (told ∷ more) = do
  entries ← data_block name bytes told
  rows ← rows_told name bytes more
  Ok (map row_at entries ++ rows)

-- the properties have this number, and the session that the version has
abbrev pub is_of : ℕ → TableInfo → Properties → Bool
is_of number info properties = (properties.number == number) && bytes_eq properties.session info.session

-- what a table says: its rows
pub record TableRead : Type 0 where
  pub rows : List Row

-- the rows of the table that is opened to these properties, which stand at a place, and to this index
unfoldable pub table_rows_in : ℕ → TableInfo → List ℕ → Properties → ℕ → List Told → Result TableRead Refusal
table_rows_in number info bytes properties place index =
    if is_of number info properties
    then (rows_told (Table number) bytes index >>= λ (rows : List Row). Ok (record { rows = rows }))
    else Err (Malformed (Table number) place)

-- the table of this number that bytes are
unfoldable pub table_in : ℕ → TableInfo → List ℕ → Result TableRead Refusal
table_in number info bytes = do
  places ← table_says (Table number) (footer_of bytes)
  contents ← table_says (Table number) (contents_at places.index places.len bytes)
  index ← some_or (Malformed (Table number) places.index) (index_of contents)
  properties ← table_says (Table number) (properties_at places.properties bytes)
  table_rows_in number info bytes properties places.properties index

-- the same, where the bytes are as many as the version says
unfoldable pub table_said : ℕ → TableInfo → List ℕ → Result TableRead Refusal
table_said number info bytes = if length bytes == info.size then table_in number info bytes
    else Err (Short (Table number) info.size (length bytes))
