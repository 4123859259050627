-- A table's file that is being written, and how far it came.
use Rattle.std.specs.Prelude.{◌≡◌, ℕ, ◌-◌, ◌<◌, ◌≤◌, List, [], ◌∷◌, ◌++◌, length, map, take, Option, Some, None, MatchOption}
use Rattle.lsm_rows.specs.declared.rows.Row.{Row}
use Rattle.lsm_block.specs.Parts.{last_key}
use Rattle.lsm_block.specs.TableText.{row_entry, table_text}
use Rattle.lsm_table.specs.WholeTables.{IsTable}
use Rattle.lsm_table.specs.declared.building.Finished.{Finished}
use Rattle.lsm_version.specs.declared.tables.TableInfo.{TableInfo}
use Rattle.lsm_memtable.specs.Newest.{newest_each}
use Rattle.lsm_memtable.specs.Flushes.{Flushing, bytes_of}
use Rattle.lsm_flush.specs.declared.writing.Ahead.{Ahead}
use Rattle.lsm_flush.specs.declared.writing.Ahead.TheVariants.{Nothing, Piece, Last, Whole}

-- the rows that become a table, its number and session, how many of its rows were taken, and what of them isn't in its
-- file yet
pub record Written : Type 0 where
  pub rows : List Row
  pub number : ℕ
  pub session : List ℕ
  pub taken : ℕ
  pub ahead : Ahead

-- a table of which nothing is written
abbrev pub begun : List Row → ℕ → List ℕ → Written
begun rows number session = record { rows = rows; number = number; session = session; taken = 0; ahead = Nothing }

-- ---- how far it came

-- the table's text
abbrev pub text_of : List Row → ℕ → List ℕ → List ℕ
text_of rows number session = table_text (newest_each rows) number session

abbrev pub in_file_by : ℕ → Ahead → ℕ
in_file_by taken (Piece bytes) = taken - 1024
in_file_by taken other = taken

-- how many of the table's rows were taken before what is ahead; of the last of it all
abbrev pub in_file : Written → ℕ
in_file w = in_file_by w.taken w.ahead

abbrev pub given_by : List Row → ℕ → List ℕ → ℕ → Ahead → List ℕ
given_by rows number session taken Nothing = bytes_of (newest_each rows) taken
given_by rows number session taken (Piece bytes) = bytes_of (newest_each rows) (taken - 1024)
given_by rows number session taken (Last last) = take (last.size - length last.tail) (text_of rows number session)
given_by rows number session taken (Whole info) = text_of rows number session

-- the bytes that the file was given
abbrev pub given : Written → List ℕ
given w = given_by w.rows w.number w.session w.taken w.ahead

abbrev pub whole_by : Ahead → Option TableInfo
whole_by (Whole info) = Some info
whole_by other = None

-- what an edit says of the table, once its file is whole
abbrev pub whole : Written → Option TableInfo
whole w = whole_by w.ahead

-- the bytes that are ahead
abbrev pub ahead_bytes : Ahead → List ℕ
ahead_bytes (Piece bytes) = bytes
ahead_bytes (Last last) = last.tail
ahead_bytes other = []

-- what an edit says of a table that ended so
abbrev pub info_of : ℕ → List ℕ → Finished → TableInfo
info_of number session last = record {
  number = number;
  session = session;
  size = last.size;
  smallest = last.smallest;
  largest = last.largest;
}

abbrev pub settled_by : ℕ → List ℕ → Ahead → Ahead
settled_by number session (Last last) = Whole (info_of number session last)
settled_by number session (Whole info) = Whole info
settled_by number session other = Nothing

-- what is ahead has come into the file
abbrev pub settled : Written → Written
settled w = record w { ahead = settled_by w.number w.session w.ahead }

-- ---- what is so of it

-- the table's file has the newest row of each key, and an edit may say this of it
pub record IsWholeTable (rows : List Row) (number : ℕ) (session : List ℕ) (info : TableInfo) : Type 0 where
  pub number_is : info.number ≡ number
  pub session_is : info.session ≡ session
  pub size_is : length (text_of rows number session) ≡ info.size
  pub smallest_is : (row : Row) (more : List Row) → newest_each rows ≡ row ∷ more → info.smallest ≡ (row_entry row).key
  pub largest_is : info.largest ≡ last_key (map row_entry (newest_each rows))
  pub table : IsTable (text_of rows number session) (newest_each rows) number session

-- these bytes are of the last 1,024 rows that were taken, and more are left
pub record IsPieceAhead (rows : List Row) (taken : ℕ) (bytes : List ℕ) : Type 0 where
  pub most : 1024 ≤ taken
  pub left : taken < length (newest_each rows)
  pub text : bytes_of (newest_each rows) (taken - 1024) ++ bytes ≡ bytes_of (newest_each rows) taken

-- this is the last of the table
pub record IsLastAhead (rows : List Row) (number : ℕ) (session : List ℕ) (last : Finished) : Type 0 where
  pub text : take (last.size - length last.tail) (text_of rows number session) ++ last.tail ≡ text_of rows number session
  pub whole : IsWholeTable rows number session (info_of number session last)

-- what is ahead is of these rows
unfoldable pub IsAhead : List Row → ℕ → List ℕ → ℕ → Ahead → Type 0
IsAhead rows number session taken Nothing = taken < length (newest_each rows)
IsAhead rows number session taken (Piece bytes) = IsPieceAhead rows taken bytes
IsAhead rows number session taken (Last last) = IsLastAhead rows number session last
IsAhead rows number session taken (Whole info) = IsWholeTable rows number session info

-- the flush is that of the table, it has rows, and what is ahead is of it
pub record IsWriting (f : Flushing) (number : ℕ) (session : List ℕ) (ahead : Ahead) : Type 0 where
  pub number_is : f.number ≡ number
  pub session_is : f.session ≡ session
  pub some : 1 ≤ length f.rows
  pub ahead_is : IsAhead f.rows number session f.taken ahead

-- ---- a step

-- The table has more rows in its file, and some are left; or its file is whole.
abbrev pub IsFurther : Written → Written → Type 0
IsFurther w x = MatchOption (whole x) ((in_file w < in_file x) × (in_file x < length (newest_each x.rows)))
    (λ info. IsWholeTable x.rows x.number x.session info)

-- the table is the same
abbrev pub IsSameTable : Written → Written → Type 0
IsSameTable w x = x ≡ record w { taken = x.taken; ahead = x.ahead }

-- The next rows were taken, which aren't in the file. Once they are, the table is further.
pub record HasTaken (w x : Written) : Type 0 where
  pub same : IsSameTable w x
  pub none : whole x ≡ None
  pub bytes : given x ≡ given w
  pub later : in_file w ≤ in_file x
  pub settles : in_file w ≤ in_file (settled x)
  pub added : given (settled x) ≡ given w ++ ahead_bytes x.ahead
  pub further : IsFurther w (settled x)
