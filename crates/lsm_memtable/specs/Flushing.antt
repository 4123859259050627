-- How far a flush's table is built.
use Rattle.std.specs.Prelude.{◌≡◌, ℕ, ◌+◌, ◌<◌, ◌≤◌, min, List, length, take, slice_index_or, slice_get, Option, Some, IfSome, MatchOption, Vec, ◌^◌}
use Rattle.lsm_rows.specs.declared.rows.Row.{Row}
use Rattle.lsm_block.specs.TableText.{AreTableRows}
use Rattle.lsm_table.specs.Cuts.{size_of}
use Rattle.lsm_table.specs.Building.{IsBuilt}
use Rattle.lsm_memtable.specs.declared.progress.Progress.{Progress}
use Rattle.lsm_memtable.specs.Flushes.{Flushing, bytes_of}
use Rattle.lsm_memtable.specs.Newest.{newest_each}
use Rattle.lsm_memtable.specs.Sizes.{room_of}

-- The table's first rows are in it, and of these the bytes were handed out that belong to rows that were taken.
pub record IsProgress (p : Progress) (rows : List Row) : Type 0 where
  pub built_is : IsBuilt p.builder (take p.built rows) (bytes_of rows (min p.built p.taken))
  pub built_within : p.built ≤ length rows
  pub taken_within : p.taken ≤ length rows
  pub small : size_of p.builder.blocks ≤ 4 + room_of (take p.built rows)

-- this row has this place
pub record IsRowAt (rows : List Row) (place : ℕ) (row : Row) : Type 0 where
  pub within : place < length rows
  pub is : row ≡ slice_index_or rows place row

-- the row with this place has this key
pub record IsKeyAt (rows : List Row) (place : ℕ) (key : List ℕ) : Type 0 where
  pub within : place < length rows
  pub is : (d : Row) → (slice_index_or rows place d).key ≡ key

-- rows are built up to a place whose row has this key; or there is none, and all rows are built
abbrev pub IsBuiltTo : {Z : Type 0} → List Row → ℕ → ℕ → Option (Vec ℕ Z) → Type 0
IsBuiltTo rows until built next = MatchOption next ((built ≡ length rows) × (length rows ≤ until))
    (λ key. (built ≡ until) × IsKeyAt rows until key.items)

-- the first of a key's rows has this place among a table's rows, and may come into the table
pub record IsReady (p : Progress) (rows : List Row) (place : ℕ) (versions : List Row) : Type 0 where
  pub progress : IsProgress p rows
  pub are_rows : AreTableRows rows
  pub room : room_of rows + 4 < 2 ^ 29
  pub built : place ≤ p.built
  pub row_at : (row : Row) → slice_get versions 0 ≡ Some row → IsRowAt rows place row
  pub some : 1 ≤ length versions

-- a key, if it is there, is that of the row with this place
abbrev pub StartsAt : {Z : Type 0} → List Row → ℕ → Option (Vec ℕ Z) → Type 0
StartsAt rows place from = IfSome from (λ key. (d : Row) → place < length rows → (slice_index_or rows place d).key ≡ key.items)

-- a flush is as far as its table
pub record IsFlush {Z : Type 0} (f : Flushing) (p : Progress) (from : Option (Vec ℕ Z)) : Type 0 where
  pub progress : IsProgress p (newest_each f.rows)
  pub taken_is : f.taken ≡ p.taken
  pub ahead : p.built ≤ p.taken + 1024
  pub start : StartsAt (newest_each f.rows) p.taken from
  pub number_is : p.builder.number ≡ f.number
  pub session_is : p.builder.session ≡ f.session
