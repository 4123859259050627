-- The inputs of a compaction as they are read and merged.
use Rattle.std.specs.Prelude.{◌≡◌, ℕ, ◌<◌, ◌^◌, true, List, length, Contains, slice_get, Some}
use Rattle.std.specs.declared.cmp.Ordering.TheVariants.{Less}
use Rattle.lsm_rows.specs.declared.rows.Row.{Row}
use Rattle.lsm_rows.specs.Replay.{key_cmp}
use Rattle.lsm_block.specs.TableText.{row_entry}
use Rattle.lsm_merge.specs.declared.heads.Head.{Head}
use Rattle.lsm_merge.specs.Order.{IsFrom}
use Rattle.lsm_merge.specs.Merging.{Merging, IsLeft, IsReady}
use Rattle.lsm_compact.specs.declared.input.Input.{Input}
use Rattle.lsm_compact.specs.declared.input.Input.TheVariants.{Wanting}
use Rattle.lsm_compact.specs.declared.input.Reading.{Reading}
use Rattle.lsm_compact.specs.declared.input.Unfilled.{Unfilled}
use Rattle.lsm_compact.specs.declared.reader.Reader.{Reader}
use Rattle.lsm_compact.specs.Calls.{IsRowOfStore}
use Rattle.lsm_compact.specs.Reading.{left_rows, is_ended}

-- the row was read of this table: it doesn't come behind the one that was read last
pub record HasRead (reading : Reading) (row : Row) : Type 0 where
  pub last : Row
  pub after_is : reading.after ≡ Some (row_entry last).key
  pub small : last.sequence < 2 ^ 56
  pub from : IsFrom row last

-- The merge may be asked, each input is read at its place, and the rows that are left are rows of a store. Each row that is
-- held or left of an input was read of it.
pub record AreSound (readings : List Reading) (m : Merging Input) : Type 0 where
  pub ready : IsReady left_rows is_ended m
  pub places : length readings ≡ length m.sources
  pub rows : (row : Row) → IsLeft left_rows m row → IsRowOfStore row
  pub held : (head : Head) (reading : Reading) → Contains m.heads head → slice_get readings head.place ≡ Some reading
      → HasRead reading head.row
  pub left : (place : ℕ) (reading : Reading) (source : Input) → slice_get readings place ≡ Some reading
      → slice_get m.sources place ≡ Some source → (row : Row) → Contains (left_rows source) row → HasRead reading row

-- the inputs of a reader are so
abbrev pub IsSoundReader : Reader → Type 0
IsSoundReader r = AreSound r.readings.items r.merge

-- all rows to come are of later user keys, and a row of each input is held that isn't at its end
pub record IsPast (key : List ℕ) (m : Merging Input) : Type 0 where
  pub asked : m.asked ≡ length m.sources
  pub later : (row : Row) → IsLeft left_rows m row → key_cmp key row.key ≡ Less

-- no row is left, and each input is at its end
pub record IsAtEnd (m : Merging Input) : Type 0 where
  pub none : (row : Row) → ¬ IsLeft left_rows m row
  pub ends : (place : ℕ) (source : Input) → slice_get m.sources place ≡ Some source → is_ended source ≡ true

-- a call has left keys past that were past, and an end that was reached
pub record IsLater (old new : Merging Input) : Type 0 where
  pub past : (key : List ℕ) → IsPast key old → IsPast key new
  pub end : IsAtEnd old → IsAtEnd new

-- a row was given: it is one of a store, of a later user key than those that were past, and its own is past now
pub record IsGivenRow (old : Merging Input) (row : Row) (new : Merging Input) : Type 0 where
  pub of_store : IsRowOfStore row
  pub behind : (key : List ℕ) → IsPast key old → key_cmp key row.key ≡ Less
  pub past : IsPast row.key new
  pub more : ¬ IsAtEnd old

-- the run of the input at this place is used up
pub record IsWanting (m : Merging Input) (place : ℕ) : Type 0 where
  pub why : Unfilled
  pub source_is : slice_get m.sources place ≡ Some (Wanting why)

-- it isn't: rows of it are left, or the input is at its end
abbrev pub IsFilled : Merging Input → ℕ → Type 0
IsFilled m place = ¬ IsWanting m place
