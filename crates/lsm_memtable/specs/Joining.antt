-- Rows that come among others.
use Rattle.std.specs.Prelude.{◌≡◌, ℕ, ◌+◌, List, ◌∷◌, ◌++◌, length, nat_lt}
use Rattle.std.specs.List.{filter}
use Rattle.std.specs.List.Sorted.{IsPermutation}
use Rattle.lsm_rows.specs.declared.rows.Row.{Row}
use Rattle.lsm_rows.specs.Contents.{newest, AllBefore}
use Rattle.lsm_memtable.specs.Order.{AreInOrder}

-- one row has come among the others
pub record IsPut (old : List Row) (row : Row) (new : List Row) : Type 0 where
  pub front : List Row
  pub back : List Row
  pub before : old ≡ front ++ back
  pub after : new ≡ front ++ row ∷ back

-- Rows have come among the old ones: all of both are there, once each and in order, and each key's newest row is that of
-- the old rows with the more behind them.
pub record AreJoined (old more new : List Row) : Type 0 where
  pub same : IsPermutation (old ++ more) new
  pub order : AreInOrder new
  pub newest : (key : List ℕ) → newest key new ≡ newest key (old ++ more)

-- Rows have come one by one among the old ones: what stands is both, nothing is below the first sequence but the old
-- rows, and all are below the next one.
pub record IsGrown (first : ℕ) (old more now : List Row) : Type 0 where
  pub same : IsPermutation (old ++ more) now
  pub newest : (key : List ℕ) → newest key now ≡ newest key (old ++ more)
  pub kept : filter (λ row. nat_lt row.sequence first) now ≡ old
  pub before : AllBefore (first + length more) now
