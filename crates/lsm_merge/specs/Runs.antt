-- Whole runs of a merge: what the rows that it has given are of all its rows.
use Rattle.std.specs.Prelude.{◌≡◌, ◌⊎◌, ℕ, ◌≤◌, List, ◌++◌, map, All, Contains, Bool, true, slice_get, Some}
use Rattle.std.specs.List.Sorted.{IsStrictlySortedBy}
use Rattle.std.specs.declared.cmp.Ordering.TheVariants.{Less}
use Rattle.lsm_rows.specs.declared.rows.Row.{Row}
use Rattle.lsm_rows.specs.Replay.{key_cmp}
use Rattle.lsm_rows.specs.Contents.{IsNewest}
use Rattle.lsm_merge.specs.declared.heads.Head.{Head}
use Rattle.lsm_merge.specs.Order.{row_cmp, IsFrom}
use Rattle.lsm_merge.specs.Merging.{Merging, IsLeft}

-- one of the rows has the user key
unfoldable pub HasKey : List Row → List ℕ → Type 0
HasKey rows key = (row : Row) × Contains rows row × (row.key ≡ key)

-- the user keys ascend, so none comes twice
unfoldable pub KeysAscend : List Row → Type 0
KeysAscend rows = IsStrictlySortedBy key_cmp (map (λ row. row.key) rows)

-- the rows are the newest of each user key of the inputs, in the order of keys
pub record AreNewest (inputs rows : List Row) : Type 0 where
  pub ascend : KeysAscend rows
  pub newest : (row : Row) → Contains rows row → IsNewest row.key inputs row
  pub all : (row : Row) → Contains inputs row → HasKey rows row.key

-- no two of the rows are of one user key and one sequence
unfoldable pub AreDistinct : List Row → Type 0
AreDistinct rows = (a b : Row) → Contains rows a → Contains rows b → a.key ≡ b.key → a.sequence ≡ b.sequence → a ≡ b

module _ {S : Type 0} (left : S → List Row) where
  -- the row is left, or one of its user key is that is no older
  unfoldable pub IsToCome : Merging S → Row → Type 0
  IsToCome m row = (other : Row) × IsLeft left m other × (row.key ≡ other.key) × (row.sequence ≤ other.sequence)

  -- A merge has given the newest rows of the first user keys of the inputs, and those of the
  -- others are to come.
  pub record IsMerged (inputs given : List Row) (m : Merging S) : Type 0 where
    pub ascend : KeysAscend given
    pub newest : (row : Row) → Contains given row → IsNewest row.key inputs row
    pub among : (row : Row) → IsLeft left m row → Contains inputs row
    pub later : (row other : Row) → Contains given row → IsLeft left m other → key_cmp row.key other.key ≡ Less
    pub all : (row : Row) → Contains inputs row → HasKey given row.key ⊎ IsToCome m row

  -- Rows have come behind those that a source had left, in their order and past every row that it
  -- gave; where it was at its end none has come, and it is still there.
  pub record HasGained (ended : S → Bool) (m : Merging S) (place : ℕ) (old new : S) : Type 0 where
    pub at : slice_get m.sources place ≡ Some old
    pub more : List Row
    pub rows : left new ≡ left old ++ more
    pub sorted : IsStrictlySortedBy row_cmp (left new)
    pub past : (head : Head) → Contains m.heads head → head.place ≡ place → All (IsFrom head.row) more
    pub end : ended old ≡ true → ended new ≡ true
