-- What a merge has of its sources, and what its calls change of it.
use Rattle.std.specs.Prelude.{◌≡◌, ◌⊎◌, ℕ, ◌<◌, ◌≤◌, ◌^◌, ◌++◌, Bool, true, List, length, All, Contains, slice_get, slice_set, Option, Some, None, Result, Err}
use Rattle.std.specs.List.Sorted.{IsStrictlySortedBy}
use Rattle.std.specs.declared.cmp.Ordering.TheVariants.{Less}
use Rattle.lsm_rows.specs.declared.rows.Row.{Row}
use Rattle.lsm_rows.specs.Replay.{key_cmp}
use Rattle.lsm_merge.specs.declared.heads.Head.{Head}
use Rattle.lsm_merge.specs.declared.faults.MergeFault.{MergeFault}
use Rattle.lsm_merge.specs.declared.faults.MergeFault.TheVariants.{Source, NoMemory}
use Rattle.lsm_merge.specs.Order.{row_cmp, IsFrom}

-- A merge: the row that was found and isn't given yet, the rows that it holds, each the last one
-- that its source gave, how many of the sources were asked at all, and the sources.
pub record Merging (S : Type 0) : Type 0 where
  pub found : Option Row
  pub heads : List Head
  pub asked : ℕ
  pub sources : List S

-- a merge whose source with this place is another now
abbrev pub with_source : {S : Type 0} → Merging S → ℕ → S → Merging S
with_source m place source = record m { sources = slice_set m.sources place source }

-- the row is one of the held ones
unfoldable pub IsHeld : List Head → Row → Type 0
IsHeld heads row = (head : Head) × Contains heads head × (head.row ≡ row)

module _ {S : Type 0} (left : S → List Row) where
  -- the row is left in one of the sources
  unfoldable pub IsInSource : List S → Row → Type 0
  IsInSource sources row = (place : ℕ) × (source : S) × (slice_get sources place ≡ Some source) × Contains (left source) row

  -- the row is left: it was found, is held, or is left in a source
  unfoldable pub IsLeft : Merging S → Row → Type 0
  IsLeft m row = (m.found ≡ Some row) ⊎ (IsHeld m.heads row ⊎ IsInSource m.sources row)

  -- The next row of a merge: of all rows that were left none has a lesser user key, and none of
  -- its user key is newer. All rows of its user key are gone, and all others stay.
  pub record IsNext (old : Merging S) (row : Row) (new : Merging S) : Type 0 where
    pub among : IsLeft old row
    pub newest : (other : Row) → IsLeft old other → other.key ≡ row.key → other.sequence ≤ row.sequence
    pub kept : (other : Row) → IsLeft new other → IsLeft old other × (key_cmp row.key other.key ≡ Less)
    pub others : (other : Row) → IsLeft old other → (other.key ≡ row.key) ⊎ IsLeft new other

-- the row that was found is of this row's user key, and no older
unfoldable pub IsOutdone : Option Row → Row → Type 0
IsOutdone found row = (first : Row) × (found ≡ Some first) × (row.key ≡ first.key) × (row.sequence ≤ first.sequence)

module _ {S : Type 0} (left : S → List Row) where
  -- no row is lost but those that the row found outdoes, and a row that was found stays found
  pub record KeepsRows (old new : Merging S) : Type 0 where
    pub found : (row : Row) → old.found ≡ Some row → new.found ≡ Some row
    pub kept : (row : Row) → IsLeft left new row → IsLeft left old row
    pub others : (row : Row) → IsLeft left old row → IsLeft left new row ⊎ IsOutdone new.found row

module _ {S : Type 0} (left : S → List Row) (ended : S → Bool) where
  -- no row was left, none is, and all sources are at their end
  pub record IsOver (old new : Merging S) : Type 0 where
    pub none : (row : Row) → ¬ IsLeft left old row
    pub still : (row : Row) → ¬ IsLeft left new row
    pub ends : (place : ℕ) (source : S) → slice_get new.sources place ≡ Some source → ended source ≡ true

  -- A merge may be asked. It has fewer than 2^32 sources, of which the first were asked. The rows
  -- of each are left in their order, and past the row that is held of it. Each that was asked is at
  -- its end, or a row of it is held. Where a row is found, all were asked, and no held row comes
  -- before it.
  pub record IsReady (m : Merging S) : Type 0 where
    pub few : length m.sources < 2 ^ 32
    pub within : m.asked ≤ length m.sources
    pub places : (head : Head) → Contains m.heads head → head.place < m.asked
    pub sorted : (place : ℕ) (source : S) → slice_get m.sources place ≡ Some source → IsStrictlySortedBy row_cmp (left source)
    pub past : (head : Head) (source : S) → Contains m.heads head → slice_get m.sources head.place ≡ Some source
        → All (IsFrom head.row) (left source)
    pub met : (place : ℕ) (source : S) → place < m.asked → slice_get m.sources place ≡ Some source
        → (ended source ≡ true) ⊎ ((head : Head) × Contains m.heads head × (head.place ≡ place))
    pub first : (row : Row) → m.found ≡ Some row → (m.asked ≡ length m.sources)
        × ((head : Head) → Contains m.heads head → IsFrom row head.row)

  -- a source has given the first of its rows, some or none, and is at its end where it was
  pub record HasGiven (old new : S) : Type 0 where
    pub gone : List Row
    pub rows : left old ≡ gone ++ left new
    pub end : ended old ≡ true → ended new ≡ true

  -- each source has given rows, and each row that is held was held, or is one that its source has
  -- given
  pub record IsAhead (old new : Merging S) : Type 0 where
    pub count : length new.sources ≡ length old.sources
    pub asked : old.asked ≤ new.asked
    pub given : (place : ℕ) (before after : S) → slice_get old.sources place ≡ Some before
        → slice_get new.sources place ≡ Some after → HasGiven before after
    pub heads : (head : Head) → Contains new.heads head
        → Contains old.heads head ⊎ ((source : S) × (slice_get old.sources head.place ≡ Some source)
        × Contains (left source) head.row)

module _ {S F : Type 0} (fault_of : S → Option F) where
  -- the fault of the source's last answer is the one before, or the answer was none
  unfoldable pub HasAnswered : S → S → Type 0
  HasAnswered old new = (fault_of new ≡ fault_of old) ⊎ (fault_of new ≡ None)

  -- the call was refused by this source's fault, which is the source's last answer
  unfoldable pub IsRefusedBy : {A : Type 0} → Result A (MergeFault F) → ℕ → S → Type 0
  IsRefusedBy result place source = (fault : F) × (result ≡ Err (Source place fault)) × (fault_of source ≡ Some fault)

  -- no source has answered a fault in this call but the one whose fault the call answers
  unfoldable pub ToldFaults : {A : Type 0} → Result A (MergeFault F) → List S → List S → Type 0
  ToldFaults result old new =
      (place : ℕ) (before after : S) → slice_get old place ≡ Some before → slice_get new place ≡ Some after
      → HasAnswered before after ⊎ IsRefusedBy result place after

  -- the call answers a source's fault only where it is that source's last answer
  unfoldable pub HasCause : MergeFault F → List S → Type 0
  HasCause (Source place fault) new = (source : S) × (slice_get new place ≡ Some source) × (fault_of source ≡ Some fault)
  HasCause NoMemory new = Unit {0}
