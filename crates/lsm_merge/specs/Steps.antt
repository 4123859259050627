-- The steps in which a merge finds its next row.
use Rattle.std.specs.Prelude.{◌≡◌, ℕ, ◌+◌, ◌≤◌, List, length, Contains, slice_get, Bool, Option, Some, None, Result, IfErr}
use Rattle.std.specs.List.{sum_by}
use Rattle.std.specs.declared.cmp.Ordering.TheVariants.{Less}
use Rattle.lsm_rows.specs.declared.rows.Row.{Row}
use Rattle.lsm_rows.specs.Replay.{key_cmp}
use Rattle.lsm_merge.specs.declared.heads.Head.{Head}
use Rattle.lsm_merge.specs.declared.faults.MergeFault.{MergeFault}
use Rattle.lsm_merge.specs.Merging.{Merging, KeepsRows, ToldFaults, HasCause, IsAhead, IsReady}

-- the first held row is of the found row's user key, or none is found
unfoldable pub HasMore : {S : Type 0} → Merging S → Type 0
HasMore m = (head : Head) × (slice_get m.heads 0 ≡ Some head)
    × ((found : Row) → m.found ≡ Some found → head.row.key ≡ found.key)

-- each held row is of a later user key than the found one, and where none is found none is held
unfoldable pub IsSettled : {S : Type 0} → Merging S → Type 0
IsSettled m = (head : Head) → Contains m.heads head → (found : Row) × (m.found ≡ Some found)
    × (key_cmp found.key head.row.key ≡ Less)

-- all sources were asked, and the next row is found, or no row is held
pub record IsFound {S : Type 0} (m : Merging S) : Type 0 where
  pub asked : m.asked ≡ length m.sources
  pub settled : IsSettled m

-- one where a row is found
abbrev pub found_count : Option Row → ℕ
found_count None = 0
found_count (Some row) = 1

-- how many rows are held, or left in the sources
unfoldable pub rows_ahead : {S : Type 0} → (S → List Row) → Merging S → ℕ
rows_ahead left m = length m.heads + sum_by (λ source. length (left source)) m.sources

-- how many rows are left with the one that is found
unfoldable pub rows_to_come : {S : Type 0} → (S → List Row) → Merging S → ℕ
rows_to_come left m = found_count m.found + rows_ahead left m

-- a step towards the next row, and what it answers
pub record IsStep {S F A : Type 0} (left : S → List Row) (ended : S → Bool)
    (fault_of : S → Option F) (result : Result A (MergeFault F)) (old new : Merging S) : Type 0 where
  pub rows : KeepsRows left old new
  pub count : rows_to_come left new ≤ rows_to_come left old
  pub answers : ToldFaults fault_of result old.sources new.sources
  pub cause : IfErr result (λ fault. HasCause fault_of fault new.sources)
  pub ahead : IsAhead left ended old new
  pub ready : IsReady left ended new
