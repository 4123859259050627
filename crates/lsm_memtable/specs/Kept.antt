-- How rows are kept by their keys.
use Rattle.std.specs.Prelude.{◌≡◌, ℕ, ◌^◌, ◌<◌, ◌≤◌, List, length, take, All, Vec}
use Rattle.std.specs.List.{flat_map}
use Rattle.std.specs.List.Sorted.{IsStrictlySortedBy}
use Rattle.std.specs.Ordering.{nat_cmp}
use Rattle.std.specs.Map.{keys_of}
use Rattle.lsm_rows.specs.declared.rows.Row.{Row}
use Rattle.lsm_rows.specs.Replay.{key_cmp}

-- the rows of all keys, in the keys' order
abbrev pub rows_in : {K : Type 0} → List (K × List Row) → List Row
rows_in entries = flat_map (λ e. e.1) entries

-- the first row of each key
abbrev pub heads : {K : Type 0} → List (K × List Row) → List Row
heads entries = flat_map (λ e. take 1 e.1) entries

-- the rows of one key: one at least, the greatest sequence first
pub record AreVersions (key : List ℕ) (rows : List Row) : Type 0 where
  pub some : 1 ≤ length rows
  pub of_key : All (λ row. row.key ≡ key) rows
  pub newest_first : IsStrictlySortedBy (λ a b. nat_cmp b.sequence a.sequence) rows
  pub below : All (λ row. row.sequence < 2 ^ 56) rows

-- the keys ascend, and each has its rows
pub record AreKept {Z : Type 0} (entries : List (Vec ℕ Z × List Row)) : Type 0 where
  pub ascend : IsStrictlySortedBy (λ a b. key_cmp a.items b.items) (keys_of entries)
  pub each : All (λ e. AreVersions e.0.items e.1) entries
