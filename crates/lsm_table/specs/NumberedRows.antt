-- A table whose rows come with keys that each follow the one before, as in tests.
use Rattle.std.specs.Prelude.{◌≡◌, ℕ, ◌/◌, ◌%◌, ◌^◌, ◌<◌, All, List, [], ◌∷◌, map}
use Rattle.std.specs.List.Sorted.{IsStrictlySortedBy}
use Rattle.std.specs.declared.cmp.Ordering.TheVariants.{Less}
use Rattle.lsm_rows.specs.declared.rows.Row.{Row}
use Rattle.lsm_rows.specs.Replay.{key_cmp}
use Rattle.lsm_table.specs.Building.{Built, IsBuilt}

-- the key with this number: two bytes, the greater first
unfoldable pub numbered : ℕ → List ℕ
numbered number = number / 256 % 256 ∷ number % 256 ∷ []

-- the builder has rows in the order of their keys, all of which come before this key
pub record IsBuiltBefore (v : Built) (key : List ℕ) : Type 0 where
  pub rows : List Row
  pub handed : List ℕ
  pub built : IsBuilt v rows handed
  pub ascend : IsStrictlySortedBy key_cmp (map (λ row. row.key) rows)
  pub before : All (λ k. key_cmp k key ≡ Less) (map (λ row. row.key) rows)
  pub sequences : All (λ row. row.sequence < 2 ^ 56) rows
