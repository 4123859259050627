-- What rows stand for: a key has the value of its row with the greatest sequence.
use Rattle.std.specs.Prelude.{◌≡◌, ◌⊎◌, ℕ, ◌<◌, ◌≤◌, nat_lt, if◌then◌else◌, List, [], ◌∷◌, All, Contains, Option, Some, None}
use Rattle.std.specs.Ordering.{eq_by_cmp}
use Rattle.std.specs.FinMap as map
use Rattle.lsm_rows.specs.declared.rows.Row.{Row}
use Rattle.lsm_rows.specs.Replay.{Contents, key_cmp}

-- of two rows the one with the greater sequence, of equal ones the first
abbrev pub newer : Row → Option Row → Row
newer row None = row
newer row (Some other) = if nat_lt row.sequence other.sequence then other else row

-- a key's row with the greatest sequence, of several such rows the first
abbrev pub newest : List ℕ → List Row → Option Row
newest key [] = None
newest key (row ∷ rows) = if eq_by_cmp key_cmp key row.key then Some (newer row (newest key rows)) else newest key rows

-- the value that a key's newest row gives it; a delete gives none
abbrev pub value_of : Option Row → Option (List ℕ)
value_of None = None
value_of (Some row) = row.value

-- a key with its value, before the other entries
abbrev pub with_entry : List ℕ → Option (List ℕ) → List (List ℕ × List ℕ) → List (List ℕ × List ℕ)
with_entry key None entries = entries
with_entry key (Some value) entries = (key, value) ∷ entries

-- an entry for each of the second rows whose key has a value among the first
abbrev pub entries_among : List Row → List Row → List (List ℕ × List ℕ)
entries_among all [] = []
entries_among all (row ∷ rows) = with_entry row.key (value_of (newest row.key all)) (entries_among all rows)

-- the contents that rows stand for
unfoldable pub contents_of : List Row → Contents
contents_of rows = map.from_entries (entries_among rows rows)

-- the row is one of the key's, and none of the key's has a greater sequence
pub record IsNewest (key : List ℕ) (rows : List Row) (row : Row) : Type 0 where
  pub among : Contains rows row
  pub of_key : row.key ≡ key
  pub greatest : All (λ other. other.key ≡ key → other.sequence ≤ row.sequence) rows

-- every sequence is below this one
abbrev pub AllBefore : ℕ → List Row → Type 0
AllBefore sequence rows = All (λ row. row.sequence < sequence) rows

-- at one key a compaction keeps the newest row of its inputs; or it leaves out a delete, where all that the
-- other rows have of the key is newer
abbrev pub KeepsKey : List Row → List Row → List Row → List ℕ → Type 0
KeepsKey others inputs outputs key =
    (newest key outputs ≡ newest key inputs)
    ⊎ ((newest key outputs ≡ None) × (gone : Row) × (newest key inputs ≡ Some gone) × (gone.value ≡ None)
    × ((other : Row) → newest key others ≡ Some other → gone.sequence < other.sequence))
