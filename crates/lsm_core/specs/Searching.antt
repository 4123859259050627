-- Where a search for a key looks, and what it has met on its way.
use Rattle.std.specs.Prelude.{◌≡◌, ◌≢◌, ℕ, ◌≤◌, Bool, true, false, ◌&&◌, nat_lt, nat_eq, if◌then◌else◌, List, [], ◌∷◌, ◌++◌, filter, All, Contains, Option, Some, None}
use Rattle.std.specs.List.{IsDistinct}
use Rattle.std.specs.Ordering.{is_le}
use Rattle.std.specs.FinMap as finmap
use Rattle.lsm_rows.specs.declared.rows.Row.{Row}
use Rattle.lsm_rows.specs.Contents.{newest}
use Rattle.lsm_rows.specs.InternalKeys.{user_key}
use Rattle.lsm_rows.specs.Replay.{key_cmp}
use Rattle.lsm_version.specs.declared.tables.Place.{Place}
use Rattle.lsm_version.specs.declared.tables.Placed.{Placed}
use Rattle.lsm_version.specs.declared.tables.TableInfo.{TableInfo}
use Rattle.lsm_version.specs.Levels.{Tables, IsLeveled}
use Rattle.lsm_version.specs.Orders.{AreLevels, Stands, search_order}
use Rattle.lsm_folder.specs.Needed.{sequences}
use Rattle.lsm_folder.specs.Parts.{rows_of_tables}
use Rattle.lsm_core.specs.declared.meeting.Met.{Met}

-- ---- where it looks

-- the key lies in the table's range of user keys, from the least to the greatest
unfoldable pub may_have : List ℕ → TableInfo → Bool
may_have key info = is_le (key_cmp (user_key info.smallest) key) && is_le (key_cmp key (user_key info.largest))

-- so it is with the table that stands there, if any
abbrev pub has_in_range : List ℕ → Option Placed → Bool
has_in_range key None = false
has_in_range key (Some placed) = may_have key placed.info

-- the places at which a search for a key looks, newest rows first: those of the tables whose ranges
-- have the key
unfoldable pub looked_at : Tables → List ℕ → List Place
looked_at tables key = filter (λ place. has_in_range key (finmap.get tables place.number)) (search_order tables)

-- ---- what it has met

-- of two rows that were met the one with the greater sequence
unfoldable pub better : Option Met → ℕ → Option Row → Option Met
better met level None = met
better None level (Some row) = Some (record { row = row; level = level })
better (Some met) level (Some row) =
    if nat_lt met.row.sequence row.sequence then Some (record { row = row; level = level }) else Some met

-- a row was met at a level above this one
abbrev pub goes_deeper : Option Met → ℕ → Bool
goes_deeper None level = false
goes_deeper (Some met) level = nat_lt met.level level

-- the row that was met
abbrev pub row_met : Option Met → Option Row
row_met None = None
row_met (Some met) = Some met.row

-- what it gives its key
abbrev pub value_met : Option Met → Option (List ℕ)
value_met None = None
value_met (Some met) = met.row.value

-- the row is one of the key's, of a live table at the level
pub record IsMet (tables : Tables) (rows : ℕ → List Row) (key : List ℕ) (met : Met) : Type 0 where
  pub number : ℕ
  pub placed : Placed
  pub there : finmap.get tables number ≡ Some placed
  pub level_is : placed.level ≡ met.level
  pub among : Contains (rows number) met.row
  pub of_key : met.row.key ≡ key

-- if one was met it is so
abbrev pub IsMetIfAny : Tables → (ℕ → List Row) → List ℕ → Option Met → Type 0
IsMetIfAny tables rows key None = Unit {0}
IsMetIfAny tables rows key (Some met) = IsMet tables rows key met

-- a row is of another key, or its sequence isn't past that of the row that was met
abbrev pub IsAtMost : List ℕ → Option Met → Row → Type 0
IsAtMost key None row = row.key ≢ key
IsAtMost key (Some met) row = row.key ≡ key → row.sequence ≤ met.row.sequence

-- A search that has gone through these places has met a row of the key in a live table, and none of
-- theirs is newer; or it has met none, and none of theirs is the key's.
pub record HasMet (tables : Tables) (rows : ℕ → List Row) (key : List ℕ) (places : List Place) (met : Option Met) : Type 0 where
  pub is_met : IsMetIfAny tables rows key met
  pub most : All (λ (place : Place). All (IsAtMost key met) (rows place.number)) places

-- Tables stand at the seven levels, which are in order; a table's range has the keys of its rows;
-- and no two rows have one sequence. So a search that has met a row needn't look at deeper levels.
pub record IsSearchable (tables : Tables) (rows : ℕ → List Row) : Type 0 where
  pub levels : AreLevels tables
  pub leveled : IsLeveled tables rows
  pub ranged : (number : ℕ) (placed : Placed) → finmap.get tables number ≡ Some placed
      → All (λ (row : Row). may_have row.key placed.info ≡ true) (rows number)
  pub distinct : IsDistinct nat_eq (sequences (rows_of_tables tables rows))

-- what a search has met after so many places more
abbrev pub MeetsMore : Tables → List ℕ → Place → Option Met → (ℕ → List Row) → Option Met → Type 0
MeetsMore tables key place met rows now =
    (places : List Place) → IsSearchable tables rows → Stands tables place → HasMet tables rows key places met
    → HasMet tables rows key (places ++ place ∷ []) now

-- what a search has met behind these places
abbrev pub MeetsAll : Tables → List ℕ → List Place → (ℕ → List Row) → Option Met → Type 0
MeetsAll tables key places rows met = IsSearchable tables rows → All (Stands tables) places → HasMet tables rows key places met

-- the row is the key's newest in tables
abbrev pub FindsNewest : Tables → List ℕ → (ℕ → List Row) → Option Row → Type 0
FindsNewest tables key rows row = IsSearchable tables rows → row ≡ newest key (rows_of_tables tables rows)
