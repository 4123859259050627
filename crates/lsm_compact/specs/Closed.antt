-- What a choice must be so that its inputs can be merged into the output level without a row getting above a newer one.
use Rattle.std.specs.Prelude.{◌≡◌, ℕ, ◌<◌, ◌≤◌, false, List, All, Contains, Some}
use Rattle.std.specs.List.Sorted.{IsStrictlySortedBy}
use Rattle.std.specs.FinMap as finite
use Rattle.lsm_rows.specs.declared.rows.Row.{Row}
use Rattle.lsm_rows.specs.InternalKeys.{user_key}
use Rattle.lsm_version.specs.declared.choices.Choice.{Choice}
use Rattle.lsm_version.specs.declared.tables.Place.{Place}
use Rattle.lsm_version.specs.declared.tables.Placed.{Placed}
use Rattle.lsm_version.specs.Levels.{Tables}
use Rattle.lsm_version.specs.Orders.{Stands, place_cmp}
use Rattle.lsm_pick.specs.Picked.{Range, meets}
use Rattle.lsm_compact.specs.Written.{is_input}

-- from the least user key of one table to the greatest of another
abbrev pub from_to : Placed → Placed → Range
from_to first last = record { least = user_key first.info.smallest; greatest = user_key last.info.largest }

-- a table stands that isn't read
pub record IsOutside (tables : Tables) (choice : Choice) (number : ℕ) (placed : Placed) : Type 0 where
  pub there : finite.get tables number ≡ Some placed
  pub not_read : is_input choice.inputs number ≡ false

-- the table at a place is read
pub record IsRead (tables : Tables) (choice : Choice) (number : ℕ) (placed : Placed) : Type 0 where
  pub there : finite.get tables number ≡ Some placed
  pub among : Contains choice.inputs (record { level = placed.level; number = number })

-- Inputs stand at their places, each once, by level and then by number, and none deeper than the output level. Between an
-- input's level and the output level lies no table outside the inputs. One of the output level reaches nowhere between the
-- least key of one input and the greatest of another. And one of level 0 has no row that is older than one of its key in an
-- input of level 0.
pub record IsClosed (tables : Tables) (rows : ℕ → List Row) (choice : Choice) : Type 0 where
  pub stand : (place : Place) → Contains choice.inputs place → Stands tables place
  pub ascend : IsStrictlySortedBy place_cmp choice.inputs
  pub below : 1 ≤ choice.output
  pub above : (place : Place) → Contains choice.inputs place → place.level ≤ choice.output
  pub between : (place : Place) (number : ℕ) (placed : Placed) → Contains choice.inputs place
      → IsOutside tables choice number placed → place.level < placed.level → choice.output ≤ placed.level
  pub beside : (m n number : ℕ) (first last placed : Placed) → IsRead tables choice m first → IsRead tables choice n last
      → IsOutside tables choice number placed → placed.level ≡ choice.output
      → meets (from_to first last) (number, placed) ≡ false
  pub newer : (m number : ℕ) (input placed : Placed) → IsRead tables choice m input → IsOutside tables choice number placed
      → input.level ≡ 0 → placed.level ≡ 0
      → All (λ row. All (λ other. other.key ≡ row.key → other.sequence ≤ row.sequence) (rows m)) (rows number)
