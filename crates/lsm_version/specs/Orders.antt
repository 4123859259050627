-- The orders in which a version's tables are gone through.
use Rattle.std.specs.Prelude.{◌≡◌, ℕ, ◌+◌, ◌-◌, ◌≤◌, ◌==◌, List, ◌++◌, map, filter, reverse, Some}
use Rattle.std.specs.List.{flat_map, range_with_len}
use Rattle.std.specs.Ordering.{nat_cmp, ordering_then}
use Rattle.std.specs.declared.cmp.Ordering.{Ordering}
use Rattle.std.specs.FinMap as finite
use Rattle.lsm_version.specs.declared.tables.Place.{Place}
use Rattle.lsm_version.specs.declared.tables.Placed.{Placed}
use Rattle.lsm_version.specs.Edits.{last_level}
use Rattle.lsm_version.specs.Levels.{Tables}

-- where a table of this number stands
abbrev pub place_of : ℕ × Placed → Place
place_of table = record { level = table.1.level; number = table.0 }

-- the places of a level, by number
unfoldable pub level_places : Tables → ℕ → List Place
level_places tables level = map place_of (filter (λ table. table.1.level == level) (finite.entries tables))

-- the places of the levels from this one to the last, each level by number
abbrev pub places_from : Tables → ℕ → List Place
places_from tables level = flat_map (level_places tables) (range_with_len level (last_level + 1 - level))

-- all places, by level and then by number
unfoldable pub places_of : Tables → List Place
places_of tables = places_from tables 0

-- The order in which a key is looked for, newest rows first: level 0 from the greatest number to the least, and then the
-- levels below it.
unfoldable pub search_order : Tables → List Place
search_order tables = reverse (level_places tables 0) ++ places_from tables 1

-- places are ordered by level, and of one level by number
unfoldable pub place_cmp : Place → Place → Ordering
place_cmp a b = ordering_then (nat_cmp a.level b.level) (nat_cmp a.number b.number)

-- a table of the place's number stands at its level
pub record Stands (tables : Tables) (place : Place) : Type 0 where
  pub placed : Placed
  pub there : finite.get tables place.number ≡ Some placed
  pub level_is : placed.level ≡ place.level

-- every table stands at one of the seven levels
pub record AreLevels (tables : Tables) : Type 0 where
  pub most : (number : ℕ) (placed : Placed) → finite.get tables number ≡ Some placed → placed.level ≤ last_level
