-- The tables that stand at places of a version.
use Rattle.std.specs.Prelude.{ℕ, List, Option, Some, None, filter_map, option_map}
use Rattle.std.specs.FinMap as finite
use Rattle.lsm_version.specs.declared.tables.Place.{Place}
use Rattle.lsm_version.specs.declared.tables.Placed.{Placed}
use Rattle.lsm_version.specs.Levels.{Tables}
use Rattle.lsm_pick.specs.Picked.{Range, joined, lesser}

-- the table of a place's number, if one stands
abbrev pub standing_at : Tables → Place → Option (ℕ × Placed)
standing_at tables place = option_map (λ placed. (place.number, placed)) (finite.get tables place.number)

-- the tables of the places' numbers, in the places' order
abbrev pub standing : Tables → List Place → List (ℕ × Placed)
standing tables places = filter_map (standing_at tables) places

-- the lesser of a table that came before, if any, and the next
abbrev pub with_lesser : Option (ℕ × Placed) → ℕ × Placed → Option (ℕ × Placed)
with_lesser None next = Some next
with_lesser (Some least) next = Some (lesser least next)

-- the range that came before, if any, joined with the next
abbrev pub widened : Option Range → Range → Option Range
widened None next = Some next
widened (Some range) next = Some (joined range next)
