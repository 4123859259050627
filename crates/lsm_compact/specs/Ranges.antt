-- The ranges that are kept of tables, to tell which deletes may be left out.
use Rattle.std.specs.Prelude.{ℕ, Bool, ◌&&◌, not, nat_lt, if◌then◌else◌, List, [], option_map, option_to_list}
use Rattle.std.specs.List.{list_any}
use Rattle.std.specs.Ordering.{is_le}
use Rattle.std.specs.FinMap as finite
use Rattle.lsm_rows.specs.InternalKeys.{user_key}
use Rattle.lsm_rows.specs.Replay.{key_cmp}
use Rattle.lsm_version.specs.declared.choices.Choice.{Choice}
use Rattle.lsm_version.specs.declared.tables.Place.{Place}
use Rattle.lsm_version.specs.declared.tables.Placed.{Placed}
use Rattle.lsm_version.specs.Levels.{Tables}
use Rattle.lsm_compact.specs.declared.deeper.KeyRange.{KeyRange}
use Rattle.lsm_compact.specs.Written.{is_input}

-- the key lies in the range
abbrev pub lies_in : List ℕ → KeyRange → Bool
lies_in key range = is_le (key_cmp range.least key) && is_le (key_cmp key range.greatest)

-- the key lies in one of them
abbrev pub has_key : List KeyRange → List ℕ → Bool
has_key ranges key = list_any (lies_in key) ranges

-- the range of a table
abbrev pub range_of : Placed → KeyRange
range_of placed = record { least = user_key placed.info.smallest; greatest = user_key placed.info.largest }

-- the place is deeper than the output, and isn't read
abbrev pub is_deeper : Choice → Place → Bool
is_deeper choice place = nat_lt choice.output place.level && not (is_input choice.inputs place.number)

-- the range of the table at a place, where that is deeper than the output and isn't read
abbrev pub ranges_at : Tables → Choice → Place → List KeyRange
ranges_at tables choice place =
    if is_deeper choice place then option_to_list (option_map range_of (finite.get tables place.number)) else []
