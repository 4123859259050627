-- Pairs in a sorted map of std, seen as contents.
use Rattle.std.specs.Prelude.{ℕ, List, map, Vec}
use Rattle.std.specs.Coded.{Coded, coded_ℕ, coded_list}
use Rattle.std.specs.FinMap as finite
use Rattle.lsm_rows.specs.Replay.{Contents}

-- a key and its value, as their bytes
abbrev pub pair_of : {Z : Type 0} → Vec ℕ Z × Vec ℕ Z → List ℕ × List ℕ
pair_of pair = (pair.0.items, pair.1.items)

-- the contents that entries make
abbrev pub contents_of : {Z : Type 0} → List (Vec ℕ Z × Vec ℕ Z) → Contents
contents_of entries = finite.from_entries (map pair_of entries)

abbrev pub coded_bytes : Coded (List ℕ)
coded_bytes = coded_list coded_ℕ

abbrev pub coded_contents : Coded Contents
coded_contents = finite.code coded_bytes coded_bytes
