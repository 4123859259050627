-- Rows gathered one by one, whatever the order of their sequences: each key has its newest row.
use Rattle.std.specs.Prelude.{ℕ, Bool, true, nat_lt, if◌then◌else◌, List, Option, Some, None, refl}
use Rattle.std.specs.List.{fold}
use Rattle.std.specs.Coded.{Coded, code_by, coded×, coded_ℕ}
use Rattle.std.specs.FinMap as finmap
use Rattle.lsm_rows.specs.declared.rows.Row.{Row}
use Rattle.lsm_rows.specs.Pairs.{coded_bytes, coded_contents}
use Rattle.lsm_rows.specs.Replay.{Contents, key_cmp}

-- what is kept of rows: by key the value of its newest row, and that row's sequence, also where it
-- is a delete
pub record Gathered : Type 0 where
  pub contents : Contents
  pub sequences : finmap.FinMap key_cmp ℕ

abbrev pub coded_gathered : Coded Gathered
coded_gathered = code_by (Contents × finmap.FinMap key_cmp ℕ) (coded× coded_contents (finmap.code coded_bytes coded_ℕ))
    (λ g. (g.contents, g.sequences)) (λ p. record { contents = p.0; sequences = p.1 }) (λ _. refl)

-- no rows
abbrev pub none_gathered : Gathered
none_gathered = record { contents = finmap.empty; sequences = finmap.empty }

-- a row of this sequence is newer than the newest of its key
abbrev pub is_newer : Option ℕ → ℕ → Bool
is_newer None sequence = true
is_newer (Some newest) sequence = nat_lt newest sequence

-- a row's value is its key's, and a delete gives none
abbrev pub with_value : Contents → List ℕ → Option (List ℕ) → Contents
with_value contents key None = finmap.remove contents key
with_value contents key (Some value) = finmap.insert contents key value

-- one more row: it counts where it is newer than each of its key before it
unfoldable pub with_row : Gathered → Row → Gathered
with_row gathered row =
    if is_newer (finmap.get gathered.sequences row.key) row.sequence
    then record {
      contents = with_value gathered.contents row.key row.value;
      sequences = finmap.insert gathered.sequences row.key row.sequence;
    }
    else gathered

abbrev pub with_rows : Gathered → List Row → Gathered
with_rows gathered rows = fold with_row gathered rows
