-- The tables that stand at places, one place after another, and what is kept of them.
use Rattle.std.specs.Prelude.{◌≡◌, ℕ, ◌+◌, ◌-◌, ◌^◌, ◌<◌, ◌≤◌, min, true, false, cond, List, [], ◌∷◌, ◌++◌, map, take, option_to_list, length, get_or, Option, Some, None, sum_by}
use Rattle.std.proofs.Common.{refl, sym, ap, ◌∙◌, arith, append_assoc}
use Rattle.std.proofs.lemmas.Grind.{common_steps}
use Rattle.std.specs.List.{fold, filter}
use Rattle.std.proofs.lemmas.List.Elements.{filter_map-append}
use Rattle.std.proofs.lemmas.List.Sums.{fold_push}
use Rattle.std.specs.FinMap as finite
use Rattle.lsm_version.specs.declared.tables.Place.{Place}
use Rattle.lsm_version.specs.declared.tables.Placed.{Placed}
use Rattle.lsm_version.specs.Levels.{Tables}
use Rattle.lsm_version.specs.Orders.{place_of}
use Rattle.lsm_pick.specs.Picked.{Range, size_of, range_of, joined, range_of_all, meets, lesser, least_of}
use Rattle.lsm_pick.specs.Standing.{standing, with_lesser, widened}

-- ---- one place more

module _ (tables : Tables) (places : List Place) (i : ℕ) (d : Place) (below : i < length places) where
  pub one_stands : (placed : Placed) → finite.get tables (get_or places i d).number ≡ Some placed
      → standing tables (take (i + 1) places) ≡ standing tables (take i places) ++ ((get_or places i d).number, placed) ∷ []
  one_stands placed is = grind (arith, common_steps, filter_map-append)

  pub none_stands : finite.get tables (get_or places i d).number ≡ None
      → standing tables (take (i + 1) places) ≡ standing tables (take i places)
  none_stands is = grind (arith, common_steps, filter_map-append)

  -- what is gathered from the tables takes this one in
  pub gathered : {A : Type 0} (f : A → ℕ × Placed → A) (start : A) (placed : Placed) → finite.get tables (get_or places i d).number ≡ Some placed
      → fold f start (standing tables (take (i + 1) places)) ≡ f (fold f start (standing tables (take i places))) ((get_or places i d).number, placed)
  gathered f start placed is = ap (fold f start) (one_stands placed is) ∙ fold_push f start (standing tables (take i places)) ((get_or places i d).number, placed)

  pub passed_over : {A : Type 0} (f : A → ℕ × Placed → A) (start : A) → finite.get tables (get_or places i d).number ≡ None
      → fold f start (standing tables (take (i + 1) places)) ≡ fold f start (standing tables (take i places))
  passed_over f start is = ap (fold f start) (none_stands is)

-- ---- what is gathered of all

lesser_on : (table : ℕ × Placed) (tables : List (ℕ × Placed)) → fold with_lesser (Some table) tables ≡ Some (fold lesser table tables)
lesser_on table [] = refl
lesser_on table (next ∷ tables) = lesser_on (lesser table next) tables

pub least_of_all : (tables : List (ℕ × Placed)) → option_to_list (fold with_lesser None tables) ≡ least_of tables
least_of_all [] = refl
least_of_all (table ∷ tables) = ap option_to_list (lesser_on table tables)

-- the range so far, and the next table's
abbrev pub widened_by : Option Range → ℕ × Placed → Option Range
widened_by range table = widened range (range_of table.1)

widened_on : (range : Range) (tables : List (ℕ × Placed)) → fold widened_by (Some range) tables
    ≡ Some (fold (λ (r : Range) (next : ℕ × Placed). joined r (range_of next.1)) range tables)
widened_on range [] = refl
widened_on range (next ∷ tables) = widened_on (joined range (range_of next.1)) tables

pub widened_by_all : (tables : List (ℕ × Placed)) → fold widened_by None tables ≡ range_of_all tables
widened_by_all [] = refl
widened_by_all (table ∷ tables) = widened_on (range_of table.1) tables

-- ---- places of those that meet a range

abbrev pub met : Range → List (ℕ × Placed) → List Place
met range tables = map place_of (filter (meets range) tables)

one_met : (range : Range) (tables : List (ℕ × Placed)) (table : ℕ × Placed) → meets range table ≡ true
    → met range (tables ++ table ∷ []) ≡ met range tables ++ place_of table ∷ []
one_met range [] table is = ap (λ b. map place_of (cond b (table ∷ []) [])) is
one_met range (t ∷ tables) table is =
    elim (meets range t) as (λ b. map place_of (cond b (t ∷ filter (meets range) (tables ++ table ∷ [])) (filter (meets range) (tables ++ table ∷ [])))
    ≡ map place_of (cond b (t ∷ filter (meets range) tables) (filter (meets range) tables)) ++ place_of table ∷ []) [
      | true ↦ ap (λ (ps : List Place). place_of t ∷ ps) (one_met range tables table is)
      | false ↦ one_met range tables table is
    ]

none_met : (range : Range) (tables : List (ℕ × Placed)) (table : ℕ × Placed) → meets range table ≡ false
    → met range (tables ++ table ∷ []) ≡ met range tables
none_met range [] table is = ap (λ b. map place_of (cond b (table ∷ []) [])) is
none_met range (t ∷ tables) table is =
    elim (meets range t) as (λ b. map place_of (cond b (t ∷ filter (meets range) (tables ++ table ∷ [])) (filter (meets range) (tables ++ table ∷ [])))
    ≡ map place_of (cond b (t ∷ filter (meets range) tables) (filter (meets range) tables))) [
      | true ↦ ap (λ (ps : List Place). place_of t ∷ ps) (none_met range tables table is)
      | false ↦ none_met range tables table is
    ]

module _ (range : Range) (tables : Tables) (places : List Place) (i : ℕ) (d : Place) (below : i < length places) (old out : List Place)
    (so_far : out ≡ old ++ met range (standing tables (take i places))) where
  pub pushed : (placed : Placed) (new : List Place) → finite.get tables (get_or places i d).number ≡ Some placed
      → meets range ((get_or places i d).number, placed) ≡ true
      → new ≡ out ++ place_of ((get_or places i d).number, placed) ∷ []
      → new ≡ old ++ met range (standing tables (take (i + 1) places))
  pushed placed new there meeting is =
      is ∙ ap (λ (ps : List Place). ps ++ place_of ((get_or places i d).number, placed) ∷ []) so_far
      ∙ append_assoc old (met range (standing tables (take i places))) (place_of ((get_or places i d).number, placed) ∷ [])
      ∙ ap (λ (ps : List Place). old ++ ps) (sym (one_met range (standing tables (take i places)) ((get_or places i d).number, placed) meeting))
      ∙ ap (λ (ts : List (ℕ × Placed)). old ++ met range ts) (sym (one_stands tables places i d below placed there))

  pub left_out : (placed : Placed) → finite.get tables (get_or places i d).number ≡ Some placed
      → meets range ((get_or places i d).number, placed) ≡ false
      → out ≡ old ++ met range (standing tables (take (i + 1) places))
  left_out placed there apart =
      so_far ∙ ap (λ (ps : List Place). old ++ ps) (sym (none_met range (standing tables (take i places)) ((get_or places i d).number, placed) apart))
      ∙ ap (λ (ts : List (ℕ × Placed)). old ++ met range ts) (sym (one_stands tables places i d below placed there))

  pub no_table : finite.get tables (get_or places i d).number ≡ None → out ≡ old ++ met range (standing tables (take (i + 1) places))
  no_table none = so_far ∙ ap (λ (ts : List (ℕ × Placed)). old ++ met range ts) (sym (none_stands tables places i d below none))

-- ---- loops that gather from the tables at places

module _ {A : Type 0} (f : A → ℕ × Placed → A) (start : A) (tables : Tables) (places : List Place) (i : ℕ) (d : Place) (below : i < length places)
    (now : A) (so_far : now ≡ fold f start (standing tables (take i places))) where
  pub gathers : (placed : Placed) (new : A) → finite.get tables (get_or places i d).number ≡ Some placed
      → new ≡ f now ((get_or places i d).number, placed) → new ≡ fold f start (standing tables (take (i + 1) places))
  gathers placed new there is =
      is ∙ ap (λ (a : A). f a ((get_or places i d).number, placed)) so_far ∙ sym (gathered tables places i d below f start placed there)

  pub keeps : (new : A) → finite.get tables (get_or places i d).number ≡ None → new ≡ now → new ≡ fold f start (standing tables (take (i + 1) places))
  keeps new none is = is ∙ so_far ∙ sym (passed_over tables places i d below f start none)

-- ---- sums that stay at the greatest number

-- a sum and a table's bytes, or the greatest number where they are more
abbrev pub saturated : ℕ → ℕ × Placed → ℕ
saturated bytes table = min (bytes + size_of table) (2 ^ 64 - 1)

once_saturated : (a s most : ℕ) → min (min a most + s) most ≡ min (a + s) most
once_saturated a s most = omega arith

saturated_on : (a : ℕ) (tables : List (ℕ × Placed)) → fold saturated (min a (2 ^ 64 - 1)) tables ≡ min (fold (λ b (table : ℕ × Placed). b + size_of table) a tables) (2 ^ 64 - 1)
saturated_on a [] = refl
saturated_on a (table ∷ tables) =
    ap (λ b. fold saturated b tables) (once_saturated a (size_of table) (2 ^ 64 - 1)) ∙ saturated_on (a + size_of table) tables

pub saturated_sum : (tables : List (ℕ × Placed)) → fold saturated 0 tables ≡ min (sum_by size_of tables) (2 ^ 64 - 1)
saturated_sum tables = saturated_on 0 tables

-- ---- the loops' ends: all places were gone through

all_taken : (places : List Place) (i : ℕ) → length places ≤ i → take i places ≡ places
all_taken places i past = grind (arith, common_steps)

module _ (tables : Tables) (places : List Place) (i : ℕ) where
  pub saturated_all : (bytes : ℕ) → length places ≤ i → bytes ≡ fold saturated 0 (standing tables (take i places))
      → bytes ≡ min (sum_by size_of (standing tables places)) (2 ^ 64 - 1)
  saturated_all bytes past is =
      is ∙ ap (λ (ps : List Place). fold saturated 0 (standing tables ps)) (all_taken places i past) ∙ saturated_sum (standing tables places)

  pub least_found : (least : Option (ℕ × Placed)) → length places ≤ i → least ≡ fold with_lesser None (standing tables (take i places))
      → option_to_list least ≡ least_of (standing tables places)
  least_found least past is =
      ap option_to_list (is ∙ ap (λ (ps : List Place). fold with_lesser None (standing tables ps)) (all_taken places i past)) ∙ least_of_all (standing tables places)

  pub range_found : (range : Option Range) → length places ≤ i → range ≡ fold widened_by None (standing tables (take i places))
      → range ≡ range_of_all (standing tables places)
  range_found range past is =
      is ∙ ap (λ (ps : List Place). fold widened_by None (standing tables ps)) (all_taken places i past) ∙ widened_by_all (standing tables places)
