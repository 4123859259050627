-- The tables of levels and their places, and what is chosen of them.
use Rattle.std.specs.Prelude.{◌≡◌, ◌≢◌, ℕ, zero, suc, ◌+◌, ◌-◌, ◌^◌, ◌<◌, ◌==◌, min, Bool, true, false, cond, T, nat_lt, nat_le, List, [], ◌∷◌, ◌++◌, map, length, Option, Some, None, is_some, option_map, sum_by}
use Rattle.std.proofs.Common.{refl, sym, ap, subst, ◌∙◌, arith}
use Rattle.std.proofs.lemmas.List.{length-map}
use Rattle.std.specs.List.{filter, find, fold, range_with_len, AllByRecursion}
use Rattle.std.specs.Ordering.{nat_cmp, is_eq, is_lt}
use Rattle.std.specs.declared.cmp.Ordering.{Ordering}
use Rattle.std.specs.declared.cmp.Ordering.TheVariants.{Equal}
use Rattle.std.specs.Cmp.{nat_cmp_is}
use Rattle.std.specs.FinMap as finite
use Rattle.std.specs.FinMap.Entries.{below_all, is_sorted}
use Rattle.lsm_rows.specs.InternalKeys.{user_key}
use Rattle.lsm_rows.specs.Replay.{key_cmp}
use Rattle.lsm_version.specs.declared.choices.Choice.{Choice}
use Rattle.lsm_version.specs.declared.tables.Place.{Place}
use Rattle.lsm_version.specs.declared.tables.Placed.{Placed}
use Rattle.lsm_version.specs.Levels.{Tables}
use Rattle.lsm_version.specs.Orders.{place_of, level_places}
use Rattle.lsm_version.proofs.TableMaps.{first, later, none_from, same_number}
use Rattle.lsm_pick.specs.Picked.{Range, size_of, tables_at, bytes_at, target, is_beyond, first_beyond, range_of_all, meets, meeting, lesser, least_of, going, choice_at, picked}
use Rattle.lsm_pick.specs.Standing.{standing}

-- ---- tables that stand at their numbers

-- a table of this number stands
abbrev pub Live : Tables → ℕ × Placed → Type 0
Live tables table = finite.get tables table.0 ≡ Some table.1

abbrev pub AreLive : Tables → List (ℕ × Placed) → Type 0
AreLive tables list = AllByRecursion (Live tables) list

pub no_table : {A : Type 0} (x : A) → Some x ≡ None → ⊥
no_table x is = subst (λ (o : Option _). T (is_some o)) is tt

found_first : (e : ℕ × Placed) (es : List (ℕ × Placed)) → finite.find nat_cmp e.0 (e ∷ es) ≡ Some e.1
found_first e es = ap (λ (o : Ordering). cond (is_eq o) (Some e.1) (finite.find nat_cmp e.0 es)) (sym (nat_cmp_is e.0 e.0 Equal refl))

found_later : (e : ℕ × Placed) (es : List (ℕ × Placed)) (q : ℕ) (placed : Placed) → T (below_all nat_cmp e.0 es)
    → finite.find nat_cmp q es ≡ Some placed → finite.find nat_cmp q (e ∷ es) ≡ Some placed
found_later e es q placed below found =
    elim (is_eq (nat_cmp q e.0)) as (λ b. is_eq (nat_cmp q e.0) ≡ b → cond b (Some e.1) (finite.find nat_cmp q es) ≡ Some placed) [
      | true ↦ λ is. absurd (no_table placed (sym found ∙ ap (λ (n : ℕ). finite.find nat_cmp n es) (same_number q e.0 is) ∙ none_from e.0 es below))
      | false ↦ λ _. found
    ] refl

pub all_so : {A : Type 0} (P Q : A → Type 0) → ((x : A) → P x → Q x) → (xs : List A) → AllByRecursion P xs → AllByRecursion Q xs
all_so P Q so [] a = tt
all_so P Q so (x ∷ xs) a = (so x a.0, all_so P Q so xs a.1)

all_found : (es : List (ℕ × Placed)) → T (is_sorted nat_cmp es) → AllByRecursion (λ (e : ℕ × Placed). finite.find nat_cmp e.0 es ≡ Some e.1) es
all_found [] sorted = tt
all_found (e ∷ es) sorted = (
  found_first e es,
  all_so (λ (x : ℕ × Placed). finite.find nat_cmp x.0 es ≡ Some x.1) (λ (x : ℕ × Placed). finite.find nat_cmp x.0 (e ∷ es) ≡ Some x.1)
      (λ x found. found_later e es x.0 x.1 (first (below_all nat_cmp e.0 es) (is_sorted nat_cmp es) sorted) found) es
      (all_found es (later (below_all nat_cmp e.0 es) (is_sorted nat_cmp es) sorted)),
)

pub entries_live : (tables : Tables) → AreLive tables (finite.entries tables)
entries_live tables =
    all_so (λ (x : ℕ × Placed). finite.find nat_cmp x.0 (finite.entries tables) ≡ Some x.1) (Live tables)
    (λ x found. finite.get-entries tables x.0 ∙ found) (finite.entries tables) (all_found (finite.entries tables) (finite.entries_sorted tables))

pub kept_all : {A : Type 0} (P : A → Type 0) (test : A → Bool) (xs : List A) → AllByRecursion P xs → AllByRecursion P (filter test xs)
kept_all P test [] a = tt
kept_all P test (x ∷ xs) a =
    elim (test x) as (λ b. AllByRecursion P (cond b (x ∷ filter test xs) (filter test xs))) [
      | true ↦ (a.0, kept_all P test xs a.1)
      | false ↦ kept_all P test xs a.1
    ]

pub level_live : (tables : Tables) (level : ℕ) → AreLive tables (tables_at level tables)
level_live tables level = kept_all (Live tables) (λ (table : ℕ × Placed). table.1.level == level) (finite.entries tables) (entries_live tables)

lesser_has : (P : ℕ × Placed → Type 0) (a b : ℕ × Placed) → P a → P b → P (lesser a b)
lesser_has P a b of_a of_b =
    elim (is_lt (key_cmp (user_key b.1.info.smallest) (user_key a.1.info.smallest))) as (λ t. P (cond t b a)) [
      | true ↦ of_b
      | false ↦ of_a
    ]

least_has : (P : ℕ × Placed → Type 0) (table : ℕ × Placed) (tables : List (ℕ × Placed)) → P table → AllByRecursion P tables → P (fold lesser table tables)
least_has P table [] of_table rest = of_table
least_has P table (next ∷ tables) of_table rest = least_has P (lesser table next) tables (lesser_has P table next of_table rest.0) rest.1

least_all : (P : ℕ × Placed → Type 0) (tables : List (ℕ × Placed)) → AllByRecursion P tables → AllByRecursion P (least_of tables)
least_all P [] all = tt
least_all P (table ∷ tables) all = (least_has P table tables all.0 all.1, tt)

pub going_has : (P : ℕ × Placed → Type 0) (level : ℕ) (tables : Tables) → AllByRecursion P (tables_at level tables) → AllByRecursion P (going level tables)
going_has P zero tables all = all
going_has P (suc level) tables all = least_all P (tables_at (suc level) tables) all

-- tables that stand, found by their places
pub stand_again : (tables : Tables) (list : List (ℕ × Placed)) → AreLive tables list → standing tables (map place_of list) ≡ list
stand_again tables [] live = refl
stand_again tables (table ∷ list) live = rw (live.0) (ap (λ (l : List (ℕ × Placed)). table ∷ l) (stand_again tables list live.1))

-- ---- a level's places

pub level_stands : (tables : Tables) (level : ℕ) → standing tables (level_places tables level) ≡ tables_at level tables
unfolding level_places
level_stands tables level = stand_again tables (tables_at level tables) (level_live tables level)

pub zeroth_goes : (tables : Tables) (level : ℕ) → level ≡ 0 → level_places tables level ≡ map place_of (going level tables)
unfolding level_places
zeroth_goes tables level is = subst (λ l. level_places tables l ≡ map place_of (going l tables)) (sym is) refl

pub least_goes : (tables : Tables) (level : ℕ) (places : List Place) → level ≢ 0 → places ≡ level_places tables level
    → least_of (standing tables places) ≡ going level tables
least_goes tables zero places other is = absurd (other refl)
least_goes tables (suc level) places other is = ap (λ (ps : List Place). least_of (standing tables ps)) is ∙ ap least_of (level_stands tables (suc level))

pub meeting_of : (tables : Tables) (level : ℕ) (range : Range) (places : List Place) → places ≡ level_places tables level
    → filter (meets range) (standing tables places) ≡ meeting (Some range) level tables
meeting_of tables level range places is = ap (λ (ps : List Place). filter (meets range) (standing tables ps)) is ∙ ap (filter (meets range)) (level_stands tables level)

-- ---- beyond the target

pub beyond_by_count : (tables : Tables) (level count : ℕ) → level ≡ 0 → count ≡ length (level_places tables level) → nat_le 4 count ≡ is_beyond tables level
unfolding level_places
beyond_by_count tables level count zeroth is =
    ap (nat_le 4) (is ∙ length-map (tables_at level tables) place_of)
    ∙ subst (λ l. nat_le 4 (length (tables_at l tables)) ≡ is_beyond tables l) (sym zeroth) refl

capped : (target bytes : ℕ) → target < 2 ^ 64 - 1 → nat_lt target (min bytes (2 ^ 64 - 1)) ≡ nat_lt target bytes
capped target bytes small = grind arith

pub beyond_by_bytes : (tables : Tables) (level bytes limit : ℕ) (places : List Place) → level ≢ 0 → limit ≡ target level → limit < 2 ^ 64 - 1
    → places ≡ level_places tables level → bytes ≡ min (sum_by size_of (standing tables places)) (2 ^ 64 - 1)
    → nat_lt limit bytes ≡ is_beyond tables level
beyond_by_bytes tables zero bytes limit places other limit_is small is bytes_are = absurd (other refl)
beyond_by_bytes tables (suc level) bytes limit places other limit_is small is bytes_are =
    ap (nat_lt limit) (bytes_are ∙ ap (λ (ps : List Place). min (sum_by size_of (standing tables ps)) (2 ^ 64 - 1)) is
    ∙ ap (λ (ts : List (ℕ × Placed)). min (sum_by size_of ts) (2 ^ 64 - 1)) (level_stands tables (suc level)))
    ∙ capped limit (bytes_at (suc level) tables) small
    ∙ ap (λ t. nat_lt t (bytes_at (suc level) tables)) limit_is

-- the least level beyond its target, of those from this one on
abbrev pub beyond_from : Tables → ℕ → Option ℕ
beyond_from tables level = find (is_beyond tables) (range_with_len level (6 - level))

pub from_level : (tables : Tables) (level : ℕ) → level < 6 → beyond_from tables level ≡ cond (is_beyond tables level) (Some level) (beyond_from tables (level + 1))
from_level tables level below =
    let more : 6 - level ≡ suc (6 - (level + 1)) = omega arith in
    ap (λ (n : ℕ). find (is_beyond tables) (range_with_len level n)) more

pub begun : (tables : Tables) → beyond_from tables 0 ≡ first_beyond tables
begun tables = refl

pub this_level : (tables : Tables) (level : ℕ) (all : Option ℕ) → level < 6 → is_beyond tables level ≡ true → beyond_from tables level ≡ all → Some level ≡ all
this_level tables level all below is so_far = sym (ap (λ b. cond b (Some level) (beyond_from tables (level + 1))) is) ∙ sym (from_level tables level below) ∙ so_far

pub next_level : (tables : Tables) (level : ℕ) (all : Option ℕ) → level < 6 → is_beyond tables level ≡ false → beyond_from tables level ≡ all
    → beyond_from tables (level + 1) ≡ all
next_level tables level all below is so_far = sym (ap (λ b. cond b (Some level) (beyond_from tables (level + 1))) is) ∙ sym (from_level tables level below) ∙ so_far

-- ---- the choice

pub chosen : (tables : Tables) (level : ℕ) (from inputs : List Place) (range : Option Range) → from ≡ map place_of (going level tables)
    → range ≡ range_of_all (standing tables from) → inputs ≡ from ++ map place_of (meeting range (level + 1) tables)
    → record { inputs = inputs; output = level + 1 } ≡ choice_at tables level
chosen tables level from inputs range goes range_is is =
    let ranged : range ≡ range_of_all (going level tables) =
    range_is ∙ ap (λ (ps : List Place). range_of_all (standing tables ps)) goes
    ∙ ap range_of_all (stand_again tables (going level tables) (going_has (Live tables) level tables (level_live tables level))) in
    ap (λ (places : List Place). record { inputs = places; output = level + 1 })
    (is ∙ (λ i. goes i ++ map place_of (meeting (ranged i) (level + 1) tables)) ∙ sym (places_joined (going level tables) (meeting (range_of_all (going level tables)) (level + 1) tables)))
  where
    places_joined : (xs ys : List (ℕ × Placed)) → map place_of (xs ++ ys) ≡ map place_of xs ++ map place_of ys
    places_joined [] ys = refl
    places_joined (x ∷ xs) ys = ap (λ (l : List Place). place_of x ∷ l) (places_joined xs ys)

pub met_of : (tables : Tables) (level : ℕ) (from : List Place) (range : Range) (asked : Option Range) (places : List Place) → asked ≡ Some range
    → places ≡ level_places tables level
    → from ++ map place_of (filter (meets range) (standing tables places)) ≡ from ++ map place_of (meeting asked level tables)
met_of tables level from range asked places is places_are =
    ap (λ (ts : List (ℕ × Placed)). from ++ map place_of ts) (meeting_of tables level range places places_are ∙ ap (λ o. meeting o level tables) (sym is))

pub none_beyond : (tables : Tables) → first_beyond tables ≡ None → None ≡ picked tables
unfolding picked
none_beyond tables is = ap (option_map (choice_at tables)) (sym is)

pub some_beyond : (tables : Tables) (level : ℕ) (choice : Choice) → first_beyond tables ≡ Some level → choice ≡ choice_at tables level → Some choice ≡ picked tables
unfolding picked
some_beyond tables level choice is chosen = ap Some chosen ∙ ap (option_map (choice_at tables)) (sym is)
