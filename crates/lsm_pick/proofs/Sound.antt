-- What is picked is there.
use Rattle.std.specs.Prelude.{◌≡◌, ◌≢◌, ℕ, zero, suc, ◌+◌, ◌<◌, true, false, cond, nat_lt, nat_le, List, [], ◌∷◌, ◌++◌, map, length, Contains, Option, Some, None, option_map, sum_by}
use Rattle.std.proofs.Common.{refl, sym, subst, arith, inl, inr}
use Rattle.std.specs.List.{find, fold, range_with_len, AllByRecursion}
use Rattle.std.proofs.lemmas.List.Elements.{Contains-append_cases, Contains-push_cases}
use Rattle.lsm_version.specs.declared.choices.Choice.{Choice}
use Rattle.lsm_version.specs.declared.tables.Place.{Place}
use Rattle.lsm_version.specs.declared.tables.Placed.{Placed}
use Rattle.lsm_version.specs.Levels.{Tables}
use Rattle.lsm_version.specs.Orders.{place_of, Stands}
use Rattle.lsm_pick.specs.Picked.{Range, size_of, tables_at, target, is_beyond, first_beyond, range_of_all, meets, meeting, lesser, least_of, going, choice_at, picked}
use Rattle.lsm_pick.specs.Inputs.{IsSound}
use Rattle.lsm_pick.proofs.Chosen.{Live, AreLive, level_live, going_has, kept_all, no_table}

-- ---- the level

-- a level was found, and it is beyond its target
pub record Beyond (tables : Tables) (level : ℕ) : Type 0 where
  pub below : level < 6
  pub is : is_beyond tables level ≡ true

some_is : (a b : ℕ) → Some a ≡ Some b → a ≡ b
some_is a b is = cc

found_of : (tables : Tables) (levels from level : ℕ) → from + levels ≡ 6 → find (is_beyond tables) (range_with_len from levels) ≡ Some level → Beyond tables level
found_of tables zero from level sum found = absurd (no_table level (sym found))
found_of tables (suc levels) from level sum found =
    elim (is_beyond tables from) as (λ b. is_beyond tables from ≡ b → cond b (Some from) (find (is_beyond tables) (range_with_len (from + 1) levels)) ≡ Some level → Beyond tables level) [
      | true ↦ λ is at. subst (Beyond tables) (some_is from level at) (record { below = omega (arith, sum); is = is })
      | false ↦ λ _ more. found_of tables levels (from + 1) level (omega (arith, sum)) more
    ] refl found

-- what is picked is chosen at a level beyond its target
pub record Chosen (tables : Tables) (choice : Choice) : Type 0 where
  pub level : ℕ
  pub beyond : Beyond tables level
  pub is : choice_at tables level ≡ choice

none_picked : (choice : Choice) → None ≡ Some choice → ⊥
none_picked choice is = no_table choice (sym is)

same_choice : (a b : Choice) → Some a ≡ Some b → a ≡ b
same_choice a b is = cc

pub chosen_of : (tables : Tables) (choice : Choice) → picked tables ≡ Some choice → Chosen tables choice
unfolding picked
chosen_of tables choice is =
    elim (first_beyond tables) as (λ o. first_beyond tables ≡ o → option_map (choice_at tables) o ≡ Some choice → Chosen tables choice) [
      | None ↦ λ _ none. absurd (none_picked choice none)
      | Some level ↦ λ found some. record {
        level = level;
        beyond = found_of tables 6 0 level refl found;
        is = same_choice (choice_at tables level) choice some;
      }
    ] refl is

-- ---- its tables

nothing : {A : Type 0} (x : A) → Contains [] x → ⊥
nothing x c = omega (arith, c.1)

place_stands : (tables : Tables) (table : ℕ × Placed) → Live tables table → Stands tables (place_of table)
place_stands tables table live = record { placed = table.1; there = live; level_is = refl }

stands_among : (tables : Tables) (list : List (ℕ × Placed)) → AreLive tables list → (place : Place) → Contains (map place_of list) place → Stands tables place
stands_among tables [] live place among = absurd (nothing place among)
stands_among tables (table ∷ list) live place among =
    elim (Contains-append_cases (place_of table ∷ []) (map place_of list) place among) [
      | inl one ↦ elim (Contains-push_cases [] (place_of table) place one) [
        | inl none ↦ absurd (nothing place none)
        | inr same ↦ subst (Stands tables) same (place_stands tables table live.0)
      ]
      | inr more ↦ stands_among tables list live.1 place more
    ]

pub all_append : {A : Type 0} (P : A → Type 0) (xs ys : List A) → AllByRecursion P xs → AllByRecursion P ys → AllByRecursion P (xs ++ ys)
all_append P [] ys a b = b
all_append P (x ∷ xs) ys a b = (a.0, all_append P xs ys a.1 b)

pub meeting_has : (P : ℕ × Placed → Type 0) (range : Option Range) (level : ℕ) (tables : Tables) → AllByRecursion P (tables_at level tables)
    → AllByRecursion P (meeting range level tables)
meeting_has P None level tables all = tt
meeting_has P (Some range) level tables all = kept_all P (meets range) (tables_at level tables) all

-- what goes from a level and what it is merged with
abbrev pub merged : Tables → ℕ → List (ℕ × Placed)
merged tables level = going level tables ++ meeting (range_of_all (going level tables)) (level + 1) tables

pub merged_live : (tables : Tables) (level : ℕ) → AreLive tables (merged tables level)
merged_live tables level =
    all_append (Live tables) (going level tables) (meeting (range_of_all (going level tables)) (level + 1) tables)
    (going_has (Live tables) level tables (level_live tables level))
    (meeting_has (Live tables) (range_of_all (going level tables)) (level + 1) tables (level_live tables (level + 1)))

-- ---- something goes

-- the list has a first element
pub record IsSome {A : Type 0} (xs : List A) : Type 0 where
  pub head : A
  pub tail : List A
  pub is : xs ≡ head ∷ tail

four : {A : Type 0} (xs : List A) → nat_le 4 (length xs) ≡ true → IsSome xs
four [] is = cc
four (x ∷ xs) is = record { head = x; tail = xs; is = refl }

has_bytes : (limit : ℕ) (list : List (ℕ × Placed)) → nat_lt limit (sum_by size_of list) ≡ true → IsSome (least_of list)
has_bytes limit [] is = grind arith
has_bytes limit (table ∷ list) is = record { head = fold lesser table list; tail = []; is = refl }

pub some_go : (tables : Tables) (level : ℕ) → is_beyond tables level ≡ true → IsSome (going level tables)
some_go tables zero is = four (tables_at 0 tables) is
some_go tables (suc level) is = has_bytes (target (suc level)) (tables_at (suc level) tables) is

not_nothing : (from more : List (ℕ × Placed)) → IsSome from → map place_of (from ++ more) ≢ []
not_nothing [] more some none = cc
not_nothing (table ∷ from) more some none = cc

sound_at : (tables : Tables) (level : ℕ) → Beyond tables level → IsSound tables (choice_at tables level)
sound_at tables level b = record {
  some = not_nothing (going level tables) (meeting (range_of_all (going level tables)) (level + 1) tables) (some_go tables level b.is);
  stand = stands_among tables (merged tables level) (merged_live tables level);
  below = omega arith;
  most = let below = b.below in omega (arith, below);
}

pub picked_is_sound : (tables : Tables) (choice : Choice) → picked tables ≡ Some choice → IsSound tables choice
picked_is_sound tables choice is =
    let c = chosen_of tables choice is in
    subst (IsSound tables) c.is (sound_at tables c.level c.beyond)
