-- The places of a version's tables: in their order, and none left out.
use Rattle.std.specs.Prelude.{◌≡◌, ◌⊎◌, ◌↔◌, ℕ, zero, suc, ◌+◌, ◌-◌, ◌<◌, ◌≤◌, ◌==◌, Bool, true, false, cond, T, List, [], ◌∷◌, ◌++◌, map, filter, reverse, Contains, Option, Some, None, is_some}
use Rattle.std.proofs.Common.{refl, sym, ap, subst, inl, inr, ◌∙◌, arith, append-nil, append_assoc}
use Rattle.std.proofs.lemmas.List.{reverse-append, reverse-reverse}
use Rattle.std.proofs.lemmas.List.Elements.{Contains-append_left, Contains-append_right, Contains-append_cases, Contains-push, Contains-push_cases}
use Rattle.std.proofs.lemmas.Bool.{eqb-true, eq-eqb}
use Rattle.std.proofs.lemmas.Bool.Decides.{eqb_tells}
use Rattle.std.specs.List.{flat_map, range_with_len, AllByRecursion}
use Rattle.std.specs.List.Sorted.{IsStrictlySortedBy}
use Rattle.std.specs.Ordering.{nat_cmp, ordering_then, is_eq, is_lt}
use Rattle.std.specs.declared.cmp.Ordering.{Ordering}
use Rattle.std.specs.declared.cmp.Ordering.TheVariants.{Less, Equal, Greater}
use Rattle.std.specs.Cmp.{nat_cmp_is}
use Rattle.std.specs.FinMap as finite
use Rattle.std.specs.FinMap.Entries.{below_all, is_sorted}
use Rattle.lsm_version.specs.declared.tables.Place.{Place}
use Rattle.lsm_version.specs.declared.tables.Placed.{Placed}
use Rattle.lsm_version.specs.Levels.{Tables}
use Rattle.lsm_version.specs.Orders.{place_of, level_places, places_from, places_of, search_order, place_cmp, Stands, AreLevels}
use Rattle.lsm_version.proofs.TableMaps.{tables_of, InOrder, entries_tables, first, later, none_from, same_number}

-- the places of a level, of a map's entries
abbrev pub places_at : ℕ → List (ℕ × Placed) → List Place
places_at level entries = map place_of (filter (λ table. table.1.level == level) entries)

-- the same of one entry more, which is of the level or not
abbrev places_if : Bool → ℕ → ℕ × Placed → List (ℕ × Placed) → List Place
places_if b level e es = map place_of (cond b (e ∷ filter (λ table. table.1.level == level) es) (filter (λ table. table.1.level == level) es))

-- a map of std keeps its entries as the tables have them
pub level_places_of : (es : List (ℕ × Placed)) (level : ℕ) → InOrder es → places_at level es ≡ level_places (tables_of es) level
unfolding level_places
level_places_of es level sorted = ap (places_at level) (sym (entries_tables es sorted))

-- ---- the walk over levels

-- the places from a level on are its own, and then those from the next
from_level : (tables : Tables) (level : ℕ) → level < 7 → places_from tables level ≡ level_places tables level ++ places_from tables (level + 1)
from_level tables level below =
    let more : 7 - level ≡ suc (7 - (level + 1)) = omega arith in
    ap (λ (n : ℕ). flat_map (level_places tables) (range_with_len level n)) more

-- one more level is gone through
pub next_level : (tables : Tables) (level : ℕ) (out new all : List Place)
    → level < 7 → new ≡ out ++ level_places tables level → out ++ places_from tables level ≡ all → new ++ places_from tables (level + 1) ≡ all
next_level tables level out new all below pushed so_far =
    ap (λ (places : List Place). places ++ places_from tables (level + 1)) pushed
    ∙ append_assoc out (level_places tables level) (places_from tables (level + 1))
    ∙ ap (λ (places : List Place). out ++ places) (sym (from_level tables level below)) ∙ so_far

-- all entries are gone through
pub level_done : (es : List (ℕ × Placed)) (level : ℕ) (out old : List Place)
    → InOrder es → out ++ [] ≡ old ++ places_at level es → out ≡ old ++ level_places (tables_of es) level
level_done es level out old sorted is =
    sym (append-nil out) ∙ is ∙ ap (λ (places : List Place). old ++ places) (level_places_of es level sorted)

-- ---- what the walks give, begun with nothing, over the tables that a version keeps

module _ (kept tables : Tables) (same : kept ≡ tables) (start : List Place) (none : start ≡ []) where
  pub level_pushed : (level : ℕ) (out : List Place) → out ≡ start ++ level_places kept level → out ≡ level_places tables level
  level_pushed level out is = is ∙ (λ i. none i ++ level_places (same i) level)

  pub all_pushed : (out : List Place) → out ≡ start ++ places_from kept 0 → out ≡ places_of tables
  unfolding places_of
  all_pushed out is = is ∙ (λ i. none i ++ places_from (same i) 0)

  pub searched : (level turned out : List Place) → level ≡ start ++ level_places kept 0 → turned ≡ reverse level
      → out ≡ turned ++ places_from kept 1 → out ≡ search_order tables
  unfolding search_order
  searched level turned out is round rest = rest ∙ (λ i. (round ∙ ap reverse (level_pushed 0 level is)) i ++ places_from (same i) 1)

-- ---- the places ascend

level_first : (a b : Place) → a.level < b.level → place_cmp a b ≡ Less
unfolding place_cmp
level_first a b below = ap (λ (o : Ordering). ordering_then o (nat_cmp a.number b.number)) (sym (nat_cmp_is a.level b.level Less below))

number_then : (a b : Place) → a.level ≡ b.level → nat_cmp a.number b.number ≡ Less → place_cmp a b ≡ Less
unfolding place_cmp
number_then a b same less = ap (λ (o : Ordering). ordering_then o (nat_cmp a.number b.number)) (sym (nat_cmp_is a.level b.level Equal same)) ∙ less

is_less : (o : Ordering) → T (is_lt o) → o ≡ Less
is_less Less t = refl
is_less Equal t = absurd t
is_less Greater t = absurd t

all_append : {A : Type 0} (P : A → Type 0) (xs ys : List A) → AllByRecursion P xs → AllByRecursion P ys → AllByRecursion P (xs ++ ys)
all_append P [] ys a b = b
all_append P (x ∷ xs) ys a b = (a.0, all_append P xs ys a.1 b)

all_so : {A : Type 0} (P Q : A → Type 0) → ((x : A) → P x → Q x) → (xs : List A) → AllByRecursion P xs → AllByRecursion Q xs
all_so P Q so [] a = tt
all_so P Q so (x ∷ xs) a = (so x a.0, all_so P Q so xs a.1)

sorted_append : {A : Type 0} (c : A → A → Ordering) (xs ys : List A) → IsStrictlySortedBy c xs → IsStrictlySortedBy c ys
    → AllByRecursion (λ x. AllByRecursion (λ y. c x y ≡ Less) ys) xs → IsStrictlySortedBy c (xs ++ ys)
unfolding IsStrictlySortedBy
sorted_append c [] ys a b apart = b
sorted_append c (x ∷ xs) ys a b apart = (all_append (λ y. c x y ≡ Less) xs ys a.0 apart.0, sorted_append c xs ys a.1 b apart.1)

-- the place is of this level, and its number is greater than this one
abbrev Follows : ℕ → ℕ → Place → Type 0
Follows level number place = (place.level ≡ level) × (nat_cmp number place.number ≡ Less)

-- where a number is below all of the entries', each place of a level follows it
below_places : (level k : ℕ) (es : List (ℕ × Placed)) → T (below_all nat_cmp k es)
    → AllByRecursion (Follows level k) (places_at level es)
below_places level k [] below = tt
below_places level k (e ∷ es) below =
    let rest = below_places level k es (later (is_lt (nat_cmp k e.0)) (below_all nat_cmp k es) below) in
    elim (e.1.level == level) as (λ b. (e.1.level == level) ≡ b → AllByRecursion (Follows level k) (places_if b level e es)) [
      | true ↦ λ is. ((eqb-true e.1.level level is, is_less (nat_cmp k e.0) (first (is_lt (nat_cmp k e.0)) (below_all nat_cmp k es) below)), rest)
      | false ↦ λ _. rest
    ] refl

at_level : (level : ℕ) (es : List (ℕ × Placed)) → AllByRecursion (λ (p : Place). p.level ≡ level) (places_at level es)
at_level level [] = tt
at_level level (e ∷ es) =
    elim (e.1.level == level) as (λ b. (e.1.level == level) ≡ b → AllByRecursion (λ (p : Place). p.level ≡ level) (places_if b level e es)) [
      | true ↦ λ is. (eqb-true e.1.level level is, at_level level es)
      | false ↦ λ _. at_level level es
    ] refl

level_ascends : (level : ℕ) (es : List (ℕ × Placed)) → T (is_sorted nat_cmp es) → IsStrictlySortedBy place_cmp (places_at level es)
unfolding IsStrictlySortedBy
level_ascends level [] sorted = tt
level_ascends level (e ∷ es) sorted =
    let rest = level_ascends level es (later (below_all nat_cmp e.0 es) (is_sorted nat_cmp es) sorted) in
    let below = below_places level e.0 es (first (below_all nat_cmp e.0 es) (is_sorted nat_cmp es) sorted) in
    elim (e.1.level == level) as (λ b. (e.1.level == level) ≡ b → IsStrictlySortedBy place_cmp (places_if b level e es)) [
      | true ↦ λ is. (
        all_so (Follows level e.0) (λ (p : Place). place_cmp (place_of e) p ≡ Less)
            (λ p b. number_then (place_of e) p (eqb-true e.1.level level is ∙ sym b.0) b.1) (places_at level es) below,
        rest,
      )
      | false ↦ λ _. rest
    ] refl

-- the places of so many levels from one on
abbrev places_of_levels : Tables → ℕ → ℕ → List Place
places_of_levels tables level levels = flat_map (level_places tables) (range_with_len level levels)

from_on : (tables : Tables) (level levels : ℕ) → AllByRecursion (λ (p : Place). level ≤ p.level) (places_of_levels tables level levels)
unfolding level_places
from_on tables level zero = tt
from_on tables level (suc levels) =
    all_append (λ (p : Place). level ≤ p.level) (level_places tables level) (places_of_levels tables (level + 1) levels)
    (all_so (λ (p : Place). p.level ≡ level) (λ (p : Place). level ≤ p.level) (λ p is. omega (arith, is))
    (level_places tables level) (at_level level (finite.entries tables)))
    (all_so (λ (p : Place). level + 1 ≤ p.level) (λ (p : Place). level ≤ p.level) (λ p more. omega (arith, more))
    (places_of_levels tables (level + 1) levels) (from_on tables (level + 1) levels))

levels_ascend : (tables : Tables) (level levels : ℕ) → IsStrictlySortedBy place_cmp (places_of_levels tables level levels)
unfolding IsStrictlySortedBy level_places
levels_ascend tables level zero = tt
levels_ascend tables level (suc levels) =
    sorted_append place_cmp (level_places tables level) (places_of_levels tables (level + 1) levels)
    (level_ascends level (finite.entries tables) (finite.entries_sorted tables)) (levels_ascend tables (level + 1) levels)
    (all_so (λ (p : Place). p.level ≡ level) (λ (p : Place). AllByRecursion (λ (q : Place). place_cmp p q ≡ Less) (places_of_levels tables (level + 1) levels))
    (λ p is. all_so (λ (q : Place). level + 1 ≤ q.level) (λ (q : Place). place_cmp p q ≡ Less) (λ q more. level_first p q (omega (arith, is, more)))
    (places_of_levels tables (level + 1) levels) (from_on tables (level + 1) levels))
    (level_places tables level) (at_level level (finite.entries tables)))

-- all places of all levels ascend
pub places_ascend : (tables : Tables) → IsStrictlySortedBy place_cmp (places_of tables)
unfolding places_of
places_ascend tables = levels_ascend tables 0 7

-- ---- the places are those where tables stand

nothing : {A : Type 0} (x : A) → Contains [] x → ⊥
nothing x c = omega (arith, c.1)

has_first : {A : Type 0} (x : A) (xs : List A) → Contains (x ∷ xs) x
has_first x xs = Contains-append_left (x ∷ []) xs x (Contains-push [] x)

has_later : {A : Type 0} (x : A) (xs : List A) (y : A) → Contains xs y → Contains (x ∷ xs) y
has_later x xs y c = Contains-append_right (x ∷ []) xs y c

by_first : {A : Type 0} (x : A) (xs : List A) (y : A) → Contains (x ∷ xs) y → (x ≡ y) ⊎ Contains xs y
by_first x xs y c =
    elim (Contains-append_cases (x ∷ []) xs y c) [
      | inl one ↦ elim (Contains-push_cases [] x y one) [ inl none ↦ absurd (nothing y none) | inr same ↦ inl same ]
      | inr more ↦ inr more
    ]

no_table : {A : Type 0} (x : A) → Some x ≡ None → ⊥
no_table x is = subst (λ (o : Option _). T (is_some o)) is tt

-- a place of a level, and the table that stands there
record Listed (level : ℕ) (es : List (ℕ × Placed)) (place : Place) : Type 0 where
  placed : Placed
  found : finite.find nat_cmp place.number es ≡ Some placed
  placed_at : placed.level ≡ level
  level_is : place.level ≡ level

found_first : (e : ℕ × Placed) (es : List (ℕ × Placed)) → finite.find nat_cmp e.0 (e ∷ es) ≡ Some e.1
found_first e es = ap (λ (o : Ordering). cond (is_eq o) (Some e.1) (finite.find nat_cmp e.0 es)) (sym (nat_cmp_is e.0 e.0 Equal refl))

found_later : (e : ℕ × Placed) (es : List (ℕ × Placed)) (q : ℕ) (placed : Placed) → T (below_all nat_cmp e.0 es)
    → finite.find nat_cmp q es ≡ Some placed → finite.find nat_cmp q (e ∷ es) ≡ Some placed
found_later e es q placed below found =
    elim (is_eq (nat_cmp q e.0)) as (λ b. is_eq (nat_cmp q e.0) ≡ b → cond b (Some e.1) (finite.find nat_cmp q es) ≡ Some placed) [
      | true ↦ λ is. absurd (no_table placed (sym found ∙ ap (λ (n : ℕ). finite.find nat_cmp n es) (same_number q e.0 is) ∙ none_from e.0 es below))
      | false ↦ λ _. found
    ] refl

listed : (level : ℕ) (es : List (ℕ × Placed)) (place : Place) → T (is_sorted nat_cmp es) → Contains (places_at level es) place → Listed level es place
listed level [] place sorted among = absurd (nothing place among)
listed level (e ∷ es) place sorted among =
    let rest : Contains (places_at level es) place → Listed level (e ∷ es) place = λ more.
    let l = listed level es place (later (below_all nat_cmp e.0 es) (is_sorted nat_cmp es) sorted) more in
    record {
      placed = l.placed;
      found = found_later e es place.number l.placed (first (below_all nat_cmp e.0 es) (is_sorted nat_cmp es) sorted) l.found;
      placed_at = l.placed_at;
      level_is = l.level_is;
    } in
    elim (e.1.level == level) as (λ b. (e.1.level == level) ≡ b → Contains (places_if b level e es) place → Listed level (e ∷ es) place) [
      | true ↦ λ is within. elim (by_first (place_of e) (places_at level es) place within) [
        | inl same ↦ subst (λ (p : Place). Listed level (e ∷ es) p) same (record {
          placed = e.1;
          found = found_first e es;
          placed_at = eqb-true e.1.level level is;
          level_is = eqb-true e.1.level level is;
        })
        | inr more ↦ rest more
      ]
      | false ↦ λ _ more. rest more
    ] refl among

first_listed : (level : ℕ) (e : ℕ × Placed) (es : List (ℕ × Placed)) (place : Place) → e.1.level ≡ level → place_of e ≡ place
    → Contains (places_at level (e ∷ es)) place
first_listed level e es place is same =
    subst (λ b. Contains (places_if b level e es) place)
    (sym (eq-eqb e.1.level level is)) (subst (λ (p : Place). Contains (place_of e ∷ places_at level es) p) same (has_first (place_of e) (places_at level es)))

later_listed : (level : ℕ) (e : ℕ × Placed) (es : List (ℕ × Placed)) (place : Place) → Contains (places_at level es) place
    → Contains (places_at level (e ∷ es)) place
later_listed level e es place among =
    elim (e.1.level == level) as (λ b. Contains (places_if b level e es) place) [
      | true ↦ has_later (place_of e) (places_at level es) place among
      | false ↦ among
    ]

some_is : (a b : Placed) → Some a ≡ Some b → a ≡ b
some_is a b is = cc

lists : (level : ℕ) (es : List (ℕ × Placed)) (n : ℕ) (placed : Placed) → finite.find nat_cmp n es ≡ Some placed → placed.level ≡ level
    → Contains (places_at level es) (record { level = level; number = n })
lists level [] n placed found is = absurd (no_table placed (sym found))
lists level (e ∷ es) n placed found is =
    let rest : finite.find nat_cmp n es ≡ Some placed → Contains (places_at level es) (record { level = level; number = n }) = λ now. lists level es n placed now is in
    elim (is_eq (nat_cmp n e.0)) as (λ b. is_eq (nat_cmp n e.0) ≡ b → cond b (Some e.1) (finite.find nat_cmp n es) ≡ Some placed
    → Contains (places_at level (e ∷ es)) (record { level = level; number = n })) [
      | true ↦ λ same now.
          let at : e.1.level ≡ level = ap (λ (p : Placed). p.level) (some_is e.1 placed now) ∙ is in
          first_listed level e es (record { level = level; number = n }) at (λ i. record { level = at i; number = sym (same_number n e.0 same) i })
      | false ↦ λ _ now. later_listed level e es (record { level = level; number = n }) (rest now)
    ] refl found

-- a level's places are of tables that stand there, and each table's is among them
level_stands : (tables : Tables) (level : ℕ) (place : Place) → Contains (level_places tables level) place → Stands tables place
unfolding level_places
level_stands tables level place among =
    let l = listed level (finite.entries tables) place (finite.entries_sorted tables) among in
    record { placed = l.placed; there = finite.get-entries tables place.number ∙ l.found; level_is = l.placed_at ∙ sym l.level_is }

stands_level : (tables : Tables) (place : Place) → Stands tables place → Contains (level_places tables place.level) place
unfolding level_places
stands_level tables place s =
    lists place.level (finite.entries tables) place.number s.placed (sym (finite.get-entries tables place.number) ∙ s.there) s.level_is

levels_stand : (tables : Tables) (level levels : ℕ) (place : Place) → Contains (places_of_levels tables level levels) place → Stands tables place
levels_stand tables level zero place among = absurd (nothing place among)
levels_stand tables level (suc levels) place among =
    elim (Contains-append_cases (level_places tables level) (places_of_levels tables (level + 1) levels) place among) [
      | inl here ↦ level_stands tables level place here
      | inr more ↦ levels_stand tables (level + 1) levels place more
    ]

stands_levels : (tables : Tables) (level levels : ℕ) (place : Place) → level ≤ place.level → place.level < level + levels → Stands tables place
    → Contains (places_of_levels tables level levels) place
stands_levels tables level zero place from to s = absurd (omega (arith, from, to))
stands_levels tables level (suc levels) place from to s =
    elim (eqb_tells level place.level) [
      | inl here ↦ Contains-append_left (level_places tables level) (places_of_levels tables (level + 1) levels) place
          (subst (λ (l : ℕ). Contains (level_places tables l) place) (sym here.1) (stands_level tables place s))
      | inr other ↦ Contains-append_right (level_places tables level) (places_of_levels tables (level + 1) levels) place
          (stands_levels tables (level + 1) levels place (omega (arith, from, other.1)) (omega (arith, to)) s)
    ]

within : (tables : Tables) → AreLevels tables → (place : Place) → Stands tables place → place.level ≤ 6
within tables levels place s = let most = levels.most place.number s.placed s.there in omega (arith, most, s.level_is)

-- the places are those at which tables stand
pub places_are_all : (tables : Tables) → AreLevels tables → (place : Place) → Contains (places_of tables) place ↔ Stands tables place
unfolding places_of
places_are_all tables levels place =
    (levels_stand tables 0 7 place, λ s. let most = within tables levels place s in stands_levels tables 0 7 place (omega arith) (omega (arith, most)) s)

-- ---- the places that a search goes through

turned_has : {A : Type 0} (xs : List A) (x : A) → Contains xs x → Contains (reverse xs) x
turned_has [] x among = absurd (nothing x among)
turned_has (y ∷ xs) x among =
    subst (λ l. Contains l x) (sym (reverse-append (y ∷ []) xs)) (elim (by_first y xs x among) [
      | inl same ↦ Contains-append_right (reverse xs) (y ∷ []) x (subst (λ z. Contains (y ∷ []) z) same (has_first y []))
      | inr more ↦ Contains-append_left (reverse xs) (y ∷ []) x (turned_has xs x more)
    ])

turned_back : {A : Type 0} (xs : List A) (x : A) → Contains (reverse xs) x → Contains xs x
turned_back xs x among = subst (λ l. Contains l x) (reverse-reverse xs) (turned_has (reverse xs) x among)

-- and so are those that a search goes through
pub the_search_finds_all : (tables : Tables) → AreLevels tables → (place : Place) → Contains (search_order tables) place ↔ Stands tables place
unfolding search_order
the_search_finds_all tables levels place = (
  λ among. elim (Contains-append_cases (reverse (level_places tables 0)) (places_of_levels tables 1 6) place among) [
    | inl zeroth ↦ level_stands tables 0 place (turned_back (level_places tables 0) place zeroth)
    | inr deeper ↦ levels_stand tables 1 6 place deeper
  ],
  λ s. let most = within tables levels place s in elim (eqb_tells 0 place.level) [
    | inl here ↦ Contains-append_left (reverse (level_places tables 0)) (places_of_levels tables 1 6) place
        (turned_has (level_places tables 0) place (subst (λ (l : ℕ). Contains (level_places tables l) place) (sym here.1) (stands_level tables place s)))
    | inr other ↦ Contains-append_right (reverse (level_places tables 0)) (places_of_levels tables 1 6) place
        (stands_levels tables 1 6 place (omega (arith, other.1)) (omega (arith, most)) s)
  ],
)
