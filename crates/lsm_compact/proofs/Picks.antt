-- What the shape of the levels picks, and all tables, may be merged.
use Rattle.std.specs.Prelude.{◌≡◌, ◌⊎◌, ℕ, zero, suc, ◌+◌, ◌<◌, ◌≤◌, ◌==◌, Bool, true, false, cond, List, [], ◌∷◌, ◌++◌, map, length, Contains, Option, Some, None}
use Rattle.std.proofs.Common.{refl, sym, ap, subst, inl, inr, ⊎_elim, ◌∙◌, arith}
use Rattle.std.proofs.lemmas.List.{map-append}
use Rattle.std.proofs.lemmas.Bool.{cases_lt, eqb-true, eq-eqb}
use Rattle.std.proofs.lemmas.List.Elements.{All-contains, All-contains_itself, All-from_recursion, recursion_from_All, Contains-append_cases, Contains-append_left, Contains-append_right}
use Rattle.std.specs.List.{filter, fold, flat_map, range_with_len, AllByRecursion}
use Rattle.std.specs.List.Sorted.{IsStrictlySortedBy}
use Rattle.std.specs.Cmp.{nat_cmp_is}
use Rattle.std.specs.declared.cmp.Ordering.{Ordering}
use Rattle.std.specs.Ordering.{is_le, nat_cmp, ordering_then}
use Rattle.std.specs.declared.cmp.Ordering.TheVariants.{Less}
use Rattle.std.specs.FinMap as finite
use Rattle.lsm_rows.specs.declared.rows.Row.{Row}
use Rattle.lsm_rows.specs.InternalKeys.{user_key}
use Rattle.lsm_rows.specs.Replay.{key_cmp}
use Rattle.lsm_version.specs.declared.choices.Choice.{Choice}
use Rattle.lsm_version.specs.declared.tables.Place.{Place}
use Rattle.lsm_version.specs.declared.tables.Placed.{Placed}
use Rattle.lsm_version.specs.Levels.{Tables, overlap}
use Rattle.lsm_version.specs.Orders.{AreLevels, Stands, place_cmp, place_of, level_places, places_of}
use Rattle.lsm_version.proofs.PlaceOrders.{places_ascend, places_are_all}
use Rattle.lsm_pick.specs.Picked.{Range, tables_at, range_of, joined, range_of_all, meets, meeting, least_of, going, choice_at, picked}
use Rattle.lsm_pick.proofs.Chosen.{going_has}
use Rattle.lsm_pick.proofs.Sound.{Beyond, chosen_of, IsSome, some_go, all_append}
use Rattle.lsm_compact.specs.Closed.{IsClosed, IsOutside, IsRead, from_to}
use Rattle.lsm_compact.specs.Orderly.{IsOrderly, in_range}
use Rattle.lsm_compact.proofs.Keys.{untrue, both_true, first_true, later_true, AtMost, most_itself, most_trans, below_most, not_most, not_below, least_to_greatest, not_so}
use Rattle.lsm_compact.proofs.Members.{nothing, has_first, has_later, by_first, from_filter, to_filter, Contains-map, map_source, entry_stands, stands_entry}
use Rattle.lsm_compact.proofs.Outside.{apart_numbers, is_among}

-- ---- the range of what goes

abbrev less_of : List ℕ → List ℕ → List ℕ
less_of a b = cond (is_le (key_cmp a b)) a b

abbrev greater_of : List ℕ → List ℕ → List ℕ
greater_of a b = cond (is_le (key_cmp b a)) a b

less_both : (a b : List ℕ) → AtMost (less_of a b) a × AtMost (less_of a b) b
less_both a b =
    elim (is_le (key_cmp a b)) as (λ t. is_le (key_cmp a b) ≡ t → AtMost (cond t a b) a × AtMost (cond t a b) b) [
      | true ↦ λ is. (most_itself a, is)
      | false ↦ λ is. (below_most b a (not_most a b is), most_itself b)
    ] refl

greater_both : (a b : List ℕ) → AtMost a (greater_of a b) × AtMost b (greater_of a b)
greater_both a b =
    elim (is_le (key_cmp b a)) as (λ t. is_le (key_cmp b a) ≡ t → AtMost a (cond t a b) × AtMost b (cond t a b)) [
      | true ↦ λ is. (most_itself a, is)
      | false ↦ λ is. (below_most a b (not_most b a is), most_itself b)
    ] refl

-- one range has another in it
record Covers (outer inner : Range) : Type 0 where
  least : AtMost outer.least inner.least
  greatest : AtMost inner.greatest outer.greatest

covers_itself : (r : Range) → Covers r r
covers_itself r = record { least = most_itself r.least; greatest = most_itself r.greatest }

covers_more : (a b c : Range) → Covers a b → Covers b c → Covers a c
covers_more a b c p q = record {
  least = most_trans a.least b.least c.least p.least q.least;
  greatest = most_trans c.greatest b.greatest a.greatest q.greatest p.greatest;
}

covers_left : (a b : Range) → Covers (joined a b) a
covers_left a b = record { least = (less_both a.least b.least).0; greatest = (greater_both a.greatest b.greatest).0 }

covers_right : (a b : Range) → Covers (joined a b) b
covers_right a b = record { least = (less_both a.least b.least).1; greatest = (greater_both a.greatest b.greatest).1 }

abbrev widest : Range → List (ℕ × Placed) → Range
widest range tables = fold (λ (r : Range) (next : ℕ × Placed). joined r (range_of next.1)) range tables

covers_start : (tables : List (ℕ × Placed)) (range : Range) → Covers (widest range tables) range
covers_start [] range = covers_itself range
covers_start (t ∷ tables) range =
    let wider = joined range (range_of t.1) in
    covers_more (widest wider tables) wider range (covers_start tables wider) (covers_left range (range_of t.1))

covers_each : (tables : List (ℕ × Placed)) (range : Range) (table : ℕ × Placed) → Contains tables table → Covers
    (widest range tables) (range_of table.1)
covers_each [] range table c = absurd (nothing table c)
covers_each (t ∷ tables) range table c =
    let wider = joined range (range_of t.1) in
    elim (by_first t tables table c) [
      | inl same ↦ subst (λ (x : ℕ × Placed). Covers (widest wider tables) (range_of x.1)) same
          (covers_more (widest wider tables) wider (range_of t.1) (covers_start tables wider)
          (covers_right range (range_of t.1)))
      | inr more ↦ covers_each tables wider table more
    ]

-- the range of tables, one at least, has each of theirs in it
record Hull (tables : List (ℕ × Placed)) : Type 0 where
  range : Range
  is : range_of_all tables ≡ Some range
  covers : (table : ℕ × Placed) → Contains tables table → Covers range (range_of table.1)

hull : (tables : List (ℕ × Placed)) → IsSome tables → Hull tables
hull [] some = absurd (none some.is)
  where
    none : [] ≡ some.head ∷ some.tail → ⊥
    none e = cc
hull (t ∷ tables) some = record {
  range = widest (range_of t.1) tables;
  is = refl;
  covers = λ table c. elim (by_first t tables table c) [
    | inl same ↦ subst (λ (x : ℕ × Placed). Covers (widest (range_of t.1) tables) (range_of x.1)) same
        (covers_start tables (range_of t.1))
    | inr more ↦ covers_each tables (range_of t.1) table more
  ];
}

-- ---- the tables of a level

at_level : (tables : Tables) (level : ℕ) (table : ℕ × Placed) → Contains (tables_at level tables) table
    → (finite.get tables table.0 ≡ Some table.1) × (table.1.level ≡ level)
at_level tables level table c =
    let f = from_filter (λ (t : ℕ × Placed). t.1.level == level) (finite.entries tables) table c in
    (entry_stands tables table f.0, eqb-true table.1.level level f.1)

of_level : (tables : Tables) (level n : ℕ) (placed : Placed) → finite.get tables n ≡ Some placed → placed.level ≡ level
    → Contains (tables_at level tables) (n, placed)
of_level tables level n placed there is =
    to_filter (λ (t : ℕ × Placed). t.1.level == level) (finite.entries tables) (n, placed)
    (stands_entry tables n placed there) (eq-eqb placed.level level is)

pub goes_at : (tables : Tables) (level : ℕ) (table : ℕ × Placed) → Contains (going level tables) table
    → (finite.get tables table.0 ≡ Some table.1) × (table.1.level ≡ level)
goes_at tables level table c =
    at_level tables level table
    (All-contains (Contains (tables_at level tables)) (going level tables) table
    (All-from_recursion (Contains (tables_at level tables)) (going level tables)
    (going_has (Contains (tables_at level tables)) level tables
    (recursion_from_All (Contains (tables_at level tables)) (tables_at level tables)
    (All-contains_itself (tables_at level tables))))) c)

-- a table that meets the range lies at its level
pub met_level : (tables : Tables) (level : ℕ) (table : ℕ × Placed)
    → Contains (meeting (range_of_all (going level tables)) (level + 1) tables) table → table.1.level ≡ level + 1
met_level tables level table c = by_range (range_of_all (going level tables)) c
  where
    by_range : (range : Option Range) → Contains (meeting range (level + 1) tables) table → table.1.level ≡ level + 1
    by_range None has = absurd (nothing table has)
    by_range (Some range) has =
        (at_level tables (level + 1) table (from_filter (meets range) (tables_at (level + 1) tables) table has).0).1

-- ---- places in order

level_first : (a b : Place) → a.level < b.level → place_cmp a b ≡ Less
unfolding place_cmp
level_first a b below = ap (λ (o : Ordering). ordering_then o (nat_cmp a.number b.number))
    (sym (nat_cmp_is a.level b.level Less below))

all_keeps : {A B : Type 0} (P : B → Type 0) (f : A → B) (p : A → Bool) (xs : List A) → AllByRecursion P (map f xs)
    → AllByRecursion P (map f (filter p xs))
all_keeps P f p [] all = tt
all_keeps P f p (x ∷ xs) all =
    elim (p x) as (λ b. AllByRecursion P (map f (cond b (x ∷ filter p xs) (filter p xs)))) [
      | true ↦ (all.0, all_keeps P f p xs all.1)
      | false ↦ all_keeps P f p xs all.1
    ]

filter_ascends : (p : ℕ × Placed → Bool) (xs : List (ℕ × Placed)) → IsStrictlySortedBy place_cmp (map place_of xs)
    → IsStrictlySortedBy place_cmp (map place_of (filter p xs))
unfolding IsStrictlySortedBy
filter_ascends p [] ascend = tt
filter_ascends p (x ∷ xs) ascend =
    elim (p x) as (λ b. IsStrictlySortedBy place_cmp (map place_of (cond b (x ∷ filter p xs) (filter p xs)))) [
      | true ↦ (all_keeps (λ y. place_cmp (place_of x) y ≡ Less) place_of p xs ascend.0, filter_ascends p xs ascend.1)
      | false ↦ filter_ascends p xs ascend.1
    ]

all_of : {A : Type 0} (P : A → Type 0) (xs : List A) → ((x : A) → Contains xs x → P x) → AllByRecursion P xs
all_of P [] each = tt
all_of P (x ∷ xs) each = (each x (has_first x xs), all_of P xs (λ y c. each y (has_later x xs y c)))

sorted_append : {A : Type 0} (c : A → A → Ordering) (xs ys : List A) → IsStrictlySortedBy c xs → IsStrictlySortedBy c ys
    → ((x y : A) → Contains xs x → Contains ys y → c x y ≡ Less) → IsStrictlySortedBy c (xs ++ ys)
unfolding IsStrictlySortedBy
sorted_append c [] ys a b apart = b
sorted_append c (x ∷ xs) ys a b apart = (
  all_append (λ y. c x y ≡ Less) xs ys a.0 (all_of (λ y. c x y ≡ Less) ys (λ y has. apart x y (has_first x xs) has)),
  sorted_append c xs ys a.1 b (λ z y has_z has_y. apart z y (has_later x xs z has_z) has_y),
)

front_all : {A : Type 0} (P : A → Type 0) (xs ys : List A) → AllByRecursion P (xs ++ ys) → AllByRecursion P xs
front_all P [] ys all = tt
front_all P (x ∷ xs) ys all = (all.0, front_all P xs ys all.1)

sorted_front : {A : Type 0} (c : A → A → Ordering) (xs ys : List A) → IsStrictlySortedBy c (xs ++ ys)
    → IsStrictlySortedBy c xs
unfolding IsStrictlySortedBy
sorted_front c [] ys sorted = tt
sorted_front c (x ∷ xs) ys sorted = (front_all (λ y. c x y ≡ Less) xs ys sorted.0, sorted_front c xs ys sorted.1)

sorted_back : {A : Type 0} (c : A → A → Ordering) (xs ys : List A) → IsStrictlySortedBy c (xs ++ ys) → IsStrictlySortedBy c ys
unfolding IsStrictlySortedBy
sorted_back c [] ys sorted = sorted
sorted_back c (x ∷ xs) ys sorted = sorted_back c xs ys sorted.1

sorted_part : {A B : Type 0} (c : B → B → Ordering) (f : A → List B) (xs : List A) (x : A) → IsStrictlySortedBy c
    (flat_map f xs) → Contains xs x → IsStrictlySortedBy c (f x)
sorted_part c f [] x sorted has = absurd (nothing x has)
sorted_part c f (y ∷ xs) x sorted has =
    elim (by_first y xs x has) [
      | inl same ↦ subst (λ z. IsStrictlySortedBy c (f z)) same (sorted_front c (f y) (flat_map f xs) sorted)
      | inr more ↦ sorted_part c f xs x (sorted_back c (f y) (flat_map f xs) sorted) more
    ]

in_range_of : (levels from level : ℕ) → from ≤ level → level < from + levels → Contains (range_with_len from levels) level
in_range_of zero from level least most = absurd (omega (arith, least, most))
in_range_of (suc levels) from level least most =
    ⊎_elim
    (λ (more : from < level). has_later from (range_with_len (from + 1) levels) level
    (in_range_of levels (from + 1) level (omega (arith, more)) (omega (arith, most))))
    (λ (last : level ≤ from).
    let same : from ≡ level = omega (arith, least, last) in
    subst (λ (n : ℕ). Contains (from ∷ range_with_len (from + 1) levels) n) same
    (has_first from (range_with_len (from + 1) levels)))
    (cases_lt from level)

-- the places of a level ascend
level_ascends : (tables : Tables) (level : ℕ) → level < 7 → IsStrictlySortedBy place_cmp
    (map place_of (tables_at level tables))
unfolding places_of level_places
level_ascends tables level below =
    sorted_part place_cmp (level_places tables) (range_with_len 0 7) level (places_ascend tables)
    (in_range_of 7 0 level (omega arith) (omega (arith, below)))

least_ascends : (tables : List (ℕ × Placed)) → IsStrictlySortedBy place_cmp (map place_of (least_of tables))
unfolding IsStrictlySortedBy
least_ascends [] = tt
least_ascends (t ∷ tables) = (tt, tt)

going_ascend : (tables : Tables) (level : ℕ) → level < 6 → IsStrictlySortedBy place_cmp (map place_of (going level tables))
going_ascend tables zero below = level_ascends tables 0 (omega arith)
going_ascend tables (suc level) below = least_ascends (tables_at (suc level) tables)

-- ---- the choice at a level

module _ (tables : Tables) (rows : ℕ → List Row) (level : ℕ) (beyond : Beyond tables level) (o : IsOrderly tables rows) where
  h : Hull (going level tables)
  h = hull (going level tables) (some_go tables level beyond.is)

  abbrev taken : List (ℕ × Placed)
  taken = going level tables ++ meeting (range_of_all (going level tables)) (level + 1) tables

  -- a table that is taken goes, or lies at the next level and meets the range
  record IsTaken (table : ℕ × Placed) : Type 0 where
    there : finite.get tables table.0 ≡ Some table.1
    among : Contains taken table
    which : (Contains (going level tables) table × (table.1.level ≡ level)) ⊎
        ((table.1.level ≡ level + 1) × (meets h.range table ≡ true))

  is_taken : (table : ℕ × Placed) → Contains taken table → IsTaken table
  is_taken table among =
      elim (Contains-append_cases (going level tables)
      (meeting (range_of_all (going level tables)) (level + 1) tables) table among) [
        | inl goes ↦ let g = goes_at tables level table goes in record { there = g.0; among = among; which = inl (goes, g.1) }
        | inr met ↦
            let f = from_filter (meets h.range) (tables_at (level + 1) tables) table
            (subst (λ (o : Option Range). Contains (meeting o (level + 1) tables) table) h.is met) in
            let at = at_level tables (level + 1) table f.0 in
            record { there = at.0; among = among; which = inr (at.1, f.1) }
      ]

  taken_at : (place : Place) → Contains (choice_at tables level).inputs place → (table : ℕ × Placed) × IsTaken table ×
      (place_of table ≡ place)
  taken_at place c = let m = map_source place_of taken place c in (m.0, is_taken m.0 m.1, m.2)

  taken_level : (table : ℕ × Placed) → IsTaken table → (level ≤ table.1.level) × (table.1.level ≤ level + 1)
  taken_level table t =
      elim t.which [
        | inl goes ↦ let is = goes.1 in (omega (arith, is), omega (arith, is))
        | inr met ↦ let is = met.0 in (omega (arith, is), omega (arith, is))
      ]

  same_placed : (a c : Placed) → Some a ≡ Some c → a ≡ c
  same_placed a c is = cc

  -- what is read is taken
  read_taken : (n : ℕ) (placed : Placed) → IsRead tables (choice_at tables level) n placed → IsTaken (n, placed)
  read_taken n placed read =
      let t = taken_at (record { level = placed.level; number = n }) read.among in
      let number : t.0.0 ≡ n = ap (λ (p : Place). p.number) t.2 in
      let same : t.0.1 ≡ placed = same_placed t.0.1 placed
      (sym t.1.there ∙ ap (λ (k : ℕ). finite.get tables k) number ∙ read.there) in
      subst (λ (x : ℕ × Placed). IsTaken x) (λ i. (number i, same i)) t.1

  -- what isn't read isn't taken
  not_taken : (n : ℕ) (placed : Placed) → IsOutside tables (choice_at tables level) n placed → Contains taken (n, placed) → ⊥
  not_taken n placed out c = untrue
      (sym out.not_read ∙ is_among (choice_at tables level).inputs (place_of (n, placed))
      (Contains-map place_of taken (n, placed) c))

  beyond_range : (n : ℕ) (placed : Placed) → IsOutside tables (choice_at tables level) n placed → placed.level ≡ level + 1
      → meets h.range (n, placed) ≡ false
  beyond_range n placed out is = not_so (meets h.range (n, placed)) (λ met. not_taken n placed out
      (Contains-append_right (going level tables) (meeting (range_of_all (going level tables)) (level + 1) tables) (n, placed)
      (subst (λ (o : Option Range). Contains (meeting o (level + 1) tables) (n, placed)) (sym h.is)
      (to_filter (meets h.range) (tables_at (level + 1) tables) (n, placed)
      (of_level tables (level + 1) n placed out.there is) met))))

  -- a table's range begins before it ends
  upright : (n : ℕ) (placed : Placed) → finite.get tables n ≡ Some placed → AtMost (user_key placed.info.smallest)
      (user_key placed.info.largest)
  upright n placed there = by_rows (rows n) refl
    where
      by_rows : (rs : List Row) → rows n ≡ rs → AtMost (user_key placed.info.smallest) (user_key placed.info.largest)
      by_rows [] none = let some = o.some n placed there in let length_is = ap (length {A = Row}) none in absurd
          (omega (arith, some, length_is))
      by_rows (r ∷ rs) is = least_to_greatest r.key placed.info
          (All-contains (λ (q : Row). in_range q.key placed.info ≡ true) (rows n) r (o.ranged n placed there)
          (subst (λ (xs : List Row). Contains xs r) (sym is) (has_first r rs)))

  -- a table of the next level that isn't taken overlaps none there that is
  clear : (m n : ℕ) (a c : Placed) → IsRead tables (choice_at tables level) m a → IsOutside tables
      (choice_at tables level) n c → a.level ≡ level + 1 → c.level ≡ level + 1
      → overlap a.info c.info ≡ false
  clear m n a c read out is_a is_c =
      o.leveled.apart m n a c read.there out.there (apart_numbers tables (choice_at tables level) m n a c read out)
      (omega (arith, is_a)) (is_a ∙ sym is_c)

  clash : (a c : Placed) → overlap a.info c.info ≡ false → AtMost (user_key a.info.smallest) (user_key c.info.largest)
      → AtMost (user_key c.info.smallest) (user_key a.info.largest) → ⊥
  unfolding overlap
  clash a c apart p q = untrue (sym apart ∙ both_true (is_le (key_cmp (user_key a.info.smallest) (user_key c.info.largest)))
      (is_le (key_cmp (user_key c.info.smallest) (user_key a.info.largest))) p q)

  -- it lies wholly before the range of what goes, or wholly behind it
  module _ (m n number : ℕ) (first last placed : Placed) (read_m : IsRead tables (choice_at tables level) m first)
      (read_n : IsRead tables (choice_at tables level) n last)
      (out : IsOutside tables (choice_at tables level) number placed) (is : placed.level ≡ level + 1)
      (to_last : AtMost (user_key placed.info.smallest) (user_key last.info.largest))
      (from_first : AtMost (user_key first.info.smallest) (user_key placed.info.largest)) where
    not_behind : key_cmp h.range.greatest (user_key placed.info.smallest) ≡ Less → ⊥
    not_behind behind =
        let t = read_taken n last read_n in
        elim t.which [
          | inl goes ↦ not_below (user_key placed.info.smallest) h.range.greatest
              (most_trans (user_key placed.info.smallest) (user_key last.info.largest) h.range.greatest to_last
              (h.covers (n, last) goes.0).greatest) behind
          | inr met ↦ clash last placed (clear n number last placed read_n out met.0 is)
              (most_trans (user_key last.info.smallest) h.range.greatest (user_key placed.info.largest)
              (first_true (is_le (key_cmp (user_key last.info.smallest) h.range.greatest))
              (is_le (key_cmp h.range.least (user_key last.info.largest))) met.1)
              (most_trans h.range.greatest (user_key placed.info.smallest) (user_key placed.info.largest)
              (below_most h.range.greatest (user_key placed.info.smallest) behind) (upright number placed out.there))) to_last
        ]

    not_before : key_cmp (user_key placed.info.largest) h.range.least ≡ Less → ⊥
    not_before before =
        let t = read_taken m first read_m in
        elim t.which [
          | inl goes ↦ not_below h.range.least (user_key placed.info.largest)
              (most_trans h.range.least (user_key first.info.smallest) (user_key placed.info.largest)
              (h.covers (m, first) goes.0).least from_first) before
          | inr met ↦ clash first placed (clear m number first placed read_m out met.0 is) from_first
              (most_trans (user_key placed.info.smallest) (user_key placed.info.largest) (user_key first.info.largest)
              (upright number placed out.there)
              (most_trans (user_key placed.info.largest) h.range.least (user_key first.info.largest)
              (below_most (user_key placed.info.largest) h.range.least before)
              (later_true (is_le (key_cmp (user_key first.info.smallest) h.range.greatest))
              (is_le (key_cmp h.range.least (user_key first.info.largest))) met.1)))
        ]

    no_way : ⊥
    no_way =
        elim (is_le (key_cmp (user_key placed.info.smallest) h.range.greatest)) as
        (λ t. is_le (key_cmp (user_key placed.info.smallest) h.range.greatest) ≡ t → ⊥) [
          | false ↦ λ over. not_behind (not_most (user_key placed.info.smallest) h.range.greatest over)
          | true ↦ λ within. elim (is_le (key_cmp h.range.least (user_key placed.info.largest))) as
              (λ t. is_le (key_cmp h.range.least (user_key placed.info.largest)) ≡ t → ⊥) [
                | false ↦ λ under. not_before (not_most h.range.least (user_key placed.info.largest) under)
                | true ↦ λ above. untrue (sym (beyond_range number placed out is)
                    ∙ both_true (is_le (key_cmp (user_key placed.info.smallest) h.range.greatest))
                    (is_le (key_cmp h.range.least (user_key placed.info.largest))) within above)
              ] refl
        ] refl

  beside_at : (m n number : ℕ) (first last placed : Placed) → IsRead tables (choice_at tables level) m first → IsRead tables
      (choice_at tables level) n last
      → IsOutside tables (choice_at tables level) number placed → placed.level ≡ level + 1 → meets (from_to first last)
      (number, placed) ≡ false
  beside_at m n number first last placed read_m read_n out is =
      not_so (meets (from_to first last) (number, placed)) (λ met. no_way m n number first last placed read_m read_n out is
      (first_true (is_le (key_cmp (user_key placed.info.smallest) (user_key last.info.largest)))
      (is_le (key_cmp (user_key first.info.smallest) (user_key placed.info.largest))) met)
      (later_true (is_le (key_cmp (user_key placed.info.smallest) (user_key last.info.largest)))
      (is_le (key_cmp (user_key first.info.smallest) (user_key placed.info.largest))) met))

  -- of level 0 all tables go
  all_go : (number : ℕ) (placed : Placed) → IsOutside tables (choice_at tables level) number placed → placed.level ≡ 0
      → level ≡ 0 → ⊥
  all_go number placed out zeroth is =
      not_taken number placed out (Contains-append_left (going level tables)
      (meeting (range_of_all (going level tables)) (level + 1) tables) (number, placed)
      (subst (λ (l : ℕ). Contains (going l tables) (number, placed)) (sym is)
      (of_level tables 0 number placed out.there zeroth)))

  taken_ascend : IsStrictlySortedBy place_cmp (map place_of taken)
  taken_ascend = subst (IsStrictlySortedBy place_cmp)
      (sym (map-append place_of (going level tables) (meeting (range_of_all (going level tables)) (level + 1) tables)))
      (sorted_append place_cmp (map place_of (going level tables))
      (map place_of (meeting (range_of_all (going level tables)) (level + 1) tables))
      (going_ascend tables level beyond.below)
      (subst (λ (o : Option Range). IsStrictlySortedBy place_cmp (map place_of (meeting o (level + 1) tables))) (sym h.is)
      (filter_ascends (meets h.range) (tables_at (level + 1) tables)
      (level_ascends tables (level + 1) (omega (arith, beyond.below)))))
      (λ a b in_a in_b.
      let s = map_source place_of (going level tables) a in_a in
      let t = map_source place_of (meeting (range_of_all (going level tables)) (level + 1) tables) b in_b in
      let f = from_filter (meets h.range) (tables_at (level + 1) tables) t.0
      (subst (λ (o : Option Range). Contains (meeting o (level + 1) tables) t.0) h.is t.1) in
      let low : a.level ≡ level = ap (λ (p : Place). p.level) (sym s.2) ∙ (goes_at tables level s.0 s.1).1 in
      let high : b.level ≡ level + 1 = ap (λ (p : Place). p.level) (sym t.2) ∙ (at_level tables (level + 1) t.0 f.0).1 in
      level_first a b (omega (arith, low, high))))

  pub closed_at : IsClosed tables rows (choice_at tables level)
  closed_at = record {
    stand = λ place c. let t = taken_at place c in subst (λ (p : Place). Stands tables p) t.2
        (record { placed = t.0.1; there = t.1.there; level_is = refl });
    ascend = taken_ascend;
    below = omega arith;
    above = λ place c.
        let t = taken_at place c in
        let within = (taken_level t.0 t.1).1 in
        let level_is = ap (λ (p : Place). p.level) t.2 in
        omega (arith, within, level_is);
    between = λ place number placed c out deeper.
        let t = taken_at place c in
        let within = (taken_level t.0 t.1).0 in
        let level_is = ap (λ (p : Place). p.level) t.2 in
        omega (arith, within, level_is, deeper);
    beside = beside_at;
    newer = λ m number input placed read out zeroth zeroth_too.
        let within = (taken_level (m, input) (read_taken m input read)).0 in
        absurd (all_go number placed out zeroth_too (omega (arith, within, zeroth)));
  }

-- what is picked may be merged
pub picked_closed : (tables : Tables) (rows : ℕ → List Row) (choice : Choice) → IsOrderly tables rows
    → picked tables ≡ Some choice → IsClosed tables rows choice
picked_closed tables rows choice o is =
    let c = chosen_of tables choice is in
    subst (λ (x : Choice). IsClosed tables rows x) c.is (closed_at tables rows c.level c.beyond o)

-- ---- all tables

-- none is outside
none_outside : (tables : Tables) (output : ℕ) → AreLevels tables → (number : ℕ) (placed : Placed) → IsOutside tables
    (record { inputs = places_of tables; output = output }) number placed → ⊥
none_outside tables output levels number placed out =
    untrue (sym out.not_read ∙ is_among (places_of tables) (place_of (number, placed))
    ((places_are_all tables levels (place_of (number, placed))).1
    (record { placed = placed; there = out.there; level_is = refl })))

pub all_closed : (tables : Tables) (rows : ℕ → List Row) → AreLevels tables → IsClosed tables rows
    (record { inputs = places_of tables; output = 6 })
all_closed tables rows levels = record {
  stand = λ place c. (places_are_all tables levels place).0 c;
  ascend = places_ascend tables;
  below = omega arith;
  above = λ place c.
      let s = (places_are_all tables levels place).0 c in
      let most = levels.most place.number s.placed s.there in
      let level_is = s.level_is in
      omega (arith, most, level_is);
  between = λ place number placed c out deeper. absurd (none_outside tables 6 levels number placed out);
  beside = λ m n number first last placed read_m read_n out is. absurd (none_outside tables 6 levels number placed out);
  newer = λ m number input placed read out zeroth zeroth_too. absurd (none_outside tables 6 levels number placed out);
}
