-- The ranges that are kept answer as the tables do.
use Rattle.std.specs.Prelude.{◌≡◌, ℕ, ◌+◌, ◌<◌, true, false, cond, ◌&&◌, not, nat_lt, List, [], ◌∷◌, ◌++◌, length, take, get_or, Contains, Some, None, option_map, option_to_list}
use Rattle.std.proofs.Common.{refl, sym, ap, subst, ⊎_elim, ◌∙◌, append-nil}
use Rattle.std.proofs.lemmas.List.{take_more}
use Rattle.std.proofs.lemmas.List.Concat.{flat_map-append}
use Rattle.std.specs.Cmp.{both_ways}
use Rattle.std.specs.List.{list_any, flat_map}
use Rattle.std.specs.FinMap as finite
use Rattle.lsm_version.specs.declared.choices.Choice.{Choice}
use Rattle.lsm_version.specs.declared.tables.Place.{Place}
use Rattle.lsm_version.specs.declared.tables.Placed.{Placed}
use Rattle.lsm_version.specs.Levels.{Tables}
use Rattle.lsm_version.specs.Orders.{AreLevels, places_of}
use Rattle.lsm_version.proofs.PlaceOrders.{places_are_all}
use Rattle.lsm_compact.specs.declared.deeper.KeyRange.{KeyRange}
use Rattle.lsm_compact.specs.Orderly.{in_range}
use Rattle.lsm_compact.specs.Ranges.{lies_in, has_key, range_of, is_deeper, ranges_at}
use Rattle.lsm_compact.specs.Written.{is_input, may_hide, is_below}
use Rattle.lsm_compact.proofs.Growing.{any_is}
use Rattle.lsm_compact.proofs.Keys.{both_true, first_true, later_true}
use Rattle.lsm_compact.proofs.Members.{nothing, has_first, by_first, source_of, from_source, entry_stands, stands_entry}
use Rattle.lsm_compact.proofs.Outside.{any_of}

-- one more place is gone through
pub pushed : (tables : Tables) (choice : Choice) (places : List Place) (i : ℕ) (d : Place) (old new : List KeyRange)
    → i < length places
    → old ≡ flat_map (ranges_at tables choice) (take i places) → new ≡ old ++ ranges_at tables choice (get_or places i d)
    → new ≡ flat_map (ranges_at tables choice) (take (i + 1) places)
pushed tables choice places i d old new within was is =
    is ∙ ap (λ (rs : List KeyRange). rs ++ ranges_at tables choice (get_or places i d)) was
    ∙ sym (ap (flat_map (ranges_at tables choice)) (take_more places i d within)
    ∙ flat_map-append (ranges_at tables choice) (take i places) (get_or places i d ∷ [])
    ∙ ap (λ (rs : List KeyRange). flat_map (ranges_at tables choice) (take i places) ++ rs) (append-nil _))

-- the place whose range this is
record RangeAt (tables : Tables) (choice : Choice) (place : Place) (range : KeyRange) : Type 0 where
  placed : Placed
  there : finite.get tables place.number ≡ Some placed
  deeper : is_deeper choice place ≡ true
  is : range_of placed ≡ range

range_at : (tables : Tables) (choice : Choice) (place : Place) (range : KeyRange)
    → Contains (ranges_at tables choice place) range → RangeAt tables choice place range
range_at tables choice place range c =
    elim (is_deeper choice place) as (λ b. is_deeper choice place ≡ b
    → Contains (cond b (option_to_list (option_map range_of (finite.get tables place.number))) []) range
    → RangeAt tables choice place range) [
      | false ↦ λ _ has. absurd (nothing range has)
      | true ↦ λ deeper has.
          elim (finite.get tables place.number) as (λ o. finite.get tables place.number ≡ o
          → Contains (option_to_list (option_map range_of o)) range → RangeAt tables choice place range) [
            | None ↦ λ _ none. absurd (nothing range none)
            | Some placed ↦ λ there one. record {
              placed = placed;
              there = there;
              deeper = deeper;
              is = only
                  (range_of placed) range one;
            }
          ] refl has
    ] refl c
  where
    only : (x y : KeyRange) → Contains (x ∷ []) y → x ≡ y
    only x y one = ⊎_elim (λ (same : x ≡ y). same) (λ (more : Contains [] y). absurd (nothing y more)) (by_first x [] y one)

at_range : (tables : Tables) (choice : Choice) (place : Place) (placed : Placed)
    → finite.get tables place.number ≡ Some placed
    → is_deeper choice place ≡ true
    → Contains (ranges_at tables choice place) (range_of placed)
at_range tables choice place placed there deeper =
    subst (λ b. Contains (cond b (option_to_list (option_map range_of (finite.get tables place.number))) [])
    (range_of placed))
    (sym deeper)
    (subst (λ o. Contains (option_to_list (option_map range_of o)) (range_of placed)) (sym there)
    (has_first (range_of placed) []))

pub all_ranges : (tables : Tables) (choice : Choice) (ranges : List KeyRange) → AreLevels tables
    → ranges ≡ flat_map (ranges_at tables choice) (places_of tables)
    → (key : List ℕ) → has_key ranges key ≡ is_below tables choice key
unfolding is_below
all_ranges tables choice ranges levels is key = ap (λ (rs : List KeyRange). has_key rs key) is
    ∙ both_ways (has_key (flat_map (ranges_at tables choice) (places_of tables)) key)
    (list_any (may_hide choice key) (finite.entries tables)) to back
  where
    to : has_key (flat_map (ranges_at tables choice) (places_of tables)) key ≡ true
        → list_any (may_hide choice key) (finite.entries tables) ≡ true
    to is_so =
        let a = any_is (lies_in key) (flat_map (ranges_at tables choice) (places_of tables)) is_so in
        let s = source_of (ranges_at tables choice) (places_of tables) a.0 a.1 in
        let r = range_at tables choice s.of a.0 s.has in
        let stands = (places_are_all tables levels s.of).0 s.among in
        let level : stands.placed.level ≡ s.of.level = stands.level_is in
        let same : r.placed ≡ stands.placed = same_placed r.placed stands.placed (sym r.there ∙ stands.there) in
        any_of (may_hide choice key) (finite.entries tables) (s.of.number, r.placed)
        (stands_entry tables s.of.number r.placed r.there)
        (both_true (nat_lt choice.output r.placed.level)
        (not (is_input choice.inputs s.of.number) && in_range key r.placed.info)
        (ap (nat_lt choice.output) (ap (λ (p : Placed). p.level) same ∙ level)
        ∙ first_true (nat_lt choice.output s.of.level) (not (is_input choice.inputs s.of.number)) r.deeper)
        (both_true (not (is_input choice.inputs s.of.number)) (in_range key r.placed.info)
        (later_true (nat_lt choice.output s.of.level) (not (is_input choice.inputs s.of.number)) r.deeper)
        (ap (lies_in key) r.is ∙ a.2)))
      where
        same_placed : (x y : Placed) → Some x ≡ Some y → x ≡ y
        same_placed x y e = cc

    back : list_any (may_hide choice key) (finite.entries tables) ≡ true
        → has_key (flat_map (ranges_at tables choice) (places_of tables)) key ≡ true
    back is_so =
        let a = any_is (may_hide choice key) (finite.entries tables) is_so in
        let there = entry_stands tables a.0 a.1 in
        let place : Place = record { level = a.0.1.level; number = a.0.0 } in
        let deep = first_true (nat_lt choice.output a.0.1.level)
        (not (is_input choice.inputs a.0.0) && in_range key a.0.1.info) a.2 in
        let rest = later_true (nat_lt choice.output a.0.1.level)
        (not (is_input choice.inputs a.0.0) && in_range key a.0.1.info) a.2 in
        any_of (lies_in key) (flat_map (ranges_at tables choice) (places_of tables)) (range_of a.0.1)
        (from_source (ranges_at tables choice) (places_of tables) place (range_of a.0.1)
        ((places_are_all tables levels place).1 (record { placed = a.0.1; there = there; level_is = refl }))
        (at_range tables choice place a.0.1 there
        (both_true (nat_lt choice.output a.0.1.level) (not (is_input choice.inputs a.0.0)) deep
        (first_true (not (is_input choice.inputs a.0.0)) (in_range key a.0.1.info) rest))))
        (later_true (not (is_input choice.inputs a.0.0)) (in_range key a.0.1.info) rest)
