-- A search that has looked at all places has met the key's newest row in tables.
use Rattle.std.specs.Prelude.{◌≡◌, ◌≢◌, ℕ, ◌+◌, ◌<◌, ◌≤◌, Bool, true, false, cond, T, nat_lt, nat_eq, List, [], ◌∷◌, ◌++◌, get_or, take, length, filter, All, Contains, Option, Some, None}
use Rattle.std.proofs.Common.{refl, sym, ap, subst, ◌∙◌, arith, ⊎_elim}
use Rattle.std.proofs.lemmas.Bool.Decides.{nat_tests}
use Rattle.std.proofs.lemmas.List.Elements.{All-nil, All-append, All-push, All-weaker, All-contains, Contains-append_left, Contains-append_right, Contains-append_cases, Contains-get_or, Contains-push, Contains-push_cases, All-filter}
use Rattle.std.proofs.lemmas.List.{take_more, get_or_append_left, length-append}
use Rattle.std.specs.List.{flat_map, IsDistinct}
use Rattle.std.specs.Ordering.{nat_cmp, eq_by_cmp}
use Rattle.std.specs.FinMap as finmap
use Rattle.std.specs.FinMap.Entries.{below_all, is_sorted}
use Rattle.lsm_rows.specs.declared.rows.Row.{Row}
use Rattle.lsm_rows.specs.Contents.{newest}
use Rattle.lsm_rows.proofs.NewestRows.{newest_is}
use Rattle.lsm_version.specs.declared.tables.Place.{Place}
use Rattle.lsm_version.specs.declared.tables.Placed.{Placed}
use Rattle.lsm_version.specs.Levels.{Tables, IsLeveled}
use Rattle.lsm_version.specs.Orders.{Stands, AreLevels, search_order}
use Rattle.lsm_version.proofs.PlaceOrders.{the_search_finds_all}
use Rattle.lsm_version.proofs.TableMaps.{same_number}
use Rattle.lsm_folder.specs.Needed.{sequences}
use Rattle.lsm_folder.specs.Parts.{rows_of_tables}
use Rattle.lsm_folder.proofs.AssembledLemmas.{found_first, found_later}
use Rattle.lsm_folder.proofs.LiveLemmas.{all_below}
use Rattle.lsm_core.specs.declared.meeting.Met.{Met}
use Rattle.lsm_core.specs.Searching.{may_have, has_in_range, looked_at, better, row_met, goes_deeper, IsMet, IsMetIfAny, IsAtMost, HasMet, MeetsMore, MeetsAll, FindsNewest}
use Rattle.lsm_core.proofs.NewestLemmas.{no_row, none_newest, only_newest}

some_is : {X : Type 0} (a b : X) → Some a ≡ Some b → a ≡ b
some_is a b is = cc

-- ---- the rows of all tables

module _ (rows : ℕ → List Row) where
  abbrev rows_in : List (ℕ × Placed) → List Row
  rows_in es = flat_map (λ (table : ℕ × Placed). rows table.0) es

  all_in : (P : Row → Type 0) (es : List (ℕ × Placed)) → T (is_sorted nat_cmp es)
      → ((number : ℕ) (placed : Placed) → finmap.find nat_cmp number es ≡ Some placed → All P (rows number)) → All P (rows_in
      es)
  all_in P [] sorted each = All-nil P
  all_in P (e ∷ es) sorted each =
      let parts = all_below (below_all nat_cmp e.0 es) (is_sorted nat_cmp es) sorted in
      All-append P (rows e.0) (rows_in es) (each e.0 e.1 (found_first e es))
      (all_in P es parts.1 (λ number placed is. each number placed (found_later e es number placed parts.0 is)))

  -- what is so of each live table's rows is so of all rows
  pub all_of_tables : (P : Row → Type 0) (tables : Tables)
      → ((number : ℕ) (placed : Placed) → finmap.get tables number ≡ Some placed → All P (rows number)) → All P
      (rows_of_tables tables rows)
  all_of_tables P tables each =
      all_in P (finmap.entries tables) (finmap.entries_sorted tables)
      (λ number placed is. each number placed (finmap.get-entries tables number ∙ is))

  among_in : (es : List (ℕ × Placed)) (number : ℕ) (placed : Placed) (row : Row) → finmap.find nat_cmp number es ≡ Some placed
      → Contains (rows number) row → Contains (rows_in es) row
  among_in [] number placed row there among = cc
  among_in (e ∷ es) number placed row there among =
      by (eq_by_cmp nat_cmp number e.0) refl there (λ found. among_in es number placed row found among)
    where
      by : (b : Bool) → eq_by_cmp nat_cmp number e.0 ≡ b → cond b (Some e.1) (finmap.find nat_cmp number es) ≡ Some placed
          → (finmap.find nat_cmp number es ≡ Some placed → Contains (rows_in es) row) → Contains (rows e.0 ++ rows_in es) row
      by true same found rest =
          Contains-append_left (rows e.0) (rows_in es) row
          (subst (λ (n : ℕ). Contains (rows n) row) (same_number number e.0 same) among)
      by false other found rest = Contains-append_right (rows e.0) (rows_in es) row (rest found)

  -- a live table's row is one of all
  pub among_tables : (tables : Tables) (number : ℕ) (placed : Placed) (row : Row) → finmap.get tables number ≡ Some placed
      → Contains (rows number) row → Contains (rows_of_tables tables rows) row
  among_tables tables number placed row there among =
      among_in (finmap.entries tables) number placed row (sym (finmap.get-entries tables number) ∙ there) among

-- ---- one place more

module _ (tables : Tables) (rows : ℕ → List Row) (key : List ℕ) where
  pub met_none : HasMet tables rows key [] None
  met_none = record { is_met = tt; most = All-nil (λ (place : Place). All (IsAtMost key None) (rows place.number)) }

  abbrev MostIn : Option Met → Place → Type 0
  MostIn met place = All (IsAtMost key met) (rows place.number)

  lower : (a b : ℕ) → nat_lt a b ≡ true → a ≤ b
  lower a b is = grind (arith, nat_tests)

  higher : (a b : ℕ) → nat_lt a b ≡ false → b ≤ a
  higher a b is = grind (arith, nat_tests)

  module _ (places : List Place) (place : Place) (stands : Stands tables place) where
    is_met : (row : Row) → newest key (rows place.number) ≡ Some row → IsMet tables rows key (record {
      row = row;
      level =
          place.level;
    })
    is_met row found =
        let it = newest_is key (rows place.number) row found in
        record {
          number = place.number;
          placed = stands.placed;
          there = stands.there;
          level_is = stands.level_is;
          among = it.among;
          of_key = it.of_key;
        }

    most_in : (row : Row) → newest key (rows place.number) ≡ Some row
        → MostIn (Some (record { row = row; level = place.level })) place
    most_in row found = (newest_is key (rows place.number) row found).greatest

    -- a row that is newer than the one that was met before
    risen : (met : Met) (row : Row) → met.row.sequence ≤ row.sequence → All (MostIn (Some met)) places
        → All (MostIn (Some (record { row = row; level = place.level }))) places
    risen met row more most =
        All-weaker (MostIn (Some met)) (MostIn (Some (record { row = row; level = place.level })))
        (λ other each. All-weaker (IsAtMost key (Some met)) (IsAtMost key (Some (record { row = row; level = place.level })))
        (λ r at same. omega (arith, more, at same)) (rows other.number) each) places most

    first_met : (row : Row) → All (MostIn None) places → All (MostIn (Some (record { row = row; level = place.level }))) places
    first_met row most =
        All-weaker (MostIn None) (MostIn (Some (record { row = row; level = place.level })))
        (λ other each. All-weaker (IsAtMost key None) (IsAtMost key (Some (record { row = row; level = place.level })))
        (λ r never same. absurd (never same)) (rows other.number) each) places most

    none_here : (met : Option Met) → newest key (rows place.number) ≡ None → MostIn met place
    none_here None none = no_row key (rows place.number) none
    none_here (Some met) none =
        All-weaker (λ (row : Row). row.key ≢ key) (IsAtMost key (Some met)) (λ r never same. absurd (never same)) (rows
        place.number)
        (no_row key (rows place.number) none)

    -- the table there was looked into
    pub met_more : (met : Option Met) (found : Option Row) → HasMet tables rows key places met → found ≡ newest key (rows
        place.number)
        → HasMet tables rows key (places ++ place ∷ []) (better met place.level found)
    unfolding better
    met_more met None has is = record {
      is_met = has.is_met;
      most = All-push (MostIn met) places place has.most (none_here met (sym is));
    }
    met_more None (Some row) has is = record {
      is_met = is_met row (sym is);
      most = All-push (MostIn (Some (record { row = row; level = place.level }))) places place (first_met row has.most)
          (most_in row (sym is));
    }
    met_more (Some met) (Some row) has is = by (nat_lt met.row.sequence row.sequence) refl
      where
        by : (b : Bool) → nat_lt met.row.sequence row.sequence ≡ b
            → HasMet tables rows key (places ++ place ∷ []) (cond b (Some (record { row = row; level = place.level })) (Some
            met))
        by true less = record {
          is_met = is_met row (sym is);
          most = All-push (MostIn (Some (record { row = row; level = place.level }))) places place
              (risen met row (lower met.row.sequence row.sequence less) has.most) (most_in row (sym is));
        }
        by false not_less = record {
          is_met = has.is_met;
          most = All-push (MostIn (Some met)) places place has.most
              (All-weaker (IsAtMost key (Some (record { row = row; level = place.level }))) (IsAtMost key (Some met))
              (λ r at same. omega (arith, higher met.row.sequence row.sequence not_less, at same)) (rows place.number)
              (most_in row (sym is)));
        }

    -- the table there needn't be looked into, since its level is deeper than that of a row that was
    -- met
    pub met_above : (met : Met) → HasMet tables rows key places (Some met) → IsLeveled tables rows → met.level < place.level
        → HasMet tables rows key (places ++ place ∷ []) (Some met)
    met_above met has leveled deeper =
        let it = has.is_met in
        let older = leveled.older it.number place.number it.placed stands.placed it.there stands.there
        (omega (arith, it.level_is, stands.level_is, deeper)) in
        let those = All-contains (λ (row : Row). All (λ (other : Row). other.key ≡ row.key → other.sequence ≤ row.sequence)
        (rows place.number)) (rows it.number) met.row older it.among in
        record {
          is_met = it;
          most = All-push (MostIn (Some met)) places place has.most
              (All-weaker (λ (other : Row). other.key ≡ met.row.key → other.sequence ≤ met.row.sequence) (IsAtMost key (Some
              met))
              (λ r at same. at (same ∙ sym it.of_key)) (rows place.number) those);
        }

-- ---- all places

kept_by : {X : Type 0} (p : X → Bool) (xs : List X) (x : X) → p x ≡ true → Contains xs x → Contains (filter p xs) x
kept_by p [] x is among = absurd (omega (arith, among.1))
kept_by p (y ∷ xs) x is among =
    ⊎_elim
    (λ one. ⊎_elim (λ none. absurd (omega (arith, none.1)))
    (λ same. here (ap p same ∙ is) same) (Contains-push_cases [] y x one))
    (λ more. by (p y) (kept_by p xs x is more))
    (Contains-append_cases (y ∷ []) xs x among)
  where
    here : p y ≡ true → y ≡ x → Contains (cond (p y) (y ∷ filter p xs) (filter p xs)) x
    here passes same =
        subst (λ (b : Bool). Contains (cond b (y ∷ filter p xs) (filter p xs)) x) (sym passes)
        (Contains-append_left (y ∷ []) (filter p xs) x (subst (λ z. Contains (y ∷ []) z) same (Contains-push [] y)))

    by : (b : Bool) → Contains (filter p xs) x → Contains (cond b (y ∷ filter p xs) (filter p xs)) x
    by true more = Contains-append_right (y ∷ []) (filter p xs) x more
    by false more = more

module _ (tables : Tables) (rows : ℕ → List Row) (key : List ℕ) (met : Option Met) (has : HasMet tables rows key (looked_at
    tables key) met)
    (levels : AreLevels tables)
    (ranged : (number : ℕ) (placed : Placed) → finmap.get tables number ≡ Some placed → may_have key placed.info ≡ false
    → All (λ (row : Row). row.key ≢ key) (rows number)) where
  others_most : (met : Option Met) (number : ℕ) → All (λ (row : Row). row.key ≢ key) (rows number) → All (IsAtMost key met)
      (rows number)
  others_most None number never = never
  others_most (Some m) number never =
      All-weaker (λ (row : Row). row.key ≢ key) (IsAtMost key (Some m)) (λ r other same. absurd (other same)) (rows number)
      never

  each_table : (number : ℕ) (placed : Placed) → finmap.get tables number ≡ Some placed → All (IsAtMost key met) (rows number)
  unfolding looked_at
  each_table number placed there = by (may_have key placed.info) refl
    where
      by : (b : Bool) → may_have key placed.info ≡ b → All (IsAtMost key met) (rows number)
      by true within =
          let place : Place = record { level = placed.level; number = number } in
          All-contains (λ (p : Place). All (IsAtMost key met) (rows p.number)) (looked_at tables key) place has.most
          (kept_by (λ (p : Place). has_in_range key (finmap.get tables p.number)) (search_order tables) place
          (ap (has_in_range key) there ∙ within)
          ((the_search_finds_all tables levels place).1 (record { placed = placed; there = there; level_is = refl })))
      by false outside = others_most met number (ranged number placed there outside)

  -- what was met is the key's newest row in tables
  pub met_newest : IsDistinct nat_eq (sequences (rows_of_tables tables rows)) → row_met met ≡ newest key (rows_of_tables
      tables rows)
  met_newest apart = by met has.is_met (all_of_tables rows (IsAtMost key met) tables each_table)
    where
      by : (m : Option Met) → IsMetIfAny tables rows key m → All (IsAtMost key m) (rows_of_tables tables rows)
          → row_met m ≡ newest key (rows_of_tables tables rows)
      by None is most = sym (none_newest key (rows_of_tables tables rows) most)
      by (Some m) is most =
          sym (only_newest key (rows_of_tables tables rows) m.row apart (record {
            among = among_tables rows tables is.number is.placed m.row is.there is.among;
            of_key = is.of_key;
            greatest = most;
          }))

-- ---- at the calls

all_front : {X : Type 0} (P : X → Type 0) (xs ys : List X) → All P (xs ++ ys) → All P xs
all_front P xs ys all k d below = subst P (get_or_append_left xs ys d k below) (all k d (omega (
  arith,
  below,
  length-append
      xs ys,
)))

all_stand : (tables : Tables) → AreLevels tables → All (Stands tables) (search_order tables)
all_stand tables levels k d below =
    (the_search_finds_all tables levels (get_or (search_order tables) k d)).0 (Contains-get_or (search_order tables) k d below)

module _ (tables : Tables) (key : List ℕ) (place : Place) where
  above : (met : Met) (level : ℕ) → nat_lt met.level level ≡ true → met.level < level
  above met level is = grind (arith, nat_tests)

  -- a row was met at a level above the place's
  pub meets_above : (met : Option Met) → goes_deeper met place.level ≡ true → (rows : ℕ → List Row) → MeetsMore tables key
      place met rows met
  meets_above None deeper rows = λ places searchable stands has. let clash : false ≡ true = deeper in cc
  meets_above (Some met) deeper rows = λ places searchable stands has.
      met_above tables rows key places place stands met has searchable.leveled (above met place.level deeper)

  -- the table there was looked into
  pub meets_row : (met now : Option Met) (row : Option Row) (rows : ℕ → List Row) → now ≡ better met place.level row
      → row ≡ newest key (rows place.number) → MeetsMore tables key place met rows now
  meets_row met now row rows is found = λ places searchable stands has.
      subst (λ (m : Option Met). HasMet tables rows key (places ++ place ∷ []) m) (sym is)
      (met_more tables rows key places place stands met row has found)

  -- no table stands there
  pub meets_nothing : finmap.get tables place.number ≡ None → (met : Option Met) (rows : ℕ → List Row) → MeetsMore tables key
      place met rows met
  meets_nothing none met rows = λ places searchable stands has.
      let clash : None ≡ Some stands.placed = sym none ∙ stands.there in absurd (cc)

-- one place more was gone through
pub meets_next : (tables : Tables) (key : List ℕ) (all : List Place) (n : ℕ) (d : Place) (rows : ℕ → List Row) (met now :
    Option Met)
    → n < length all → MeetsAll tables key (take n all) rows met → MeetsMore tables key (get_or all n d) met rows now
    → MeetsAll tables key (take (n + 1) all) rows now
meets_next tables key all n d rows met now below before more = λ searchable stand.
    let place : Place = get_or all n d in
    let next : take (n + 1) all ≡ take n all ++ place ∷ [] = take_more all n d below in
    let each = subst (All (Stands tables)) next stand in
    subst (λ (places : List Place). HasMet tables rows key places now) (sym next)
    (more (take n all) searchable
    (All-contains (Stands tables) (take n all ++ place ∷ []) place each (Contains-push (take n all) place))
    (before searchable (all_front (Stands tables) (take n all) (place ∷ []) each)))

-- at each place that is looked at a table stands
pub looked_stand : (tables : Tables) (key : List ℕ) → AreLevels tables → All (Stands tables) (looked_at tables key)
unfolding looked_at
looked_stand tables key levels =
    All-filter (λ (place : Place). has_in_range key (finmap.get tables place.number)) (Stands tables) (search_order tables)
    (all_stand tables levels)

-- at no place nothing was met
pub meets_none : (tables : Tables) (key : List ℕ) (rows : ℕ → List Row) → MeetsAll tables key [] rows None
meets_none tables key rows = λ searchable stand. met_none tables rows key

-- what was met at all places is the key's newest row in tables
pub finds_newest : (tables : Tables) (key : List ℕ) (places : List Place) (rows : ℕ → List Row) (met : Option Met) (row :
    Option Row)
    → places ≡ looked_at tables key → row ≡ row_met met → MeetsAll tables key places rows met → FindsNewest tables key rows row
finds_newest tables key places rows met row is row_is meets = λ searchable.
    let stand = looked_stand tables key searchable.levels in
    row_is ∙ met_newest tables rows key met
    (subst (λ (l : List Place). HasMet tables rows key l met) is
    (meets searchable (subst (All (Stands tables)) (sym is) stand)))
    searchable.levels
    (λ number placed there outside.
    All-weaker (λ (r : Row). may_have r.key placed.info ≡ true) (λ (r : Row). r.key ≢ key)
    (λ r within same. let clash : true ≡ false = sym within ∙ ap (λ (k : List ℕ). may_have k placed.info) same ∙ outside in cc)
    (rows number) (searchable.ranged number placed there))
    searchable.distinct
