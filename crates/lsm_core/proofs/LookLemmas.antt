-- Tables that are opened for one key: they are opened in turn, looked into in turn, and closed.
use Rattle.std.specs.Prelude.{◌≡◌, ◌⊎◌, cond, ℕ, zero, suc, ◌+◌, ◌<◌, ◌≤◌, Bool, true, false, List, [], ◌∷◌, ◌++◌, get_or, set, take, length, All, Contains, Option, Some, None, Result, Ok, Err, OnOk, IfErr}
use Rattle.std.proofs.Common.{refl, sym, ap, subst, ◌∙◌, arith, inl, inr, ⊎_elim}
use Rattle.std.proofs.lemmas.List.{map-append, take_more, take_all, get_or_append_left, length-append, nil_from_length, length-map, length-set, get_or-map, get_or-set_same}
use Rattle.std.proofs.lemmas.Option.{slice_get-get_or}
use Rattle.std.proofs.lemmas.List.Elements.{All-nil, All-cons, All-head, All-tail, All-push, All-contains, All-get_or, All-take, AllZip-get_or, length_all_zip, Contains-push, Contains-push_cases}
use Rattle.std.specs.List.{AllZip}
use Rattle.std.specs.FinMap as finmap
use Rattle.lsm_io.specs.Causes.{Rose}
use Rattle.lsm_names.specs.declared.file_names.FileName.TheVariants.{Table as Named}
use Rattle.lsm_rows.specs.declared.rows.Row.{Row}
use Rattle.lsm_rows.specs.Contents.{newest, value_of}
use Rattle.lsm_disk.specs.State.{Seen}
use Rattle.lsm_disk.specs.Dest.{path_in}
use Rattle.lsm_disk.specs.Viewed.{Viewed, opened}
use Rattle.lsm_table.specs.Tables.{Opened}
use Rattle.lsm_table.specs.WholeTables.{IsTable}
use Rattle.lsm_version.specs.declared.tables.Place.{Place}
use Rattle.lsm_version.specs.declared.tables.Placed.{Placed}
use Rattle.lsm_version.specs.Levels.{Tables}
use Rattle.lsm_version.specs.Orders.{AreLevels, Stands}
use Rattle.lsm_model.specs.declared.errors.StoreError.{StoreError}
use Rattle.lsm_model.specs.declared.errors.StoreError.TheVariants as error
use Rattle.lsm_refine.specs.Refused.{TablesRefused}
use Rattle.lsm_core.specs.Catalogs.{IsWholeView}
use Rattle.lsm_core.specs.Reading.{Views, Keeps, IsOutside, Asks, HoldsTable, IsTableOf, ToldTables, Reads, seen_with}
use Rattle.lsm_core.specs.declared.meeting.Met.{Met}
use Rattle.lsm_core.specs.Searching.{looked_at, goes_deeper, better, row_met, value_met, HasMet, MeetsMore}
use Rattle.lsm_frame.proofs.Going.{rose_later}
use Rattle.lsm_core.proofs.SearchLemmas.{met_none, meets_above, meets_row, meets_next, finds_newest, looked_stand}
use Rattle.lsm_core.specs.Looking.{Leveled, place_at, TellsTable, AreOpened, TellsValue, StaysTable, HasFailed}
use Rattle.lsm_core.proofs.ReadLemmas.{reads_nothing, reads_refused, opened_tells}

-- ---- opening

none_opened : (rows : ℕ → List Row) → AreOpened rows [] []
none_opened rows = record { places_are = refl; tell = All-nil (λ (t : Leveled). TellsTable (rows t.table.properties.number) t) }

one_opened : (rows : ℕ → List Row) (places : List Place) (tables : List Leveled) (place : Place) (t : Leveled) → place_at t ≡
    place
    → TellsTable (rows t.table.properties.number) t → AreOpened rows places tables → AreOpened rows (places ++ place ∷ [])
    (tables ++ t ∷ [])
one_opened rows places tables place t is tells are = record {
  places_are = map-append place_at tables (t ∷ []) ∙ (λ i. are.places_are i ++ is i ∷ []);
  tell = All-push (λ (u : Leveled). TellsTable (rows u.table.properties.number) u) tables t are.tell tells;
}

module _ (home : List ℕ) (version : Tables) (place : Place) (tables : List Leveled) (places : List Place) (views : Views) where
  abbrev pub Opens : List Leveled → (ℕ → List Row) → Unit {0} → Type 0
  Opens now rows value = Stands version place → AreOpened rows places tables → AreOpened rows (places ++ place ∷ []) now

  -- no table stands there
  pub opens_nothing : (seen : Seen) → finmap.get version place.number ≡ None
      → Reads (Opens tables) (seen_with seen home version views) (seen_with seen home version views) (Ok tt)
  opens_nothing seen none =
      reads_nothing home version seen seen views (Opens tables) tt refl (omega arith) (omega arith)
      (λ rows t stands are. let clash : None ≡ Some stands.placed = sym none ∙ stands.there in absurd (cc))

  module _ (placed : Placed) (there : finmap.get version place.number ≡ Some placed) (old mid new : Seen) (T : Type 0) (x :
      T) (table : Opened)
      (asks : Asks {T = T} (Named place.number) (HoldsTable home place.number placed) old mid (Ok x))
      (is : IsTableOf (opened (path_in home (Named place.number)) placed.info.size old.told).bytes place.number table)
      (keeps : Keeps mid new) where
    abbrev t : Leveled
    t = record { level = place.level; table = table }

    tells : (rows : ℕ → List Row) → ToldTables (seen_with old home version views) rows → TellsTable (rows
        table.properties.number) t
    tells rows told =
        let has = told.tables.each place.number placed there in
        record {
          bytes = has.bytes;
          session = placed.info.session;
          told = opened_tells home version old old views place.number placed there table.viewed is.bytes_are rows told;
          table = subst (λ (n : ℕ). IsTable has.bytes (rows n) n placed.info.session) (sym is.number_is) has.table;
        }

    pub opens_one : (now : List Leveled) (r : Result (Unit {0}) StoreError) → OnOk r (now ≡ tables ++ t ∷ []) → IfErr r (λ e.
        e ≡ error.NoMemory)
        → Reads (Opens now) (seen_with old home version views) (seen_with new home version views) r
    unfolding IsOutside
    opens_one now (Ok value) pushed wanting =
        reads_nothing home version old new views (Opens now) value (keeps.told ∙ asks.told) (omega (
          arith,
          asks.faults,
          keeps.faults,
        ))
        (omega (arith, asks.refusals, keeps.refusals))
        (λ rows told stands are. subst (AreOpened rows (places ++ place ∷ [])) (sym pushed)
        (one_opened rows places tables place t (λ i. record { level = place.level; number = is.number_is i }) (tells rows
        told) are))
    opens_one now (Err e) pushed wanting =
        subst (λ (w : StoreError). Reads (Opens now) (seen_with old home version views) (seen_with new home version views)
        (Err w)) (sym wanting)
        (reads_refused home version old new views (Opens now) error.NoMemory (keeps.told ∙ asks.told) (omega (
          arith,
          asks.faults,
          keeps.faults,
        ))
        (omega (arith, asks.refusals, keeps.refusals)) tt (λ rows told. tt))

-- views that were opened are closed behind a refusal
module _ (home : List ℕ) (version : Tables) (views : Views) (old mid new : Seen) (keeps : Keeps mid new) where
  rose_still : (a b c : ℕ) → Rose a b → b ≤ c → Rose a c
  rose_still a b c rose more = omega (arith, rose, more)

  refused_still : (e : StoreError) → TablesRefused (seen_with old home version views) (seen_with mid home version views) e
      → TablesRefused (seen_with old home version views) (seen_with new home version views) e
  refused_still error.DiskFault rose = rose_still old.faults mid.faults new.faults rose keeps.faults
  refused_still (error.Missing name) is = (rose_still old.refusals mid.refusals new.refusals is.0 keeps.refusals, is.1)
  refused_still (error.Short name kept found) is = is
  refused_still (error.Damaged name place kept found) is = is
  refused_still (error.Malformed name place) is = is
  refused_still error.NoMemory is = is
  refused_still other is = is

  pub refused_closed : {T S : Type 0} (F : (ℕ → List Row) → T → Type 0) (G : (ℕ → List Row) → S → Type 0) (e : StoreError)
      → Reads F (seen_with old home version views) (seen_with mid home version views) (Err e)
      → Reads G (seen_with old home version views) (seen_with new home version views) (Err e)
  refused_closed F G e is =
      reads_refused home version old new views G e (keeps.told ∙ is.told) (omega (arith, is.counts.faults, keeps.faults))
      (omega (arith, is.counts.refusals, keeps.refusals)) (refused_still e is.by.0) (λ rows t. is.exact rows t)

-- ---- the places in turn

All-front : (P : Place → Type 0) (xs ys : List Place) → All P (xs ++ ys) → All P xs
All-front P xs ys all k d below = subst P (get_or_append_left xs ys d k below) (all k d (omega (
  arith,
  below,
  length-append
      xs ys,
)))

all_front : (P : Place → Type 0) (places : List Place) (n : ℕ) (d : Place) → n < length places → All P (take (n + 1) places)
    → All P (take n places) × P (get_or places n d)
all_front P places n d below each =
    let next : All P (take n places ++ get_or places n d ∷ []) = subst (All P) (take_more places n d below) each in
    (front (take n places) (get_or places n d) next, last (take n places) (get_or places n d) next)
  where
    front : (xs : List Place) (y : Place) → All P (xs ++ y ∷ []) → All P xs
    front xs y all = All-front P xs (y ∷ []) all

    last : (xs : List Place) (y : Place) → All P (xs ++ y ∷ []) → P y
    last xs y all = All-contains P (xs ++ y ∷ []) y all (Contains-push xs y)

module _ (version : Tables) (places : List Place) where
  abbrev pub OpensTo : ℕ → (ℕ → List Row) → List Leveled → Type 0
  OpensTo n rows tables = All (Stands version) (take n places) → AreOpened rows (take n places) tables

  pub opens_none : (rows : ℕ → List Row) → OpensTo 0 rows []
  opens_none rows stand = none_opened rows

  pub opens_next : (n : ℕ) (d : Place) → n < length places → (rows : ℕ → List Row) (tables now : List Leveled) → OpensTo n
      rows tables
      → (Stands version (get_or places n d) → AreOpened rows (take n places) tables → AreOpened rows (take n places ++ get_or
      places n d ∷ []) now)
      → OpensTo (n + 1) rows now
  opens_next n d below rows tables now before more stand =
      let parts = all_front (Stands version) places n d below stand in
      subst (λ (l : List Place). AreOpened rows l now) (sym (take_more places n d below)) (more parts.1 (before parts.0))

  pub opens_all : (n : ℕ) → length places ≤ n → (rows : ℕ → List Row) (tables : List Leveled) → OpensTo n rows tables
      → All (Stands version) places → AreOpened rows places tables
  opens_all n enough rows tables is stand =
      subst (λ (l : List Place). AreOpened rows l tables) (take_all n places enough)
      (is (subst (All (Stands version)) (sym (take_all n places enough)) stand))

-- ---- closing

-- some of the tables are closed: each is left, or its view has raised the count where it had failed
pub record IsClosing (start left : List Leveled) (old new : Seen) : Type 0 where
  pub keeps : Keeps old new
  pub each : (t : Leveled) → Contains start t → Contains left t ⊎ (0 < t.table.viewed.faults → Rose old.faults new.faults)

pub none_closed : (start : List Leveled) (seen : Seen) → IsClosing start start seen seen
none_closed start seen = record {
  keeps = record { told = refl; faults = omega arith; refusals = omega arith };
  each = λ t among. inl among;
}

pub one_closed : (start left less : List Leveled) (t : Leveled) (view : Viewed) (old mid new : Seen) → IsClosing start left
    old mid
    → left ≡ less ++ t ∷ [] → view ≡ t.table.viewed → new.told ≡ mid.told → mid.faults ≤ new.faults → mid.refusals ≤
    new.refusals
    → (0 < view.faults → Rose mid.faults new.faults) → IsClosing start less old new
one_closed start left less t view old mid new so_far is same told faults refusals rose = record {
  keeps = record {
    told = told ∙ so_far.keeps.told;
    faults = omega (arith, so_far.keeps.faults, faults);
    refusals = omega (arith, so_far.keeps.refusals, refusals);
  };
  each = λ u among. ⊎_elim
      (λ still. ⊎_elim
      (λ left_still. inl left_still)
      (λ here. inr (λ failed. earlier old.faults mid.faults new.faults so_far.keeps.faults
      (rose (subst (λ (v : Viewed). 0 < v.faults) (ap (λ (x : Leveled). x.table.viewed) (sym here) ∙ sym same) failed))))
      (Contains-push_cases less t u (subst (λ (l : List Leveled). Contains l u) is still)))
      (λ closed. inr (λ failed. later old.faults mid.faults new.faults (closed failed) faults))
      (so_far.each u among);
}
  where
    earlier : (a b c : ℕ) → a ≤ b → Rose b c → Rose a c
    earlier a b c more rose = omega (arith, more, rose)

    later : (a b c : ℕ) → Rose a b → b ≤ c → Rose a c
    later a b c rose more = omega (arith, rose, more)

pub all_closed : (start left : List Leveled) (old new : Seen) → left ≡ [] → IsClosing start left old new → (t : Leveled) →
    Contains start t
    → 0 < t.table.viewed.faults → Rose old.faults new.faults
all_closed start left old new none is t among failed = ⊎_elim
    (λ still. absurd (nothing t (subst (λ (l : List Leveled). Contains l t) none still)))
    (λ closed. closed failed)
    (is.each t among)
  where
    nothing : (t : Leveled) → Contains [] t → ⊥
    nothing t c = omega (arith, c.1)

-- ---- looking

pub pushed_whole : (old new : List Leveled) (t : Leveled) (done : Bool) → new ≡ cond done (old ++ t ∷ []) old
    → All (λ (u : Leveled). IsWholeView u.table.viewed) old → IsWholeView t.table.viewed → All (λ (u : Leveled). IsWholeView
    u.table.viewed) new
pushed_whole old new t true is each one =
    subst (All (λ (u : Leveled). IsWholeView u.table.viewed)) (sym is) (All-push (λ (u : Leveled). IsWholeView
    u.table.viewed) old t each one)
pushed_whole old new t false is each one = subst (All (λ (u : Leveled). IsWholeView u.table.viewed)) (sym is) each

-- so many of the tables were looked into: each is as it was, but for its view's faults
pub record IsLooking (start now : List Leveled) (key : List ℕ) (n : ℕ) (met : Option Met) : Type 0 where
  pub stays : AllZip StaysTable start now
  pub met_in : (value : Option (List ℕ)) (tells : TellsValue start key value)
      → HasMet tells.version tells.rows key (take n (looked_at tells.version key)) met

trans_stays : (a b c : Leveled) → StaysTable a b → StaysTable b c → StaysTable a c
trans_stays a b c one two = record {
  level = two.level ∙ one.level;
  viewed = record {
    bytes = two.viewed.bytes ∙ one.viewed.bytes;
    len = two.viewed.len ∙ one.viewed.len;
    faults = omega (arith, one.viewed.faults, two.viewed.faults);
  };
  properties = two.properties ∙ one.properties;
}

stays_itself : (t : Leveled) → StaysTable t t
stays_itself t = record { level = refl; viewed = record { bytes = refl; len = refl; faults = omega arith }; properties = refl }

all_stay : (tables : List Leveled) → AllZip StaysTable tables tables
all_stay [] = tt
all_stay (t ∷ tables) = (stays_itself t, all_stay tables)

same_length : (start now : List Leveled) → AllZip StaysTable start now → length start ≡ length now
same_length start now stays = length_all_zip StaysTable start now stays

-- one of them is changed
stay_set : (start now : List Leveled) (n : ℕ) (d t : Leveled) → n < length now → AllZip StaysTable start now → StaysTable
    (get_or now n d) t
    → AllZip StaysTable start (set now n t)
stay_set [] [] n d t below stays one = absurd (omega (arith, below))
stay_set [] (y ∷ now) n d t below stays one = absurd stays
stay_set (x ∷ start) [] n d t below stays one = absurd stays
stay_set (x ∷ start) (y ∷ now) zero d t below stays one = (trans_stays x y t stays.0 one, stays.1)
stay_set (x ∷ start) (y ∷ now) (suc n) d t below stays one = (
  stays.0,
  stay_set start now n d t (omega (arith, below))
      stays.1 one,
)

pub looked_below : (start now : List Leveled) (key : List ℕ) (n : ℕ) (met : Option Met) → IsLooking start now key n met → n <
    length start
    → n < length now
looked_below start now key n met looking inner = omega (arith, inner, same_length start now looking.stays)

module _ (start now : List Leveled) (key : List ℕ) (n : ℕ) (met : Option Met) (looking : IsLooking start now key n met)
    (inner : n < length start)
    (at after : Leveled) (d : Leveled) (is : at ≡ get_or now n d) (one : StaysTable at after) where
  below : n < length now
  below = omega (arith, inner, same_length start now looking.stays)

  start_at : StaysTable (get_or start n d) at
  start_at = subst (StaysTable (get_or start n d)) (sym is)
      (AllZip-get_or StaysTable start now n d d looking.stays (omega (arith, below, same_length start now looking.stays)))

  pub looked_stays : AllZip StaysTable start (set now n after)
  looked_stays = stay_set start now n d after below looking.stays (subst (λ (t : Leveled). StaysTable t after) is one)

  module _ (value : Option (List ℕ)) (tells : TellsValue start key value) where
    abbrev all : List Place
    all = looked_at tells.version key

    abbrev first : Leveled
    first = get_or start n d

    within : n < length start
    within = omega (arith, below, same_length start now looking.stays)

    -- it tells the same table
    pub looked_tells : TellsTable (tells.rows at.table.properties.number) at
    looked_tells =
        let was = All-get_or (λ (t : Leveled). TellsTable (tells.rows t.table.properties.number) t) start n d within
        tells.opened.tell in
        record {
          bytes = was.bytes;
          session = was.session;
          told = start_at.viewed.bytes ∙ was.told;
          table = subst (λ (m : ℕ). IsTable was.bytes (tells.rows m) m was.session) (ap (λ p. p.number) (sym
              start_at.properties)) was.table;
        }

    place_is : get_or all n (place_at d) ≡ place_at at
    place_is =
        ap (λ (l : List Place). get_or l n (place_at d)) (sym tells.opened.places_are)
        ∙ get_or-map place_at start n d (place_at d) within
        ∙ sym (λ i. record { level = start_at.level i; number = (ap (λ p. p.number) start_at.properties) i })

    inside : n < length all
    inside = omega (arith, within, ap (λ (l : List Place). length l) tells.opened.places_are, length-map start place_at)

    stand : All (Stands tells.version) all
    stand = looked_stand tells.version key tells.searchable.levels

    -- what was met once it was looked into
    pub looked_met : (later : Option Met)
        → ((goes_deeper met at.level ≡ true → later ≡ met)
        × (goes_deeper met at.level ≡ false → later ≡ better met at.level (newest key (tells.rows at.table.properties.number))))
        → HasMet tells.version tells.rows key (take (n + 1) all) later
    looked_met later by_level =
        meets_next tells.version key all n (place_at d) tells.rows met later inside
        (λ searchable standing. looking.met_in value tells)
        (subst (λ (p : Place). MeetsMore tells.version key p met tells.rows later) (sym place_is) (by (goes_deeper met
        at.level) refl))
        tells.searchable (All-take (Stands tells.version) (n + 1) all stand)
      where
        by : (deeper : Bool) → goes_deeper met at.level ≡ deeper → MeetsMore tells.version key (place_at at) met tells.rows
            later
        by true deep =
            subst (λ (m : Option Met). MeetsMore tells.version key (place_at at) met tells.rows m) (sym (by_level.0 deep))
            (meets_above tells.version key (place_at at) met deep tells.rows)
        by false shallow =
            meets_row tells.version key (place_at at) met later (newest key (tells.rows at.table.properties.number)) tells.rows
            (by_level.1 shallow) refl

  pub looked_failed : Rose at.table.viewed.faults after.table.viewed.faults → HasFailed start (set now n after)
  looked_failed rose = record {
    place = n;
    before = get_or start n d;
    after = after;
    was = slice_get-get_or start n d (omega (arith, below, same_length start now looking.stays));
    is = slice_get-get_or (set now n after) n after (omega (arith, below, length-set now n after)) ∙ ap Some (get_or-set_same
        now n after after below);
    rose = rose_later (get_or start n d).table.viewed.faults at.table.viewed.faults after.table.viewed.faults
        start_at.viewed.faults rose;
  }

-- all of them were looked into
pub looked_all : (start now : List Leveled) (key : List ℕ) (n : ℕ) (met : Option Met) → IsLooking start now key n met →
    length start ≤ n
    → (value : Option (List ℕ)) → TellsValue start key value → value_met met ≡ value
looked_all start now key n met looking enough value tells =
    let all : List Place = looked_at tells.version key in
    let many : length all ≤ n = omega (
      arith,
      enough,
      ap (λ (l : List Place). length l) tells.opened.places_are,
      length-map
          start place_at,
    ) in
    value_row met ∙ ap value_of
    (finds_newest tells.version key all tells.rows met (row_met met) refl refl
    (λ searchable stand. subst (λ (l : List Place). HasMet tells.version tells.rows key l met) (take_all n all many)
    (looking.met_in value tells))
    tells.searchable) ∙ sym tells.value_is
  where
    value_row : (m : Option Met) → value_met m ≡ value_of (row_met m)
    value_row None = refl
    value_row (Some m) = refl

pub none_looked : (start : List Leveled) (key : List ℕ) → IsLooking start start key 0 None
none_looked start key = record {
  stays = all_stay start;
  met_in = λ value tells. met_none tells.version tells.rows key;
}

whole_still : (x y : Leveled) → StaysTable x y → IsWholeView x.table.viewed → IsWholeView y.table.viewed
whole_still x y stays is = record { whole = λ text told. is.whole text (sym stays.viewed.bytes ∙ told) ∙ sym stays.viewed.len }

-- the views tell all their bytes, as before
pub stays_whole : (start now : List Leveled) → AllZip StaysTable start now → All (λ (t : Leveled). IsWholeView
    t.table.viewed) start
    → All (λ (t : Leveled). IsWholeView t.table.viewed) now
stays_whole [] [] stays each = All-nil (λ (t : Leveled). IsWholeView t.table.viewed)
stays_whole [] (y ∷ now) stays each = absurd stays
stays_whole (x ∷ start) [] stays each = absurd stays
stays_whole (x ∷ start) (y ∷ now) stays each =
    All-cons (λ (t : Leveled). IsWholeView t.table.viewed) y now
    (whole_still x y stays.0 (All-head (λ (t : Leveled). IsWholeView t.table.viewed) x start each))
    (stays_whole start now stays.1 (All-tail (λ (t : Leveled). IsWholeView t.table.viewed) x start each))

pub one_whole : (now : List Leveled) (n : ℕ) (d at : Leveled) → at ≡ get_or now n d → n < length now
    → All (λ (t : Leveled). IsWholeView t.table.viewed) now → IsWholeView at.table.viewed
one_whole now n d at is below each =
    subst (λ (t : Leveled). IsWholeView t.table.viewed) (sym is) (All-get_or (λ (t : Leveled). IsWholeView t.table.viewed)
    now n d below each)

pub opens_looked : (version : Tables) (key : List ℕ) (places : List Place) → places ≡ looked_at version key → (rows : ℕ →
    List Row)
    (tables : List Leveled) → (All (Stands version) places → AreOpened rows places tables) → AreLevels version
    → AreOpened rows (looked_at version key) tables
opens_looked version key places is rows tables opens levels =
    subst (λ (l : List Place). AreOpened rows l tables) is
    (opens (subst (All (Stands version)) (sym is) (looked_stand version key levels)))

pub no_items : {X : Type 0} (items : List X) (len : ℕ) → len ≡ 0 → len ≡ length items → items ≡ []
no_items items len none is = nil_from_length items (omega (arith, none, is))
