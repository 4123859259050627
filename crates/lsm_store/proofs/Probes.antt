-- A probe, at each exit.
use Rattle.std.specs.Prelude.{◌≡◌, ℕ, true, false, ◌||◌, ◌==◌, List, [], ◌<◌, Contains, Option, Some, None, is_some, Result, Ok, Err}
use Rattle.std.proofs.Common.{refl, sym, ap, ◌∙◌, inl, inr}
use Rattle.std.proofs.lemmas.Bool.{eqb-true}
use Rattle.std.proofs.lemmas.List.{nil_from_length}
use Rattle.std.specs.List.{flat_map}
use Rattle.std.specs.FinMap as finmap
use Rattle.lsm_rows.specs.declared.rows.Row.{Row}
use Rattle.lsm_rows.specs.Contents.{newest}
use Rattle.lsm_io.specs.Causes.{Rose}
use Rattle.lsm_disk.specs.State.{Seen}
use Rattle.lsm_version.specs.declared.tables.Placed.{Placed}
use Rattle.lsm_version.specs.Orders.{AreLevels}
use Rattle.lsm_folder.specs.Parts.{rows_of_tables}
use Rattle.lsm_model.specs.declared.errors.StoreError.{StoreError}
use Rattle.lsm_model.specs.declared.errors.StoreError.TheVariants as error
use Rattle.lsm_model.specs.declared.states.State.{State}
use Rattle.lsm_refine.specs.Kept.{Shown}
use Rattle.lsm_refine.specs.Good.{Good, with_counts, first_active}
use Rattle.lsm_refine.specs.Refused.{KeepsAllBut}
use Rattle.lsm_refine.proofs.ShownLemmas.{good_shows}
use Rattle.lsm_refine.proofs.UnchangedLemmas.{unchanged_good}
use Rattle.lsm_core.specs.Looking.{Leveled, AreOpened}
use Rattle.lsm_core.specs.Reading.{Keeps, IsOutside, ToldTables, Reads, seen_of}
use Rattle.lsm_core.specs.Searching.{looked_at}
use Rattle.lsm_core.proofs.ReadLemmas.{reads_whole, searchable}
use Rattle.lsm_flush.specs.Frozen as frozen
use Rattle.lsm_store.specs.Inside.{Inner, shown_of}
use Rattle.lsm_store.specs.Reading.{value_in_memory, is_at_hand, TellsProbe, Probed, HasClosed}
use Rattle.lsm_store.specs.declared.probing.Probe.TheVariants.{Known, Look}
use Rattle.lsm_store.proofs.Calls.{counts_same}
use Rattle.lsm_store.proofs.Gets.{value_known, value_found}

module _ (V : Type 0) (x : Inner) (key : List ℕ) where
  abbrev v : Shown
  v = shown_of x

  abbrev w : Seen → Shown
  w seen = shown_of (record x { disk = seen })

  stays_good : (seen : Seen) → seen.told ≡ x.disk.told → (s : State) → Good v s → Good (w seen) (with_counts seen s)
  stays_good seen told s good = unchanged_good v (w seen) s good (record {
    later = good.story;
    told = told ∙ good.told;
    state = refl;
    dir = refl;
    kept = refl;
    views = λ number view there. inl there;
  }) refl

  loses_none : (seen : Seen) → KeepsAllBut None v (w seen)
  loses_none seen = record { kept = refl; views = λ number some. inr some; halt = refl }

  at_once : (value : Option (List ℕ)) → true ≡ is_at_hand v.kept key → ((s : State) → Good v s → TellsProbe {V = V} s key
      (Known value))
      → Probed {V = V} key v v (Ok (Known value))
  at_once value known tells = record {
    counts = counts_same v;
    told = refl;
    by = loses_none x.disk;
    rest = refl;
    known = known;
    good = stays_good x.disk refl;
    tells = tells;
  }

  -- a row in memory has the key
  pub known_probe : (value : Option (List ℕ)) (o : Option (Option (List ℕ))) → o ≡ Some value → o ≡ value_in_memory x.active
      (frozen.rows_of x.frozen) key
      → Probed {V = V} key v v (Ok (Known value))
  known_probe value o some is =
      at_once value (ap (λ (m : Option (Option (List ℕ))). is_some m || (finmap.len v.kept.version == 0)) (sym some ∙ is))
      (λ s good. value_known v s good key value (sym is ∙ some))

  module _ (o : Option (Option (List ℕ))) (none : o ≡ None) (is : o ≡ value_in_memory x.active (frozen.rows_of x.frozen) key) where
    in_no_memory : value_in_memory v.kept.active v.kept.frozen key ≡ None
    in_no_memory = sym is ∙ none

    hand_is : is_at_hand v.kept key ≡ (finmap.len v.kept.version == 0)
    hand_is = ap (λ (m : Option (Option (List ℕ))). is_some m || (finmap.len v.kept.version == 0)) in_no_memory

    -- no table is live
    pub empty_probe : (finmap.len v.kept.version == 0) ≡ true → Probed {V = V} key v v (Ok (Known None))
    empty_probe empty =
        at_once None (sym (hand_is ∙ empty))
        (λ s good. value_found v s good key None in_no_memory
        (ap (λ (es : List (ℕ × Placed)). newest key (flat_map (λ (table : ℕ × Placed). (good_shows v s good).rows table.0)
        es)) (sym no_entries)))
      where
        no_entries : finmap.entries v.kept.version ≡ []
        no_entries = nil_from_length (finmap.entries v.kept.version)
            (sym (finmap.len-entries v.kept.version) ∙ eqb-true (finmap.len v.kept.version) 0 empty)

    module _ (some : (finmap.len v.kept.version == 0) ≡ false) (seen : Seen) where
      abbrev Opens : (ℕ → List Row) → List Leveled → Type 0
      Opens rows tables = AreLevels x.catalog.version → AreOpened rows (looked_at x.catalog.version key) tables

      whole : (r : Result (List Leveled) StoreError) → Reads Opens (seen_of x.disk x.home x.catalog) (seen_of seen x.home
          x.catalog) r
          → Reads Opens v (w seen) r
      whole r reads =
          reads_whole x.disk seen x.home x.catalog x.catalog v.kept v.kept None x.halt refl refl refl Opens Opens r reads
          (λ rows tables told opens. opens)

      abbrev told_good : (s : State) (good : Good v s) → ToldTables v (good_shows v s good).rows
      told_good s good = record { story = good.story; told = good.told; tables = (good_shows v s good).tables }

      -- tables were opened
      pub look_probe : (tables : List Leveled) → Reads Opens (seen_of x.disk x.home x.catalog) (seen_of seen x.home
          x.catalog) (Ok tables)
          → Probed {V = V} key v (w seen) (Ok (Look tables))
      look_probe tables reads =
          let all = whole (Ok tables) reads in
          record {
            counts = all.counts;
            told = all.told;
            by = loses_none seen;
            rest = refl;
            known = sym (hand_is ∙ some);
            good = stays_good seen all.told;
            tells = λ s good. record {
              version = v.kept.version;
              rows = (good_shows v s good).rows;
              searchable = searchable v (good_shows v s good).rows (first_active s) (told_good s good) (good_shows v s
                  good).order;
              opened = all.exact (good_shows v s good).rows (told_good s good) (good_shows v s good).order.levels;
              value_is = sym (value_found v s good key
                  (newest key (rows_of_tables v.kept.version (good_shows v s good).rows)) in_no_memory refl);
            };
          }

      pub refused_probe : (e : StoreError) → Reads Opens (seen_of x.disk x.home x.catalog) (seen_of seen x.home x.catalog)
          (Err e)
          → Probed {V = V} key v (w seen) (Err e)
      refused_probe e reads =
          let all = whole (Err e) reads in
          record {
            counts = all.counts;
            told = all.told;
            by = (all.by.0, (None, loses_none seen));
            rest = refl;
            known = tt;
            good = stays_good seen all.told;
            tells = λ s good. all.exact (good_shows v s good).rows (told_good s good);
          }

  -- memory was wanting
  pub wanting_probe : Probed {V = V} key v v (Err error.NoMemory)
  unfolding IsOutside
  wanting_probe = record {
    counts = counts_same v;
    told = refl;
    by = (tt, (None, loses_none x.disk));
    rest = refl;
    known = tt;
    good = stays_good x.disk refl;
    tells = λ s good. tt;
  }

  -- views are closed
  pub tables_closed : (tables : List Leveled) (seen : Seen) → Keeps x.disk seen
      → ((t : Leveled) → Contains tables t → 0 < t.table.viewed.faults → Rose x.disk.faults seen.faults) → HasClosed tables v
      (w seen)
  tables_closed tables seen keeps rose = record {
    counts = record { dir = refl; faults = keeps.faults; refusals = keeps.refusals };
    told = keeps.told;
    rest = refl;
    rose = rose;
    good = stays_good seen keeps.told;
  }
