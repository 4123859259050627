-- The value of a key, at each exit.
use Rattle.std.specs.Prelude.{◌≡◌, ℕ, ◌<◌, ◌≤◌, List, ◌++◌, All, Option, Some, None, Result, Ok, Err, option_map}
use Rattle.std.proofs.Common.{refl, sym, ap, ◌∙◌, arith, inl, inr}
use Rattle.std.proofs.lemmas.List.Elements.{All-weaker, All-contains}
use Rattle.std.proofs.lemmas.List.Sorted.{All-permutation}
use Rattle.std.specs.FinMap as finmap
use Rattle.lsm_rows.specs.declared.rows.Row.{Row}
use Rattle.lsm_rows.specs.Contents.{AllBefore, newest, value_of}
use Rattle.lsm_rows.specs.Replay.{Contents, sequence_after}
use Rattle.lsm_rows.specs.Rows.{rows_of}
use Rattle.lsm_rows.proofs.NewestRows.{get_contents, newest_is}
use Rattle.lsm_disk.specs.State.{Seen, state_of}
use Rattle.lsm_folder.specs.Parts.{rows_of_tables}
use Rattle.lsm_model.specs.declared.errors.StoreError.{StoreError}
use Rattle.lsm_model.specs.declared.errors.StoreError.TheVariants as error
use Rattle.lsm_model.specs.declared.events.Event.TheVariants as event
use Rattle.lsm_model.specs.declared.replies.Reply.TheVariants as reply
use Rattle.lsm_model.specs.declared.states.State.{State}
use Rattle.lsm_model.specs.States.{contents_now, active_batches}
use Rattle.lsm_refine.specs.Kept.{Kept, Shown}
use Rattle.lsm_refine.specs.Good.{ShowsAccepted, Good, IsUnchanged, first_active}
use Rattle.lsm_refine.specs.Refused.{KeepsAllBut, TablesRefused}
use Rattle.lsm_refine.specs.Caused.{ReadBy, CausedBy}
use Rattle.lsm_refine.proofs.ShownLemmas.{IsWithin, rows_within, good_shows}
use Rattle.lsm_refine.proofs.ReadSteps.{get_ok, get_fault, get_wanting}
use Rattle.lsm_refine.proofs.WriteSteps.{Steps}
use Rattle.lsm_core.specs.Reading.{IsOutside, ToldTables, Reads, seen_of}
use Rattle.lsm_core.specs.Searching.{FindsNewest}
use Rattle.lsm_core.proofs.NewestLemmas.{behind_none, behind_older}
use Rattle.lsm_core.proofs.SearchLemmas.{all_of_tables}
use Rattle.lsm_core.proofs.ReadLemmas.{reads_whole, searchable}
use Rattle.lsm_flush.specs.Frozen as frozen
use Rattle.lsm_store.specs.Inside.{Inner, shown_of}
use Rattle.lsm_store.specs.Reading.{row_or, value_in_memory}
use Rattle.lsm_store.proofs.Calls.{IsCall, same_shows, nothing_called}

-- a get is answered so, and leaves the later store
abbrev pub IsGet : List ℕ → Result (Option (List ℕ)) StoreError → Shown → Shown → Type 0
IsGet key r v w = IsCall (λ s. s) (event.Get key) (reply.Get r) v w

pub get_caused : (v w : Shown) (key : List ℕ) (r : Result (Option (List ℕ)) StoreError) → ReadBy v w r → CausedBy v
    (event.Get key) (reply.Get r) w
unfolding CausedBy
get_caused v w key r by = by

same_value : (a b : Option (List ℕ)) → Some a ≡ Some b → a ≡ b
same_value a b is = cc

none_known : (value : Option (List ℕ)) → None ≡ Some value → ⊥
none_known value is = cc

known_none : (value : Option (List ℕ)) → Some value ≡ None → ⊥
known_none value is = cc

-- ---- the value in a good store's contents

module _ (v : Shown) (s : State) (good : Good v s) where
  abbrev shows : ShowsAccepted (state_of good.story) v s
  shows = good_shows v s good

  abbrev in_tables : List Row
  in_tables = rows_of_tables v.kept.version shows.rows

  abbrev first : ℕ
  first = first_active s

  from_first : All (λ (row : Row). first ≤ row.sequence) v.kept.active
  from_first =
      All-permutation (λ (row : Row). first ≤ row.sequence) (rows_of first (active_batches s)) v.kept.active shows.active.same
      (All-weaker (IsWithin first (sequence_after first (active_batches s))) (λ (row : Row). first ≤ row.sequence) (λ row is.
      is.0)
      (rows_of first (active_batches s)) (rows_within first (active_batches s)))

  -- rows of tables have sequences up to the last one in tables
  up_to_last : All (λ (row : Row). row.sequence ≤ v.kept.last) in_tables
  up_to_last =
      all_of_tables shows.rows (λ (row : Row). row.sequence ≤ v.kept.last) v.kept.version
      (λ number placed there. All-weaker (λ (row : Row). (1 ≤ row.sequence) × (row.sequence ≤ v.kept.last))
      (λ (row : Row). row.sequence ≤ v.kept.last) (λ row is. is.1) (shows.rows number) (shows.order.listed number placed
      there).sequences)

  tables_before : (n : ℕ) → v.kept.last < n → AllBefore n in_tables
  tables_before n less =
      All-weaker (λ (row : Row). row.sequence ≤ v.kept.last) (λ (row : Row). row.sequence < n)
      (λ row most. omega (arith, most, less)) in_tables up_to_last

  frozen_before : (n : ℕ) → first ≤ n → AllBefore n v.kept.frozen
  frozen_before n more =
      All-weaker (λ (row : Row). (v.kept.last < row.sequence) × (row.sequence < first)) (λ (row : Row). row.sequence < n)
      (λ row is. omega (arith, is.1, more)) v.kept.frozen shows.order.frozen

  module _ (key : List ℕ) where
    abbrev all_rows : List Row
    all_rows = in_tables ++ (v.kept.frozen ++ v.kept.active)

    value_is : value_of (newest key all_rows) ≡ finmap.get (contents_now s) key
    value_is = sym (get_contents all_rows key) ∙ ap (λ (m : Contents). finmap.get m key) shows.shown

    in_active : (row : Row) → newest key v.kept.active ≡ Some row → newest key all_rows ≡ Some row
    in_active row found =
        let least : first ≤ row.sequence =
        All-contains (λ (r : Row). first ≤ r.sequence) v.kept.active row from_first (newest_is key v.kept.active row
        found).among in
        behind_older key in_tables (v.kept.frozen ++ v.kept.active) row (tables_before row.sequence (omega (
          arith,
          least,
          shows.order.last,
        )))
        (behind_older key v.kept.frozen v.kept.active row (frozen_before row.sequence least) found)

    in_frozen : (row : Row) → newest key v.kept.active ≡ None → newest key v.kept.frozen ≡ Some row → newest key all_rows ≡
        Some row
    in_frozen row none found =
        let past = All-contains (λ (r : Row). (v.kept.last < r.sequence) × (r.sequence < first)) v.kept.frozen row
        shows.order.frozen
        (newest_is key v.kept.frozen row found).among in
        behind_older key in_tables (v.kept.frozen ++ v.kept.active) row (tables_before row.sequence past.0)
        (behind_none key v.kept.frozen v.kept.active none ∙ found)

    -- what memory gives the key is its value
    pub value_known : (value : Option (List ℕ)) → value_in_memory v.kept.active v.kept.frozen key ≡ Some value
        → value ≡ finmap.get (contents_now s) key
    value_known value is = by (newest key v.kept.active) refl (newest key v.kept.frozen) refl is
      where
        by : (a : Option Row) → newest key v.kept.active ≡ a → (f : Option Row) → newest key v.kept.frozen ≡ f
            → option_map (λ (row : Row). row.value) (row_or a f) ≡ Some value → value ≡ finmap.get (contents_now s) key
        by (Some row) active f frozen is = sym (same_value row.value value is) ∙ sym (ap value_of (in_active row active)) ∙
            value_is
        by None active (Some row) frozen is =
            sym (same_value row.value value is) ∙ sym (ap value_of (in_frozen row active frozen)) ∙ value_is
        by None active None frozen is = absurd (none_known value is)

    -- where memory has no row of it, tables give its value
    pub value_found : (row : Option Row) → value_in_memory v.kept.active v.kept.frozen key ≡ None → row ≡ newest key in_tables
        → value_of row ≡ finmap.get (contents_now s) key
    value_found row is found = by (newest key v.kept.active) refl (newest key v.kept.frozen) refl is
      where
        by : (a : Option Row) → newest key v.kept.active ≡ a → (f : Option Row) → newest key v.kept.frozen ≡ f
            → option_map (λ (row : Row). row.value) (row_or a f) ≡ None → value_of row ≡ finmap.get (contents_now s) key
        by (Some other) active f frozen is = absurd (known_none other.value is)
        by None active (Some other) frozen is = absurd (known_none other.value is)
        by None active None frozen is =
            ap value_of (found ∙ sym (behind_none key in_tables (v.kept.frozen ++ v.kept.active)
            (behind_none key v.kept.frozen v.kept.active active ∙ frozen))) ∙ value_is

-- ---- the exits

itself : (v : Shown) (s : State) (good : Good v s) → IsUnchanged good.story v v
itself v s good = record {
  later = good.story;
  told = good.told;
  state = refl;
  dir = refl;
  kept = refl;
  views = λ number view there. inl there;
}

module _ (x : Inner) (key : List ℕ) where
  abbrev v : Shown
  v = shown_of x

  loses_none : KeepsAllBut None v v
  loses_none = record { kept = refl; views = λ number some. inr some; halt = refl }

  -- a row in memory has the key
  pub known_get : (value : Option (List ℕ)) (o : Option (Option (List ℕ))) → o ≡ Some value → o ≡ value_in_memory x.active
      (frozen.rows_of x.frozen) key
      → IsGet key (Ok value) v v
  known_get value o some is =
      nothing_called (λ s. s) (event.Get key) (reply.Get (Ok value)) v
      (λ s good. get_ok v v s good (itself v s good) refl (omega arith) (omega arith) key value (value_known v s good key
      value (sym is ∙ some)))
      (get_caused v v key (Ok value) loses_none)

  -- memory was wanting
  pub wanting_get : IsGet key (Err error.NoMemory) v v
  wanting_get =
      nothing_called (λ s. s) (event.Get key) (reply.Get (Err error.NoMemory)) v
      (λ s good. get_wanting v v s good (itself v s good) refl (omega arith) (omega arith) key)
      (get_caused v v key (Err error.NoMemory) (tt, (None, loses_none)))

  -- tables were looked into
  module _ (o : Option (Option (List ℕ))) (none : o ≡ None) (kept_is : o ≡ value_in_memory x.active (frozen.rows_of x.frozen) key) (seen :
      Seen) (catalog : Kept) where
    abbrev later : Inner
    later = record x { disk = seen; catalog = catalog }

    abbrev w : Shown
    w = shown_of later

    abbrev Finds : (ℕ → List Row) → Option Row → Type 0
    Finds rows row = FindsNewest x.catalog.version key rows row

    whole : (r : Result (Option Row) StoreError) → Reads Finds (seen_of x.disk x.home x.catalog) (seen_of seen x.home catalog) r
        → catalog ≡ record x.catalog { views = catalog.views } → Reads Finds v w r
    whole r reads same =
        reads_whole x.disk seen x.home x.catalog catalog v.kept w.kept None x.halt refl refl
        (ap (λ (k : Kept). (shown_of (record x { catalog = k })).kept) same) Finds Finds r reads (λ rows row told finds. finds)

    abbrev told_good : (s : State) (good : Good v s) → ToldTables v (shows v s good).rows
    told_good s good = record { story = good.story; told = good.told; tables = (shows v s good).tables }

    same_good : {r : Result (Option Row) StoreError} → Reads Finds v w r → (s : State) (good : Good v s) → IsUnchanged
        good.story v w
    same_good reads s good = reads.unchanged (shows v s good).rows (told_good s good)

    pub found_get : (row : Option Row) (value : Option (List ℕ)) → value ≡ value_of row
        → Reads Finds (seen_of x.disk x.home x.catalog) (seen_of seen x.home catalog) (Ok row) → IsGet key (Ok value) v w
    found_get row value is reads =
        let all = whole (Ok row) reads reads.by.kept in
        record {
          step = λ s good.
              get_ok v w s good (same_good all s good) refl all.counts.faults all.counts.refusals key value
              (is ∙ value_found v s good key row (sym kept_is ∙ none)
              (all.exact (shows v s good).rows (told_good s good)
              (searchable v (shows v s good).rows (first_active s) (told_good s good) (shows v s good).order)));
          images = λ s good. same_shows v s s good seen.told all.told;
          causes = record { counts = all.counts; by = get_caused v w key (Ok value) all.by };
        }

    -- a refusal that a good store may give
    step_by : (e : StoreError) → IsOutside e → TablesRefused v w e → (s : State) (good : Good v s) → IsUnchanged good.story v w
        → v.disk.faults ≤ w.disk.faults → v.disk.refusals ≤ w.disk.refusals → Steps s (event.Get key) (reply.Get (Err e)) w
    unfolding IsOutside
    step_by error.DiskFault outside rose s good same faults refusals = get_fault v w s good same refl faults refusals key rose
    step_by error.NoMemory outside rose s good same faults refusals = get_wanting v w s good same refl faults refusals key
    step_by other outside rose s good same faults refusals = absurd outside

    pub refused_get : (e : StoreError) → Reads Finds (seen_of x.disk x.home x.catalog) (seen_of seen x.home catalog) (Err e)
        → IsGet key (Err e) v w
    refused_get e reads =
        let all = whole (Err e) reads reads.by.1.1.kept in
        record {
          step = λ s good.
              step_by e (all.exact (shows v s good).rows (told_good s good)) all.by.0 s good (same_good all s good)
              all.counts.faults
              all.counts.refusals;
          images = λ s good. same_shows v s s good seen.told all.told;
          causes = record { counts = all.counts; by = get_caused v w key (Err e) (all.by.0, all.by.1) };
        }
