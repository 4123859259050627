-- All pairs, at each exit.
use Rattle.std.specs.Prelude.{◌≡◌, ℕ, ◌<◌, ◌≤◌, List, [], ◌∷◌, ◌++◌, take, length, if◌then◌else◌, None, Result, Ok, Err, is_ok}
use Rattle.std.proofs.Common.{refl, ap, subst, ◌∙◌, arith}
use Rattle.std.proofs.lemmas.List.{take_all, length-take}
use Rattle.lsm_block.specs.Runs.{rows_after}
use Rattle.lsm_rows.specs.declared.rows.Row.{Row}
use Rattle.lsm_rows.specs.Contents.{contents_of}
use Rattle.lsm_rows.specs.Replay.{Contents}
use Rattle.lsm_disk.specs.State.{Seen}
use Rattle.lsm_folder.specs.Parts.{rows_of_tables}
use Rattle.lsm_model.specs.declared.errors.StoreError.{StoreError}
use Rattle.lsm_model.specs.declared.errors.StoreError.TheVariants as error
use Rattle.lsm_model.specs.declared.events.Event.TheVariants as event
use Rattle.lsm_model.specs.declared.replies.Reply.TheVariants as reply
use Rattle.lsm_model.specs.declared.states.State.{State}
use Rattle.lsm_refine.specs.Kept.{Kept, Shown}
use Rattle.lsm_refine.specs.Good.{Good, IsUnchanged}
use Rattle.lsm_refine.specs.Refused.{TablesRefused}
use Rattle.lsm_refine.specs.Caused.{ReadBy, CausedBy}
use Rattle.lsm_refine.proofs.ShownLemmas.{good_shows}
use Rattle.lsm_refine.proofs.ReadSteps.{scan_ok, scan_fault, scan_wanting}
use Rattle.lsm_refine.proofs.WriteSteps.{Steps}
use Rattle.lsm_core.specs.Reading.{IsOutside, ToldTables, Reads, seen_of}
use Rattle.lsm_core.proofs.ReadLemmas.{reads_whole, reads_wanting}
use Rattle.lsm_flush.specs.Frozen.{rows_of}
use Rattle.lsm_store.specs.Inside.{Inner, shown_of}
use Rattle.lsm_store.proofs.Calls.{IsCall, same_shows}

-- a scan is answered so, and leaves the later store
abbrev pub IsScan : Result Contents StoreError → Shown → Shown → Type 0
IsScan r v w = IsCall (λ s. s) event.Scan (reply.Scan r) v w

scan_caused : (v w : Shown) (r : Result Contents StoreError) → ReadBy v w r → CausedBy v event.Scan (reply.Scan r) w
unfolding CausedBy
scan_caused v w r by = by

module _ (x : Inner) (seen : Seen) (catalog : Kept) where
  abbrev v : Shown
  v = shown_of x

  abbrev w : Shown
  w = shown_of (record x { disk = seen; catalog = catalog })

  -- the rows that are read are those of all live tables
  abbrev pub Finds : (ℕ → List Row) → List Row → Type 0
  Finds rows all = all ≡ rows_of_tables x.catalog.version rows

  abbrev FindsPairs : (ℕ → List Row) → Contents → Type 0
  FindsPairs rows pairs = pairs ≡ contents_of (rows_of_tables x.catalog.version rows ++ (rows_of x.frozen ++ x.active))

  whole : (r : Result (List Row) StoreError) → Reads Finds (seen_of x.disk x.home x.catalog) (seen_of seen x.home catalog) r
      → catalog ≡ record x.catalog { views = catalog.views } → Reads Finds v w r
  whole r reads same =
      reads_whole x.disk seen x.home x.catalog catalog v.kept w.kept None x.halt refl refl
      (ap (λ (k : Kept). (shown_of (record x { catalog = k })).kept) same) Finds Finds r reads (λ rows all told is. is)

  abbrev told_good : (s : State) (good : Good v s) → ToldTables v (good_shows v s good).rows
  told_good s good = record { story = good.story; told = good.told; tables = (good_shows v s good).tables }

  same_good : {T : Type 0} {F : (ℕ → List Row) → T → Type 0} {r : Result T StoreError} → Reads F v w r → (s : State)
      (good : Good v s)
      → IsUnchanged good.story v w
  same_good reads s good = reads.unchanged (good_shows v s good).rows (told_good s good)

  -- all rows stand for the pairs
  found : (rows : List Row) (pairs : Contents) → pairs ≡ contents_of (rows ++ (rows_of x.frozen ++ x.active))
      → Reads Finds (seen_of x.disk x.home x.catalog) (seen_of seen x.home catalog) (Ok rows) → IsScan (Ok pairs) v w
  found rows pairs is reads =
      let all = whole (Ok rows) reads reads.by.kept in
      record {
        step = λ s good.
            scan_ok v w s good (same_good all s good) refl all.counts.faults all.counts.refusals pairs
            (is ∙ ap (λ (l : List Row). contents_of (l ++ (rows_of x.frozen ++ x.active)))
            (all.exact (good_shows v s good).rows (told_good s good))
            ∙ (good_shows v s good).shown);
        images = λ s good. same_shows v s s good seen.told all.told;
        causes = record { counts = all.counts; by = scan_caused v w (Ok pairs) all.by };
      }

  -- a refusal that a good store may give
  step_by : (e : StoreError) → IsOutside e → TablesRefused v w e → (s : State) (good : Good v s) → IsUnchanged good.story v w
      → v.disk.faults ≤ w.disk.faults → v.disk.refusals ≤ w.disk.refusals → Steps s event.Scan (reply.Scan (Err e)) w
  unfolding IsOutside
  step_by error.DiskFault outside rose s good same faults refusals = scan_fault v w s good same refl faults refusals rose
  step_by error.NoMemory outside rose s good same faults refusals = scan_wanting v w s good same refl faults refusals
  step_by other outside rose s good same faults refusals = absurd outside

  refused : {T : Type 0} {F : (ℕ → List Row) → T → Type 0} (e : StoreError) → Reads F v w (Err e) → IsScan (Err e) v w
  refused e all = record {
    step = λ s good.
        step_by e (all.exact (good_shows v s good).rows (told_good s good)) all.by.0 s good (same_good all s good)
        all.counts.faults
        all.counts.refusals;
    images = λ s good. same_shows v s s good seen.told all.told;
    causes = record { counts = all.counts; by = scan_caused v w (Err e) (all.by.0, all.by.1) };
  }

  -- each exit, at what contracts saw of the store before
  module _ (before : Shown) (same : v ≡ before) where
    pub found_scan : (rows frozen : List Row) (pairs : Contents) → pairs ≡ contents_of (rows ++ (frozen ++ x.active))
        → frozen ≡ rows_of x.frozen
        → Reads Finds (seen_of x.disk x.home x.catalog) (seen_of seen x.home catalog) (Ok rows) → IsScan (Ok pairs) before w
    found_scan rows frozen pairs is held reads =
        subst (λ (u : Shown). IsScan (Ok pairs) u w) same
        (found rows pairs (is ∙ ap (λ (l : List Row). contents_of (rows ++ (l ++ x.active))) held) reads)

    pub refused_scan : (e : StoreError) → Reads Finds (seen_of x.disk x.home x.catalog) (seen_of seen x.home catalog) (Err e)
        → IsScan (Err e) before w
    refused_scan e reads =
        subst (λ (u : Shown). IsScan (Err e) u w) same (refused e (whole (Err e) reads reads.by.1.1.kept))

    -- tables were read, and then memory was wanting
    pub wanting_scan : (rows : List Row) → Reads Finds (seen_of x.disk x.home x.catalog) (seen_of seen x.home catalog) (Ok rows)
        → IsScan (Err error.NoMemory) before w
    wanting_scan rows reads =
        subst (λ (u : Shown). IsScan (Err error.NoMemory) u w) same
        (refused error.NoMemory (reads_wanting Finds FindsPairs v w rows (whole (Ok rows) reads reads.by.kept)))

-- ---- copies of rows in memory

-- behind no key come all rows
none_before : (rows : List Row) → rows_after None rows ≡ rows
unfolding rows_after
none_before [] = refl
none_before (row ∷ rows) = ap (λ (l : List Row). row ∷ l) (none_before rows)

-- fewer rows than were asked for are all
pub all_copied : (rows copies : List Row) (many : ℕ) → copies ≡ take 4294967295 (rows_after None rows) → many ≡ length copies
    → many < 4294967295 → copies ≡ rows
all_copied rows copies many is len few =
    let taken : copies ≡ take 4294967295 rows = is ∙ ap (take 4294967295) (none_before rows) in
    let fits : length rows ≤ 4294967295 =
    omega (arith, len, few, ap (length {A = Row}) taken, length-take 4294967295 rows) in
    taken ∙ take_all 4294967295 rows fits

pub joined : {E : Type 0} (old new more rows : List Row) (r : Result (Unit {0}) E) → r ≡ Ok tt
    → new ≡ (if is_ok r then old ++ more else old) → more ≡ rows → new ≡ old ++ rows
joined old new more rows r is appended same =
    appended ∙ ap (λ x. if is_ok x then old ++ more else old) is ∙ ap (λ (l : List Row). old ++ l) same
