-- A step of a flush, at each exit.
use Rattle.std.specs.Prelude.{◌≡◌, ◌≢◌, ℕ, ◌+◌, ◌<◌, ◌≤◌, Bool, true, false, if◌then◌else◌, is_some, List, [], ◌∷◌, length, All, Contains, Option, Some, None, Result, Ok, Err, IfOk, IfErr}
use Rattle.std.proofs.Common.{refl, sym, ap, subst, ◌∙◌, arith}
use Rattle.std.specs.FinMap as finmap
use Rattle.lsm_names.specs.declared.file_names.FileName.TheVariants.{Table}
use Rattle.lsm_rows.specs.declared.rows.Row.{Row}
use Rattle.lsm_disk.specs.declared.calls.DiskCall.{DiskCall}
use Rattle.lsm_disk.specs.declared.calls.Halt.{Halt}
use Rattle.lsm_version.specs.Levels.{Tables}
use Rattle.lsm_model.specs.declared.errors.StoreError.{StoreError}
use Rattle.lsm_model.specs.declared.errors.StoreError.TheVariants as error
use Rattle.lsm_model.specs.declared.events.Event.TheVariants as event
use Rattle.lsm_model.specs.declared.replies.Flushed.{Flushed}
use Rattle.lsm_model.specs.declared.replies.Flushed.TheVariants as flush
use Rattle.lsm_model.specs.declared.replies.Reply.TheVariants as reply
use Rattle.lsm_model.specs.Halting.{IsMet, table_calls}
use Rattle.lsm_refine.specs.Kept.{Kept, Shown}
use Rattle.lsm_refine.specs.Good.{Good}
use Rattle.lsm_refine.specs.Obsolete.{unfinished_names}
use Rattle.lsm_refine.specs.Grown.{halted_shown, halted_state}
use Rattle.lsm_refine.specs.Caused.{CausedBy, FlushedBy, HasDrawn, HasFlushed, HasFlushedOn, StaysFrozen, edit_draws, flush_number, flush_table, number_or, rolls}
use Rattle.lsm_refine.proofs.FlushSteps.{draws_both, draws_more, flush_halted, flush_no_job, flush_more, flush_wanting, flush_numbers_full, flush_tables_full, flush_fault, flush_installed}
use Rattle.lsm_refine.proofs.WriteSteps.{Steps}
use Rattle.lsm_refine.proofs.WritingLemmas.{runs}
use Rattle.lsm_store.specs.FlushParts.{GoesOn, ComesTo, Came, HaltsAt, Fails, FindsChanged, Refuses, ComesInstalled, HasInstalled, HasNumber, HasWrittenMore, FlushesOn}
use Rattle.lsm_store.specs.Inside.{HasBegunTable}
use Rattle.lsm_store.proofs.Calls.{IsCall, nothing_called}
use Rattle.lsm_store.proofs.Parting.{drawn_then, counts_then, images_then, came_then, refuses_then, came_wider, fails_wider, changed_wider}

-- a step of a flush is answered so, and leaves the later store
abbrev pub IsFlush : Result Flushed StoreError → Shown → Shown → Type 0
IsFlush r v w = IsCall (λ s. s) event.FlushStep (reply.FlushStep r) v w

flush_caused : (v w : Shown) (r : Result Flushed StoreError) → FlushedBy v w r → CausedBy v event.FlushStep (reply.FlushStep r) w
unfolding CausedBy
flush_caused v w r by = by

-- ---- nothing is done

pub halted_flush : (v : Shown) (first : Halt) → v.halt ≡ Some first → IsFlush (Err (error.Halted first)) v v
halted_flush v first is =
    nothing_called (λ s. s) event.FlushStep (reply.FlushStep (Err (error.Halted first))) v
    (λ s good. flush_halted v s good first is)
    (flush_caused v v (Err (error.Halted first)) (is, refl))

pub idle_flush : (v : Shown) → v.halt ≡ None → v.kept.frozen ≡ [] → IsFlush (Ok flush.NoJob) v v
idle_flush v none is =
    nothing_called (λ s. s) event.FlushStep (reply.FlushStep (Ok flush.NoJob)) v
    (λ s good. flush_no_job v s good (runs v s good none) none is)
    (flush_caused v v (Ok flush.NoJob) (none, is, refl))

-- ---- rows are frozen

-- a halted store is seen with its halting call
seen_halted : (w : Shown) (at : Halt) → w.halt ≡ Some at → halted_shown w.disk at w ≡ w
seen_halted w at is = ap (λ (h : Option Halt). record w { halt = h }) (sym is)

module _ (v w : Shown) (none : v.halt ≡ None) (some : v.kept.frozen ≢ []) where
  pub more_flush : Came 1 v w → HasFlushedOn v.kept w.kept → IsFlush (Ok flush.More) v w
  more_flush came on = record {
    step = λ s good. let to : ComesTo 1 s w = came.good s good in
        flush_more v s good (runs v s good none) none some to.now w to.draws to.good;
    images = came.images;
    causes = record { counts = came.counts; by = flush_caused v w (Ok flush.More) ((none, came.unhalted), on) };
  }

  pub installed_flush : (k : ℕ) → k ≤ 2 → HasInstalled k v w → IsFlush (Ok flush.Installed) v w
  installed_flush k most is = record {
    step = λ s good. let to : ComesInstalled k s v w = is.good s good in
        flush_installed v s good (runs v s good none) none some k to.now w w.disk w.kept.version w.kept.manifest_len most to.draws
        to.faults to.refusals is.kept.few to.many to.good;
    images = is.images;
    causes = record { counts = is.counts; by = flush_caused v w (Ok flush.Installed) ((none, is.unhalted), is.kept) };
  }

  -- ---- a refusal, where so many numbers were drawn at most

  module _ (k : ℕ) (most : k ≤ 2) (draws : k ≡ flush_number v.kept.flushing + edit_draws v.kept) where
    stays : GoesOn k v.kept w.kept → StaysFrozen v.kept w.kept
    stays on = record {
      rows = some;
      rest = on.rest;
      taken = on.taken;
      table = on.table;
      drawn = record {
        later = on.drawn.later;
        few = omega (arith, on.drawn.few, draws);
        numbers = on.drawn.numbers;
        still = on.drawn.still;
        made = on.drawn.made;
      };
    }

    wanting : Came k v w → IsFlush (Err error.NoMemory) v w
    wanting came = record {
      step = λ s good. let to : ComesTo k s w = came.good s good in
          flush_wanting v s good (runs v s good none) none some to.now w (draws_more k 2 s to.now most to.draws) to.good;
      images = came.images;
      causes = record {
        counts = came.counts;
        by = flush_caused v w (Err error.NoMemory) ((none, came.unhalted), stays came.on);
      };
    }

    numbers : (next : ℕ) → Refuses k (error.NumbersFull next) v w → IsFlush (Err (error.NumbersFull next)) v w
    unfolding Refuses
    numbers next is = subst (λ (n : ℕ). IsFlush (Err (error.NumbersFull n)) v w) (sym is.1)
        (record {
          step = λ s good. let to : ComesTo k s w = is.0.good s good in
              flush_numbers_full v s good (runs v s good none) none some to.now w (draws_more k 2 s to.now most to.draws) to.good
              (runs w to.now to.good is.0.unhalted) (omega (arith, is.1, is.2)) (omega (arith, is.1, is.3, most));
          images = is.0.images;
          causes = record {
            counts = is.0.counts;
            by = flush_caused v w (Err (error.NumbersFull w.kept.next)) (
              (none, is.0.unhalted),
              refl,
              omega (arith, is.1, is.2),
              omega (arith, is.1, is.3, draws),
              stays is.0.on,
            );
          };
        })

    tables : (live adding : ℕ) → Refuses k (error.TablesFull live adding) v w → IsFlush (Err (error.TablesFull live adding)) v w
    unfolding Refuses
    tables live adding is =
        subst (λ (n : ℕ). IsFlush (Err (error.TablesFull n adding)) v w) (sym is.1)
        (subst (λ (n : ℕ). IsFlush (Err (error.TablesFull (finmap.len v.kept.version) n)) v w) (sym is.2)
        (record {
          step = λ s good. let to : ComesTo k s w = is.0.good s good in
              flush_tables_full v s good (runs v s good none) none some to.now w (draws_more k 2 s to.now most to.draws) to.good
              (omega (arith, is.1, is.2, is.3));
          images = is.0.images;
          causes = record {
            counts = is.0.counts;
            by = flush_caused v w (Err (error.TablesFull (finmap.len v.kept.version) 1)) (
              (none, is.0.unhalted),
              refl,
              refl,
              omega (arith, is.1, is.2, is.3),
              stays is.0.on,
            );
          };
        }))

    failed : Fails k v w → IsFlush (Err error.DiskFault) v w
    failed is = record {
      step = λ s good. let to : HaltsAt k is.at s w = is.good s good in
          subst (λ (u : Shown). Steps s event.FlushStep (reply.FlushStep (Err error.DiskFault)) u) (seen_halted w is.at is.halt)
          (flush_fault v s good (runs v s good none) none some k to.now w w.disk is.at to.draws
          (subst (λ (dir : List ℕ). IsMet dir is.at table_calls) good.kept.own is.met) is.rose to.faults to.refusals
          (subst (λ (u : Shown). Good u (halted_state w.disk is.at to.now.doubtful to.now)) (sym (seen_halted w is.at is.halt))
          to.good));
      images = is.images;
      causes = record {
        counts = is.counts;
        by = flush_caused v w (Err error.DiskFault) ((none, is.rose, (is.at, is.halt, is.met)), stays is.on);
      };
    }

    changed : (made : DiskCall) (path : List ℕ) → FindsChanged k made path v w → IsFlush (Err (error.Changed made path)) v w
    changed made path is = record {
      step = λ s good. absurd (is.never s good);
      images = λ s good. absurd (is.never s good);
      causes = record {
        counts = is.counts;
        by = flush_caused v w (Err (error.Changed made path)) ((none, is.rose, is.halt, is.met, is.other), stays is.on);
      };
    }

    pub refused_flush : (e : StoreError) → Refuses k e v w → IsFlush (Err e) v w
    unfolding Refuses
    refused_flush error.NoMemory is = wanting is
    refused_flush (error.NumbersFull next) is = numbers next is
    refused_flush (error.TablesFull live adding) is = tables live adding is
    refused_flush error.DiskFault is = failed is
    refused_flush (error.Changed made path) is = changed made path is
    refused_flush other is = absurd is

-- ---- one part behind another

at_most_one : (b : Bool) → (if b then 0 else 1) ≤ 1
at_most_one true = omega arith
at_most_one false = omega arith

one_at_most : (b : Bool) → (if b then 1 else 0) ≤ 1
one_at_most true = omega arith
one_at_most false = omega arith

pub few_numbers : (kept : Kept) → flush_number kept.flushing ≤ 1
few_numbers kept = at_most_one (is_some kept.flushing.table)

pub few_draws : (kept : Kept) → edit_draws kept ≤ 1
few_draws kept = one_at_most (rolls kept)

pub refuses_wider : (j k : ℕ) (e : StoreError) (v w : Shown) → j ≤ k → Refuses j e v w → Refuses k e v w
unfolding Refuses
refuses_wider j k error.NoMemory v w less is = came_wider j k v w less is
refuses_wider j k (error.NumbersFull next) v w less is = (came_wider j k v w less is.0, is.1, is.2, omega (arith, is.3, less))
refuses_wider j k (error.TablesFull live adding) v w less is = (came_wider j k v w less is.0, is.1, is.2, is.3)
refuses_wider j k error.DiskFault v w less is = fails_wider j k v w less is
refuses_wider j k (error.Changed made path) v w less is = changed_wider j k made path v w less is
refuses_wider j k other v w less is = is

module _ (j : ℕ) (old mid new : Kept) (on : GoesOn j old mid) (number : HasNumber old mid) where
  frozen_same : mid.frozen ≡ old.frozen
  frozen_same = ap (λ (k : Kept). k.frozen) on.rest

  rolls_same : rolls mid ≡ rolls old
  rolls_same = ap rolls on.rest

  pub draws_same : edit_draws mid ≡ edit_draws old
  draws_same = ap edit_draws on.rest

  none_drawn : flush_number mid.flushing ≡ 0
  none_drawn = ap (λ (o : Option ℕ). if is_some o then 0 else 1) number.table

  table_same : flush_table mid ≡ flush_table old
  table_same = ap (number_or mid.next) number.table

  flushed_then : HasFlushed mid new → HasFlushed old new
  flushed_then is =
      let next : new.next ≡ old.next + flush_number old.flushing + edit_draws old =
      omega (arith, is.next, number.next, none_drawn, draws_same) in
      let both = drawn_then j 2 old mid new on.drawn is.drawn in
      record {
        rows = λ none. is.rows (frozen_same ∙ none);
        table = is.table;
        level = is.level;
        version = is.version
            ∙ ap (λ (t : Tables). finmap.insert t (flush_table mid) is.table) (ap (λ (k : Kept). k.version) on.rest)
            ∙ ap (λ (n : ℕ). finmap.insert old.version n is.table) table_same;
        few = is.few;
        edit = record {
          rolled = λ rolled. is.edit.rolled (rolls_same ∙ rolled);
          longer = λ short. let longer = is.edit.longer (rolls_same ∙ short) in (
            longer.0 ∙ ap (λ (k : Kept). k.manifest) on.rest,
            omega (arith, longer.1, ap (λ (k : Kept). k.manifest_len) on.rest),
          );
        };
        next = next;
        drawn = record {
          later = both.later;
          few = omega (arith, next, few_numbers old, few_draws old);
          numbers = both.numbers;
          still = both.still;
          made = both.made;
        };
        rest = is.rest ∙ ap (λ (k : Kept). record k {
          version = new.version;
          views = new.views;
          log = new.log;
          last = new.last;
          frozen = [];
          logs = new.log ∷ [];
          older_len = 0;
          flushing = record { taken = 0; table = None };
          unfinished = new.unfinished;
          manifest = new.manifest;
          manifest_len = new.manifest_len;
          next = new.next;
          known = new.known;
        }) on.rest;
        older = is.older;
        logs = sym (ap (λ (k : Kept). k.logs) on.rest) ∙ is.logs;
        last_among = (
          is.last_among.0,
          subst (λ (rows : List Row). Contains rows is.last_among.0) frozen_same is.last_among.1,
          is.last_among.2,
        );
        last_of = subst (λ (rows : List Row). All (λ (row : Row). row.sequence ≤ new.last) rows) frozen_same is.last_of;
        ended = subst (λ (n : ℕ). ¬ Contains (unfinished_names new) (Table n)) table_same is.ended;
      }

  flushed_on : GoesOn 0 mid new → HasWrittenMore mid new → old.frozen ≢ [] → HasDrawn 1 old new → HasFlushedOn old new
  flushed_on later more some drawn = record {
    rows = some;
    rest = later.rest ∙ ap (λ (k : Kept). record k {
      flushing = new.flushing;
      unfinished = new.unfinished;
      known = new.known;
      next = new.next;
    }) on.rest;
    goes_on = omega (arith, on.taken, more.goes_on);
    within = subst (λ (rows : List Row). new.flushing.taken < length rows)
        (ap (λ (k : Kept). k.frozen) later.rest ∙ frozen_same) more.within;
    table = later.table (flush_table old) number.table;
    next = omega (arith, later.drawn.later, later.drawn.few, number.next);
    drawn = drawn;
  }

module _ (v w u : Shown) (came : Came (flush_number v.kept.flushing) v w) (number : HasNumber v.kept w.kept) where
  pub installed_then : HasInstalled (edit_draws w.kept) w u → HasInstalled (flush_number v.kept.flushing + edit_draws w.kept) v u
  installed_then is = record {
    unhalted = is.unhalted;
    counts = counts_then v w u came.counts is.counts;
    kept = flushed_then (flush_number v.kept.flushing) v.kept w.kept u.kept came.on number is.kept;
    good = λ s good.
        let to : ComesTo (flush_number v.kept.flushing) s w = came.good s good in
        let on : ComesInstalled (edit_draws w.kept) to.now w u = is.good to.now to.good in
        record {
          now = on.now;
          draws = draws_both (flush_number v.kept.flushing) (edit_draws w.kept) s to.now on.now to.draws on.draws;
          faults = on.faults;
          refusals = on.refusals;
          many = on.many ∙ ap (λ (kept : Kept). finmap.len kept.version + 1) came.on.rest;
          good = on.good;
        };
    images = images_then (flush_number v.kept.flushing) (edit_draws w.kept) v w u came is.images;
  }

module _ (v w u : Shown) (none : v.halt ≡ None) (some : v.kept.frozen ≢ [])
    (came : Came (flush_number v.kept.flushing) v w) (number : HasNumber v.kept w.kept) where
  abbrev j : ℕ
  j = flush_number v.kept.flushing

  abbrev k : ℕ
  k = edit_draws w.kept

  draws_are : k ≡ edit_draws v.kept
  draws_are = draws_same j v.kept w.kept u.kept came.on number

  few : j + k ≤ 2
  few = omega (arith, few_numbers v.kept, few_draws w.kept)

  went_on : (done : Flushed) → FlushesOn w u done → IsFlush (Ok done) v u
  went_on flush.NoJob is = absurd is
  went_on flush.More is =
      let both : Came 1 v u = came_wider (j + 0) 1 v u (omega (arith, few_numbers v.kept)) (came_then j 0 v w u came is.0) in
      more_flush v u none some both (flushed_on j v.kept w.kept u.kept came.on number is.0.on is.1 some both.on.drawn)
  went_on flush.Installed is = installed_flush v u none some (j + k) few (installed_then v w u came number is)

  pub on_flush : (r : Result Flushed StoreError) → IfOk r (FlushesOn w u) → IfErr r (λ e. Refuses (edit_draws w.kept) e w u)
      → IsFlush r v u
  on_flush (Ok done) is refused = went_on done is
  on_flush (Err e) is refused =
      refused_flush v u none some (j + k) few (ap (λ (n : ℕ). j + n) draws_are) e (refuses_then j k v w u came e refused)

-- the table couldn't be begun
pub unbegun_flush : (v w : Shown) → v.halt ≡ None → v.kept.frozen ≢ [] → (e : StoreError)
    → Refuses (flush_number v.kept.flushing) e v w → IsFlush (Err e) v w
unbegun_flush v w none some e refused =
    refused_flush v w none some (flush_number v.kept.flushing + edit_draws v.kept)
    (omega (arith, few_numbers v.kept, few_draws v.kept)) refl e
    (refuses_wider (flush_number v.kept.flushing) (flush_number v.kept.flushing + edit_draws v.kept) e v w (omega arith) refused)

-- ---- behind the table's beginning

module _ (v w u : Shown) (begun : HasBegunTable v.kept) (came : Came 0 v w) where
  no_draw : flush_number v.kept.flushing ≡ 0
  no_draw = ap (λ (o : Option ℕ). if is_some o then 0 else 1) begun.1

  its_number : HasNumber v.kept w.kept
  its_number = record {
    table = came.on.table begun.0 begun.1 ∙ ap (λ (o : Option ℕ). Some (number_or v.kept.next o)) (sym begun.1);
    next = omega (arith, no_draw, came.on.drawn.later, came.on.drawn.few);
  }

  as_begun : Came (flush_number v.kept.flushing) v w
  as_begun = subst (λ (n : ℕ). Came n v w) (sym no_draw) came

  same_draws : edit_draws w.kept ≡ edit_draws v.kept
  same_draws = draws_same 0 v.kept w.kept u.kept came.on its_number

  pub installed_after : HasInstalled (edit_draws w.kept) w u → HasInstalled (edit_draws v.kept) v u
  installed_after is =
      let sum : flush_number v.kept.flushing + edit_draws w.kept ≡ edit_draws v.kept = omega (arith, no_draw, same_draws) in
      subst (λ (n : ℕ). HasInstalled n v u) sum (installed_then v w u as_begun its_number is)

  pub refused_after : (e : StoreError) → Refuses (edit_draws w.kept) e w u → Refuses (edit_draws v.kept) e v u
  refused_after e is =
      let sum : 0 + edit_draws w.kept ≡ edit_draws v.kept = omega (arith, same_draws) in
      subst (λ (n : ℕ). Refuses n e v u) sum (refuses_then 0 (edit_draws w.kept) v w u came e is)

pub refused_before : (v w : Shown) (e : StoreError) → Refuses 0 e v w → Refuses (edit_draws v.kept) e v w
refused_before v w e is = refuses_wider 0 (edit_draws v.kept) e v w (omega arith) is
