-- Parts of a step of a flush, one behind another.
use Rattle.std.specs.Prelude.{◌≡◌, ◌⊎◌, ℕ, ◌+◌, ◌≤◌, List, Option, Some, None}
use Rattle.std.proofs.Common.{⊎_elim, inl, inr, refl, sym, ap, subst, ◌∙◌, arith}
use Rattle.std.specs.FinMap as finmap
use Rattle.lsm_names.specs.declared.file_names.FileName.{FileName}
use Rattle.lsm_disk.specs.State.{Story}
use Rattle.lsm_disk.specs.Images.{Tree}
use Rattle.lsm_disk.specs.Goes.{Went}
use Rattle.lsm_disk.specs.Halts.{halt_at}
use Rattle.lsm_disk.specs.declared.calls.DiskCall.{DiskCall}
use Rattle.lsm_disk.proofs.Runs.{went_then, went_wider}
use Rattle.lsm_model.specs.declared.errors.StoreError.{StoreError}
use Rattle.lsm_model.specs.declared.errors.StoreError.TheVariants as error
use Rattle.lsm_model.specs.declared.states.State.{State}
use Rattle.lsm_model.specs.Halting.{IsMet, table_calls}
use Rattle.lsm_refine.specs.Kept.{Kept, Shown}
use Rattle.lsm_refine.specs.Good.{Good}
use Rattle.lsm_refine.specs.Moments.{ReadsAsCrashed, ImagesShow}
use Rattle.lsm_refine.specs.Refused.{CountsHold}
use Rattle.lsm_refine.specs.Caused.{IsMade, HasDrawn}
use Rattle.lsm_refine.proofs.FlushSteps.{draws_none, draws_both, draws_more}
use Rattle.lsm_store.specs.FlushParts.{GoesOn, ComesTo, Came, HaltsAt, Fails, FindsChanged, Refuses}
use Rattle.lsm_store.proofs.Calls.{counts_same, same_shows}

-- ---- numbers that are drawn

pub drawn_none : (kept : Kept) → HasDrawn 0 kept kept
drawn_none kept = record {
  later = omega arith;
  few = omega arith;
  numbers = inl refl;
  still = λ name known. known;
  made = λ name known. inl known;
}

made_later : (old mid new : Kept) (name : FileName) → mid.next ≤ new.next → IsMade old mid name → IsMade old new name
made_later old mid new name later is = record { drawn = omega (arith, is.drawn, later); since = is.since }

made_earlier : (old mid new : Kept) (name : FileName) → old.next ≤ mid.next → IsMade mid new name → IsMade old new name
made_earlier old mid new name later is = record {
  drawn = is.drawn;
  since = ⊎_elim (λ since. inl (omega (arith, later, since))) (λ table. inr table) is.since;
}

pub drawn_then : (j k : ℕ) (old mid new : Kept) → HasDrawn j old mid → HasDrawn k mid new → HasDrawn (j + k) old new
drawn_then j k old mid new first second = record {
  later = omega (arith, first.later, second.later);
  few = omega (arith, first.few, second.few);
  numbers = ⊎_elim
      (λ same. ⊎_elim (λ before. inl (same ∙ before)) (λ most. inr (omega (arith, most, same))) first.numbers)
      (λ most. inr most)
      second.numbers;
  still = λ name known. second.still name (first.still name known);
  made = λ name known. ⊎_elim
      (λ before. ⊎_elim (λ earlier. inl earlier) (λ made. inr (made_later old mid new name second.later made))
      (first.made name before))
      (λ made. inr (made_earlier old mid new name first.later made))
      (second.made name known);
}

on_then : (j k : ℕ) (old mid new : Kept) → GoesOn j old mid → GoesOn k mid new → GoesOn (j + k) old new
on_then j k old mid new first second = record {
  rest = second.rest ∙ ap (λ (x : Kept). record x {
    flushing = new.flushing;
    unfinished = new.unfinished;
    known = new.known;
    next = new.next;
  }) first.rest;
  taken = omega (arith, first.taken, second.taken);
  table = λ number is. second.table number (first.table number is);
  drawn = drawn_then j k old mid new first.drawn second.drawn;
}

-- ---- parts

-- a part that did nothing
pub came_none : (v : Shown) → v.halt ≡ None → Came 0 v v
came_none v none = record {
  unhalted = none;
  counts = counts_same v;
  on = record { rest = refl; taken = omega arith; table = λ number is. is; drawn = drawn_none v.kept };
  good = λ s good. record {
    now = s;
    draws = draws_none s good.counted.durable;
    good = good;
    crashed = λ t is. is;
  };
  images = λ s good. same_shows v s s good v.disk.told refl;
}

pub counts_then : (v w u : Shown) → CountsHold v w → CountsHold w u → CountsHold v u
counts_then v w u first second = record {
  dir = second.dir ∙ first.dir;
  faults = omega (arith, first.faults, second.faults);
  refusals = omega (arith, first.refusals, second.refusals);
}

same_story : (told : Option Story) (a b : Story) → told ≡ Some a → told ≡ Some b → b ≡ a
same_story told a b one other = let same : Some b ≡ Some a = sym other ∙ one in cc

module _ (j k : ℕ) (v w u : Shown) (came : Came j v w) where
  -- what the images read as on the way
  pub images_then : ((m : State) (good : Good w m) → ImagesShow good.story u.disk.told m m)
      → (s : State) (good : Good v s) → ImagesShow good.story u.disk.told s s
  images_then later s good =
      let to : ComesTo j s w = came.good s good in
      let both : Tree → Type 0 = λ t. ReadsAsCrashed s t ⊎ ReadsAsCrashed s t in
      went_then (came.images s good) (λ mid tells is.
      subst (λ (story : Story). Went story u.disk.told (λ c. Unit {0}) (λ d t. both t) (λ d. Unit {0}))
      (same_story w.disk.told mid to.good.story tells to.good.told)
      (went_wider (λ c. Unit {0}) (λ c. Unit {0}) (λ d t. ReadsAsCrashed to.now t ⊎ ReadsAsCrashed to.now t) (λ d t. both t)
      (λ c is. tt) (λ d t is. ⊎_elim (λ one. inl (to.crashed t one)) (λ one. inl (to.crashed t one)) is)
      (later to.now to.good)))

  pub came_then : Came k w u → Came (j + k) v u
  came_then next = record {
    unhalted = next.unhalted;
    counts = counts_then v w u came.counts next.counts;
    on = on_then j k v.kept w.kept u.kept came.on next.on;
    good = λ s good.
        let to : ComesTo j s w = came.good s good in
        let on : ComesTo k to.now u = next.good to.now to.good in
        record {
          now = on.now;
          draws = draws_both j k s to.now on.now to.draws on.draws;
          good = on.good;
          crashed = λ t is. to.crashed t (on.crashed t is);
        };
    images = images_then next.images;
  }

  fails_then : Fails k w u → Fails (j + k) v u
  fails_then next = record {
    at = next.at;
    halt = next.halt;
    met = subst (λ (dir : List ℕ). IsMet dir next.at table_calls) came.counts.dir next.met;
    rose = omega (arith, came.counts.faults, next.rose);
    counts = counts_then v w u came.counts next.counts;
    on = on_then j k v.kept w.kept u.kept came.on next.on;
    good = λ s good.
        let to : ComesTo j s w = came.good s good in
        let on : HaltsAt k next.at to.now u = next.good to.now to.good in
        record {
          now = on.now;
          draws = draws_both j k s to.now on.now to.draws on.draws;
          faults = on.faults;
          refusals = on.refusals;
          good = on.good;
        };
    images = images_then next.images;
  }

  changed_then : (made : DiskCall) (path : List ℕ) → FindsChanged k made path w u → FindsChanged (j + k) made path v u
  changed_then made path next = record {
    halt = next.halt;
    met = subst (λ (dir : List ℕ). IsMet dir (halt_at made path) table_calls) came.counts.dir next.met;
    other = next.other;
    rose = omega (arith, came.counts.refusals, next.rose);
    counts = counts_then v w u came.counts next.counts;
    on = on_then j k v.kept w.kept u.kept came.on next.on;
    never = λ s good. let to : ComesTo j s w = came.good s good in next.never to.now to.good;
  }

  pub refuses_then : (e : StoreError) → Refuses k e w u → Refuses (j + k) e v u
  unfolding Refuses
  refuses_then error.NoMemory is = came_then is
  refuses_then (error.NumbersFull next) is = (came_then is.0, is.1, is.2, omega (arith, is.3, came.on.drawn.few))
  refuses_then (error.TablesFull live adding) is = (
    came_then is.0,
    is.1 ∙ ap (λ (kept : Kept). finmap.len kept.version) came.on.rest,
    is.2,
    is.3,
  )
  refuses_then error.DiskFault is = fails_then is
  refuses_then (error.Changed made path) is = changed_then made path is
  refuses_then other is = is

-- ---- more numbers may be drawn

pub on_wider : (j k : ℕ) (old new : Kept) → j ≤ k → GoesOn j old new → GoesOn k old new
on_wider j k old new less is = record {
  rest = is.rest;
  taken = is.taken;
  table = is.table;
  drawn = record {
    later = is.drawn.later;
    few = omega (arith, is.drawn.few, less);
    numbers = is.drawn.numbers;
    still = is.drawn.still;
    made = is.drawn.made;
  };
}

pub came_wider : (j k : ℕ) (v w : Shown) → j ≤ k → Came j v w → Came k v w
came_wider j k v w less is = record {
  unhalted = is.unhalted;
  counts = is.counts;
  on = on_wider j k v.kept w.kept less is.on;
  good = λ s good.
      let to : ComesTo j s w = is.good s good in
      record { now = to.now; draws = draws_more j k s to.now less to.draws; good = to.good; crashed = to.crashed };
  images = is.images;
}

pub fails_wider : (j k : ℕ) (v w : Shown) → j ≤ k → Fails j v w → Fails k v w
fails_wider j k v w less is = record {
  at = is.at;
  halt = is.halt;
  met = is.met;
  rose = is.rose;
  counts = is.counts;
  on = on_wider j k v.kept w.kept less is.on;
  good = λ s good.
      let to : HaltsAt j is.at s w = is.good s good in
      record {
        now = to.now;
        draws = draws_more j k s to.now less to.draws;
        faults = to.faults;
        refusals = to.refusals;
        good = to.good;
      };
  images = is.images;
}

pub changed_wider : (j k : ℕ) (made : DiskCall) (path : List ℕ) (v w : Shown) → j ≤ k → FindsChanged j made path v w
    → FindsChanged k made path v w
changed_wider j k made path v w less is = record {
  halt = is.halt;
  met = is.met;
  other = is.other;
  rose = is.rose;
  counts = is.counts;
  on = on_wider j k v.kept w.kept less is.on;
  never = is.never;
}
