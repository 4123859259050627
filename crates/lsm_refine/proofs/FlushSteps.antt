-- A step of a flush, at each exit: the store's answer is a step of the abstract store, and the store is good behind it.
use Rattle.std.specs.Prelude.{◌≡◌, ◌≢◌, ℕ, ◌+◌, ◌<◌, ◌≤◌, Bool, false, ◌==◌, if◌then◌else◌, List, [], ◌∷◌, map, length, Option, Some, None, option_map, Result, Ok, Err}
use Rattle.std.specs.FinMap as finmap
use Rattle.std.proofs.Common.{refl, sym, ap, subst, ◌∙◌, arith}
use Rattle.std.proofs.lemmas.Bool.Decides.{nat_tests}
use Rattle.std.proofs.lemmas.List.{length-map}
use Rattle.lsm_io.specs.Causes.{Rose}
use Rattle.lsm_rows.specs.declared.operations.Op.{Op}
use Rattle.lsm_rows.specs.Rows.{rows_of}
use Rattle.lsm_disk.specs.State.{Seen, state_of}
use Rattle.lsm_disk.specs.Images.{Tree, tree_now}
use Rattle.lsm_disk.specs.declared.calls.Halt.{Halt}
use Rattle.lsm_version.specs.Levels.{Tables}
use Rattle.lsm_model.specs.declared.errors.StoreError.{StoreError}
use Rattle.lsm_model.specs.declared.errors.StoreError.TheVariants as error
use Rattle.lsm_model.specs.declared.events.Event.TheVariants as event
use Rattle.lsm_model.specs.declared.replies.Reply.TheVariants as reply
use Rattle.lsm_model.specs.declared.replies.Flushed.{Flushed}
use Rattle.lsm_model.specs.declared.replies.Flushed.TheVariants as flush
use Rattle.lsm_model.specs.declared.states.State.{State}
use Rattle.lsm_model.specs.Answers.{Done, Failed, Wanting, Refused}
use Rattle.lsm_model.specs.Causes.{halted, number_end, table_limit}
use Rattle.lsm_model.specs.Halting.{IsMet, table_calls}
use Rattle.lsm_model.specs.Moves.{Draws}
use Rattle.lsm_model.specs.Steps.{Step}
use Rattle.lsm_model.specs.Upkeep.{StepsFlush, Usual, No_number, No_place}
use Rattle.lsm_refine.specs.Kept.{Shown}
use Rattle.lsm_refine.specs.Parts.{batches_in, first_logged}
use Rattle.lsm_refine.specs.Tied.{live_table}
use Rattle.lsm_refine.specs.Folders.{StandsFrom}
use Rattle.lsm_refine.specs.Good.{IsRunning, IsHalted, IsInMode, Good}
use Rattle.lsm_refine.specs.Grown.{halted_shown, halted_state}
use Rattle.lsm_refine.specs.TableWork.{Work, working_state}
use Rattle.lsm_refine.specs.Flushed.{flushed_state}
use Rattle.lsm_refine.proofs.FrozenLemmas.{no_older}
use Rattle.lsm_refine.proofs.PinnedLemmas.{pins_alike}
use Rattle.lsm_refine.proofs.RolledLemmas.{of_none}
use Rattle.lsm_refine.proofs.WriteSteps.{Steps}

flush_step : (s t : State) (r : Result Flushed StoreError) → StepsFlush s r t → Step s event.FlushStep (reply.FlushStep r) t
unfolding Step
flush_step s t r step = step

-- ---- numbers that are drawn on the way

pub draws_none : (s : State) → s.durable ≤ length s.accepted → Draws 0 s s
draws_none s within = record {
  rest = record {
    rest = record { rest = refl; faults = omega arith; refusals = omega arith };
    durable = omega arith;
    within = within;
  };
  next = omega arith;
  few = omega arith;
}

pub draws_both : (j k : ℕ) (s m t : State) → Draws j s m → Draws k m t → Draws (j + k) s t
draws_both j k s m t one two = record {
  rest = record {
    rest = record {
      rest = two.rest.rest.rest ∙ ap (λ (x : State). record x {
        next = t.next;
        durable = t.durable;
        faults = t.faults;
        refusals = t.refusals;
      }) one.rest.rest.rest;
      faults = omega (arith, one.rest.rest.faults, two.rest.rest.faults);
      refusals = omega (arith, one.rest.rest.refusals, two.rest.rest.refusals);
    };
    durable = omega (arith, one.rest.durable, two.rest.durable);
    within = two.rest.within;
  };
  next = omega (arith, one.next, two.next);
  few = omega (arith, one.few, two.few);
}

pub draws_more : (j k : ℕ) (s t : State) → j ≤ k → Draws j s t → Draws k s t
draws_more j k s t less is = record { rest = is.rest; next = is.next; few = omega (arith, is.few, less) }

-- the state of a store that wrote on at a table
pub draws_built : (k : ℕ) (v : Shown) (s : State) (good : Good v s) → IsRunning (state_of good.story) v s
    → (p : Work) (seen : Seen)
    → p.outputs ≡ v.kept.outputs → v.kept.next ≤ p.next → p.next ≤ v.kept.next + k
    → v.disk.faults ≤ seen.faults → v.disk.refusals ≤ seen.refusals → Draws k s (working_state seen p s)
draws_built k v s good run p seen outputs least most faults refusals = record {
  rest = record {
    rest = record {
      rest = ap (λ (o : ℕ). record s { next = p.next; outputs = o; faults = seen.faults; refusals = seen.refusals })
          (outputs ∙ sym run.works.outputs);
      faults = omega (arith, good.counts.faults, faults);
      refusals = omega (arith, good.counts.refusals, refusals);
    };
    durable = omega arith;
    within = good.counted.durable;
  };
  next = omega (arith, run.works.next, least);
  few = omega (arith, run.works.next, most);
}

-- ---- a halted store's next number is no more the state's

pub next_free : (v : Shown) (s : State) (first : Halt) (next : ℕ) → v.halt ≡ Some first → Good v s
    → Good v (record s { next = next })
next_free v s first next is good = record {
  story = good.story;
  told = good.told;
  mode = subst (λ (h : Option Halt). IsInMode h (state_of good.story) v t) (sym is)
      (by (subst (λ (h : Option Halt). IsInMode h (state_of good.story) v s) is good.mode));
  pinned = record { pins = pins_alike s t refl refl refl v.kept.pins s.pins good.pinned.pins; files = good.pinned.files };
  folders = record { now = good.folders.now; sure = good.folders.sure };
  clear = good.clear;
  counted = record {
    durable = good.counted.durable;
    numbers = good.counted.numbers;
    fronts = good.counted.fronts;
    begun = good.counted.begun;
  };
  kept = record {
    own = good.kept.own;
    sequence = good.kept.sequence;
    greatest_pin = good.kept.greatest_pin;
    disables = good.kept.disables;
    begun = good.kept.begun;
    halt = good.kept.halt;
  };
  counts = record { faults = good.counts.faults; refusals = good.counts.refusals };
}
  where
    t : State
    t = record s { next = next }

    same : (least : ℕ) (tree : Tree) → StandsFrom s least tree → StandsFrom (record s { next = next }) least tree
    same least tree is = record {
      count = is.count;
      enough = is.enough;
      within = is.within;
      stands = record { folder = is.stands.folder; stands = is.stands.stands };
    }

    by : IsHalted (state_of good.story) v s → IsHalted (state_of good.story) v (record s { next = next })
    by is = record {
      reads = record {
        rows = is.reads.rows;
        tables = is.reads.tables;
        order = record {
          levels = is.reads.order.levels;
          leveled = is.reads.order.leveled;
          listed = is.reads.order.listed;
          distinct = is.reads.order.distinct;
          frozen = is.reads.order.frozen;
          last = is.reads.order.last;
        };
        shown = is.reads.shown;
        active = record { same = is.reads.active.same; newest_is = is.reads.active.newest_is };
      };
      now = same (length s.accepted) (tree_now (state_of good.story)) is.now;
      images = λ tree i. same s.durable tree (is.images tree i);
      files = is.files;
      synced = is.synced;
    }

-- ---- what the store knows

no_length : {A : Type 0} (xs : List A) → length xs ≡ 0 → xs ≡ []
no_length [] same = refl
no_length (x ∷ xs) same = absurd (omega (arith, same))

draw_two : (frozen active : ℕ) → frozen ≢ 0 → 2 ≤ (if frozen == 0 then 0 else 2) + (if active == 0 then 0 else 3)
draw_two frozen active some =
    let is : (frozen == 0) ≡ false = grind (arith, nat_tests) in
    subst (λ (b : Bool). 2 ≤ (if b then 0 else 2) + (if active == 0 then 0 else 3)) (sym is) (omega arith)

table_one : (frozen active : ℕ) → frozen ≢ 0 → 1 ≤ (if frozen == 0 then 0 else 1) + (if active == 0 then 0 else 1)
table_one frozen active some =
    let is : (frozen == 0) ≡ false = grind (arith, nat_tests) in
    subst (λ (b : Bool). 1 ≤ (if b then 0 else 1) + (if active == 0 then 0 else 1)) (sym is) (omega arith)

pub flush_halted : (v : Shown) (s : State) (good : Good v s) (first : Halt) → v.halt ≡ Some first
    → Steps s event.FlushStep (reply.FlushStep (Err (error.Halted first))) v
flush_halted v s good first is = (
  s,
  flush_step s s (Err (error.Halted first)) (Usual (Refused (error.Halted first) refl
      (ap (λ (h : Option Halt). option_map error.Halted h) (sym good.kept.halt ∙ is)) refl)),
  good,
)

module _ (v : Shown) (s : State) (good : Good v s) (run : IsRunning (state_of good.story) v s) (none : v.halt ≡ None) where
  known : halted s ≡ None
  known = ap (λ (h : Option Halt). option_map error.Halted h) (sym good.kept.halt ∙ none)

  -- no row is frozen
  pub flush_no_job : v.kept.frozen ≡ [] → Steps s event.FlushStep (reply.FlushStep (Ok flush.NoJob)) v
  flush_no_job is = (
    s,
    flush_step s s (Ok flush.NoJob) (Usual (Done flush.NoJob refl known
        (run.works.frozen ∙ ap (λ (l : List (List Op)). length l) (no_older (state_of good.story) v s run is), refl))),
    good,
  )

  module _ (some : v.kept.frozen ≢ []) where
    frozen_some : s.frozen ≢ 0
    frozen_some same = some (of_none (rows_of (first_logged run.parts) (batches_in run.parts.older)) v.kept.frozen
        run.sane.logs.frozen.same
        (ap (rows_of (first_logged run.parts)) (no_length (batches_in run.parts.older) (sym run.works.frozen ∙ same))))

    -- ---- more is to do

    pub flush_more : (m : State) (w : Shown) → Draws 1 s m → Good w m
        → Steps s event.FlushStep (reply.FlushStep (Ok flush.More)) w
    flush_more m w draws is =
        (m, flush_step s m (Ok flush.More) (Usual (Done flush.More refl known (frozen_some, draws))), is)

    -- ---- refusals after which the step may be asked again

    -- memory was wanting
    pub flush_wanting : (m : State) (w : Shown) → Draws 2 s m → Good w m
        → Steps s event.FlushStep (reply.FlushStep (Err error.NoMemory)) w
    flush_wanting m w draws is = (m, flush_step s m (Err error.NoMemory) (Usual (Wanting refl known draws)), is)

    -- no number is left for the table, or for the new manifest
    pub flush_numbers_full : (m : State) (w : Shown) → Draws 2 s m → (is : Good w m) → IsRunning (state_of is.story) w m
        → number_end ≤ w.kept.next → w.kept.next < v.kept.next + 2
        → Steps s event.FlushStep (reply.FlushStep (Err (error.NumbersFull w.kept.next))) w
    flush_numbers_full m w draws is running full drawn = (
      m,
      flush_step s m (Err (error.NumbersFull w.kept.next)) (No_number w.kept.next refl known frozen_some
          (record { is = sym running.works.next; full = full; drawn = omega (arith, drawn, run.works.next) }) draws),
      is,
    )

    live_many : length s.tables ≡ finmap.len v.kept.version
    live_many =
        ap (λ tables. length tables) run.works.tables
        ∙ length-map (finmap.entries v.kept.version) live_table
        ∙ sym (finmap.len-entries v.kept.version)

    -- with one table more there would be too many
    pub flush_tables_full : (m : State) (w : Shown) → Draws 2 s m → Good w m → table_limit < finmap.len v.kept.version + 1
        → Steps s event.FlushStep (reply.FlushStep (Err (error.TablesFull (finmap.len v.kept.version) 1))) w
    flush_tables_full m w draws is full = (
      m,
      flush_step s m (Err (error.TablesFull (finmap.len v.kept.version) 1))
          (No_place (finmap.len v.kept.version) 1 refl known frozen_some
          (record { live_is = sym live_many; adding_is = refl; full = full }) draws),
      is,
    )

    -- ---- a disk call fails

    pub flush_fault : (k : ℕ) (m : State) (w : Shown) (seen : Seen) (at : Halt) → Draws k s m → IsMet s.own at table_calls
        → Rose v.disk.faults seen.faults → m.faults ≤ seen.faults → m.refusals ≤ seen.refusals
        → Good (halted_shown seen at w) (halted_state seen at m.doubtful m)
        → Steps s event.FlushStep (reply.FlushStep (Err error.DiskFault)) (halted_shown seen at w)
    flush_fault k m w seen at draws met rose faults refusals is =
        let t : State = record (halted_state seen at m.doubtful m) { next = s.next } in
        let settled : State = record s { durable = m.durable } in (
          t,
          flush_step s t (Err error.DiskFault) (Usual (Failed refl known (
            frozen_some,
            record {
              settled = settled;
              before = record {
                rest = record { rest = refl; faults = omega arith; refusals = omega arith };
                durable = draws.rest.durable;
                within = subst (λ (x : State). m.durable ≤ length x.accepted) draws.rest.rest.rest draws.rest.within;
              };
              halts = record {
                first = at;
                among = met;
                rose = subst (λ (n : ℕ). Rose n seen.faults) good.counts.faults rose;
                rest = record {
                  rest = ap (λ (x : State). record x {
                    next = s.next;
                    halt = Some at;
                    faults = seen.faults;
                    refusals = seen.refusals;
                  }) draws.rest.rest.rest;
                  faults = omega (arith, draws.rest.rest.faults, faults);
                  refusals = omega (arith, draws.rest.rest.refusals, refusals);
                };
              };
            },
          ))),
          next_free (halted_shown seen at w) (halted_state seen at m.doubtful m) at s.next refl is,
        )

    -- ---- the table is installed

    pub flush_installed : (k : ℕ) (m : State) (w : Shown) (seen : Seen) (version : Tables) (len : ℕ) → k ≤ 2 → Draws k s m
        → m.faults ≤ seen.faults → m.refusals ≤ seen.refusals
        → finmap.len version ≤ table_limit → finmap.len version ≡ finmap.len v.kept.version + 1
        → Good w (flushed_state seen version len m) → Steps s event.FlushStep (reply.FlushStep (Ok flush.Installed)) w
    flush_installed k m w seen version len few draws faults refusals limit one_more is =
        let t : State = flushed_state seen version len m in
        let many : length t.tables ≡ finmap.len version =
        length-map (finmap.entries version) live_table ∙ sym (finmap.len-entries version) in (
          t,
          flush_step s t (Ok flush.Installed) (Usual (Done flush.Installed refl known (
            frozen_some,
            record {
              rest = record {
                rest = record {
                  rest = record {
                    rest = ap (λ (x : State). record x {
                      active = m.active;
                      active_len = m.active_len;
                      frozen = 0;
                      frozen_len = 0;
                      tables = map live_table (finmap.entries version);
                      manifest_len = len;
                      faults = seen.faults;
                      refusals = seen.refusals;
                    }) draws.rest.rest.rest;
                    faults = omega (arith, draws.rest.rest.faults, faults);
                    refusals = omega (arith, draws.rest.rest.refusals, refusals);
                  };
                  durable = draws.rest.durable;
                  within = draws.rest.within;
                };
                next = draws.next;
                few = omega (arith, draws.few, few, draw_two s.frozen s.active frozen_some);
                older = omega (arith, many, live_many, one_more);
                newer = omega (arith, many, live_many, one_more, table_one s.frozen s.active frozen_some);
                idle = λ active frozen. absurd (frozen_some frozen);
              };
              few = omega (arith, draws.few, few);
              active = ap (λ (x : State). x.active) draws.rest.rest.rest;
              frozen = refl;
              active_len = ap (λ (x : State). x.active_len) draws.rest.rest.rest;
              frozen_len = refl;
              tables = omega (arith, many, limit);
              newer = omega (arith, many, live_many, one_more);
            },
          ))),
          is,
        )
