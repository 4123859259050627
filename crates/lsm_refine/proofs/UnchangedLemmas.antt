-- A store stays good where nothing changes but the disk's counts and its clock, also where a call that did nothing halts it.
use Rattle.std.specs.Prelude.{◌≡◌, ℕ, Option, Some, None}
use Rattle.std.proofs.Common.{refl, sym, subst}
use Rattle.lsm_disk.specs.State as disk
use Rattle.lsm_disk.specs.State.{Seen, Story, state_of}
use Rattle.lsm_disk.specs.Images.{Tree, tree_now}
use Rattle.lsm_disk.specs.declared.calls.Halt.{Halt}
use Rattle.lsm_model.specs.declared.states.State.{State}
use Rattle.lsm_refine.specs.Kept.{Shown}
use Rattle.lsm_refine.specs.Pins.{AreClearable, Pinned}
use Rattle.lsm_refine.specs.Folders.{StandsFor, StandsFrom, FoldersRead}
use Rattle.lsm_refine.specs.Good.{ShowsAccepted, IsRunning, IsHalted, IsInMode, KeptIs, Good, IsUnchanged, with_counts, stopped}
use Rattle.lsm_refine.proofs.GoodLemmas.{running_now, running_image}
use Rattle.lsm_refine.proofs.ShownLemmas.{running_shows}
use Rattle.lsm_refine.proofs.PartsLemmas.{readable}
use Rattle.lsm_refine.proofs.PinnedLemmas.{pins_alike}
use Rattle.lsm_refine.proofs.TableSyncs.{readable_synced}
use Rattle.lsm_refine.proofs.ViewLemmas.{viewed_good}

-- ---- the state's counts and its halting call

module _ (seen : Seen) (halt : Option Halt) (s : State) where
  abbrev t : State
  t = record (with_counts seen s) { halt = halt }

  stands_for : (tree : Tree) (count : ℕ) → StandsFor s tree count → StandsFor t tree count
  stands_for tree count is = record { folder = is.folder; stands = is.stands }

  stands_from : (least : ℕ) (tree : Tree) → StandsFrom s least tree → StandsFrom t least tree
  stands_from least tree is = record {
    count = is.count;
    enough = is.enough;
    within = is.within;
    stands = stands_for tree is.count is.stands;
  }

  module _ (d : disk.State) (v : Shown) where
    abbrev w : Shown
    w = record v { disk = seen; halt = halt }

    running : IsRunning d v s → IsRunning d w t
    running is = record {
      parts = is.parts;
      sane = is.sane;
      tied = record {
        flushed = is.tied.flushed;
        within = is.tied.within;
        below = is.tied.below;
        last = is.tied.last;
        above = is.tied.above;
        durable = is.tied.durable;
      };
      works = record {
        active = is.works.active;
        frozen = is.works.frozen;
        log_len = is.works.log_len;
        older_len = is.works.older_len;
        active_len = is.works.active_len;
        frozen_len = is.works.frozen_len;
        tables = is.works.tables;
        merging = is.works.merging;
        outputs = is.works.outputs;
        next = is.works.next;
        manifest_len = is.works.manifest_len;
      };
      jobs = record { apart = is.jobs.apart; each = is.jobs.each };
      certain = is.certain;
    }

    reads : ShowsAccepted d v s → ShowsAccepted d w t
    reads is = record {
      rows = is.rows;
      tables = is.tables;
      order = is.order;
      shown = is.shown;
      active = is.active;
    }

    halted : IsHalted d v s → IsHalted d w t
    halted is = record {
      reads = reads is.reads;
      now = stands_from _ (tree_now d) is.now;
      images = λ tree i. stands_from s.durable tree (is.images tree i);
      files = is.files;
      synced = is.synced;
    }

    -- a running store that is halted with nothing done
    halts : v.dir ≡ s.own → IsRunning d v s → IsHalted d w t
    halts own is = record {
      reads = reads (running_shows d v s is);
      now = stands_from _ (tree_now d) (running_now d v s own is);
      images = λ tree i. stands_from s.durable tree (running_image d v s own is tree i);
      files = is.sane.files;
      synced = readable_synced d v.dir v.kept is.parts (readable d v.dir v.kept is.parts is.sane);
    }

    pinned : Pinned d v.dir v.kept.pins s → Pinned d v.dir v.kept.pins t
    pinned is = record { pins = pins_alike s t refl refl refl v.kept.pins s.pins is.pins; files = is.files }

    folders : FoldersRead d s → FoldersRead d t
    folders is = record { now = is.now; sure = is.sure }

    kept_is : KeptIs v s → KeptIs w t
    kept_is is = record {
      own = is.own;
      sequence = is.sequence;
      greatest_pin = is.greatest_pin;
      disables = is.disables;
      begun = is.begun;
      halt = refl;
    }

  in_mode : (d : disk.State) (v : Shown) → IsInMode halt d v s → IsInMode halt d (record v { disk = seen; halt = halt }) t
  in_mode = by_halt halt
    where
      by_halt : (h : Option Halt) (d : disk.State) (v : Shown) → IsInMode h d v s → IsInMode h d (record v { disk = seen; halt = halt }) t
      by_halt None d v is = running d v is
      by_halt (Some first) d v is = halted d v is

-- ---- the law

module _ (v : Shown) (s : State) (good : Good v s) (seen : Seen) (halt : Option Halt) (later : Story) (told : seen.told ≡ Some later) where
  abbrev goes_on : Type 0
  goes_on = Good (record v { disk = seen; halt = halt }) (record (with_counts seen s) { halt = halt })

  at_state : (d : disk.State) → d ≡ state_of good.story → state_of later ≡ d
      → IsInMode halt d (record v { disk = seen; halt = halt }) (record (with_counts seen s) { halt = halt }) → goes_on
  at_state d was now mode = record {
    story = later;
    told = told;
    mode = subst (λ (e : disk.State). IsInMode halt e (record v { disk = seen; halt = halt })
        (record (with_counts seen s) { halt = halt })) (sym now) mode;
    pinned = subst (λ (e : disk.State). Pinned e v.dir v.kept.pins (record (with_counts seen s) { halt = halt })) (sym now)
        (pinned seen halt s d v (subst (λ (e : disk.State). Pinned e v.dir v.kept.pins s) (sym was) good.pinned));
    folders = subst (λ (e : disk.State). FoldersRead e (record (with_counts seen s) { halt = halt })) (sym now)
        (folders seen halt s d v (subst (λ (e : disk.State). FoldersRead e s) (sym was) good.folders));
    clear = subst AreClearable (sym now) (subst AreClearable (sym was) good.clear);
    counted = record {
      durable = good.counted.durable;
      numbers = good.counted.numbers;
      fronts = good.counted.fronts;
      begun = good.counted.begun;
    };
    kept = kept_is seen halt s d v good.kept;
    counts = record { faults = refl; refusals = refl };
  }

-- a store with another disk and halting call
same_shown : (v w : Shown) (halt : Option Halt) → w.dir ≡ v.dir → w.kept ≡ v.kept → w.halt ≡ halt
    → record v { disk = w.disk; halt = halt } ≡ w
same_shown v w halt dir kept halts = λ j. record { disk = w.disk; dir = sym dir j; kept = sym kept j; halt = sym halts j }

-- the store with the views of another
abbrev other_views : Shown → Shown → Shown
other_views v w = record v { kept = record v.kept { views = w.kept.views } }

pub unchanged_good : (v w : Shown) (s : State) (good : Good v s) → IsUnchanged good.story v w → w.halt ≡ v.halt
    → Good w (with_counts w.disk s)
unchanged_good v w s good is same =
    let views = viewed_good v s good w.kept.views is.views in
    let goes = at_state (other_views v w) s views w.disk v.halt is.later is.told (state_of good.story) refl is.state
    (in_mode w.disk v.halt s (state_of good.story) (other_views v w) views.mode) in
    subst (λ (x : Shown). Good x (with_counts w.disk s)) (same_shown (other_views v w) w v.halt is.dir is.kept same)
    (subst (λ (h : Option Halt). Good (record (other_views v w) { disk = w.disk; halt = v.halt })
    (record (with_counts w.disk s) { halt = h })) good.kept.halt goes)

pub halted_good : (v w : Shown) (s : State) (first : Halt) (good : Good v s) → IsUnchanged good.story v w → v.halt ≡ None
    → w.halt ≡ Some first → Good w (stopped first (with_counts w.disk s))
halted_good v w s first good is none same =
    let views = viewed_good v s good w.kept.views is.views in
    let mode = halts w.disk (Some first) s (state_of good.story) (other_views v w) good.kept.own
    (subst (λ (h : Option Halt). IsInMode h (state_of good.story) (other_views v w) s) none views.mode) in
    subst (λ (x : Shown). Good x (stopped first (with_counts w.disk s))) (same_shown (other_views v w) w (Some first) is.dir is.kept same)
    (at_state (other_views v w) s views w.disk (Some first) is.later is.told (state_of good.story) refl is.state mode)
