-- A closing, at each exit.
use Rattle.std.specs.Prelude.{◌≡◌, ◌≢◌, ◌⊎◌, ℕ, ◌<◌, ◌≤◌, List, length, Option, Some, None, option_map, Result, Ok, Err}
use Rattle.std.proofs.Common.{⊎_elim, inl, inr, refl, sym, ap, subst, ◌∙◌, arith}
use Rattle.std.specs.FinMap as finmap
use Rattle.lsm_io.specs.Causes.{Rose}
use Rattle.lsm_names.specs.declared.file_names.FileName.TheVariants.{Log}
use Rattle.lsm_rows.specs.declared.operations.Op.{Op}
use Rattle.lsm_disk.specs.State as disk
use Rattle.lsm_disk.specs.State.{Seen, Story, state_of, file_synced}
use Rattle.lsm_disk.specs.Images.{Tree, tree_now}
use Rattle.lsm_disk.specs.Viewed.{Viewed}
use Rattle.lsm_disk.specs.Refusals.{no_file}
use Rattle.lsm_disk.specs.Dest.{path_in}
use Rattle.lsm_disk.specs.Answers.{Makes, Allowed, LeftBy, Answers, RefusesBy, HasRisen, HasDiskCause}
use Rattle.lsm_disk.specs.Halts.{halt_at}
use Rattle.lsm_disk.specs.declared.calls.DiskCall.TheVariants as call
use Rattle.lsm_disk.specs.declared.calls.DiskError.{DiskError}
use Rattle.lsm_disk.specs.declared.calls.DiskError.TheVariants as why
use Rattle.lsm_disk.specs.declared.calls.DiskRefusal.{DiskRefusal}
use Rattle.lsm_disk.specs.declared.calls.Halt.{Halt}
use Rattle.lsm_model.specs.declared.errors.StoreError.{StoreError}
use Rattle.lsm_model.specs.declared.errors.StoreError.TheVariants as error
use Rattle.lsm_model.specs.declared.states.State.{State}
use Rattle.lsm_model.specs.Answers.{Done, Failed, Refused}
use Rattle.lsm_model.specs.Causes.{halted}
use Rattle.lsm_model.specs.Crashes.{closed}
use Rattle.lsm_model.specs.Halting.{IsMet, sync_calls}
use Rattle.lsm_refine.specs.Kept.{Shown}
use Rattle.lsm_refine.specs.Folders.{StandsFor}
use Rattle.lsm_refine.specs.Good.{IsRunning, Good, with_counts}
use Rattle.lsm_refine.specs.Grown.{synced_state, halted_state}
use Rattle.lsm_refine.specs.Moments.{ImagesShow}
use Rattle.lsm_refine.specs.Openings.{Holds, As_store, As_fresh, HoldsFrom, IsFound}
use Rattle.lsm_refine.proofs.FoundLemmas.{good_found}
use Rattle.lsm_refine.proofs.SyncedLemmas.{syncing, sync_good, sync_halts, sync_shows}
use Rattle.lsm_refine.proofs.UnchangedLemmas.{unchanged_good}
use Rattle.lsm_refine.proofs.WritingLemmas.{runs, durable_few}
use Rattle.lsm_core.specs.Closing.{HasHandedBack}
use Rattle.lsm_store.specs.Answering.{error_by, error_of}
use Rattle.lsm_store.specs.Closing.{LeavesClosed, ClosedBy}
use Rattle.lsm_store.specs.Inside.{Inner, IsInside, shown_of}
use Rattle.lsm_store.specs.Syncing.{IsNotSynced}
use Rattle.lsm_store.proofs.Calls.{same_shows, never_some}
use Rattle.lsm_store.proofs.Logs.{left_by, log_here, sync_refused}

-- the closing of the store over this disk is answered so
pub record IsClose (v : Shown) (answer : Result (Unit {0}) StoreError) (seen : Seen) : Type 0 where
  pub closes : (s : State) → Good v s → LeavesClosed s answer seen
  pub images : (s : State) → (good : Good v s) → ImagesShow good.story seen.told s s
  pub causes : ClosedBy v answer seen

-- ---- what ends with the open isn't found on the disk

-- the same without a doubtful batch
abbrev settled : State → State
settled s = record s { doubtful = None }

module _ (s : State) where
  stands_closed : (t : Tree) (count : ℕ) → StandsFor (settled s) t count → StandsFor (closed s) t count
  stands_closed t count is = record { folder = is.folder; stands = is.stands }

  holds_closed : (t : Tree) (count : ℕ) → Holds (settled s) t count → Holds (closed s) t count
  holds_closed t count (As_store stands) = As_store (stands_closed t count stands)
  holds_closed t count (As_fresh fresh unwritten) =
      As_fresh fresh (record { opening = unwritten.opening; began = unwritten.began; none = unwritten.none })

  from_closed : (least : ℕ) (t : Tree) → HoldsFrom (settled s) least t → HoldsFrom (closed s) least t
  from_closed least t is = record {
    count = is.count;
    enough = is.enough;
    within = is.within;
    holds = holds_closed t is.count is.holds;
    files = is.files;
  }

  found_closed : s.doubtful ≡ None → (d : disk.State) → IsFound d s → IsFound d (closed s)
  found_closed certain d found =
      let is : IsFound d (settled s) =
      subst (λ (o : Option (List Op)). IsFound d (record s { doubtful = o })) certain found in record {
        now = from_closed (length s.accepted) (tree_now d) is.now;
        images = λ t i. from_closed s.durable t (is.images t i);
        synced = is.synced;
        folders = record { now = is.folders.now; sure = is.folders.sure };
        clear = is.clear;
      }

module _ (x : Inner) (inside : IsInside x) (mid : Seen) (handed : HasHandedBack x.catalog.views x.disk mid) where
  abbrev v : Shown
  v = shown_of x

  -- the store with its views handed back
  abbrev ended : Inner
  ended = record x { disk = mid }

  -- the views were handed back before
  later_views : (seen : Seen) → mid.faults ≤ seen.faults → (number : ℕ) (view : Viewed)
      → finmap.get x.catalog.views number ≡ Some view
      → 0 < view.faults → Rose x.disk.faults seen.faults
  later_views seen faults number view found some =
      let risen : Rose x.disk.faults mid.faults = handed.each number view found some in omega (arith, risen, faults)

  halted_good : (s : State) (good : Good (shown_of x) s) → Good (shown_of ended) (with_counts mid s)
  halted_good s good = unchanged_good v (shown_of ended) s good (record {
    later = good.story;
    told = handed.told ∙ good.told;
    state = refl;
    dir = refl;
    kept = refl;
    views = λ number view is. inl is;
  }) refl

  pub halted_close : (first : Halt) → x.halt ≡ Some first → IsClose (shown_of x) (Err (error.Halted first)) mid
  halted_close first is = record {
    closes = λ s good.
        let after = halted_good s good in record {
          left = with_counts mid s;
          closes = Refused (error.Halted first) refl (ap (option_map error.Halted) (sym good.kept.halt ∙ is)) (record {
            rest = refl;
            faults = omega (arith, good.counts.faults, handed.faults);
            refusals = omega (arith, good.counts.refusals, handed.refusals);
          });
          story = after.story;
          told = after.told;
          found = good_found (shown_of ended) (with_counts mid s) after;
        };
    images = λ s good. same_shows v s s good mid.told handed.told;
    causes = record {
      cause = (is, handed.told);
      faults = handed.faults;
      refusals = handed.refusals;
      views = later_views mid (omega arith);
    };
  }

  module _ (none : x.halt ≡ None) (seen : Seen) (path : List ℕ) (path_is : path ≡ x.wal.path)
      (faults_later : mid.faults ≤ seen.faults) (refusals_later : mid.refusals ≤ seen.refusals) where
    faults : x.disk.faults ≤ seen.faults
    faults = omega (arith, handed.faults, faults_later)

    refusals : x.disk.refusals ≤ seen.refusals
    refusals = omega (arith, handed.refusals, refusals_later)

    abbrev running : (s : State) (good : Good (shown_of x) s) → IsRunning (state_of good.story) (shown_of x) s
    running s good = runs v s good none

    known : (s : State) → Good (shown_of x) s → halted s ≡ None
    known s good = ap (option_map error.Halted) (sym good.kept.halt ∙ none)

    makes : (s : State) (good : Good (shown_of x) s) → Makes mid.told (file_synced path) seen.told
        → Makes x.disk.told (syncing v s good (running s good)) seen.told
    makes s good made =
        subst (λ (p : List ℕ). Makes x.disk.told (file_synced p) seen.told)
        (path_is ∙ log_here x inside s good (running s good))
        (subst (λ (o : Option Story). Makes o (file_synced path) seen.told) handed.told made)

    pub ok_close : Makes mid.told (file_synced path) seen.told → IsClose (shown_of x) (Ok tt) seen
    ok_close made = record {
      closes = λ s good.
          let after = sync_good v s good (running s good) seen (makes s good made) none in
          let t : State = synced_state seen (length s.accepted) s in record {
            left = closed t;
            closes = Done tt refl (known s good) (record {
              rest = refl;
              faults = omega (arith, good.counts.faults, faults);
              refusals = omega (arith, good.counts.refusals, refusals);
            });
            story = after.story;
            told = after.told;
            found = found_closed t (running s good).certain (state_of after.story) (good_found _ t after);
          };
      images = λ s good. sync_shows v s good (running s good) seen.told (inr (makes s good made)) s;
      causes = record {
        cause = none;
        faults = faults;
        refusals = refusals;
        views = later_views seen faults_later;
      };
    }

    met : (own : List ℕ) → own ≡ x.home → IsMet own (halt_at call.Sync path) sync_calls
    met own is = inl (refl, (x.log, path_is ∙ inside.path_is ∙ ap (λ (dir : List ℕ). path_in dir (Log x.log)) (sym is)))

    -- under good stores this doesn't come
    changed : {B : Type 0} → ((s : State) → Good (shown_of x) s → B) → (B → ⊥) → Rose mid.refusals seen.refusals
        → IsClose (shown_of x) (Err (error.Changed call.Sync path)) seen
    changed answers never rose =
        let risen : Rose x.disk.refusals seen.refusals = omega (arith, handed.refusals, rose) in
        record {
          closes = λ s good. absurd (never (answers s good));
          images = λ s good. absurd (never (answers s good));
          causes = record {
            cause = (none, risen, met x.home refl);
            faults = faults;
            refusals = refusals;
            views = later_views seen faults_later;
          };
        }

    by_why : (e : DiskError) → ((s : State) → Good (shown_of x) s → RefusesBy None e)
        → LeftBy (seen.told ≡ mid.told) (Allowed (no_file path) mid.told × Makes mid.told (file_synced path) seen.told) e
        → e ≢ why.NoMemory → HasRisen mid seen e → IsClose (shown_of x) (Err (error_by (halt_at call.Sync path) e)) seen
    by_why why.Fault answers left memory rose = record {
      closes = λ s good.
          let after = sync_halts v s good (running s good) seen (halt_at call.Sync path) (lefts s good) in
          let t : State = halted_state seen (halt_at call.Sync path) s.doubtful s in record {
            left = t;
            closes = Failed refl (known s good) (inr (record {
              settled = s;
              before = record {
                rest = record { rest = refl; faults = omega arith; refusals = omega arith };
                durable = omega arith;
                within = durable_few v s good (running s good);
              };
              halts = record {
                first = halt_at call.Sync path;
                among = met s.own (sym good.kept.own);
                rose = subst (λ (n : ℕ). Rose n seen.faults) good.counts.faults risen;
                rest = record {
                  rest = refl;
                  faults = omega (arith, good.counts.faults, faults);
                  refusals = omega (arith, good.counts.refusals, refusals);
                };
              };
            }));
            story = after.story;
            told = after.told;
            found = good_found _ t after;
          };
      images = λ s good. sync_shows v s good (running s good) seen.told (lefts s good) s;
      causes = record {
        cause = (none, risen);
        faults = faults;
        refusals = refusals;
        views = later_views seen faults_later;
      };
    }
      where
        risen : Rose x.disk.faults seen.faults
        risen = omega (arith, handed.faults, rose)

        lefts : (s : State) (good : Good v s) → (seen.told ≡ x.disk.told)
            ⊎ Makes x.disk.told (syncing v s good (running s good)) seen.told
        lefts s good =
            ⊎_elim (λ same. inl (same ∙ handed.told)) (λ made. inr (makes s good made)) (left_by mid.told seen.told path left)
    by_why why.NotThere answers left memory rose = changed answers (λ by. never_some by) rose
    by_why why.Exists answers left memory rose = changed answers (λ by. never_some by) rose
    by_why why.NoLinks answers left memory rose = changed answers (λ by. never_some by) rose
    by_why why.NotEmpty answers left memory rose = changed answers (λ by. never_some by) rose
    by_why (why.Short found) answers left memory rose = changed answers (λ by. never_some by) rose
    by_why why.NoMemory answers left memory rose = absurd (memory refl)

    pub refused_close : (r : DiskRefusal) (refusal : StoreError) → refusal ≡ error_of r → IsNotSynced path mid seen r
        → HasDiskCause {T = Unit {0}} mid seen (Err r) → IsClose (shown_of x) (Err refusal) seen
    refused_close r refusal is unsynced cause =
        subst (λ (e : StoreError). IsClose v (Err e) seen) (ap (λ (at : Halt). error_by at r.why) (sym unsynced.at) ∙ sym is)
        (by_why r.why (λ s good. sync_refused ended (inside_ended) (with_counts mid s) (halted_good s good)
        (runs (shown_of ended) (with_counts mid s) (halted_good s good) none) r.why
        (subst (λ (p : List ℕ). Answers {T = Unit {0}} (no_file p) mid (Err r.why)) path_is unsynced.answer)) unsynced.left
        unsynced.memory cause.counted)
      where
        inside_ended : IsInside ended
        inside_ended = record {
          path_is = inside.path_is;
          manifest_in = inside.manifest_in;
          manifest_is = inside.manifest_is;
          before = inside.before;
          small = inside.small;
          one = inside.one;
          drawn = inside.drawn;
          most = inside.most;
          below = inside.below;
          fit = inside.fit;
          flush = inside.flush;
          jobs = inside.jobs;
        }
