-- A flush's table is sealed: its file is synced, and so are the names.
use Rattle.std.specs.Prelude.{◌≡◌, ◌≢◌, ◌⊎◌, ℕ, ◌≤◌, List, Option, Some, None, Err, IfSome}
use Rattle.std.proofs.Common.{⊎_elim, inl, inr, refl, sym, ap, subst, ◌∙◌, arith}
use Rattle.lsm_io.specs.Causes.{Rose}
use Rattle.lsm_names.specs.declared.file_names.FileName.TheVariants.{Table}
use Rattle.lsm_disk.specs.State as disk
use Rattle.lsm_disk.specs.State.{Seen, Story, Change, state_of, after, file_synced, names_synced}
use Rattle.lsm_disk.specs.Images.{Tree, IsImage}
use Rattle.lsm_disk.specs.Refusals.{never, no_file}
use Rattle.lsm_disk.specs.Dest.{path_in}
use Rattle.lsm_disk.specs.Answers.{Makes, Allowed, LeftBy, Answers, AnswersBy, RefusesBy, HasRisen, pushed}
use Rattle.lsm_disk.specs.Halts.{halt_at}
use Rattle.lsm_disk.specs.declared.calls.DiskCall.{DiskCall}
use Rattle.lsm_disk.specs.declared.calls.DiskCall.TheVariants as call
use Rattle.lsm_disk.specs.declared.calls.DiskError.{DiskError}
use Rattle.lsm_disk.specs.declared.calls.DiskError.TheVariants as why
use Rattle.lsm_disk.specs.declared.calls.DiskRefusal.{DiskRefusal}
use Rattle.lsm_disk.specs.declared.calls.Halt.{Halt}
use Rattle.lsm_model.specs.declared.errors.StoreError.{StoreError}
use Rattle.lsm_model.specs.declared.states.State.{State}
use Rattle.lsm_model.specs.Halting.{IsMet, table_calls}
use Rattle.lsm_refine.specs.Kept.{Shown}
use Rattle.lsm_refine.specs.Good.{IsRunning, Good}
use Rattle.lsm_refine.specs.Grown.{halted_shown, halted_state}
use Rattle.lsm_refine.specs.Moments.{ReadsAsCrashed}
use Rattle.lsm_refine.specs.TableWork.{Work, work_of, working_state}
use Rattle.lsm_refine.proofs.FlushSteps.{draws_none, draws_built}
use Rattle.lsm_refine.proofs.OneCall.{call_tells, call_state, call_shows, call_halts}
use Rattle.lsm_refine.proofs.TableSteps.{working_crashed, sync_writes, sync_good, names_writes, names_good, table_reads, table_halts}
use Rattle.lsm_flush.specs.declared.frozen.Held.TheVariants as held
use Rattle.lsm_flush.specs.Writing.{Written, given}
use Rattle.lsm_store.specs.Answering.{halt_by, halt_of, error_by, error_of}
use Rattle.lsm_store.specs.FlushParts.{GoesOn, Came, Fails, FindsChanged, Refuses}
use Rattle.lsm_store.specs.Inside.{Inner, IsInside, shown_of}
use Rattle.lsm_store.specs.Syncing.{IsNotSynced, AreNotSynced}
use Rattle.lsm_store.proofs.Calls.{never_some}
use Rattle.lsm_store.proofs.Parting.{drawn_none}
use Rattle.lsm_store.proofs.Writings.{table_fits, table_fresh, table_bytes, run, lone, one_with, refused_by}

module _ (x : Inner) (w : Written) (inside : IsInside (record x { frozen = held.Table w })) (none : x.halt ≡ None) where
  abbrev v : Shown
  v = shown_of (record x { frozen = held.Table w })

  abbrev here : List ℕ
  here = path_in x.home (Table w.number)

  abbrev same_work : Work
  same_work = work_of v.kept

  same : GoesOn 0 v.kept v.kept
  same = record { rest = refl; taken = omega arith; table = λ number is. is; drawn = drawn_none v.kept }

  -- ---- a call that makes this change, which shows nothing and leaves a good store

  module _ (c : disk.State → Change)
      (reads : (s : State) (good : Good v s) (t : Tree) → IsImage (after (state_of good.story) (c (state_of good.story))) t
      → ReadsAsCrashed s t)
      (halts : (s : State) (good : Good v s) (seen : Seen) (by : Halt) (story : Story) → seen.told ≡ Some story
      → state_of story ≡ after (state_of good.story) (c (state_of good.story))
      → Good (halted_shown seen by v) (halted_state seen by s.doubtful s))
      (goods : (s : State) (good : Good v s) (seen : Seen) (story : Story) → seen.told ≡ Some story
      → state_of story ≡ after (state_of good.story) (c (state_of good.story))
      → Good (shown_of (record x { frozen = held.Table w; disk = seen })) (working_state seen same_work s))
      (seen : Seen) (faults : x.disk.faults ≤ seen.faults) (refusals : x.disk.refusals ≤ seen.refusals) where
    -- it was made
    part_ok : Makes x.disk.told c seen.told → Came 0 v (shown_of (record x { frozen = held.Table w; disk = seen }))
    part_ok makes = record {
      unhalted = none;
      counts = record { dir = refl; faults = faults; refusals = refusals };
      on = same;
      good = λ s good. record {
        now = working_state seen same_work s;
        draws = draws_built 0 v s good (run x w inside none s good) same_work seen refl (omega arith) (omega arith) faults refusals;
        good = goods s good seen (pushed c good.story) (call_tells v s good c (reads s good) seen.told makes)
            (call_state v s good c (reads s good));
        crashed = λ t is. working_crashed s seen same_work t is;
      };
      images = λ s good. call_shows v s good c (reads s good) seen.told (inr makes) s;
    }

    module _ (made : DiskCall) (met : IsMet x.home (halt_at made here) table_calls) where
      abbrev halted : Shown
      halted = shown_of (record x { frozen = held.Table w; disk = seen; halt = Some (halt_at made here) })

      -- it failed
      part_failed : Rose x.disk.faults seen.faults → (seen.told ≡ x.disk.told) ⊎ Makes x.disk.told c seen.told
          → Fails 0 v halted
      part_failed rose left = record {
        at = halt_at made here;
        halt = refl;
        met = met;
        rose = rose;
        counts = record { dir = refl; faults = faults; refusals = refusals };
        on = same;
        good = λ s good. record {
          now = s;
          draws = draws_none s good.counted.durable;
          faults = omega (arith, good.counts.faults, faults);
          refusals = omega (arith, good.counts.refusals, refusals);
          good = call_halts v s good c (reads s good) none (halts s good) seen (halt_at made here) left;
        };
        images = λ s good. call_shows v s good c (reads s good) seen.told left s;
      }

      -- it found the disk changed
      part_changed : made ≢ call.RemoveFolder → ((s : State) → Good v s → ⊥) → Rose x.disk.refusals seen.refusals
          → FindsChanged 0 made here v halted
      part_changed other never rose = record {
        halt = refl;
        met = met;
        other = other;
        rose = rose;
        counts = record { dir = refl; faults = faults; refusals = refusals };
        on = same;
        never = never;
      }

  -- ---- the file's sync

  module _ (s : State) (good : Good v s) where
    abbrev d : disk.State
    d = state_of good.story

    abbrev runs_here : IsRunning (state_of good.story) v s
    runs_here = run x w inside none s good

    abbrev file : List ℕ
    file = given w

    synced_reads : (t : Tree) → IsImage (after (state_of good.story) (file_synced here (state_of good.story))) t
        → ReadsAsCrashed s t
    synced_reads t i = table_reads v s good runs_here w.number (table_fits x w inside none) (table_fresh x w inside none)
        (after d (file_synced here d))
        (sync_writes v s good runs_here w.number (table_fits x w inside none) (table_fresh x w inside none)
        (lone x w inside none s good).0 (lone x w inside none s good).1 file (table_bytes x w inside none s good)) t i

    synced_halts : (seen : Seen) (by : Halt) (story : Story) → seen.told ≡ Some story
        → state_of story ≡ after (state_of good.story) (file_synced here (state_of good.story))
        → Good (halted_shown seen by v) (halted_state seen by s.doubtful s)
    synced_halts seen by story told at =
        table_halts v s good runs_here w.number (table_fits x w inside none) (table_fresh x w inside none)
        (after d (file_synced here d))
        (sync_writes v s good runs_here w.number (table_fits x w inside none) (table_fresh x w inside none)
        (lone x w inside none s good).0 (lone x w inside none s good).1 file (table_bytes x w inside none s good))
        seen by story told at

    synced_goods : (seen : Seen) (story : Story) → seen.told ≡ Some story
        → state_of story ≡ after (state_of good.story) (file_synced here (state_of good.story))
        → Good (shown_of (record x { frozen = held.Table w; disk = seen })) (working_state seen same_work s)
    synced_goods seen story told at =
        sync_good v s good runs_here w.number (table_fits x w inside none) (table_fresh x w inside none)
        (lone x w inside none s good).0 (lone x w inside none s good).1 file (table_bytes x w inside none s good) same_work refl
        seen story told none (one_with x w inside none file file refl) at

    -- ---- the names' sync

    named_reads : (t : Tree) → IsImage (after (state_of good.story) (names_synced (state_of good.story))) t → ReadsAsCrashed s t
    named_reads t i = table_reads v s good runs_here w.number (table_fits x w inside none) (table_fresh x w inside none)
        (after d (names_synced d))
        (names_writes v s good runs_here w.number (table_fits x w inside none) (table_fresh x w inside none)
        (lone x w inside none s good).0 (lone x w inside none s good).1 file (table_bytes x w inside none s good)) t i

    named_halts : (seen : Seen) (by : Halt) (story : Story) → seen.told ≡ Some story
        → state_of story ≡ after (state_of good.story) (names_synced (state_of good.story))
        → Good (halted_shown seen by v) (halted_state seen by s.doubtful s)
    named_halts seen by story told at =
        table_halts v s good runs_here w.number (table_fits x w inside none) (table_fresh x w inside none)
        (after d (names_synced d))
        (names_writes v s good runs_here w.number (table_fits x w inside none) (table_fresh x w inside none)
        (lone x w inside none s good).0 (lone x w inside none s good).1 file (table_bytes x w inside none s good))
        seen by story told at

    named_goods : (seen : Seen) (story : Story) → seen.told ≡ Some story
        → state_of story ≡ after (state_of good.story) (names_synced (state_of good.story))
        → Good (shown_of (record x { frozen = held.Table w; disk = seen })) (working_state seen same_work s)
    named_goods seen story told at =
        names_good v s good runs_here w.number (table_fits x w inside none) (table_fresh x w inside none)
        (lone x w inside none s good).0 (lone x w inside none s good).1 file (table_bytes x w inside none s good) same_work refl
        seen story told none (one_with x w inside none file file refl) at

-- ---- the exits

sync_differs : call.Sync ≢ call.RemoveFolder
sync_differs clash = cc

names_differ : call.SyncNames ≢ call.RemoveFolder
names_differ clash = cc

module _ (x : Inner) (w : Written) (inside : IsInside (record x { frozen = held.Table w })) (none : x.halt ≡ None) (seen : Seen)
    (path : List ℕ) (path_is : path ≡ path_in x.home (Table w.number)) (faults : x.disk.faults ≤ seen.faults)
    (refusals : x.disk.refusals ≤ seen.refusals) where
  abbrev before : Shown
  before = shown_of (record x { frozen = held.Table w })

  abbrev file_path : List ℕ
  file_path = path_in x.home (Table w.number)

  file_met : IsMet x.home (halt_at call.Sync file_path) table_calls
  file_met = inr (inr (inl (refl, (w.number, refl))))

  names_met : IsMet x.home (halt_at call.SyncNames file_path) table_calls
  names_met = inr (inr (inr (inl (refl, (w.number, refl)))))

  -- the file is synced
  pub synced_table : Makes x.disk.told (file_synced path) seen.told → Came 0 (shown_of (record x { frozen = held.Table w }))
      (shown_of (record x { frozen = held.Table w; disk = seen }))
  synced_table makes =
      part_ok x w inside none (file_synced file_path) (synced_reads x w inside none) (synced_halts x w inside none)
      (synced_goods x w inside none) seen faults refusals
      (subst (λ (p : List ℕ). Makes x.disk.told (file_synced p) seen.told) path_is makes)

  file_failed : Rose x.disk.faults seen.faults → (seen.told ≡ x.disk.told)
      ⊎ (Allowed (no_file path) x.disk.told × Makes x.disk.told (file_synced path) seen.told)
      → Fails 0 before (shown_of (record x { frozen = held.Table w; disk = seen; halt = Some (halt_at call.Sync file_path) }))
  file_failed rose left =
      part_failed x w inside none (file_synced file_path) (synced_reads x w inside none) (synced_halts x w inside none)
      (synced_goods x w inside none) seen faults refusals call.Sync file_met rose
      (⊎_elim (λ stays. inl stays)
      (λ made. inr (subst (λ (p : List ℕ). Makes x.disk.told (file_synced p) seen.told) path_is made.1)) left)

  file_changed : (e : DiskError) → (RefusesBy None e → ⊥) → Answers {T = Unit {0}} (no_file path) x.disk (Err e)
      → Rose x.disk.refusals seen.refusals
      → FindsChanged 0 call.Sync file_path before
      (shown_of (record x { frozen = held.Table w; disk = seen; halt = Some (halt_at call.Sync file_path) }))
  file_changed e never answers rose =
      part_changed x w inside none (file_synced file_path) (synced_reads x w inside none) (synced_halts x w inside none)
      (synced_goods x w inside none) seen faults refusals call.Sync file_met sync_differs
      (λ s good. never (refused_by x w inside none s good path path_is e answers)) rose

  file_by : (e : DiskError)
      → LeftBy (seen.told ≡ x.disk.told) (Allowed (no_file path) x.disk.told × Makes x.disk.told (file_synced path) seen.told) e
      → Answers {T = Unit {0}} (no_file path) x.disk (Err e) → e ≢ why.NoMemory → HasRisen x.disk seen e
      → Refuses 0 (error_by (halt_at call.Sync file_path) e) before
      (shown_of (record x { frozen = held.Table w; disk = seen; halt = halt_by (halt_at call.Sync file_path) e }))
  unfolding Refuses
  file_by why.Fault left answers memory rose = file_failed rose left
  file_by why.NotThere left answers memory rose = file_changed why.NotThere (λ is. never_some is) answers rose
  file_by why.Exists left answers memory rose = file_changed why.Exists (λ is. never_some is) answers rose
  file_by why.NoLinks left answers memory rose = file_changed why.NoLinks (λ is. never_some is) answers rose
  file_by why.NotEmpty left answers memory rose = file_changed why.NotEmpty (λ is. never_some is) answers rose
  file_by (why.Short found) left answers memory rose = file_changed (why.Short found) (λ is. never_some is) answers rose
  file_by why.NoMemory left answers memory rose = absurd (memory refl)

  pub unsynced_table : (r : DiskRefusal) (halt : Option Halt) (refusal : StoreError) → IsNotSynced path x.disk seen r
      → HasRisen x.disk seen r.why → halt ≡ halt_of r → refusal ≡ error_of r
      → Refuses 0 refusal (shown_of (record x { frozen = held.Table w }))
      (shown_of (record x { frozen = held.Table w; disk = seen; halt = halt }))
  unsynced_table r halt refusal is counted halts refused =
      let at_is : r.at ≡ halt_at call.Sync file_path = is.at ∙ ap (λ (p : List ℕ). halt_at call.Sync p) path_is in
      subst (λ (e : StoreError). Refuses 0 e before (shown_of (record x { frozen = held.Table w; disk = seen; halt = halt })))
      (ap (λ (at : Halt). error_by at r.why) (sym at_is) ∙ sym refused)
      (subst (λ (h : Option Halt). Refuses 0 (error_by (halt_at call.Sync file_path) r.why) before
      (shown_of (record x { frozen = held.Table w; disk = seen; halt = h })))
      (ap (λ (at : Halt). halt_by at r.why) (sym at_is) ∙ sym halts)
      (file_by r.why is.left is.answer is.memory counted))

  -- the names are synced
  pub named_table : Makes x.disk.told names_synced seen.told → Came 0 (shown_of (record x { frozen = held.Table w }))
      (shown_of (record x { frozen = held.Table w; disk = seen }))
  named_table makes =
      part_ok x w inside none names_synced (named_reads x w inside none) (named_halts x w inside none)
      (named_goods x w inside none) seen faults refusals makes

  names_failed : Rose x.disk.faults seen.faults → (seen.told ≡ x.disk.told)
      ⊎ (Allowed never x.disk.told × Makes x.disk.told names_synced seen.told)
      → Fails 0 before (shown_of (record x { frozen = held.Table w; disk = seen; halt = Some (halt_at call.SyncNames file_path) }))
  names_failed rose left =
      part_failed x w inside none names_synced (named_reads x w inside none) (named_halts x w inside none)
      (named_goods x w inside none) seen faults refusals call.SyncNames names_met rose
      (⊎_elim (λ stays. inl stays) (λ made. inr made.1) left)

  names_changed : (e : DiskError) → (RefusesBy None e → ⊥) → Answers {T = Unit {0}} never x.disk (Err e)
      → Rose x.disk.refusals seen.refusals
      → FindsChanged 0 call.SyncNames file_path before
      (shown_of (record x { frozen = held.Table w; disk = seen; halt = Some (halt_at call.SyncNames file_path) }))
  names_changed e impossible answers rose =
      part_changed x w inside none names_synced (named_reads x w inside none) (named_halts x w inside none)
      (named_goods x w inside none) seen faults refusals call.SyncNames names_met names_differ
      (λ s good. impossible (subst (λ (told : Option Story). IfSome told
      (λ story. AnswersBy {T = Unit {0}} (never (state_of story)) (Err e))) good.told answers)) rose

  names_by : (e : DiskError)
      → LeftBy (seen.told ≡ x.disk.told) (Allowed never x.disk.told × Makes x.disk.told names_synced seen.told) e
      → Answers {T = Unit {0}} never x.disk (Err e) → e ≢ why.NoMemory → HasRisen x.disk seen e
      → Refuses 0 (error_by (halt_at call.SyncNames file_path) e) before
      (shown_of (record x { frozen = held.Table w; disk = seen; halt = halt_by (halt_at call.SyncNames file_path) e }))
  unfolding Refuses
  names_by why.Fault left answers memory rose = names_failed rose left
  names_by why.NotThere left answers memory rose = names_changed why.NotThere (λ is. never_some is) answers rose
  names_by why.Exists left answers memory rose = names_changed why.Exists (λ is. never_some is) answers rose
  names_by why.NoLinks left answers memory rose = names_changed why.NoLinks (λ is. never_some is) answers rose
  names_by why.NotEmpty left answers memory rose = names_changed why.NotEmpty (λ is. never_some is) answers rose
  names_by (why.Short found) left answers memory rose = names_changed (why.Short found) (λ is. never_some is) answers rose
  names_by why.NoMemory left answers memory rose = absurd (memory refl)

  pub unnamed_table : (r : DiskRefusal) (halt : Option Halt) (refusal : StoreError) → AreNotSynced path x.disk seen r
      → HasRisen x.disk seen r.why → halt ≡ halt_of r → refusal ≡ error_of r
      → Refuses 0 refusal (shown_of (record x { frozen = held.Table w }))
      (shown_of (record x { frozen = held.Table w; disk = seen; halt = halt }))
  unnamed_table r halt refusal is counted halts refused =
      let at_is : r.at ≡ halt_at call.SyncNames file_path = is.at ∙ ap (λ (p : List ℕ). halt_at call.SyncNames p) path_is in
      subst (λ (e : StoreError). Refuses 0 e before (shown_of (record x { frozen = held.Table w; disk = seen; halt = halt })))
      (ap (λ (at : Halt). error_by at r.why) (sym at_is) ∙ sym refused)
      (subst (λ (h : Option Halt). Refuses 0 (error_by (halt_at call.SyncNames file_path) r.why) before
      (shown_of (record x { frozen = held.Table w; disk = seen; halt = h })))
      (ap (λ (at : Halt). halt_by at r.why) (sym at_is) ∙ sym halts)
      (names_by r.why is.left is.answer is.memory counted))
