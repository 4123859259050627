-- A flush's table is written on, at each exit.
use Rattle.std.specs.Prelude.{◌≡◌, ◌≢◌, ◌⊎◌, ℕ, ◌≤◌, List, [], ◌∷◌, ◌++◌, take, Option, Some, None, Err, IfSome}
use Rattle.std.proofs.Common.{⊎_elim, inl, inr, refl, sym, ap, subst, ◌∙◌, arith}
use Rattle.std.proofs.lemmas.List.Elements.{All-head, All-cons, All-nil}
use Rattle.std.specs.FinMap as finmap
use Rattle.lsm_io.specs.Causes.{Rose}
use Rattle.lsm_names.specs.FileNames.{IsFileName}
use Rattle.lsm_names.specs.declared.file_names.FileName.TheVariants.{Table}
use Rattle.lsm_disk.specs.State.{Seen, Story, state_of, after, appended}
use Rattle.lsm_disk.specs.Images.{Tree, IsImage, bytes_at, tree_now}
use Rattle.lsm_disk.specs.Refusals.{no_file}
use Rattle.lsm_disk.specs.Dest.{path_in}
use Rattle.lsm_disk.specs.Answers.{Makes, MakesFront, Allowed, AppendsBy, Answers, AnswersBy, RefusesBy, HasRisen, pushed}
use Rattle.lsm_disk.specs.Halts.{halt_at}
use Rattle.lsm_disk.specs.declared.calls.DiskCall.TheVariants as call
use Rattle.lsm_disk.specs.declared.calls.DiskError.{DiskError}
use Rattle.lsm_disk.specs.declared.calls.DiskError.TheVariants as why
use Rattle.lsm_disk.specs.declared.calls.DiskRefusal.{DiskRefusal}
use Rattle.lsm_disk.specs.declared.calls.Halt.{Halt}
use Rattle.lsm_version.specs.Edits.{IsFileNumber}
use Rattle.lsm_model.specs.declared.errors.StoreError.{StoreError}
use Rattle.lsm_model.specs.declared.states.State.{State}
use Rattle.lsm_model.specs.Halting.{IsMet, table_calls}
use Rattle.lsm_refine.specs.Kept.{Unfinished, Shown}
use Rattle.lsm_refine.specs.Beside.{IsLone, WritesAt}
use Rattle.lsm_refine.specs.Good.{IsRunning, Good}
use Rattle.lsm_refine.specs.Grown.{halted_shown, halted_state}
use Rattle.lsm_refine.specs.Moments.{ReadsAsCrashed}
use Rattle.lsm_refine.specs.TableWork.{Work, work_of, working_state, AreWith, WasWritten}
use Rattle.lsm_refine.proofs.FlushSteps.{draws_none, draws_built}
use Rattle.lsm_refine.proofs.OneCall.{call_tells, call_state, call_shows, call_halts}
use Rattle.lsm_refine.proofs.RoomLemmas.{lone_there}
use Rattle.lsm_refine.proofs.TableSteps.{working_crashed, append_writes, append_good, table_reads, table_halts, unfinished_lone}
use Rattle.lsm_refine.proofs.TableWorkLemmas.{noted_good}
use Rattle.lsm_refine.proofs.WritingLemmas.{runs}
use Rattle.lsm_flush.specs.declared.frozen.Held.TheVariants as held
use Rattle.lsm_flush.specs.declared.writing.Ahead.{Ahead}
use Rattle.lsm_flush.specs.Writing.{Written, in_file, given}
use Rattle.lsm_flush.specs.Adding.{HasAdded, HasNotAdded}
use Rattle.lsm_store.specs.Answering.{halt_by, halt_of, error_by, error_of}
use Rattle.lsm_store.specs.FlushParts.{GoesOn, Came, Fails, FindsChanged, Refuses}
use Rattle.lsm_store.specs.Inside.{Inner, IsInside, shown_of}
use Rattle.lsm_store.proofs.Begins.{came_seen}
use Rattle.lsm_store.proofs.Calls.{never_some, same_shows}
use Rattle.lsm_store.proofs.Freezes.{file_number}
use Rattle.lsm_store.proofs.Parting.{drawn_none, refuses_then}

pub number_fits : (n : ℕ) → IsFileNumber n → IsFileName (Table n)
number_fits n is = file_number n is.some (omega (arith, is.most))

module _ (x : Inner) (w : Written) (inside : IsInside (record x { frozen = held.Table w })) (none : x.halt ≡ None) where
  abbrev z : Inner
  z = record x { frozen = held.Table w }

  abbrev v : Shown
  v = shown_of z

  abbrev n : ℕ
  n = w.number

  abbrev here : List ℕ
  here = path_in x.home (Table w.number)

  pub table_fits : IsFileName (Table w.number)
  table_fits = number_fits n inside.flush.table.0

  pub table_fresh : finmap.get x.catalog.version w.number ≡ None
  table_fresh = inside.flush.table.2

  IsOne : List ℕ → Unfinished → Type 0
  IsOne bytes table = (table ≡ record { number = n; bytes = bytes }) ⊎ WasWritten v.kept.unfinished n table

  pub one_with : (bytes more : List ℕ) → more ≡ bytes → AreWith v.kept.unfinished n bytes (record { number = n; bytes = more } ∷ [])
  unfolding IsOne
  one_with bytes more same =
      All-cons (IsOne bytes) (record { number = n; bytes = more }) []
      (inl (ap (λ (b : List ℕ). record { number = n; bytes = b }) same)) (All-nil (IsOne bytes))

  module _ (s : State) (good : Good (shown_of (record x { frozen = held.Table w })) s) where
    abbrev pub run : IsRunning (state_of good.story) v s
    run = runs v s good none

    pub lone : (id : ℕ) × IsLone (state_of good.story) x.home (Table n) id
    lone = unfinished_lone v s good run (record { number = n; bytes = given w }) (0, omega arith, refl) table_fits

    pub table_bytes : bytes_at (tree_now (state_of good.story)) (path_in x.home (Table w.number)) ≡ Some (given w)
    table_bytes = All-head (λ (u : Unfinished). bytes_at (tree_now (state_of good.story)) (path_in x.home (Table u.number)) ≡ Some u.bytes)
        (record { number = n; bytes = given w }) [] run.sane.written.tables

    -- the file, with more bytes
    module _ (more : List ℕ) where
      writes : WritesAt x.home (Table n) (state_of good.story)
          (after (state_of good.story) (appended here more (state_of good.story)))
      writes = append_writes v s good run n table_fits table_fresh lone.0 lone.1 (given w) table_bytes more

      reads : (t : Tree) → IsImage (after (state_of good.story) (appended here more (state_of good.story))) t
          → ReadsAsCrashed s t
      reads t i = table_reads v s good run n table_fits table_fresh
          (after (state_of good.story) (appended here more (state_of good.story))) writes t i

      halts : (seen : Seen) (by : Halt) (story : Story) → seen.told ≡ Some story
          → state_of story ≡ after (state_of good.story) (appended here more (state_of good.story))
          → Good (halted_shown seen by v) (halted_state seen by s.doubtful s)
      halts seen by story told same = table_halts v s good run n table_fits table_fresh
          (after (state_of good.story) (appended here more (state_of good.story))) writes seen by story told same

    pub refused_by : (path : List ℕ) → path ≡ here → (e : DiskError) → Answers {T = Unit {0}} (no_file path) x.disk (Err e)
        → RefusesBy None e
    refused_by path path_is e answers =
        subst (λ (o : Option DiskError). RefusesBy o e)
        (ap (λ (p : List ℕ). no_file p (state_of good.story)) path_is
        ∙ lone_there (state_of good.story) x.home (Table n) lone.0 lone.1)
        (subst (λ (told : Option Story). IfSome told
        (λ story. AnswersBy {T = Unit {0}} (no_file path (state_of story)) (Err e))) good.told answers)

  -- ---- behind it so many rows were taken, and this is ahead

  module _ (taken : ℕ) (ahead : Ahead) (later : in_file w ≤ in_file (record w { taken = taken; ahead = ahead })) where
    abbrev y : Written
    y = record w { taken = taken; ahead = ahead }

    on_with : (seen : Seen) → GoesOn 0 v.kept (shown_of (record z { disk = seen; frozen = held.Table y })).kept
    on_with seen = record {
      rest = refl;
      taken = later;
      table = λ number is. is;
      drawn = record {
        later = omega arith;
        few = omega arith;
        numbers = inl refl;
        still = λ name known. known;
        made = λ name known. inl known;
      };
    }

    -- more bytes are in the file
    pub added_part : (seen : Seen) (path piece : List ℕ) → path ≡ path_in x.home (Table w.number)
        → x.disk.faults ≤ seen.faults → x.disk.refusals ≤ seen.refusals → Makes x.disk.told (appended path piece) seen.told
        → given (record w { taken = taken; ahead = ahead }) ≡ given w ++ piece
        → Came 0 (shown_of (record x { frozen = held.Table w }))
        (shown_of (record x { disk = seen; frozen = held.Table (record w { taken = taken; ahead = ahead }) }))
    added_part seen path piece path_is faults refusals makes bytes =
        let u : Shown = shown_of (record z { disk = seen; frozen = held.Table y }) in
        let made : Makes x.disk.told (appended here piece) seen.told =
        subst (λ (p : List ℕ). Makes x.disk.told (appended p piece) seen.told) path_is makes in
        let p : Work = work_of u.kept in
        record {
          unhalted = none;
          counts = record { dir = refl; faults = faults; refusals = refusals };
          on = on_with seen;
          good = λ s good. record {
            now = working_state seen p s;
            draws = draws_built 0 v s good (run s good) p seen refl (omega arith) (omega arith) faults refusals;
            good = append_good v s good (run s good) n table_fits table_fresh (lone s good).0 (lone s good).1 (given w)
                (table_bytes s good) p refl seen (pushed (appended here piece) good.story)
                (call_tells v s good (appended here piece) (reads s good piece) seen.told made) none piece
                (one_with (given w ++ piece) (given y) bytes)
                (call_state v s good (appended here piece) (reads s good piece));
            crashed = λ t is. working_crashed s seen p t is;
          };
          images = λ s good. call_shows v s good (appended here piece) (reads s good piece) seen.told (inr made) s;
        }

    -- the rows were taken, and aren't in the file
    module _ (bytes : given (record w { taken = taken; ahead = ahead }) ≡ given w) where
      pub inside_taken : IsInside (record x { frozen = held.Table (record w { taken = taken; ahead = ahead }) })
      inside_taken = record {
        path_is = inside.path_is;
        manifest_in = inside.manifest_in;
        manifest_is = inside.manifest_is;
        before = inside.before;
        small = inside.small;
        one = inside.one;
        drawn = inside.drawn;
        most = inside.most;
        below = inside.below;
        fit = inside.fit;
        jobs = inside.jobs;
        flush = record {
          log_number = inside.flush.log_number;
          active_keys = inside.flush.active_keys;
          frozen_keys = inside.flush.frozen_keys;
          below = inside.flush.below;
          table = inside.flush.table;
        };
      }

      pub taken_part : Came 0 (shown_of (record x { frozen = held.Table w }))
          (shown_of (record x { frozen = held.Table (record w { taken = taken; ahead = ahead }) }))
      taken_part =
          let u : Shown = shown_of (record z { frozen = held.Table y }) in
          let p : Work = work_of u.kept in
          record {
            unhalted = none;
            counts = record { dir = refl; faults = omega arith; refusals = omega arith };
            on = on_with x.disk;
            good = λ s good. record {
              now = working_state x.disk p s;
              draws = draws_built 0 v s good (run s good) p x.disk refl (omega arith) (omega arith) (omega arith) (omega arith);
              good = noted_good v s good (run s good) n table_fits table_fresh p refl
                  (ap (λ (b : List ℕ). record { number = n; bytes = b } ∷ []) bytes) x.disk good.story good.told none refl;
              crashed = λ t is. working_crashed s x.disk p t is;
            };
            images = λ s good. same_shows v s s good x.disk.told refl;
          }

-- ---- the disk refuses the append

module _ (x : Inner) (w : Written) (inside : IsInside (record x { frozen = held.Table w })) (none : x.halt ≡ None) (seen : Seen)
    (path : List ℕ) (path_is : path ≡ path_in x.home (Table w.number)) (faults : x.disk.faults ≤ seen.faults)
    (refusals : x.disk.refusals ≤ seen.refusals) (piece : List ℕ) where
  abbrev before : Shown
  before = shown_of (record x { frozen = held.Table w })

  abbrev appends_at : Halt
  appends_at = halt_at call.Append (path_in x.home (Table w.number))

  abbrev halted : Shown
  halted = shown_of (record x { frozen = held.Table w; disk = seen; halt = Some appends_at })

  met : IsMet x.home appends_at table_calls
  met = inr (inl (refl, (w.number, refl)))

  same : GoesOn 0 before.kept before.kept
  same = record { rest = refl; taken = omega arith; table = λ number is. is; drawn = drawn_none before.kept }

  -- what a fault has left: nothing, or a front of the bytes
  abbrev FrontMade : Type 0
  FrontMade = (count : ℕ) × Makes x.disk.told (appended (path_in x.home (Table w.number)) (take count piece)) seen.told

  failed : Rose x.disk.faults seen.faults → (count : ℕ)
      → (seen.told ≡ x.disk.told) ⊎ Makes x.disk.told (appended (path_in x.home (Table w.number)) (take count piece)) seen.told
      → Fails 0 before halted
  failed rose count left = record {
    at = appends_at;
    halt = refl;
    met = met;
    rose = rose;
    counts = record { dir = refl; faults = faults; refusals = refusals };
    on = same;
    good = λ s good. record {
      now = s;
      draws = draws_none s good.counted.durable;
      faults = omega (arith, good.counts.faults, faults);
      refusals = omega (arith, good.counts.refusals, refusals);
      good = call_halts before s good (appended (path_in x.home (Table w.number)) (take count piece))
          (reads x w inside none s good (take count piece)) none (halts x w inside none s good (take count piece)) seen appends_at
          left;
    };
    images = λ s good. call_shows before s good (appended (path_in x.home (Table w.number)) (take count piece))
        (reads x w inside none s good (take count piece)) seen.told left s;
  }

  fronts : (seen.told ≡ x.disk.told) ⊎ (Allowed (no_file path) x.disk.told × MakesFront path piece x.disk.told seen.told)
      → Rose x.disk.faults seen.faults → Fails 0 before halted
  fronts left rose = ⊎_elim
      (λ stays. failed rose 0 (inl stays))
      (λ made. failed rose made.1.0 (inr (subst (λ (p : List ℕ). Makes x.disk.told (appended p (take made.1.0 piece)) seen.told)
      path_is made.1.1)))
      left

  changed : (e : DiskError) → (RefusesBy None e → ⊥) → Answers {T = Unit {0}} (no_file path) x.disk (Err e)
      → Rose x.disk.refusals seen.refusals → FindsChanged 0 call.Append (path_in x.home (Table w.number)) before halted
  changed e never answers rose = record {
    halt = refl;
    met = met;
    other = append_differs;
    rose = rose;
    counts = record { dir = refl; faults = faults; refusals = refusals };
    on = same;
    never = λ s good. never (refused_by x w inside none s good path path_is e answers);
  }
    where
      append_differs : call.Append ≢ call.RemoveFolder
      append_differs clash = cc

  pub unadded : (e : DiskError) → AppendsBy {T = Unit {0}} path piece x.disk.told seen.told (Err e)
      → Answers {T = Unit {0}} (no_file path) x.disk (Err e) → HasRisen x.disk seen e
      → Refuses 0 (error_by (halt_at call.Append (path_in x.home (Table w.number))) e)
      (shown_of (record x { frozen = held.Table w }))
      (shown_of (record x {
        frozen = held.Table w;
        disk = seen;
        halt = halt_by (halt_at call.Append (path_in x.home (Table w.number))) e;
      }))
  unfolding Refuses
  unadded why.Fault left answers rose = fronts left rose
  unadded why.NotThere left answers rose = changed why.NotThere (λ is. never_some is) answers rose
  unadded why.Exists left answers rose = changed why.Exists (λ is. never_some is) answers rose
  unadded why.NoLinks left answers rose = changed why.NoLinks (λ is. never_some is) answers rose
  unadded why.NotEmpty left answers rose = changed why.NotEmpty (λ is. never_some is) answers rose
  unadded (why.Short found) left answers rose = changed (why.Short found) (λ is. never_some is) answers rose
  unadded why.NoMemory left answers rose =
      subst (λ (h : Option Halt). Came 0 before (shown_of (record x { frozen = held.Table w; disk = seen; halt = h }))) none
      (came_seen (record x { frozen = held.Table w }) inside none w.number (table_fits x w inside none)
      (table_fresh x w inside none) seen left faults refusals)

-- ---- both exits of a writing

module _ (x : Inner) (w : Written) (inside : IsInside (record x { frozen = held.Table w })) (none : x.halt ≡ None) (seen : Seen)
    (path : List ℕ) (path_is : path ≡ path_in x.home (Table w.number)) (faults : x.disk.faults ≤ seen.faults)
    (refusals : x.disk.refusals ≤ seen.refusals) (y : Written) where
  pub added_table : HasAdded path x.disk seen w y → Came 0 (shown_of (record x { frozen = held.Table w }))
      (shown_of (record x { disk = seen; frozen = held.Table y }))
  added_table is =
      let now : Written = record w { taken = y.taken; ahead = y.ahead } in
      subst (λ (u : Written). Came 0 (shown_of (record x { frozen = held.Table w }))
      (shown_of (record x { disk = seen; frozen = held.Table u }))) (sym is.same)
      (added_part x w inside none y.taken y.ahead (subst (λ (u : Written). in_file w ≤ in_file u) is.same is.later) seen path
      is.piece path_is faults refusals is.made (subst (λ (u : Written). given u ≡ given w ++ is.piece) is.same is.bytes))

  pub unadded_table : (r : DiskRefusal) (halt : Option Halt) (refusal : StoreError) → HasNotAdded path x.disk seen w y r
      → HasRisen x.disk seen r.why → halt ≡ halt_of r → refusal ≡ error_of r
      → Refuses 0 refusal (shown_of (record x { frozen = held.Table w }))
      (shown_of (record x { disk = seen; frozen = held.Table y; halt = halt }))
  unadded_table r halt refusal is counted halts refused =
      let now : Written = record w { taken = y.taken; ahead = y.ahead } in
      let later : in_file w ≤ in_file now = subst (λ (u : Written). in_file w ≤ in_file u) is.same is.later in
      let bytes : given now ≡ given w = subst (λ (u : Written). given u ≡ given w) is.same is.bytes in
      let at_is : r.at ≡ halt_at call.Append (path_in x.home (Table w.number)) =
      is.at ∙ ap (λ (p : List ℕ). halt_at call.Append p) path_is in
      subst (λ (u : Written). Refuses 0 refusal (shown_of (record x { frozen = held.Table w }))
      (shown_of (record x { disk = seen; frozen = held.Table u; halt = halt }))) (sym is.same)
      (subst (λ (e : StoreError). Refuses 0 e (shown_of (record x { frozen = held.Table w }))
      (shown_of (record x { disk = seen; frozen = held.Table now; halt = halt }))) (sym refused)
      (subst (λ (h : Option Halt). Refuses 0 (error_of r) (shown_of (record x { frozen = held.Table w }))
      (shown_of (record x { disk = seen; frozen = held.Table now; halt = h }))) (sym halts)
      (subst (λ (at : Halt). Refuses 0 (error_by at r.why) (shown_of (record x { frozen = held.Table w }))
      (shown_of (record x { disk = seen; frozen = held.Table now; halt = halt_by at r.why }))) (sym at_is)
      (refuses_then 0 0 (shown_of (record x { frozen = held.Table w })) (shown_of (record x { frozen = held.Table now }))
      (shown_of (record x {
        disk = seen;
        frozen = held.Table now;
        halt = halt_by (halt_at call.Append (path_in x.home (Table w.number))) r.why;
      })) (taken_part x w inside none y.taken y.ahead later bytes)
      (error_by (halt_at call.Append (path_in x.home (Table w.number))) r.why)
      (unadded x now (inside_taken x w inside none y.taken y.ahead later bytes) none seen path path_is faults refusals is.piece
      r.why is.left is.answer counted)))))
