-- A flush's table is begun, at each exit.
use Rattle.std.specs.Prelude.{◌≡◌, ◌≢◌, ◌⊎◌, ℕ, ◌+◌, ◌-◌, ◌^◌, ◌<◌, ◌≤◌, is_some, List, [], ◌∷◌, ◌++◌, Contains, Option, Some, None, Err, IfSome}
use Rattle.std.proofs.Common.{⊎_elim, inl, inr, refl, sym, ap, subst, ◌∙◌, arith}
use Rattle.std.proofs.lemmas.List.Elements.{All-cons, All-nil, Contains-append_left, Contains-push_cases}
use Rattle.std.specs.FinMap as finmap
use Rattle.lsm_io.specs.Causes.{Rose}
use Rattle.lsm_names.specs.FileNames.{IsFileName}
use Rattle.lsm_names.specs.declared.file_names.FileName.{FileName}
use Rattle.lsm_names.specs.declared.file_names.FileName.TheVariants.{Table}
use Rattle.lsm_rows.specs.declared.rows.Row.{Row}
use Rattle.lsm_disk.specs.State.{Seen, Story, state_of, after, created}
use Rattle.lsm_disk.specs.Images.{Tree, IsImage}
use Rattle.lsm_disk.specs.Refusals.{no_room}
use Rattle.lsm_disk.specs.Tree.{TellsLawful, IsLawful}
use Rattle.lsm_disk.specs.Dest.{path_in}
use Rattle.lsm_disk.specs.Answers.{Makes, Allowed, LeftBy, Answers, AnswersBy, RefusesBy, HasRisen, pushed}
use Rattle.lsm_disk.specs.Halts.{halt_at}
use Rattle.lsm_disk.specs.declared.calls.DiskCall.TheVariants as call
use Rattle.lsm_disk.specs.declared.calls.DiskError.{DiskError}
use Rattle.lsm_disk.specs.declared.calls.DiskError.TheVariants as why
use Rattle.lsm_disk.specs.declared.calls.DiskRefusal.{DiskRefusal}
use Rattle.lsm_disk.specs.declared.calls.Halt.{Halt}
use Rattle.lsm_version.specs.declared.tables.Placed.{Placed}
use Rattle.lsm_memtable.specs.Newest.{newest_each}
use Rattle.lsm_memtable.specs.Flushes.{bytes_of}
use Rattle.lsm_memtable.proofs.Progresses.{bytes_none}
use Rattle.lsm_model.specs.declared.errors.StoreError.{StoreError}
use Rattle.lsm_model.specs.declared.errors.StoreError.TheVariants as error
use Rattle.lsm_model.specs.declared.states.State.{State}
use Rattle.lsm_model.specs.Halting.{IsMet, table_calls}
use Rattle.lsm_refine.specs.Kept.{Unfinished, Shown}
use Rattle.lsm_refine.specs.Good.{IsRunning, Good}
use Rattle.lsm_refine.specs.Moments.{ReadsAsCrashed}
use Rattle.lsm_refine.specs.TableWork.{Work, work_of, working_state, AreWith, WasWritten}
use Rattle.lsm_refine.specs.Caused.{flush_number, number_or, IsMade, HasDrawn}
use Rattle.lsm_refine.proofs.DrawnLemmas.{table_unknown}
use Rattle.lsm_refine.proofs.FlushSteps.{draws_none, draws_more, draws_built}
use Rattle.lsm_refine.proofs.OneCall.{call_tells, call_state, call_shows, call_halts}
use Rattle.lsm_refine.proofs.RoomLemmas.{file_room}
use Rattle.lsm_refine.proofs.TableSteps.{working_crashed, created_good, created_reads, created_halts}
use Rattle.lsm_refine.proofs.TableWorkLemmas.{noted_good, table_free}
use Rattle.lsm_refine.proofs.WritingLemmas.{runs}
use Rattle.lsm_flush.specs.declared.frozen.Held.{Held}
use Rattle.lsm_flush.specs.declared.frozen.Held.TheVariants as held
use Rattle.lsm_flush.specs.Frozen.{rows_of, number_of}
use Rattle.lsm_flush.specs.Writing.{begun}
use Rattle.lsm_store.specs.Answering.{halt_by, halt_of, error_by, error_of}
use Rattle.lsm_store.specs.FlushParts.{HasNumber, GoesOn, ComesTo, Came, Fails, FindsChanged, Refuses}
use Rattle.lsm_store.specs.Inside.{Inner, IsInside, flushing_of, shown_of}
use Rattle.lsm_store.specs.Making.{IsNotMade}
use Rattle.lsm_store.proofs.Calls.{never_some, same_shows}
use Rattle.lsm_store.proofs.Freezes.{file_number, also_pushed}
use Rattle.lsm_store.proofs.Parting.{drawn_none, came_none, came_wider, on_wider}

-- ---- what is begun

pub no_number : (o : Option ℕ) → ((n : ℕ) → o ≡ Some n → ⊥) → o ≡ None
no_number None never = refl
no_number (Some n) never = absurd (never n refl)

-- no table is begun: the rows are held as they are
pub idle_rows : (h : Held) → number_of h ≡ None → h ≡ held.Rows (rows_of h)
idle_rows (held.Rows rows) none = refl
idle_rows (held.Table w) none = let clash : Some w.number ≡ None = none in absurd (cc)

pub table_begun : (h : Held) (n : ℕ) → number_of h ≡ Some n → (flushing_of h).table ≡ Some n
table_begun (held.Rows rows) n is = let clash : None ≡ Some n = is in absurd (cc)
table_begun (held.Table w) n is = is

begun_draws : (h : Held) (n : ℕ) → number_of h ≡ Some n → flush_number (flushing_of h) ≡ 0
begun_draws (held.Rows rows) n is = let clash : None ≡ Some n = is in absurd (cc)
begun_draws (held.Table w) n is = refl

-- the table that was begun keeps its number
pub number_before : (x : Inner) (n : ℕ) → number_of x.frozen ≡ Some n → HasNumber (shown_of x).kept (shown_of x).kept
number_before x n is =
    let begun_is : (flushing_of x.frozen).table ≡ Some n = table_begun x.frozen n is in record {
      table = begun_is ∙ ap (λ (o : Option ℕ). Some (number_or x.next o)) (sym begun_is);
      next = omega (arith, begun_draws x.frozen n is);
    }

-- nothing is live under the next number
pub next_free : (x : Inner) → IsInside x → finmap.get x.catalog.version x.next ≡ None
next_free x inside = by (finmap.get x.catalog.version x.next) refl
  where
    by : (o : Option Placed) → finmap.get x.catalog.version x.next ≡ o → o ≡ None
    by None is = refl
    by (Some placed) is = let less : x.next < x.next = inside.flush.below x.next (ap is_some is) in absurd (omega (arith, less))

module _ (x : Inner) (inside : IsInside x) (none : x.halt ≡ None) where
  -- ---- nothing is done

  pub begun_before : (n : ℕ) → number_of x.frozen ≡ Some n → Came (flush_number (flushing_of x.frozen)) (shown_of x) (shown_of x)
  begun_before n is = subst (λ (k : ℕ). Came k (shown_of x) (shown_of x)) (sym (begun_draws x.frozen n is)) (came_none (shown_of x) none)

  -- the counts alone have changed
  module _ (n : ℕ) (fits : IsFileName (Table n)) (fresh : finmap.get x.catalog.version n ≡ None) where
    pub came_seen : (seen : Seen) → seen.told ≡ x.disk.told → x.disk.faults ≤ seen.faults → x.disk.refusals ≤ seen.refusals
        → Came 0 (shown_of x) (shown_of (record x { disk = seen }))
    came_seen seen told faults refusals = record {
      unhalted = none;
      counts = record { dir = refl; faults = faults; refusals = refusals };
      on = record { rest = refl; taken = omega arith; table = λ number is. is; drawn = drawn_none (shown_of x).kept };
      good = λ s good.
          let run : IsRunning (state_of good.story) (shown_of x) s = runs (shown_of x) s good none in
          let p : Work = work_of (shown_of x).kept in
          record {
            now = working_state seen p s;
            draws = draws_built 0 (shown_of x) s good run p seen refl (omega arith) (omega arith) faults refusals;
            good = noted_good (shown_of x) s good run n fits fresh p refl refl seen good.story (told ∙ good.told) none refl;
            crashed = λ t is. working_crashed s seen p t is;
          };
      images = λ s good. same_shows (shown_of x) s s good seen.told told;
    }

-- ---- no table is begun

module _ (x : Inner) (rows : List Row) (inside : IsInside (record x { frozen = held.Rows rows })) (none : x.halt ≡ None) where
  abbrev z : Inner
  z = record x { frozen = held.Rows rows }

  abbrev v : Shown
  v = shown_of z

  pub full_begin : 2 ^ 56 - 1 ≤ x.next → Refuses 1 (error.NumbersFull x.next) (shown_of (record x { frozen = held.Rows rows }))
      (shown_of (record x { frozen = held.Rows rows }))
  unfolding Refuses
  full_begin full = (came_wider 0 1 v v (omega arith) (came_none v none), refl, full, omega arith)

  module _ (small : x.next < 2 ^ 56 - 1) where
    abbrev n : ℕ
    n = x.next

    fits : IsFileName (Table x.next)
    fits = file_number x.next inside.drawn small

    fresh : finmap.get x.catalog.version x.next ≡ None
    fresh = next_free z inside

    free : ¬ Contains v.kept.known (Table x.next)
    free = table_unknown v.kept x.next inside.below

    pub wanting_begin : (known : List FileName) → known ≡ x.known → Refuses 1 error.NoMemory
        (shown_of (record x { frozen = held.Rows rows })) (shown_of (record x { frozen = held.Rows rows; known = known }))
    unfolding Refuses
    wanting_begin known same =
        subst (λ (names : List FileName). Came 1 v (shown_of (record z { known = names }))) (sym same)
        (came_wider 0 1 v v (omega arith) (came_none v none))

    -- ---- the file's making

    module _ (seen : Seen) (path : List ℕ) (path_is : path ≡ path_in x.home (Table x.next))
        (faults : x.disk.faults ≤ seen.faults) (refusals : x.disk.refusals ≤ seen.refusals) (tells_lawful : TellsLawful x.disk)
      where
        abbrev here : List ℕ
        here = path_in x.home (Table x.next)

        module _ (s : State) (good : Good (shown_of (record x { frozen = held.Rows rows })) s) where
          abbrev run : IsRunning (state_of good.story) v s
          run = runs v s good none

          lawful : IsLawful (state_of good.story)
          lawful = subst (λ (o : Option Story). IfSome o (λ told. IsLawful (state_of told))) good.told tells_lawful

          reads : (t : Tree) → IsImage (after (state_of good.story) (created here (state_of good.story))) t → ReadsAsCrashed s t
          reads t i = created_reads v s good run n fits fresh lawful free t i

          room : no_room here (state_of good.story) ≡ None
          room = file_room (state_of good.story) x.home v.kept run.sane.current (Table n) fits
              (table_free v s good run n fits fresh free)

          refused_by : (e : DiskError) → Answers {T = Unit {0}} (no_room path) x.disk (Err e) → RefusesBy None e
          refused_by e answers =
              subst (λ (o : Option DiskError). RefusesBy o e) (ap (λ (p : List ℕ). no_room p (state_of good.story)) path_is ∙ room)
              (subst (λ (told : Option Story). IfSome told
              (λ story. AnswersBy {T = Unit {0}} (no_room path (state_of story)) (Err e))) good.told answers)

        -- the file was made
        module _ (makes : Makes x.disk.told (created path) seen.told) (session : List ℕ) where
          abbrev w : Shown
          w = shown_of (record z {
            disk = seen;
            frozen = held.Table (begun rows n session);
            next = n + 1;
            known = x.known ++ Table n ∷ [];
          })

          made_here : Makes x.disk.told (created here) seen.told
          made_here = subst (λ (p : List ℕ). Makes x.disk.told (created p) seen.told) path_is makes

          drawn : HasDrawn 1 v.kept w.kept
          drawn = record {
            later = omega arith;
            few = omega arith;
            numbers = inr (omega (arith, small));
            still = λ name known. Contains-append_left x.known (Table n ∷ []) name known;
            made = λ name known. ⊎_elim
                (λ before. inl before)
                (λ same. inr (subst (λ (f : FileName). IsMade v.kept w.kept f) same
                (record { drawn = omega arith; since = inl (omega arith) })))
                (Contains-push_cases x.known (Table n) name known);
          }

          are_with : AreWith [] n [] w.kept.unfinished
          are_with = All-cons (λ (table : Unfinished). (table ≡ record { number = n; bytes = [] }) ⊎ WasWritten [] n table)
              (record { number = n; bytes = bytes_of (newest_each rows) 0 }) []
              (inl (ap (λ (b : List ℕ). record { number = n; bytes = b }) (bytes_none (newest_each rows))))
              (All-nil (λ (table : Unfinished). (table ≡ record { number = n; bytes = [] }) ⊎ WasWritten [] n table))

          made_good : (s : State) → Good v s → ComesTo 1 s w
          made_good s good =
              let p : Work = work_of w.kept in
              let story : Story = pushed (created here) good.story in
              record {
                now = working_state seen p s;
                draws = draws_built 1 v s good (run s good) p seen refl (omega arith) (omega arith) faults refusals;
                good = created_good v s good (run s good) n fits fresh (lawful s good) free p (also_pushed (Table n) x.known)
                    are_with seen story
                    (call_tells v s good (created here) (reads s good) seen.told made_here) none
                    (call_state v s good (created here) (reads s good));
                crashed = λ t is. working_crashed s seen p t is;
              }

          ok_part : Came 1 v w
          ok_part = record {
            unhalted = none;
            counts = record { dir = refl; faults = faults; refusals = refusals };
            on = record { rest = refl; taken = omega arith; table = λ number is. absurd (cc); drawn = drawn };
            good = made_good;
            images = λ s good. call_shows v s good (created here) (reads s good) seen.told (inr made_here) s;
          }

        pub ok_begin : Makes x.disk.told (created path) seen.told → (known : List FileName) → known ≡ x.known ++ Table x.next ∷ []
            → (session : List ℕ) (h : Held) → h ≡ held.Table (begun rows x.next session)
            → Came 1 (shown_of (record x { frozen = held.Rows rows }))
            (shown_of (record x { disk = seen; frozen = h; next = x.next + 1; known = known }))
        ok_begin makes known known_is session h held_is =
            subst (λ (l : Held). Came 1 v (shown_of (record x { disk = seen; frozen = l; next = n + 1; known = known }))) (sym held_is)
            (subst (λ (names : List FileName). Came 1 v (shown_of (record x {
              disk = seen;
              frozen = held.Table (begun rows n session);
              next = n + 1;
              known = names;
            }))) (sym known_is) (ok_part makes session))

        -- it wasn't
        module _ (r : DiskRefusal) (at : IsNotMade path x.disk seen r) (counted : HasRisen x.disk seen r.why) where
          abbrev makes_at : Halt
          makes_at = halt_at call.Create here

          at_is : r.at ≡ makes_at
          at_is = at.at ∙ ap (λ (p : List ℕ). halt_at call.Create p) path_is

          met : IsMet v.dir makes_at table_calls
          met = inl (refl, (n, refl))

          same : GoesOn 1 v.kept v.kept
          same = on_wider 0 1 v.kept v.kept (omega arith)
              (record { rest = refl; taken = omega arith; table = λ number is. is; drawn = drawn_none v.kept })

          lefts : LeftBy (seen.told ≡ x.disk.told) (Allowed (no_room path) x.disk.told × Makes x.disk.told (created path) seen.told)
              why.Fault → (seen.told ≡ x.disk.told) ⊎ Makes x.disk.told (created here) seen.told
          lefts left = ⊎_elim (λ stays. inl stays)
              (λ made. inr (subst (λ (p : List ℕ). Makes x.disk.told (created p) seen.told) path_is made.1)) left

          abbrev halted : Shown
          halted = shown_of (record z { disk = seen; halt = Some makes_at })

          failed : Rose x.disk.faults seen.faults
              → LeftBy (seen.told ≡ x.disk.told) (Allowed (no_room path) x.disk.told × Makes x.disk.told (created path) seen.told)
              why.Fault → Fails 1 v halted
          failed rose left = record {
            at = makes_at;
            halt = refl;
            met = met;
            rose = rose;
            counts = record { dir = refl; faults = faults; refusals = refusals };
            on = same;
            good = λ s good. record {
              now = s;
              draws = draws_more 0 1 s s (omega arith) (draws_none s good.counted.durable);
              faults = omega (arith, good.counts.faults, faults);
              refusals = omega (arith, good.counts.refusals, refusals);
              good = call_halts v s good (created here) (reads s good) none
                  (created_halts v s good (run s good) n fits fresh (lawful s good) free) seen makes_at (lefts left);
            };
            images = λ s good. call_shows v s good (created here) (reads s good) seen.told (lefts left) s;
          }

          changed : (e : DiskError) → (RefusesBy None e → ⊥) → Answers {T = Unit {0}} (no_room path) x.disk (Err e)
              → Rose x.disk.refusals seen.refusals → FindsChanged 1 call.Create here v halted
          changed e never answers rose = record {
            halt = refl;
            met = met;
            other = create_differs;
            rose = rose;
            counts = record { dir = refl; faults = faults; refusals = refusals };
            on = same;
            never = λ s good. never (refused_by s good e answers);
          }
            where
              create_differs : call.Create ≢ call.RemoveFolder
              create_differs clash = cc

          abbrev Refused : DiskError → Type 0
          Refused e = Refuses 1 (error_by makes_at e) v (shown_of (record z { disk = seen; halt = halt_by makes_at e }))

          by_why : (e : DiskError)
              → LeftBy (seen.told ≡ x.disk.told) (Allowed (no_room path) x.disk.told × Makes x.disk.told (created path) seen.told) e
              → Answers {T = Unit {0}} (no_room path) x.disk (Err e) → HasRisen x.disk seen e → Refused e
          unfolding Refuses
          by_why why.Fault left answers rose = failed rose left
          by_why why.NotThere left answers rose = changed why.NotThere (λ is. never_some is) answers rose
          by_why why.Exists left answers rose = changed why.Exists (λ is. never_some is) answers rose
          by_why why.NoLinks left answers rose = changed why.NoLinks (λ is. never_some is) answers rose
          by_why why.NotEmpty left answers rose = changed why.NotEmpty (λ is. never_some is) answers rose
          by_why (why.Short found) left answers rose = changed (why.Short found) (λ is. never_some is) answers rose
          by_why why.NoMemory left answers rose =
              subst (λ (h : Option Halt). Came 1 v (shown_of (record z { disk = seen; halt = h }))) none
              (came_wider 0 1 v (shown_of (record z { disk = seen })) (omega arith)
              (came_seen z inside none n fits fresh seen left faults refusals))

          pub unmade_begin : (halt : Option Halt) (known : List FileName) (refusal : StoreError) → halt ≡ halt_of r → known ≡ x.known
              → refusal ≡ error_of r → Refuses 1 refusal (shown_of (record x { frozen = held.Rows rows }))
              (shown_of (record x { frozen = held.Rows rows; disk = seen; known = known; halt = halt }))
          unmade_begin halt known refusal halts same_known is =
              subst (λ (e : StoreError). Refuses 1 e v (shown_of (record z { disk = seen; known = known; halt = halt }))) (sym is)
              (subst (λ (h : Option Halt). Refuses 1 (error_of r) v (shown_of (record z { disk = seen; known = known; halt = h })))
              (sym halts)
              (subst (λ (names : List FileName). Refuses 1 (error_of r) v
              (shown_of (record z { disk = seen; known = names; halt = halt_of r }))) (sym same_known)
              (subst (λ (at : Halt). Refuses 1 (error_by at r.why) v (shown_of (record z { disk = seen; halt = halt_by at r.why })))
              (sym at_is) (by_why r.why at.left at.answer counted))))
