-- A cut that flushes nothing, at each exit: the store's answer is a step of the abstract store, and the store is good behind it.
use Rattle.std.specs.Prelude.{◌≡◌, ℕ, suc, ◌+◌, ◌<◌, ◌≤◌, Bool, true, false, nat_le, List, [], ◌∷◌, ◌++◌, map, length, All, Contains, Option, Some, None, option_map, Result, Ok, Err}
use Rattle.std.specs.List.{flat_map, IsDistinct}
use Rattle.std.specs.Str.{bytes_eq}
use Rattle.std.proofs.Common.{⊎_elim, inl, inr, refl, sym, ap, subst, ◌∙◌, arith}
use Rattle.std.proofs.lemmas.Bool.Decides.{nat_tests}
use Rattle.std.proofs.lemmas.Grind.{flat_map-append}
use Rattle.std.proofs.lemmas.List.{append-nil, take_all}
use Rattle.std.proofs.lemmas.List.Elements.{All-push, All-contains, All-weaker, Contains-append_cases}
use Rattle.lsm_names.specs.declared.file_names.FileName.{FileName}
use Rattle.lsm_rows.specs.declared.operations.Op.{Op}
use Rattle.lsm_rows.specs.Replay.{sequence_after}
use Rattle.lsm_disk.specs.State as disk
use Rattle.lsm_disk.specs.State.{state_of}
use Rattle.lsm_disk.specs.declared.calls.Halt.{Halt}
use Rattle.lsm_model.specs.declared.cuts.Cut.{Cut}
use Rattle.lsm_model.specs.declared.cuts.CutFile.{CutFile}
use Rattle.lsm_model.specs.declared.cuts.FlushRule.{FlushRule}
use Rattle.lsm_model.specs.declared.cuts.FlushRule.TheVariants.{Never, Always, AtLeast}
use Rattle.lsm_model.specs.declared.errors.StoreError.{StoreError}
use Rattle.lsm_model.specs.declared.errors.StoreError.TheVariants as error
use Rattle.lsm_model.specs.declared.events.Event.TheVariants as event
use Rattle.lsm_model.specs.declared.replies.Reply.TheVariants as reply
use Rattle.lsm_model.specs.declared.states.Holder.TheVariants.{Caller}
use Rattle.lsm_model.specs.declared.states.State.{State}
use Rattle.lsm_model.specs.declared.states.Pin.{Pin}
use Rattle.lsm_model.specs.Answers.{Done, Wanting, Refused, Usual, does_flush, MayFlush}
use Rattle.lsm_model.specs.Causes.{first_of, refused_if, halted, pins_full}
use Rattle.lsm_model.specs.Counts.{IsCounted}
use Rattle.lsm_model.specs.Moves.{Becomes}
use Rattle.lsm_model.specs.Pins.{CutsAt, FreeOfLogs, IsCut, Cuts, new_pin, pinned}
use Rattle.lsm_model.specs.Steps.{Step}
use Rattle.lsm_refine.specs.Kept.{KeptPin, Shown}
use Rattle.lsm_refine.specs.Sane.{IsNeeded, names_held}
use Rattle.lsm_refine.specs.Pins.{ArePins, IsKeptPin, PinFiles, BuildsJob, JobsBuild, dir_of}
use Rattle.lsm_refine.specs.Good.{IsRunning, Good, IsUnchanged, with_counts}
use Rattle.lsm_refine.specs.Calls.{ListsNeeded, cut_shown, kept_pin, state_with_pins}
use Rattle.lsm_refine.specs.Caused.{flushes}
use Rattle.lsm_refine.proofs.PinnedLemmas.{pins_alike}
use Rattle.lsm_refine.proofs.RemovedLemmas.{mapped_names}
use Rattle.lsm_refine.proofs.RepinnedLemmas.{AreHeldQuiet, repinned_good}
use Rattle.lsm_refine.proofs.UnchangedLemmas.{unchanged_good}
use Rattle.lsm_refine.proofs.WriteSteps.{Steps}

cut_step : (s t : State) (rule : FlushRule) (r : Result Cut StoreError) → Cuts s rule r t → Step s (event.Cut rule) (reply.Cut r) t
unfolding Step
cut_step s t rule r step = step

-- ---- a pin more

-- one pin more that fits
pins_push : (Fits : KeptPin → Pin → Type 0) (kept : List KeptPin) (pins : List Pin) (k : KeptPin) (pin : Pin)
    → ArePins Fits kept pins → Fits k pin
    → ArePins Fits (kept ++ k ∷ []) (pins ++ pin ∷ [])
pins_push Fits [] [] k pin are fits = (fits, tt)
pins_push Fits [] (p ∷ pins) k pin are fits = absurd are
pins_push Fits (l ∷ kept) [] k pin are fits = absurd are
pins_push Fits (l ∷ kept) (p ∷ pins) k pin are fits = (are.0, pins_push Fits kept pins k pin are.1 fits)

same_count : (Fits : KeptPin → Pin → Type 0) (kept : List KeptPin) (pins : List Pin) → ArePins Fits kept pins → length pins ≡ length kept
same_count Fits [] [] are = refl
same_count Fits [] (p ∷ pins) are = absurd are
same_count Fits (l ∷ kept) [] are = absurd are
same_count Fits (l ∷ kept) (p ∷ pins) are = ap suc (same_count Fits kept pins are.1)

-- one without a checkpoint builds no folder more
same_dirs : (kept : List KeptPin) (k : KeptPin) → k.job ≡ None
    → flat_map (λ (pin : KeptPin). dir_of pin.job) (kept ++ k ∷ []) ≡ flat_map (λ (pin : KeptPin). dir_of pin.job) kept
same_dirs kept k none =
    let dirs : KeptPin → List (List ℕ) = λ pin. dir_of pin.job in
    flat_map-append dirs kept (k ∷ []) ∙ ap (λ job. flat_map dirs kept ++ (dir_of job ++ [])) none ∙ append-nil (flat_map dirs kept)

-- ---- what the store knows

test_full : (n : ℕ) → 64 ≤ n → nat_le 64 n ≡ true
test_full n large = grind (arith, nat_tests)

test_room : (n : ℕ) → n < 64 → nat_le 64 n ≡ false
test_room n small = grind (arith, nat_tests)

pub cut_halted : (v : Shown) (s : State) (good : Good v s) (rule : FlushRule) (first : Halt) → v.halt ≡ Some first
    → Steps s (event.Cut rule) (reply.Cut (Err (error.Halted first))) v
cut_halted v s good rule first is = (
  s,
  cut_step s s rule (Err (error.Halted first)) (Usual (Refused (error.Halted first) refl
      (ap (λ (h : Option Halt). first_of (option_map error.Halted h ∷ pins_full s ∷ [])) (sym good.kept.halt ∙ is)) refl)),
  good,
)

-- a rule flushes what is in memory where it does so in the state
pub flushes_same : (v : Shown) (s : State) (good : Good v s) → IsRunning (state_of good.story) v s → (rule : FlushRule)
    → does_flush rule s ≡ flushes rule v.kept
flushes_same v s good run Never = refl
flushes_same v s good run Always = refl
flushes_same v s good run (AtLeast bytes) = λ j. nat_le bytes (run.works.frozen_len j + run.works.active_len j)

module _ (v : Shown) (s : State) (good : Good v s) (none : v.halt ≡ None) where
  abbrev d : disk.State
  d = state_of good.story

  known_by : (b : Bool) → nat_le 64 (length s.pins) ≡ b → first_of (halted s ∷ pins_full s ∷ [])
      ≡ first_of (None ∷ refused_if b (error.PinsFull (length s.pins)) ∷ [])
  known_by b is =
      ap (λ (h : Option Halt). first_of (option_map error.Halted h ∷ pins_full s ∷ [])) (sym good.kept.halt ∙ none)
      ∙ ap (λ (test : Bool). first_of (None ∷ refused_if test (error.PinsFull (length s.pins)) ∷ [])) is

  count : length s.pins ≡ length v.kept.pins
  count = same_count (IsKeptPin s) v.kept.pins s.pins good.pinned.pins

  -- as many pins live as may
  pub cut_full : (rule : FlushRule) → 64 ≤ length v.kept.pins
      → Steps s (event.Cut rule) (reply.Cut (Err (error.PinsFull (length v.kept.pins)))) v
  cut_full rule full =
      subst (λ (n : ℕ). Steps s (event.Cut rule) (reply.Cut (Err (error.PinsFull n))) v) count (
        s,
        cut_step s s rule (Err (error.PinsFull (length s.pins)))
            (Usual (Refused (error.PinsFull (length s.pins)) refl
            (known_by true (test_full (length s.pins) (omega (arith, full, count)))) refl)),
        good,
      )

  module _ (room : length v.kept.pins < 64) (run : IsRunning (state_of good.story) v s) (rule : FlushRule)
      (stays : flushes rule v.kept ≡ false) where
    known : first_of (halted s ∷ pins_full s ∷ []) ≡ None
    known = known_by false (test_room (length s.pins) (omega (arith, room, count)))

    flushes_not : does_flush rule s ≡ false
    flushes_not = flushes_same v s good run rule ∙ stays

    -- memory was wanting, and nothing has changed but the disk's counts
    pub cut_wanting : (w : Shown) → IsUnchanged good.story v w → w.halt ≡ v.halt → v.disk.faults ≤ w.disk.faults
        → v.disk.refusals ≤ w.disk.refusals
        → Steps s (event.Cut rule) (reply.Cut (Err error.NoMemory)) w
    cut_wanting w same halt faults refusals =
        let t : State = with_counts w.disk s in
        let becomes : Becomes s t = record {
          rest = refl;
          faults = omega (arith, good.counts.faults, faults);
          refusals = omega (arith, good.counts.refusals, refusals);
        } in (
          t,
          cut_step s t rule (Err error.NoMemory) (Usual (Wanting refl known
              (subst (λ (b : Bool). MayFlush b s t) (sym flushes_not) becomes))),
          unchanged_good v w s good same halt,
        )

    module _ (cut : Cut) (lists : ListsNeeded (state_of good.story) v.dir v.kept s cut) where
      abbrev pin : Pin
      pin = new_pin Caller cut.manifest lists.files s

      abbrev k : KeptPin
      k = kept_pin cut v.kept

      abbrev all : List KeptPin
      all = v.kept.pins ++ kept_pin cut v.kept ∷ []

      abbrev t : State
      t = state_with_pins (s.pins ++ new_pin Caller cut.manifest lists.files s ∷ []) (v.kept.greatest_pin + 1) v.kept.disables s

      becomes_pinned : Becomes (pinned Caller cut.manifest lists.files s) t
      becomes_pinned = record {
        rest = λ j. record s { pins = s.pins ++ pin ∷ []; greatest_pin = good.kept.greatest_pin j + 1; disables = good.kept.disables j };
        faults = omega arith;
        refusals = omega arith;
      }

      new_fits : IsKeptPin t k pin
      new_fits = record {
        number = ap (λ (n : ℕ). n + 1) good.kept.greatest_pin;
        sequence = good.kept.sequence ∙ ap (λ (l : List (List Op)). sequence_after s.began l)
            (sym (take_all (length s.accepted) s.accepted (omega arith)));
        files = lists.are;
        manifest = refl;
        holder = refl;
        within = omega arith;
        stands = lists.stands;
      }

      counted : IsCounted t
      counted = record {
        durable = good.counted.durable;
        numbers = All-push (λ (p : Pin). p.number ≤ v.kept.greatest_pin + 1) s.pins pin
            (All-weaker (λ (p : Pin). p.number ≤ s.greatest_pin) (λ (p : Pin). p.number ≤ v.kept.greatest_pin + 1)
            (λ p few. omega (arith, few, good.kept.greatest_pin)) s.pins good.counted.numbers)
            (omega (arith, good.kept.greatest_pin));
        fronts = All-push (λ (p : Pin). p.batches ≤ length s.accepted) s.pins pin good.counted.fronts (omega arith);
        begun = good.counted.begun;
      }

      quiet_all : AreHeldQuiet d v.dir all
      quiet_all name fits among = ⊎_elim
          (λ old. run.sane.quiet.spares name fits (inr old))
          (λ new. run.sane.quiet.spares name fits (inl (All-contains (IsNeeded v.kept) (names_held k) name
          (subst (λ (l : List (FileName × ℕ)). All (IsNeeded v.kept) (map (λ (f : FileName × ℕ). f.0) l)) (sym lists.are)
          (mapped_names (IsNeeded v.kept) lists.files lists.needed))
          (subst (λ (l : List FileName). Contains l name) (append-nil (names_held k)) new))))
          (Contains-append_cases (flat_map names_held v.kept.pins) (names_held k ++ []) name
          (subst (λ (l : List FileName). Contains l name) (flat_map-append names_held v.kept.pins (k ∷ [])) among))

      jobs_all : JobsBuild d v.dir all t
      jobs_all = record {
        apart = subst (IsDistinct bytes_eq) (sym (same_dirs v.kept.pins k refl)) run.jobs.apart;
        each = pins_push (λ (kept : KeptPin) (of : Pin). BuildsJob d v.dir kept.job of) v.kept.pins s.pins k pin run.jobs.each tt;
      }

      -- the store with the pin is good
      pub pinned_good : Good (cut_shown cut v) (state_with_pins (s.pins ++ new_pin Caller cut.manifest lists.files s ∷ [])
          (v.kept.greatest_pin + 1) v.kept.disables s)
      pinned_good =
          repinned_good v s all (s.pins ++ pin ∷ []) (v.kept.greatest_pin + 1) v.kept.disables good
          (pins_push (IsKeptPin t) v.kept.pins s.pins k pin (pins_alike s t refl refl refl v.kept.pins s.pins good.pinned.pins) new_fits)
          (All-push (λ (p : Pin). PinFiles d v.dir p.files) s.pins pin good.pinned.files lists.there) counted (λ r. (quiet_all, jobs_all))

      -- Ok
      pub cut_ok : cut.pin ≡ v.kept.greatest_pin + 1 → cut.sequence ≡ v.kept.sequence
          → Steps s (event.Cut rule) (reply.Cut (Ok cut)) (cut_shown cut v)
      cut_ok numbered sequence =
          let is : IsCut s rule cut t = record {
            at = s;
            files = lists.files;
            flushed = subst (λ (b : Bool). CutsAt b s s) (sym flushes_not)
                (record { rest = refl; faults = omega arith; refusals = omega arith });
            pin = numbered ∙ ap (λ (n : ℕ). n + 1) good.kept.greatest_pin;
            sequence = sequence ∙ good.kept.sequence;
            lists = lists.are;
            logs = subst (λ (b : Bool). FreeOfLogs b (map (λ (file : CutFile). file.name) cut.files)) (sym flushes_not) tt;
            rest = becomes_pinned;
          } in
          (t, cut_step s t rule (Ok cut) (Usual (Done cut refl known is)), pinned_good)
