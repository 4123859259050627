-- Calls on pins and disables, at each exit: the store's answer is a step of the abstract store, and the store is good behind
-- it. They ask no disk, and go on where the store is halted.
use Rattle.std.specs.Prelude.{◌≡◌, ℕ, ◌+◌, ◌<◌, ◌≤◌, Bool, true, false, not, ◌==◌, nat_le, cond, List, [], ◌∷◌, ◌++◌, length, All, Contains, Option, Some, None, Result, Ok, Err}
use Rattle.std.specs.List.{flat_map, AllByRecursion, IsDistinct}
use Rattle.std.specs.Str.{bytes_eq}
use Rattle.std.proofs.Common.{⊎_elim, inr, refl, sym, ap, subst, ◌∙◌, arith}
use Rattle.std.proofs.lemmas.Bool.Decides.{nat_tests}
use Rattle.std.proofs.lemmas.List.Elements.{All-cons, All-head, All-tail, Contains-append_left, Contains-append_right, Contains-append_cases}
use Rattle.std.proofs.lemmas.Map.Keys.{IsDistinct-cons, IsDistinct-head, IsDistinct-tail}
use Rattle.lsm_names.specs.declared.file_names.FileName.{FileName}
use Rattle.lsm_model.specs.declared.errors.StoreError.{StoreError}
use Rattle.lsm_model.specs.declared.errors.StoreError.TheVariants as error
use Rattle.lsm_model.specs.declared.events.Event.TheVariants as event
use Rattle.lsm_model.specs.declared.replies.Reply.TheVariants as reply
use Rattle.lsm_model.specs.declared.states.State.{State}
use Rattle.lsm_model.specs.declared.states.Pin.{Pin}
use Rattle.lsm_model.specs.Answers.{Done, Refused}
use Rattle.lsm_model.specs.Causes.{is_none, is_own, refused_if, no_own_pin}
use Rattle.lsm_model.specs.Counts.{IsCounted}
use Rattle.lsm_model.specs.Pins.{unpinned, Unpins, Disables, Enables}
use Rattle.lsm_model.specs.Reads.{TellsLast}
use Rattle.lsm_model.specs.States.{pin_of, without_pin, built_by}
use Rattle.lsm_model.specs.Steps.{Step}
use Rattle.lsm_disk.specs.State as disk
use Rattle.lsm_disk.specs.State.{state_of}
use Rattle.lsm_refine.specs.Kept.{Job, KeptPin, Shown}
use Rattle.lsm_refine.specs.Sane.{names_held}
use Rattle.lsm_refine.specs.Pins.{ArePins, IsKeptPin, PinFiles, BuildsJob, JobsBuild, dir_of, holder_of}
use Rattle.lsm_refine.specs.Good.{IsRunning, Good}
use Rattle.lsm_refine.specs.Calls.{unpinned_shown, is_own_kept, state_with_pins, disabled_shown}
use Rattle.lsm_refine.specs.Caused.{kept_pin_of, without_kept}
use Rattle.lsm_refine.proofs.PinnedLemmas.{pins_alike}
use Rattle.lsm_refine.proofs.RepinnedLemmas.{AreHeldQuiet, repinned_good}
use Rattle.lsm_refine.proofs.WriteSteps.{Steps}

unpin_step : (s t : State) (pin : ℕ) (r : Result (Unit {0}) StoreError) → Unpins s pin r t → Step s (event.Unpin pin) (reply.Unpin r) t
unfolding Step
unpin_step s t pin r step = step

disable_step : (s t : State) (r : Result ℕ StoreError) → Disables s r t → Step s event.Disable (reply.Disable r) t
unfolding Step
disable_step s t r step = step

enable_step : (s t : State) (r : Result ℕ StoreError) → Enables s r t → Step s event.Enable (reply.Enable r) t
unfolding Step
enable_step s t r step = step

last_step : (s t : State) (last : ℕ) → TellsLast s last t → Step s event.Last (reply.Last last) t
unfolding Step
last_step s t last step = step

-- ---- a pin less

-- the other pins hold no further names
held_less : (number : ℕ) (pins : List KeptPin) (name : FileName)
    → Contains (flat_map names_held (without_kept number pins)) name → Contains (flat_map names_held pins) name
held_less number [] name among = among
held_less number (pin ∷ pins) name among = elim (pin.number == number) as
    (λ b. Contains (flat_map names_held (cond b (without_kept number pins) (pin ∷ without_kept number pins))) name
    → Contains (names_held pin ++ flat_map names_held pins) name) [
      | true ↦ λ less. Contains-append_right (names_held pin) (flat_map names_held pins) name (held_less number pins name less)
      | false ↦ λ less. ⊎_elim
          (λ here. Contains-append_left (names_held pin) (flat_map names_held pins) name here)
          (λ later. Contains-append_right (names_held pin) (flat_map names_held pins) name (held_less number pins name later))
          (Contains-append_cases (names_held pin) (flat_map names_held (without_kept number pins)) name less)
    ] among

abbrev dirs : List KeptPin → List (List ℕ)
dirs pins = flat_map (λ (pin : KeptPin). dir_of pin.job) pins

-- what all their folders are
every_less : (P : List ℕ → Type 0) (number : ℕ) (pins : List KeptPin) → AllByRecursion P (dirs pins)
    → AllByRecursion P (dirs (without_kept number pins))
every_less P number [] are = are
every_less P number (pin ∷ pins) are = elim (pin.number == number) as
    (λ b. AllByRecursion P (dirs (cond b (without_kept number pins) (pin ∷ without_kept number pins)))) [
      | true ↦ every_less P number pins (rest pin.job are)
      | false ↦ both pin.job are (every_less P number pins (rest pin.job are))
    ]
  where
    rest : (job : Option Job) → AllByRecursion P (dir_of job ++ dirs pins) → AllByRecursion P (dirs pins)
    rest None all = all
    rest (Some job) all = all.1

    both : (job : Option Job) → AllByRecursion P (dir_of job ++ dirs pins) → AllByRecursion P (dirs (without_kept number pins))
        → AllByRecursion P (dir_of job ++ dirs (without_kept number pins))
    both None all less = less
    both (Some job) all less = (all.0, less)

-- no two of them build one folder
apart_less : (number : ℕ) (pins : List KeptPin) → IsDistinct bytes_eq (dirs pins) → IsDistinct bytes_eq (dirs (without_kept number pins))
apart_less number [] apart = apart
apart_less number (pin ∷ pins) apart = elim (pin.number == number) as
    (λ b. IsDistinct bytes_eq (dirs (cond b (without_kept number pins) (pin ∷ without_kept number pins)))) [
      | true ↦ apart_less number pins (rest pin.job apart)
      | false ↦ both pin.job apart (apart_less number pins (rest pin.job apart))
    ]
  where
    rest : (job : Option Job) → IsDistinct bytes_eq (dir_of job ++ dirs pins) → IsDistinct bytes_eq (dirs pins)
    rest None all = all
    rest (Some job) all = IsDistinct-tail bytes_eq job.dir (dirs pins) all

    both : (job : Option Job) → IsDistinct bytes_eq (dir_of job ++ dirs pins) → IsDistinct bytes_eq (dirs (without_kept number pins))
        → IsDistinct bytes_eq (dir_of job ++ dirs (without_kept number pins))
    both None all less = less
    both (Some job) all less =
        IsDistinct-cons bytes_eq job.dir (dirs (without_kept number pins))
        (every_less (λ other. bytes_eq job.dir other ≡ false) number pins (IsDistinct-head bytes_eq job.dir (dirs pins) all)) less

all_less : (P : Pin → Type 0) (number : ℕ) (pins : List Pin) → All P pins → All P (without_pin number pins)
all_less P number [] are = are
all_less P number (pin ∷ pins) are = elim (pin.number == number) as
    (λ b. All P (cond b (without_pin number pins) (pin ∷ without_pin number pins))) [
      | true ↦ all_less P number pins (All-tail P pin pins are)
      | false ↦ All-cons P pin (without_pin number pins) (All-head P pin pins are) (all_less P number pins (All-tail P pin pins are))
    ]

module _ (s : State) (number : ℕ) where
  -- the others fit still
  each_less : (Fits : KeptPin → Pin → Type 0) (kept : List KeptPin) (pins : List Pin) → ArePins (IsKeptPin s) kept pins
      → ArePins Fits kept pins
      → ArePins Fits (without_kept number kept) (without_pin number pins)
  each_less Fits [] [] are fit = tt
  each_less Fits [] (pin ∷ pins) are fit = absurd are
  each_less Fits (k ∷ kept) [] are fit = absurd are
  each_less Fits (k ∷ kept) (pin ∷ pins) are fit =
      subst (λ (n : ℕ). ArePins Fits (cond (n == number) (without_kept number kept) (k ∷ without_kept number kept))
      (cond (pin.number == number) (without_pin number pins) (pin ∷ without_pin number pins)))
      (sym are.0.number) (by (each_less Fits kept pins are.1 fit.1) (pin.number == number))
    where
      by : ArePins Fits (without_kept number kept) (without_pin number pins) → (b : Bool)
          → ArePins Fits (cond b (without_kept number kept) (k ∷ without_kept number kept))
          (cond b (without_pin number pins) (pin ∷ without_pin number pins))
      by less true = less
      by less false = (fit.0, less)

  no_job : (job : Option Job) → is_none (built_by (holder_of job)) ≡ is_none job
  no_job None = refl
  no_job (Some job) = refl

  -- a pin is its caller's own exactly where the kept one is
  own_same : (kept : List KeptPin) (pins : List Pin) → ArePins (IsKeptPin s) kept pins
      → is_own (pin_of number pins) ≡ is_own_kept (kept_pin_of number kept)
  own_same [] [] are = refl
  own_same [] (pin ∷ pins) are = absurd are
  own_same (k ∷ kept) [] are = absurd are
  own_same (k ∷ kept) (pin ∷ pins) are =
      by (own_same kept pins are.1) (pin.number == number) ∙ ap
      (λ (n : ℕ). is_own_kept (cond (n == number) (Some k) (kept_pin_of number kept))) (sym are.0.number)
    where
      by : is_own (pin_of number pins) ≡ is_own_kept (kept_pin_of number kept) → (b : Bool)
          → is_own (cond b (Some pin) (pin_of number pins)) ≡ is_own_kept (cond b (Some k) (kept_pin_of number kept))
      by rest true = sym (ap (λ h. is_none (built_by h)) are.0.holder) ∙ no_job k.job
      by rest false = rest

-- ---- exits

test_all : (n : ℕ) → 1000000 ≤ n → nat_le 1000000 n ≡ true
test_all n large = grind (arith, nat_tests)

test_more : (n : ℕ) → n < 1000000 → nat_le 1000000 n ≡ false
test_more n small = grind (arith, nat_tests)

test_some : (n count : ℕ) → n ≡ count + 1 → (n == 0) ≡ false
test_some n count is = grind (arith, nat_tests)

test_none : (n : ℕ) → n ≡ 0 → (n == 0) ≡ true
test_none n is = grind (arith, nat_tests)

module _ (v : Shown) (s : State) (good : Good v s) where
  abbrev d : disk.State
  d = state_of good.story

  -- the last sequence
  pub last_told : Steps s event.Last (reply.Last v.kept.sequence) v
  last_told = (s, last_step s s v.kept.sequence (good.kept.sequence, refl), good)

  -- ---- a pin's end

  module _ (number : ℕ) where
    abbrev kept_less : List KeptPin
    kept_less = without_kept number v.kept.pins

    abbrev less : State
    less = state_with_pins (without_pin number s.pins) v.kept.greatest_pin v.kept.disables s

    less_is : less ≡ unpinned number s
    less_is = λ j. record s { pins = without_pin number s.pins; greatest_pin = good.kept.greatest_pin j; disables = good.kept.disables j }

    fits : ArePins (IsKeptPin less) kept_less (without_pin number s.pins)
    fits = pins_alike s less refl refl refl kept_less (without_pin number s.pins)
        (each_less s number (IsKeptPin s) v.kept.pins s.pins good.pinned.pins good.pinned.pins)

    counted : IsCounted less
    counted = record {
      durable = good.counted.durable;
      numbers = subst (λ (n : ℕ). All (λ (pin : Pin). pin.number ≤ n) (without_pin number s.pins)) (sym good.kept.greatest_pin)
          (all_less (λ (pin : Pin). pin.number ≤ s.greatest_pin) number s.pins good.counted.numbers);
      fronts = all_less (λ (pin : Pin). pin.batches ≤ length s.accepted) number s.pins good.counted.fronts;
      begun = good.counted.begun;
    }

    runs_less : IsRunning d v s → AreHeldQuiet d v.dir kept_less × JobsBuild d v.dir kept_less less
    runs_less run = (
      λ name fits among. run.sane.quiet.spares name fits (inr (held_less number v.kept.pins name among)),
      record {
        apart = apart_less number v.kept.pins run.jobs.apart;
        each = each_less s number (λ (k : KeptPin) (pin : Pin). BuildsJob d v.dir k.job pin) v.kept.pins s.pins good.pinned.pins run.jobs.each;
      },
    )

    unpinned_good : Good (unpinned_shown number v) less
    unpinned_good =
        repinned_good v s kept_less (without_pin number s.pins) v.kept.greatest_pin v.kept.disables good fits
        (all_less (λ (pin : Pin). PinFiles d v.dir pin.files) number s.pins good.pinned.files) counted runs_less

    own_is : (b : Bool) → is_own_kept (kept_pin_of number v.kept.pins) ≡ b
        → no_own_pin number s ≡ refused_if (not b) (error.NoSuchPin number)
    own_is b is = ap (λ (c : Bool). refused_if (not c) (error.NoSuchPin number))
        (own_same s number v.kept.pins s.pins good.pinned.pins ∙ is)

    pub unpin_ok : is_own_kept (kept_pin_of number v.kept.pins) ≡ true
        → Steps s (event.Unpin number) (reply.Unpin (Ok tt)) (unpinned_shown number v)
    unpin_ok own = (less, unpin_step s less number (Ok tt) (Done tt refl (own_is true own) less_is), unpinned_good)

    -- no such pin lives that is the caller's own
    pub unpin_unknown : is_own_kept (kept_pin_of number v.kept.pins) ≡ false
        → Steps s (event.Unpin number) (reply.Unpin (Err (error.NoSuchPin number))) v
    unpin_unknown none = (
      s,
      unpin_step s s number (Err (error.NoSuchPin number))
          (Refused (error.NoSuchPin number) refl (own_is false none) refl),
      good,
    )

  -- ---- disables

  module _ (count : ℕ) where
    abbrev counting : State
    counting = state_with_pins s.pins v.kept.greatest_pin count s

    counting_is : counting ≡ record s { disables = count }
    counting_is = λ j. record s { greatest_pin = good.kept.greatest_pin j; disables = count }

    disabled_good : Good (disabled_shown count v) counting
    disabled_good =
        repinned_good v s v.kept.pins s.pins v.kept.greatest_pin count good
        (pins_alike s counting refl refl refl v.kept.pins s.pins good.pinned.pins) good.pinned.files
        (record {
          durable = good.counted.durable;
          numbers = subst (λ (n : ℕ). All (λ (pin : Pin). pin.number ≤ n) s.pins) (sym good.kept.greatest_pin) good.counted.numbers;
          fronts = good.counted.fronts;
          begun = good.counted.begun;
        })
        (λ run. (λ name fits among. run.sane.quiet.spares name fits (inr among), record { apart = run.jobs.apart; each = run.jobs.each }))

    pub enable_ok : v.kept.disables ≡ count + 1 → Steps s event.Enable (reply.Enable (Ok count)) (disabled_shown count v)
    enable_ok more = (
      counting,
      enable_step s counting (Ok count) (Done count refl
          (ap (λ (b : Bool). refused_if b error.NotDisabled) (test_some s.disables count (sym good.kept.disables ∙ more)))
          (sym good.kept.disables ∙ more, counting_is)),
      disabled_good,
    )

  pub disable_ok : v.kept.disables < 1000000 → Steps s event.Disable (reply.Disable (Ok (v.kept.disables + 1)))
      (disabled_shown (v.kept.disables + 1) v)
  disable_ok small =
      let count : ℕ = v.kept.disables + 1 in (
        counting count,
        disable_step s (counting count) (Ok count) (Done count refl
            (ap (λ (b : Bool). refused_if b (error.DisablesFull s.disables))
            (test_more s.disables (omega (arith, small, good.kept.disables))))
            (ap (λ (n : ℕ). n + 1) good.kept.disables, counting_is count)),
        disabled_good count,
      )

  -- it is disabled as often as it may
  pub disable_full : 1000000 ≤ v.kept.disables → Steps s event.Disable (reply.Disable (Err (error.DisablesFull v.kept.disables))) v
  disable_full full =
      subst (λ (n : ℕ). Steps s event.Disable (reply.Disable (Err (error.DisablesFull n))) v) (sym good.kept.disables) (
        s,
        disable_step s s (Err (error.DisablesFull s.disables)) (Refused (error.DisablesFull s.disables) refl
            (ap (λ (b : Bool). refused_if b (error.DisablesFull s.disables))
            (test_all s.disables (omega (arith, full, good.kept.disables)))) refl),
        good,
      )

  -- it isn't disabled
  pub enable_none : v.kept.disables ≡ 0 → Steps s event.Enable (reply.Enable (Err error.NotDisabled)) v
  enable_none none = (
    s,
    enable_step s s (Err error.NotDisabled) (Refused error.NotDisabled refl
        (ap (λ (b : Bool). refused_if b error.NotDisabled) (test_none s.disables (sym good.kept.disables ∙ none))) refl),
    good,
  )
