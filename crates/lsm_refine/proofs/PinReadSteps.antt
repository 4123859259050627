-- Readings of pins, at each exit but Ok: the store's answer is a step of the abstract store, and the store is good behind it.
use Rattle.std.specs.Prelude.{◌≡◌, ℕ, ◌≤◌, Bool, true, false, not, ◌==◌, cond, List, [], ◌∷◌, map, Some, None, Result, Err}
use Rattle.std.proofs.Common.{refl, sym, ap, subst, ◌∙◌, arith}
use Rattle.lsm_io.specs.Causes.{Rose}
use Rattle.lsm_names.specs.declared.file_names.FileName.{FileName}
use Rattle.lsm_model.specs.declared.errors.StoreError.{StoreError}
use Rattle.lsm_model.specs.declared.errors.StoreError.TheVariants as error
use Rattle.lsm_model.specs.declared.events.Event.TheVariants as event
use Rattle.lsm_model.specs.declared.replies.Reply.TheVariants as reply
use Rattle.lsm_model.specs.declared.replies.Shown.{Shown as Reading}
use Rattle.lsm_model.specs.declared.states.State.{State}
use Rattle.lsm_model.specs.declared.states.Pin.{Pin}
use Rattle.lsm_model.specs.declared.states.PinnedFile.{PinnedFile}
use Rattle.lsm_model.specs.Answers.{Failed, Wanting, Refused}
use Rattle.lsm_model.specs.Causes.{first_of, refused_if, is_none, no_pin, not_in_pin, files_of, file_in, same_name}
use Rattle.lsm_model.specs.Moves.{Becomes, FailsToRead}
use Rattle.lsm_model.specs.Pins.{held}
use Rattle.lsm_model.specs.Reads.{ShowsPin, ReadsPinned}
use Rattle.lsm_model.specs.States.{pin_of}
use Rattle.lsm_model.specs.Steps.{Step}
use Rattle.lsm_refine.specs.Kept.{KeptPin, Shown}
use Rattle.lsm_refine.specs.Pins.{ArePins, IsKeptPin}
use Rattle.lsm_refine.specs.Good.{Good, IsUnchanged, with_counts}
use Rattle.lsm_refine.specs.Calls.{lists_name, kept_lists}
use Rattle.lsm_refine.specs.Caused.{kept_pin_of}
use Rattle.lsm_refine.proofs.UnchangedLemmas.{unchanged_good}
use Rattle.lsm_refine.proofs.WriteSteps.{Steps}

show_pin_step : (s t : State) (pin : ℕ) (r : Result Reading StoreError) → ShowsPin s pin r t
    → Step s (event.ShowPin pin) (reply.ShowPin r) t
unfolding Step
show_pin_step s t pin r step = step

read_pinned_step : (s t : State) (pin : ℕ) (name : FileName) (r : Result (List ℕ) StoreError) → ReadsPinned s pin name r t
    → Step s (event.ReadPinned pin name) (reply.ReadPinned r) t
unfolding Step
read_pinned_step s t pin name r step = step

-- ---- kept pins and those of the state

module _ (s : State) (number : ℕ) where
  -- a pin is there where a kept one is
  there_same : (kept : List KeptPin) (pins : List Pin) → ArePins (IsKeptPin s) kept pins
      → is_none (pin_of number pins) ≡ is_none (kept_pin_of number kept)
  there_same [] [] are = refl
  there_same [] (pin ∷ pins) are = absurd are
  there_same (k ∷ kept) [] are = absurd are
  there_same (k ∷ kept) (pin ∷ pins) are =
      by (there_same kept pins are.1) (pin.number == number) ∙ ap
      (λ (n : ℕ). is_none (cond (n == number) (Some k) (kept_pin_of number kept))) (sym are.0.number)
    where
      by : is_none (pin_of number pins) ≡ is_none (kept_pin_of number kept) → (b : Bool)
          → is_none (cond b (Some pin) (pin_of number pins)) ≡ is_none (cond b (Some k) (kept_pin_of number kept))
      by rest true = refl
      by rest false = rest

  module _ (name : FileName) where
    name_same : (files : List PinnedFile) → is_none (file_in name files) ≡ not (lists_name name (map held files))
    name_same [] = refl
    name_same (file ∷ files) = by (name_same files) (same_name file.name name)
      where
        by : is_none (file_in name files) ≡ not (lists_name name (map held files)) → (b : Bool)
            → is_none (cond b (Some file.bytes) (file_in name files)) ≡ not (cond b true (lists_name name (map held files)))
        by rest true = refl
        by rest false = rest

    -- it has a file of this name where the kept one has
    listed_same : (kept : List KeptPin) (pins : List Pin) → ArePins (IsKeptPin s) kept pins
        → is_none (file_in name (files_of (pin_of number pins))) ≡ not (kept_lists name (kept_pin_of number kept))
    listed_same [] [] are = refl
    listed_same [] (pin ∷ pins) are = absurd are
    listed_same (k ∷ kept) [] are = absurd are
    listed_same (k ∷ kept) (pin ∷ pins) are =
        by (listed_same kept pins are.1) (name_same pin.files ∙ ap (λ (l : List (FileName × ℕ)). not (lists_name name l))
        (sym are.0.files)) (pin.number == number)
        ∙ ap (λ (n : ℕ). not (kept_lists name (cond (n == number) (Some k) (kept_pin_of number kept)))) (sym are.0.number)
      where
        by : is_none (file_in name (files_of (pin_of number pins))) ≡ not (kept_lists name (kept_pin_of number kept))
            → is_none (file_in name pin.files) ≡ not (lists_name name k.files) → (b : Bool)
            → is_none (file_in name (files_of (cond b (Some pin) (pin_of number pins))))
            ≡ not (kept_lists name (cond b (Some k) (kept_pin_of number kept)))
        by rest here true = here
        by rest here false = rest

-- ---- what the store knows

module _ (v : Shown) (s : State) (good : Good v s) (number : ℕ) where
  pin_by : (b : Bool) → is_none (kept_pin_of number v.kept.pins) ≡ b → no_pin number s ≡ refused_if b (error.NoSuchPin number)
  pin_by b is = ap (λ (c : Bool). refused_if c (error.NoSuchPin number)) (there_same s number v.kept.pins s.pins good.pinned.pins ∙ is)

  name_by : (name : FileName) (b : Bool) → kept_lists name (kept_pin_of number v.kept.pins) ≡ b
      → not_in_pin number name s ≡ refused_if (not b) (error.NotInPin number name)
  name_by name b is = ap (λ (c : Bool). refused_if c (error.NotInPin number name))
      (listed_same s number name v.kept.pins s.pins good.pinned.pins ∙ ap not is)

  -- no such pin lives
  pub show_pin_unknown : is_none (kept_pin_of number v.kept.pins) ≡ true
      → Steps s (event.ShowPin number) (reply.ShowPin (Err (error.NoSuchPin number))) v
  show_pin_unknown none = (
    s,
    show_pin_step s s number (Err (error.NoSuchPin number))
        (Refused (error.NoSuchPin number) refl (pin_by true none) refl),
    good,
  )

  pub read_pinned_unknown : (name : FileName) → is_none (kept_pin_of number v.kept.pins) ≡ true
      → Steps s (event.ReadPinned number name) (reply.ReadPinned (Err (error.NoSuchPin number))) v
  read_pinned_unknown name none = (
    s,
    read_pinned_step s s number name (Err (error.NoSuchPin number))
        (Refused (error.NoSuchPin number) refl (ap (λ o. first_of (o ∷ not_in_pin number name s ∷ [])) (pin_by true none)) refl),
    good,
  )

  known_both : (name : FileName) (b : Bool) → is_none (kept_pin_of number v.kept.pins) ≡ false
      → kept_lists name (kept_pin_of number v.kept.pins) ≡ b
      → first_of (no_pin number s ∷ not_in_pin number name s ∷ []) ≡ first_of (None ∷ refused_if (not b) (error.NotInPin number name) ∷ [])
  known_both name b some lists =
      ap (λ o. first_of (o ∷ not_in_pin number name s ∷ [])) (pin_by false some) ∙ ap (λ o. first_of (None ∷ o ∷ [])) (name_by name b lists)

  -- the pin doesn't list the name
  pub read_pinned_other : (name : FileName) → is_none (kept_pin_of number v.kept.pins) ≡ false
      → kept_lists name (kept_pin_of number v.kept.pins) ≡ false
      → Steps s (event.ReadPinned number name) (reply.ReadPinned (Err (error.NotInPin number name))) v
  read_pinned_other name some none = (
    s,
    read_pinned_step s s number name (Err (error.NotInPin number name))
        (Refused (error.NotInPin number name) refl (known_both name false some none) refl),
    good,
  )

  -- ---- behind a reading

  module _ (some : is_none (kept_pin_of number v.kept.pins) ≡ false) (w : Shown) (same : IsUnchanged good.story v w)
      (halt : w.halt ≡ v.halt)
      (faults : v.disk.faults ≤ w.disk.faults) (refusals : v.disk.refusals ≤ w.disk.refusals) where
    abbrev t : State
    t = with_counts w.disk s

    becomes : Becomes s t
    becomes = record {
      rest = refl;
      faults = omega (arith, good.counts.faults, faults);
      refusals = omega (arith, good.counts.refusals, refusals);
    }

    fails : Rose v.disk.faults w.disk.faults → FailsToRead s t
    fails rose = record { rose = subst (λ (n : ℕ). Rose n w.disk.faults) good.counts.faults rose; rest = becomes }

    pub show_pin_fault : Rose v.disk.faults w.disk.faults → Steps s (event.ShowPin number) (reply.ShowPin (Err error.DiskFault)) w
    show_pin_fault rose = (
      t,
      show_pin_step s t number (Err error.DiskFault)
          (Failed refl (pin_by false some) (fails rose)),
      unchanged_good v w s good same halt,
    )

    pub show_pin_wanting : Steps s (event.ShowPin number) (reply.ShowPin (Err error.NoMemory)) w
    show_pin_wanting = (
      t,
      show_pin_step s t number (Err error.NoMemory)
          (Wanting refl (pin_by false some) becomes),
      unchanged_good v w s good same halt,
    )

    module _ (name : FileName) (lists : kept_lists name (kept_pin_of number v.kept.pins) ≡ true) where
      pub read_pinned_fault : Rose v.disk.faults w.disk.faults
          → Steps s (event.ReadPinned number name) (reply.ReadPinned (Err error.DiskFault)) w
      read_pinned_fault rose = (
        t,
        read_pinned_step s t number name (Err error.DiskFault)
            (Failed refl (known_both name true some lists) (fails rose)),
        unchanged_good v w s good same halt,
      )

      pub read_pinned_wanting : Steps s (event.ReadPinned number name) (reply.ReadPinned (Err error.NoMemory)) w
      read_pinned_wanting = (
        t,
        read_pinned_step s t number name (Err error.NoMemory)
            (Wanting refl (known_both name true some lists) becomes),
        unchanged_good v w s good same halt,
      )
