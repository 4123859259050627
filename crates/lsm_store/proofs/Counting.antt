-- Calls on pins and disables, at each exit.
use Rattle.std.specs.Prelude.{◌≡◌, ℕ, ◌+◌, ◌<◌, ◌≤◌, ◌==◌, Bool, true, false, if◌then◌else◌, List, [], ◌∷◌, All, Option, Some, None, Result, Ok, Err}
use Rattle.std.proofs.Common.{refl, sym, ap, subst, ◌∙◌, arith}
use Rattle.std.proofs.lemmas.List.Elements.{All-nil, All-cons, All-head, All-tail}
use Rattle.lsm_model.specs.declared.events.Event.TheVariants as event
use Rattle.lsm_model.specs.declared.replies.Reply.TheVariants as reply
use Rattle.lsm_model.specs.declared.errors.StoreError.{StoreError}
use Rattle.lsm_model.specs.declared.errors.StoreError.TheVariants as error
use Rattle.lsm_model.specs.Causes.{is_none}
use Rattle.lsm_refine.specs.Kept.{Job, KeptPin, Kept, Shown}
use Rattle.lsm_refine.specs.Calls.{is_own_kept, unpinned_shown, disabled_shown}
use Rattle.lsm_refine.specs.Caused.{kept_pin_of, without_kept, unpinned, IsOwnPin}
use Rattle.lsm_refine.specs.Within.{IsNamedJob}
use Rattle.lsm_refine.proofs.UnpinSteps.{unpin_ok, unpin_unknown, disable_ok, disable_full, enable_ok, enable_none}
use Rattle.lsm_store.specs.Inside.{CanFlush, Inner, IsInside, shown_of}
use Rattle.lsm_store.proofs.Calls.{IsCall, nothing_called, undisturbed, unpin_caused, disable_caused, enable_caused}

abbrev pub IsUnpin : ℕ → Result (Unit {0}) StoreError → Shown → Shown → Type 0
IsUnpin pin r v w = IsCall (λ s. s) (event.Unpin pin) (reply.Unpin r) v w

abbrev pub IsDisable : Result ℕ StoreError → Shown → Shown → Type 0
IsDisable r v w = IsCall (λ s. s) event.Disable (reply.Disable r) v w

abbrev pub IsEnable : Result ℕ StoreError → Shown → Shown → Type 0
IsEnable r v w = IsCall (λ s. s) event.Enable (reply.Enable r) v w

-- ---- whose a pin is

own_pin : (number : ℕ) (kept : Kept) (found : Option KeptPin) → kept_pin_of number kept.pins ≡ found
    → is_own_kept found ≡ true → IsOwnPin number kept
own_pin number kept None is own = let clash : false ≡ true = own in absurd (cc)
own_pin number kept (Some pin) is own = (pin, is, job_none pin.job own)
  where
    job_none : (job : Option Job) → is_none job ≡ true → job ≡ None
    job_none None none = refl
    job_none (Some job) none = let clash : false ≡ true = none in absurd (cc)

not_own : (number : ℕ) (kept : Kept) → is_own_kept (kept_pin_of number kept.pins) ≡ false → IsOwnPin number kept → ⊥
not_own number kept other own =
    let clash : false ≡ true = sym other ∙ ap (λ (o : Option KeptPin). is_own_kept o) own.1
    ∙ ap (λ (job : Option Job). is_none job) own.2 in
    cc

-- ---- a pin less

module _ (P : KeptPin → Type 0) (number : ℕ) where
  one_without : (pin : KeptPin) (pins : List KeptPin) → P pin → All P pins → (t : Bool)
      → All P (if t then pins else pin ∷ pins)
  one_without pin pins one are true = are
  one_without pin pins one are false = All-cons P pin pins one are

  all_without : (pins : List KeptPin) → All P pins → All P (without_kept number pins)
  all_without [] are = All-nil P
  all_without (pin ∷ pins) are = one_without pin (without_kept number pins) (All-head P pin pins are)
      (all_without pins (All-tail P pin pins are)) (pin.number == number)

-- what is so of every store is so without the pin
pub unpinned_inside : (x : Inner) → IsInside x → (pin : ℕ) (own : Bool) (catalog : Kept)
    → catalog ≡ (if own then unpinned pin x.catalog else x.catalog) → IsInside (record x { catalog = catalog })
unpinned_inside x inside pin own catalog kept = record {
  path_is = inside.path_is;
  manifest_in = inside.manifest_in;
  manifest_is = inside.manifest_is;
  before = inside.before;
  small = inside.small;
  one = inside.one;
  drawn = inside.drawn;
  most = inside.most;
  below = inside.below;
  jobs = subst (λ (k : Kept). All Named k.pins) (sym kept) (by_own own);
  fit = inside.fit;
  flush = subst (λ (k : Kept). CanFlush x.next x.log x.active x.frozen k.version) (sym kept) (still own);
}
  where
    Named : KeptPin → Type 0
    Named one = IsNamedJob one.job

    still : (is : Bool) → CanFlush x.next x.log x.active x.frozen (if is then unpinned pin x.catalog else x.catalog).version
    still true = inside.flush
    still false = inside.flush

    by_own : (is : Bool) → All Named (if is then unpinned pin x.catalog else x.catalog).pins
    by_own true = all_without Named pin x.catalog.pins inside.jobs
    by_own false = inside.jobs

module _ (x : Inner) where
  abbrev v : Shown
  v = shown_of x

  pub ok_unpin : (pin : ℕ) (own : Bool) (catalog : Kept) → own ≡ is_own_kept (kept_pin_of pin x.catalog.pins)
      → catalog ≡ (if own then unpinned pin x.catalog else x.catalog) → own ≡ true
      → IsUnpin pin (Ok tt) (shown_of x) (shown_of (record x { catalog = catalog }))
  ok_unpin pin own catalog own_is kept yes_own =
      let is : is_own_kept (kept_pin_of pin x.catalog.pins) ≡ true = sym own_is ∙ yes_own in
      let catalog_is : catalog ≡ unpinned pin x.catalog =
      kept ∙ ap (λ (b : Bool). if b then unpinned pin x.catalog else x.catalog) yes_own in
      subst (λ (k : Kept). IsUnpin pin (Ok tt) v (shown_of (record x { catalog = k }))) (sym catalog_is)
      (undisturbed (event.Unpin pin) (reply.Unpin (Ok tt)) v (unpinned_shown pin v) refl refl
      (λ s good. unpin_ok v s good pin is)
      (unpin_caused pin v (unpinned_shown pin v) (Ok tt) (own_pin pin v.kept (kept_pin_of pin x.catalog.pins) refl is, refl)))

  pub unknown_unpin : (pin : ℕ) (own : Bool) (catalog : Kept) → own ≡ is_own_kept (kept_pin_of pin x.catalog.pins)
      → catalog ≡ (if own then unpinned pin x.catalog else x.catalog) → own ≡ false
      → IsUnpin pin (Err (error.NoSuchPin pin)) (shown_of x) (shown_of (record x { catalog = catalog }))
  unknown_unpin pin own catalog own_is kept other =
      let is : is_own_kept (kept_pin_of pin x.catalog.pins) ≡ false = sym own_is ∙ other in
      let catalog_is : catalog ≡ x.catalog = kept ∙ ap (λ (b : Bool). if b then unpinned pin x.catalog else x.catalog) other in
      subst (λ (k : Kept). IsUnpin pin (Err (error.NoSuchPin pin)) v (shown_of (record x { catalog = k }))) (sym catalog_is)
      (nothing_called (λ s. s) (event.Unpin pin) (reply.Unpin (Err (error.NoSuchPin pin))) v
      (λ s good. unpin_unknown v s good pin is)
      (unpin_caused pin v v (Err (error.NoSuchPin pin)) (refl, not_own pin v.kept is, refl)))

  -- ---- disables

  pub ok_disable : (count : ℕ) (catalog : Kept) → count ≡ x.catalog.disables
      → catalog ≡ record x.catalog { disables = count + 1 }
      → count < 1000000 → IsDisable (Ok (count + 1)) (shown_of x) (shown_of (record x { catalog = catalog }))
  ok_disable count catalog count_is kept small =
      let n : ℕ = x.catalog.disables in
      subst (λ (k : Kept). IsDisable (Ok (count + 1)) v (shown_of (record x { catalog = k }))) (sym kept)
      (subst (λ (m : ℕ). IsDisable (Ok (m + 1)) v
      (shown_of (record x { catalog = record x.catalog { disables = m + 1 } }))) (sym count_is)
      (undisturbed event.Disable (reply.Disable (Ok (n + 1))) v (disabled_shown (n + 1) v) refl refl
      (λ s good. disable_ok v s good (omega (arith, count_is, small)))
      (disable_caused v (disabled_shown (n + 1) v) (Ok (n + 1)) (refl, omega (arith, count_is, small), refl))))

  pub full_disable : (count : ℕ) → count ≡ x.catalog.disables → 1000000 ≤ count
      → IsDisable (Err (error.DisablesFull count)) (shown_of x) (shown_of x)
  full_disable count count_is full =
      subst (λ (m : ℕ). IsDisable (Err (error.DisablesFull m)) v v) (sym count_is)
      (nothing_called (λ s. s) event.Disable (reply.Disable (Err (error.DisablesFull x.catalog.disables))) v
      (λ s good. disable_full v s good (omega (arith, count_is, full)))
      (disable_caused v v (Err (error.DisablesFull x.catalog.disables)) (refl, omega (arith, count_is, full), refl)))

  pub ok_enable : (count less : ℕ) (catalog : Kept) → count ≡ x.catalog.disables
      → catalog ≡ record x.catalog { disables = less }
      → count ≡ less + 1 → IsEnable (Ok less) (shown_of x) (shown_of (record x { catalog = catalog }))
  ok_enable count less catalog count_is kept more =
      subst (λ (k : Kept). IsEnable (Ok less) v (shown_of (record x { catalog = k }))) (sym kept)
      (undisturbed event.Enable (reply.Enable (Ok less)) v (disabled_shown less v) refl refl
      (λ s good. enable_ok v s good less (sym count_is ∙ more))
      (enable_caused v (disabled_shown less v) (Ok less) (sym count_is ∙ more, refl)))

  pub none_enable : (count : ℕ) → count ≡ x.catalog.disables → count ≡ 0
      → IsEnable (Err error.NotDisabled) (shown_of x) (shown_of x)
  none_enable count count_is none =
      nothing_called (λ s. s) event.Enable (reply.Enable (Err error.NotDisabled)) v
      (λ s good. enable_none v s good (sym count_is ∙ none))
      (enable_caused v v (Err error.NotDisabled) (sym count_is ∙ none, refl))
