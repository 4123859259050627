-- Views that go to a disk one by one.
use Rattle.std.specs.Prelude.{◌≡◌, ◌⊎◌, ℕ, ◌<◌, ◌≤◌, true, false, cond, List, [], ◌∷◌, map, Some, None}
use Rattle.std.proofs.Common.{inl, inr, refl, sym, ap, ◌∙◌, arith, ⊎_elim}
use Rattle.std.specs.Ordering.{nat_cmp, eq_by_cmp}
use Rattle.std.proofs.lemmas.Cmp.{nat_cmp_total}
use Rattle.std.specs.FinMap as finmap
use Rattle.lsm_io.specs.Causes.{Rose}
use Rattle.lsm_disk.specs.State.{Seen}
use Rattle.lsm_disk.specs.Viewed.{Viewed}
use Rattle.lsm_core.specs.Catalogs.{Numbered, views_of}
use Rattle.lsm_core.specs.Closing.{HasHandedBack}

-- the views with their tables' numbers
abbrev pub viewed : List Numbered → List (ℕ × Viewed)
viewed tables = map (λ (table : Numbered). (table.0, table.1.viewed)) tables

-- Each view of the tables is one of those that are left, or it was handed back.
pub record IsHandingBack (all left : List Numbered) (old now : Seen) : Type 0 where
  pub told : now.told ≡ old.told
  pub faults : old.faults ≤ now.faults
  pub refusals : old.refusals ≤ now.refusals
  pub each : (number : ℕ) (view : Viewed) → finmap.find nat_cmp number (viewed all) ≡ Some view
      → (finmap.find nat_cmp number (viewed left) ≡ Some view) ⊎ (0 < view.faults → Rose old.faults now.faults)

pub none_handed : (all : List Numbered) (seen : Seen) → IsHandingBack all all seen seen
none_handed all seen = record { told = refl; faults = omega arith; refusals = omega arith; each = λ number view is. inl is }

found_first : (number k : ℕ) (first view : Viewed) (more : List (ℕ × Viewed))
    → finmap.find nat_cmp number ((k, first) ∷ more) ≡ Some view
    → (first ≡ view) ⊎ (finmap.find nat_cmp number more ≡ Some view)
found_first number k first view more = elim (eq_by_cmp nat_cmp number k) as
    (λ b. cond b (Some first) (finmap.find nat_cmp number more) ≡ Some view → (first ≡ view)
    ⊎ (finmap.find nat_cmp number more ≡ Some view)) [
      | true ↦ λ is. inl (some_same first view is)
      | false ↦ λ is. inr is
    ]
  where
    some_same : (a b : Viewed) → Some a ≡ Some b → a ≡ b
    some_same a b same = cc

pub one_handed : (all left more : List Numbered) (table : Numbered) (view : Viewed) (old now later : Seen)
    → IsHandingBack all left old now
    → left ≡ table ∷ more → view ≡ table.1.viewed → later.told ≡ now.told → now.faults ≤ later.faults
    → now.refusals ≤ later.refusals
    → (0 < view.faults → Rose now.faults later.faults) → IsHandingBack all more old later
one_handed all left more table view old now later is left_is view_is told faults refusals rose = record {
  told = told ∙ is.told;
  faults = omega (arith, is.faults, faults);
  refusals = omega (arith, is.refusals, refusals);
  each = λ number other found. ⊎_elim
      (λ still. ⊎_elim
      (λ same. inr (λ (some : 0 < other.faults).
      let risen : Rose now.faults later.faults = rose (omega (arith, some, ap (λ (v : Viewed). v.faults) (view_is ∙ same))) in
      omega (arith, is.faults, risen)))
      (λ among. inl among)
      (found_first number table.0 table.1.viewed other (viewed more)
      (ap (λ (l : List Numbered). finmap.find nat_cmp number (viewed l)) (sym left_is) ∙ still)))
      (λ handed. inr (λ some. let risen : Rose old.faults now.faults = handed some in omega (arith, risen, faults)))
      (is.each number other found);
}

pub all_handed : (all left : List Numbered) (old new : Seen) → IsHandingBack all left old new → left ≡ []
    → HasHandedBack (views_of all) old new
all_handed all left old new is none = record {
  told = is.told;
  faults = is.faults;
  refusals = is.refusals;
  each = λ number view found. ⊎_elim
      (λ still. let clash : None ≡ Some view = ap (λ (l : List Numbered). finmap.find nat_cmp number (viewed l)) (sym none)
      ∙ still in absurd (cc))
      (λ handed. handed)
      (is.each number view (sym (finmap.get-from_entries nat_cmp_total (viewed all) number) ∙ found));
}
