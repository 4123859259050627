-- The greatest number of a table, out of the sorted map that a version is.
use Rattle.std.specs.Prelude.{◌≡◌, ◌⊎◌, ℕ, ◌+◌, ◌^◌, ◌<◌, ◌≤◌, Bool, true, false, is_some, max, List, [], ◌∷◌, length, Some}
use Rattle.std.proofs.Common.{inl, inr, refl, sym, ap, subst, ◌∙◌, arith}
use Rattle.std.proofs.lemmas.Bool.Decides.{nat_tests}
use Rattle.std.specs.Bool.{nat_le}
use Rattle.std.specs.Ordering.{nat_cmp, is_eq, is_lt}
use Rattle.std.specs.Map.{lookup}
use Rattle.std.proofs.Math.Nat.{max-eq_left, max-eq_right}
use Rattle.std.specs.BTreeMap.{BTreeMap, IsUpperBound, btree_map_len, get}
use Rattle.std.specs.FinMap as finmap
use Rattle.lsm_version.specs.declared.tables.Placed.{Placed}
use Rattle.lsm_version.specs.Levels.{Tables}
use Rattle.lsm_version.proofs.TableMaps.{value_at}
use Rattle.lsm_recover.specs.Stated.{AreSaid}
use Rattle.lsm_opening.specs.Numbers.{AreTablesBefore, IsBehindOne}

not_less : (last q : ℕ) → is_lt (nat_cmp last q) ≡ false → q < last + 1
not_less last q is = grind (arith, nat_tests, is)

some_entry : (at : ℕ → Bool) (es : List (ℕ × Placed)) → is_some (lookup at es) ≡ true → 0 < length es
some_entry at [] some = absurd (cc)
some_entry at (e ∷ es) some = omega arith

-- one of two numbers is less, or it isn't
pub either : (m n : ℕ) → (m < n) ⊎ (n ≤ m)
either m n = by (nat_le n m) refl
  where
    by : (b : Bool) → nat_le n m ≡ b → (m < n) ⊎ (n ≤ m)
    by true is = inr (grind (arith, nat_tests))
    by false is = inl (grind (arith, nat_tests))

module _ (tables : Tables) (m : BTreeMap ℕ Placed) (is : finmap.from_entries m.entries ≡ tables) where
  here : (q : ℕ) → get nat_cmp m q ≡ finmap.get tables q
  here q = value_at m.entries q ∙ ap (λ (t : Tables). finmap.get t q) is

  -- tables come at most at the last number
  pub last_before : (last : ℕ) → IsUpperBound nat_cmp m last → AreTablesBefore (last + 1) tables
  last_before last greatest number there = not_less last number (greatest number (ap is_some (here number) ∙ there))

  module _ (last : ℕ) (placed : Placed) (value : get nat_cmp m last ≡ Some placed) where
    pub last_behind : IsBehindOne (last + 1) tables
    last_behind = inr (last, ap is_some (sym (here last) ∙ value), refl)

    pub last_small : AreSaid tables → last < 2 ^ 56
    last_small said = omega (arith, (said last placed (sym (here last) ∙ value)).place.number_is.most)

  -- an empty map has no table
  pub none_before : (0 < btree_map_len m → ⊥) → AreTablesBefore 1 tables
  none_before never number there =
      absurd (never (some_entry (λ (k : ℕ). is_eq (nat_cmp number k)) m.entries (ap is_some (here number) ∙ there)))

-- the first number is one of two, and past what is left
pub too_few : (next behind first t : ℕ) (tables : Tables) → IsBehindOne behind tables → first ≡ max next behind
    → 2 ^ 56 ≤ first + t + 2 → (x : ℕ) × ((x ≡ next) ⊎ IsBehindOne x tables) × (2 ^ 56 ≤ x + t + 2)
too_few next behind first t tables one is full = (first, by (either next behind), full)
  where
    by : (next < behind) ⊎ (behind ≤ next) → (first ≡ next) ⊎ IsBehindOne first tables
    by (inl less) = inr (subst (λ (n : ℕ). IsBehindOne n tables) (sym (is ∙ max-eq_right (omega (arith, less)))) one)
    by (inr more) = inl (is ∙ max-eq_left more)
