-- What a key shares with the key before it.
use Rattle.std.proofs.Common.{◌≡◌, ℕ, ◌+◌, ◌%◌, ◌<◌, ◌≤◌, ◌==◌, Bool, true, false, cond, List, [], ◌∷◌, ◌++◌, length, take, drop, get_or, refl, sym, ap, ◌∙◌, arith, suc, add-one, drop-cons, take-append-drop}
use Rattle.std.proofs.lemmas.List.{drop_all}
use Rattle.std.proofs.lemmas.Bool.Decides.{nat_tests}
use Rattle.lsm_block.specs.BlockText.{common, shared_len}

common_cons : (x y : ℕ) (a b : List ℕ) → common (x ∷ a) (y ∷ b) ≡ cond (x == y) (suc (common a b)) 0
unfolding common
common_cons x y a b = refl

common_none : (a : List ℕ) → common a [] ≡ 0
unfolding common
common_none [] = refl
common_none (x ∷ a) = refl

none_common : (b : List ℕ) → common [] b ≡ 0
unfolding common
none_common b = refl

pub same_number : (x y : ℕ) → (x == y) ≡ true → x ≡ y
same_number x y e = grind (arith, nat_tests)

-- what a fact of two lists says of longer ones, by whether their first bytes are the same
by_first : (P : ℕ → Type 0) (x y n : ℕ) → (x ≡ y → P (suc n)) → P 0 → P (cond (x == y) (suc n) 0)
by_first P x y n more none = by_test (x == y) refl
  where
    by_test : (t : Bool) → (x == y) ≡ t → P (cond t (suc n) 0)
    by_test true e = more (same_number x y e)
    by_test false e = none

pub common_le : (a b : List ℕ) → (common a b ≤ length a) × (common a b ≤ length b)
common_le [] b = let none = none_common b in (omega arith, omega arith)
common_le (x ∷ a) [] = let none = common_none (x ∷ a) in (omega arith, omega arith)
common_le (x ∷ a) (y ∷ b) =
    let rest = common_le a b in
    rw (common_cons x y a b) (by_first (λ n. (n ≤ length (x ∷ a)) × (n ≤ length (y ∷ b))) x y (common a b) (λ same. (omega (arith, rest.0), omega (arith, rest.1))) (omega arith, omega arith))

pub common_take : (a b : List ℕ) → take (common a b) b ≡ take (common a b) a
common_take [] b = rw (none_common b) refl
common_take (x ∷ a) [] = rw (common_none (x ∷ a)) refl
common_take (x ∷ a) (y ∷ b) =
    rw (common_cons x y a b) (by_first (λ n. take n (y ∷ b) ≡ take n (x ∷ a)) x y (common a b) (λ same. λ i. sym same i ∷ common_take a b i) refl)

-- one byte more of two lists
pub common_step : (a b : List ℕ) (at : ℕ) → at < length a → at < length b → get_or a at 0 ≡ get_or b at 0 → common (drop at a) (drop at b) ≡ suc (common (drop (at + 1) a) (drop (at + 1) b))
common_step a b at inside within same =
    rw (add-one, drop-cons a at 0, drop-cons b at 0) (common_cons (get_or a at 0) (get_or b at 0) (drop (suc at) a) (drop (suc at) b) ∙ grind (arith, nat_tests))

pub common_stop : (a b : List ℕ) (at : ℕ) → at < length a → at < length b → (get_or a at 0 ≡ get_or b at 0 → ⊥) → common (drop at a) (drop at b) ≡ 0
common_stop a b at inside within other =
    rw (drop-cons a at 0, drop-cons b at 0) (common_cons (get_or a at 0) (get_or b at 0) (drop (suc at) a) (drop (suc at) b) ∙ grind (arith, nat_tests))

pub common_end : (a b : List ℕ) (at : ℕ) → (length a ≤ at) → common (drop at a) (drop at b) ≡ 0
common_end a b at past = ap (λ t. common t (drop at b)) (drop_all at a past) ∙ none_common (drop at b)

pub common_end_too : (a b : List ℕ) (at : ℕ) → (length b ≤ at) → common (drop at a) (drop at b) ≡ 0
common_end_too a b at past = ap (common (drop at a)) (drop_all at b past) ∙ common_none (drop at a)

-- the same of the shared length
pub shared_le : (number : ℕ) (before key : List ℕ) → (shared_len number before key ≤ length before) × (shared_len number before key ≤ length key)
unfolding shared_len
shared_le number before key = by_test (number % 16 == 0)
  where
    by_test : (t : Bool) → (cond t 0 (common before key) ≤ length before) × (cond t 0 (common before key) ≤ length key)
    by_test true = (omega arith, omega arith)
    by_test false = common_le before key

shared_take : (number : ℕ) (before key : List ℕ) → take (shared_len number before key) key ≡ take (shared_len number before key) before
unfolding shared_len
shared_take number before key = by_test (number % 16 == 0)
  where
    by_test : (t : Bool) → take (cond t 0 (common before key)) key ≡ take (cond t 0 (common before key)) before
    by_test true = refl
    by_test false = common_take before key

-- a key is what it shares and its rest
pub key_joined : (number : ℕ) (before key : List ℕ) → take (shared_len number before key) before ++ drop (shared_len number before key) key ≡ key
key_joined number before key =
    ap (λ s. s ++ drop (shared_len number before key) key) (sym (shared_take number before key)) ∙ take-append-drop (shared_len number before key) key
