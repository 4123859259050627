-- The entries of each lane, as the history grows.
use Rattle.std.proofs.Common.{◌≡◌, ◌≢◌, ℕ, eq-eqb, ne_eqb, zero, suc, ◌+◌, ◌<◌, ◌≤◌, List, [], ◌∷◌, ◌++◌, length, refl, ap, ◌∙◌, arith, Option}
use Rattle.std.specs.Prelude.{◌==◌}
use Rattle.std.specs.List.{AllByRecursion}
use Rattle.std.proofs.lemmas.List.{append-nil}
use Rattle.std.proofs.lemmas.List.Elements.{filter-append}
use Rattle.std.proofs.lemmas.Bool.Decides.{nat_tests}
use mathlib.Core.Logic.{dite}
use native.Mathlib.Decide.{ℕ_discrete}
use Rattle.turn_lock.specs.Lists.{total, is_lane, own_entries, tagged, blank, noted, first_lane}
use Rattle.turn_lock.specs.Rule.{IsOwn, IsHeard}
use Rattle.turn_lock.proofs.Views.{prefix_longer}

pub same_self : (n : ℕ) → is_lane n n ≡ 1
same_self n = grind (arith, nat_tests)

pub same_other : (l n : ℕ) → l ≢ n → is_lane l n ≡ 0
same_other l n ne = grind (arith, nat_tests)

-- blank lanes: how many they are, that no number stands twice, and that none has an entry of an empty history
pub blank_long : (E : Type 0) (k n : ℕ) → length (blank {E = E} k n) ≡ n
blank_long E k zero = refl
blank_long E k (suc n) = let e = blank_long E (k + 1) n in omega arith

blank_above : (E : Type 0) (k n l : ℕ) → l < k → total (λ (m : ℕ × List (ℕ × E)). is_lane m.0 l) (blank k n) ≡ 0
blank_above E k zero l lt = refl
blank_above E k (suc n) l lt = let e = blank_above E (k + 1) n l (omega arith) in let d = same_other k l (λ x. omega arith) in omega arith

pub blank_once : (E : Type 0) (k n l : ℕ) → total (λ (m : ℕ × List (ℕ × E)). is_lane m.0 l) (blank k n) ≤ 1
blank_once E k zero l = omega arith
blank_once E k (suc n) l = dite (ℕ_discrete k l)
    (λ e. let a = blank_above E (k + 1) n l (omega arith) in
    let d : is_lane k l ≡ 1 = ap (λ (x : ℕ). is_lane x l) e ∙ same_self l in omega arith)
    (λ ne. let a = blank_once E (k + 1) n l in let d = same_other k l ne in omega arith)

pub blank_mine : (E : Type 0) (passes k n : ℕ) → k + n ≤ passes → AllByRecursion (IsOwn {E = E} passes []) (blank k n)
blank_mine E passes k zero le = tt
blank_mine E passes k (suc n) le = ((omega arith, refl), blank_mine E passes (k + 1) n (omega arith))

module _ {E : Type 0} where
  pub tagged_long : (n : ℕ) (more : List E) → length (tagged n more) ≡ length more
  tagged_long n [] = refl
  tagged_long n (e ∷ es) = ap suc (tagged_long n es)

  pub tagged_known : (passes n : ℕ) (more : List E) → n < passes → AllByRecursion (λ (entry : ℕ × E). entry.0 < passes) (tagged n more)
  tagged_known passes n [] lt = tt
  tagged_known passes n (e ∷ es) lt = (lt, tagged_known passes n es lt)

  pub noted_long : (ms : List (ℕ × List (ℕ × E))) (more : List E) → length (noted ms more) ≡ length ms
  noted_long [] more = refl
  noted_long (m ∷ ms) more = refl

  pub noted_first : (ms : List (ℕ × List (ℕ × E))) (more : List E) → first_lane (noted ms more) ≡ first_lane ms
  noted_first [] more = refl
  noted_first (m ∷ ms) more = refl

  pub noted_lanes : (ms : List (ℕ × List (ℕ × E))) (more : List E) (n : ℕ)
      → total (λ (m : ℕ × List (ℕ × E)). is_lane m.0 n) (noted ms more) ≡ total (λ (m : ℕ × List (ℕ × E)). is_lane m.0 n) ms
  noted_lanes [] more n = refl
  noted_lanes (m ∷ ms) more n = refl

  pub first_there : (ms : List (ℕ × List (ℕ × E))) → 0 < length ms → 1 ≤ total (λ (m : ℕ × List (ℕ × E)). is_lane m.0 (first_lane ms)) ms
  first_there [] h = absurd (omega arith)
  first_there (m ∷ ms) h = let a = same_self m.0 in omega arith

  -- the first lane is one of the turn's
  pub first_below : (passes : ℕ) (history : List (ℕ × E)) (ms : List (ℕ × List (ℕ × E))) → 0 < length ms
      → AllByRecursion (IsOwn passes history) ms → first_lane ms < passes
  first_below passes history [] h all = absurd (omega arith)
  first_below passes history (m ∷ ms) h all = all.0.0

  own_tagged : (n : ℕ) (more : List E) → own_entries n (tagged n more) ≡ tagged n more
  own_tagged n [] = refl
  own_tagged n (e ∷ es) = rw (eq-eqb n n refl) (ap (λ (xs : List (ℕ × E)). (n, e) ∷ xs) (own_tagged n es))

  own_other : (n l : ℕ) (more : List E) → l ≢ n → own_entries n (tagged l more) ≡ []
  own_other n l [] ne = refl
  own_other n l (e ∷ es) ne = rw (ne_eqb l n ne) (own_other n l es ne)

  own_append : (n : ℕ) (xs ys : List (ℕ × E)) → own_entries n (xs ++ ys) ≡ own_entries n xs ++ own_entries n ys
  own_append n xs ys = filter-append (λ (entry : ℕ × E). entry.0 == n) xs ys

  -- lanes with none of the new entries keep their own
  pub mine_other : (passes : ℕ) (history : List (ℕ × E)) (more : List E) (l : ℕ) (ms : List (ℕ × List (ℕ × E)))
      → total (λ (m : ℕ × List (ℕ × E)). is_lane m.0 l) ms ≡ 0 → AllByRecursion (IsOwn passes history) ms
      → AllByRecursion (IsOwn passes (history ++ tagged l more)) ms
  mine_other passes history more l [] none all = tt
  mine_other passes history more l (m ∷ ms) none all = (
    (
      all.0.0,
      own_append m.0 history (tagged l more)
          ∙ ap (λ (xs : List (ℕ × E)). own_entries m.0 history ++ xs)
          (own_other m.0 l more (λ e. let a : is_lane m.0 l ≡ 1 = ap (λ (x : ℕ). is_lane m.0 x) e ∙ same_self m.0 in omega arith))
          ∙ append-nil (own_entries m.0 history) ∙ all.0.1,
    ),
    mine_other passes history more l ms (omega arith) all.1,
  )

  -- the first lane has the new entries, and the others have none
  pub mine_noted : (passes : ℕ) (history : List (ℕ × E)) (more : List E) (ms : List (ℕ × List (ℕ × E)))
      → total (λ (m : ℕ × List (ℕ × E)). is_lane m.0 (first_lane ms)) ms ≤ 1 → AllByRecursion (IsOwn passes history) ms
      → AllByRecursion (IsOwn passes (history ++ tagged (first_lane ms) more)) (noted ms more)
  mine_noted passes history more [] one all = tt
  mine_noted passes history more (m ∷ ms) one all = (
    (
      all.0.0,
      own_append m.0 history (tagged m.0 more)
          ∙ ap (λ (xs : List (ℕ × E)). own_entries m.0 history ++ xs) (own_tagged m.0 more)
          ∙ ap (λ (xs : List (ℕ × E)). xs ++ tagged m.0 more) all.0.1,
    ),
    mine_other passes history more m.0 ms (let a = same_self m.0 in omega arith) all.1,
  )

-- what was heard stays a first part of a history that grows
pub heard_on : {S E : Type 0} (start : S) (history more : List (ℕ × E)) (told : List (Option S × List (ℕ × E)))
    → AllByRecursion (IsHeard start history) told → AllByRecursion (IsHeard start (history ++ more)) told
heard_on start history more [] all = tt
heard_on start history more (x ∷ xs) all = ((all.0.0, prefix_longer x.1 history more all.0.1), heard_on start history more xs all.1)
