-- Sums of additions, by the lanes that made them.
use Rattle.std.proofs.Common.{◌≡◌, ◌≢◌, ℕ, eq-eqb, ne_eqb, ◌+◌, ◌%◌, ◌^◌, ◌<◌, List, [], ◌∷◌, ◌++◌, sym, refl, ap, ◌∙◌, arith, Option, Some, None}
use Rattle.std.specs.Prelude.{if◌then◌else◌, ◌==◌}
use Rattle.std.specs.List.{AllByRecursion}
use mathlib.Core.Logic.{dite}
use native.Mathlib.Decide.{ℕ_discrete}
use Rattle.turn_lock.specs.declared.turn.Pass.{Pass}
use Rattle.turn_lock.specs.Lists.{own_entries}
use Rattle.turn_lock.specs.Steps.{FollowsFrom}
use Rattle.turn_lock.specs.declared.turn.Turn.{Turn}
use Rattle.turn_lock.specs.Passes.{lane, start_of, own, IsNew, IsPart, IsJoined}
use Rattle.tests_turn.specs.declared.counter.Count.{Count}
use Rattle.tests_turn.specs.declared.counter.Opening.{Opening}
use Rattle.tests_turn.specs.declared.counter.Addition.{Addition}
use Rattle.tests_turn.specs.Counts.{opening, addition, sum_of, counts, HasAdded}

sum_append : (xs ys : List (ℕ × Addition)) → sum_of (xs ++ ys) ≡ sum_of xs + sum_of ys
sum_append [] ys = omega arith
sum_append (x ∷ xs) ys = let e = sum_append xs ys in omega arith

-- the addition where it is of this lane, else 0
abbrev part_of : ℕ → ℕ × Addition → ℕ
part_of k x = if x.0 == k then x.1.by else 0

sum_step : (k : ℕ) (x : ℕ × Addition) (xs : List (ℕ × Addition)) → sum_of (own_entries k (x ∷ xs)) ≡ part_of k x + sum_of (own_entries k xs)
sum_step k x xs = dite (ℕ_discrete x.0 k)
    (λ e. rw (eq-eqb x.0 k e) (omega arith))
    (λ ne. rw (ne_eqb x.0 k ne) (omega arith))

part_same : (k : ℕ) (x : ℕ × Addition) → x.0 ≡ k → part_of k x ≡ x.1.by
part_same k x e = rw (eq-eqb x.0 k e) refl

part_other : (k : ℕ) (x : ℕ × Addition) → x.0 ≢ k → part_of k x ≡ 0
part_other k x ne = rw (ne_eqb x.0 k ne) refl

-- an addition is of one of three lanes
three_parts : (x : ℕ × Addition) → x.0 < 3 → part_of 0 x + (part_of 1 x + part_of 2 x) ≡ x.1.by
three_parts x lt = dite (ℕ_discrete x.0 0)
    (λ e. let a = part_same 0 x e in let b = part_other 1 x (λ h. omega arith) in let c = part_other 2 x (λ h. omega arith) in omega arith)
    (λ n. dite (ℕ_discrete x.0 1)
    (λ e. let a = part_other 0 x n in let b = part_same 1 x e in let c = part_other 2 x (λ h. omega arith) in omega arith)
    (λ n'. let e : x.0 ≡ 2 = omega arith in let a = part_other 0 x n in let b = part_other 1 x n' in let c = part_same 2 x e in omega arith))

-- so the additions of three lanes are added up lane by lane
three_sums : (history : List (ℕ × Addition)) → AllByRecursion (λ (entry : ℕ × Addition). entry.0 < 3) history
    → sum_of history ≡ sum_of (own_entries 0 history) + (sum_of (own_entries 1 history) + sum_of (own_entries 2 history))
three_sums [] known = refl
three_sums (x ∷ xs) known =
    let e = three_sums xs known.1 in let p = three_parts x known.0 in
    let a = sum_step 0 x xs in let b = sum_step 1 x xs in let c = sum_step 2 x xs in omega arith

-- what is added is counted
pub counts_more : (start : Option Opening) (before after : Count) (history : List (ℕ × Addition)) (lane by : ℕ) → FollowsFrom counts start before history
    → after.n ≡ (before.n + by) % 2 ^ 64 → FollowsFrom counts start after (history ++ (lane, addition by) ∷ [])
counts_more None before after history lane by follows is = follows
counts_more (Some start) before after history lane by follows is = let s = sum_append history ((lane, addition by) ∷ []) in omega arith

abbrev start_in : Option Opening → ℕ
start_in None = 0
start_in (Some start) = start.n

-- the sum of a lane with one addition
one_sum : (n k by : ℕ) (history own : List (ℕ × Addition)) → n ≡ k → own_entries n history ≡ own → own ≡ (k, addition by) ∷ [] → sum_of (own_entries k history) ≡ by
one_sum n k by history own is has one =
    let e : own_entries k history ≡ (k, addition by) ∷ [] = ap (λ (l : ℕ). own_entries l history) (sym is) ∙ has ∙ one in
    let s = ap sum_of e in omega arith

-- the count that three threads leave
pub counted : (from x y z : ℕ) (a b c : Pass Count Opening Addition) (value : Count) → IsJoined counts (a ∷ b ∷ c ∷ []) value
    → start_of a ≡ Some (opening from) → (lane a ≡ 0) × (own a ≡ (0, addition x) ∷ []) → (lane b ≡ 1) × (own b ≡ (1, addition y) ∷ []) → (lane c ≡ 2) × (own c ≡ (2, addition z) ∷ [])
    → value.n ≡ (from + (x + (y + z))) % 2 ^ 64
counted from x y z a b c value j begun is_a is_b is_c =
    let pa : IsPart 3 j.start j.history a = j.each 0 a (omega arith) in
    let pb : IsPart 3 j.start j.history b = j.each 1 a (omega arith) in
    let pc : IsPart 3 j.start j.history c = j.each 2 a (omega arith) in
    let start : j.start.n ≡ from = ap start_in (sym pa.start_is ∙ begun) in
    let sx = one_sum (lane a) 0 x j.history (own a) is_a.0 pa.own_is is_a.1 in
    let sy = one_sum (lane b) 1 y j.history (own b) is_b.0 pb.own_is is_b.1 in
    let sz = one_sum (lane c) 2 z j.history (own c) is_c.0 pc.own_is is_c.1 in
    let all = three_sums j.history j.known in
    let fol : value.n ≡ (j.start.n + sum_of j.history) % 2 ^ 64 = j.follows_it in
    omega arith

-- a new pass that has added once
pub is_one : (turn : Turn Count Opening Addition) (k : ℕ) (start : Opening) (by : ℕ) (before after : Pass Count Opening Addition) → IsNew turn k start before
    → HasAdded turn before by after → (lane after ≡ k) × (own after ≡ (k, addition by) ∷ [])
is_one turn k start by before after new added = (
  added.lane_is ∙ new.lane_is,
  added.own_is ∙ (λ i. (new.own_is i) ++ (new.lane_is i, addition by) ∷ []),
)
