-- Passes that are joined, and what the view of all of them tells of each.
use Rattle.std.proofs.Common.{◌≡◌, ℕ, suc, ◌<◌, List, [], ◌∷◌, ◌++◌, length, get_or, refl, ap, ◌∙◌, subst, arith, length-append, Option, Bool, true, false}
use Rattle.std.specs.Prelude.{if◌then◌else◌, nat_lt, All}
use Rattle.std.specs.List.{AllByRecursion}
use Rattle.std.proofs.lemmas.List.Elements.{All-from_recursion, recursion_from_All}
use Rattle.std.proofs.lemmas.List.{append-nil}
use Rattle.atomic_table.specs.Table.{Me}
use mathlib.Core.List.{IsPrefix}
use Rattle.turn_lock.specs.declared.view.View.{View}
use Rattle.turn_lock.specs.declared.turn.Turn.{Turn}
use Rattle.turn_lock.specs.declared.turn.Pass.{Pass}
use Rattle.turn_lock.specs.Lists.{total, is_lane, first_lane, first_own}
use Rattle.turn_lock.specs.Views.{lane_in, told_by, both_of}
use Rattle.turn_lock.specs.Rule.{IsOwn, IsHeard}
use Rattle.turn_lock.specs.Passes.{lane, start_of, seen, own, MayClose, IsPart, IsJoined}
use Rattle.turn_lock.specs.Closing.{joined_view, IsEnded}
use Rattle.turn_lock.proofs.Views.{total_append}

-- what holds of each of two lists, one behind the other
all_front : {A : Type 0} (P : A → Type 0) (xs ys : List A) → AllByRecursion P (xs ++ ys) → AllByRecursion P xs × AllByRecursion P ys
all_front P [] ys a = (tt, a)
all_front P (x ∷ xs) ys a = let r = all_front P xs ys a.1 in ((a.0, r.0), r.1)

module _ {E : Type 0} where
  -- a pass with one lane has its own entries there
  one_own : (P : ℕ × List (ℕ × E) → Type 0) (ms : List (ℕ × List (ℕ × E))) → length ms ≡ 1 → AllByRecursion P ms
      → P (first_lane ms, first_own ms)
  one_own P [] one all = absurd (omega arith)
  one_own P (m ∷ ms) one all = all.0

  one_total : (ms : List (ℕ × List (ℕ × E))) (n : ℕ) → length ms ≡ 1
      → total (λ (m : ℕ × List (ℕ × E)). is_lane m.0 n) ms ≡ is_lane (first_lane ms) n
  one_total [] n one = absurd (omega arith)
  one_total (m ∷ []) n one = omega arith
  one_total (m ∷ (k ∷ ms)) n one = absurd (omega arith)

  prefix_same : (xs ys : List (ℕ × E)) → xs ≡ ys → IsPrefix xs ys
  prefix_same xs ys e = subst (λ (zs : List (ℕ × E)). IsPrefix xs zs) e ([], append-nil xs)

module _ {V S E : Type 0} where
  abbrev pub HasOneLane : Pass V S E → Type 0
  HasOneLane pass = length pass.seat.me.0.mine ≡ 1

  -- one more pass is joined
  pub joined_more : (pass : Pass V S E) (passes : List (Pass V S E)) → 0 < length passes
      → joined_view (pass ∷ passes) ≡ both_of (joined_view passes) pass.seat.me.0
  joined_more pass [] lt = absurd (omega arith)
  joined_more pass (next ∷ passes) lt = refl

  -- the view of all has as many lanes as there are passes
  pub joined_long : (passes : List (Pass V S E)) → AllByRecursion HasOneLane passes → length (joined_view passes).mine ≡ length passes
  joined_long [] one = refl
  joined_long (pass ∷ []) one = one.0
  joined_long (pass ∷ (next ∷ passes)) one =
      let l = joined_long (next ∷ passes) one.1 in let a = one.0 in
      let b = length-append (joined_view (next ∷ passes)).mine pass.seat.me.0.mine in omega arith

  -- what is said of each lane of all is said of each pass
  each_own : (P : ℕ × List (ℕ × E) → Type 0) (passes : List (Pass V S E)) → AllByRecursion HasOneLane passes
      → AllByRecursion P (joined_view passes).mine
      → AllByRecursion (λ pass. P (lane pass, own pass)) passes
  each_own P [] one all = tt
  each_own P (pass ∷ []) one all = (one_own P pass.seat.me.0.mine one.0 all, tt)
  each_own P (pass ∷ (next ∷ passes)) one all =
      let r = all_front P (joined_view (next ∷ passes)).mine pass.seat.me.0.mine all in
      (one_own P pass.seat.me.0.mine one.0 r.1, each_own P (next ∷ passes) one.1 r.0)

  -- and what was heard of each
  each_told : (P : Option S × List (ℕ × E) → Type 0) (passes : List (Pass V S E))
      → P (told_by (joined_view passes)) → AllByRecursion P (joined_view passes).heard
      → AllByRecursion (λ pass. P (start_of pass, seen pass)) passes
  each_told P [] told all = tt
  each_told P (pass ∷ []) told all = (told, tt)
  each_told P (pass ∷ (next ∷ passes)) told all =
      let w = joined_view (next ∷ passes) in
      let r = all_front P w.heard (told_by w ∷ told_by pass.seat.me.0 ∷ []) all in
      (r.1.1.0, each_told P (next ∷ passes) r.1.0 r.0)

  -- each lane stands in one pass
  each_lane : (passes : List (Pass V S E)) (n : ℕ) → AllByRecursion HasOneLane passes
      → total (λ (pass : Pass V S E). is_lane (lane pass) n) passes ≡ lane_in n (joined_view passes)
  each_lane [] n one = refl
  each_lane (pass ∷ []) n one = let a = one_total pass.seat.me.0.mine n one.0 in omega arith
  each_lane (pass ∷ (next ∷ passes)) n one =
      let a = one_total pass.seat.me.0.mine n one.0 in let b = each_lane (next ∷ passes) n one.1 in
      let c = total_append (λ (m : ℕ × List (ℕ × E)). is_lane m.0 n) (joined_view (next ∷ passes)).mine pass.seat.me.0.mine in omega arith

  abbrev IsSeenBy : List (Pass V S E) → List (ℕ × E) → Type 0
  IsSeenBy passes history = (k : ℕ) × (d : Pass V S E) × (k < length passes) × (seen (get_or passes k d) ≡ history)

  either_saw : (pass : Pass V S E) (passes : List (Pass V S E)) (xs : List (ℕ × E)) → IsSeenBy passes xs → (b : Bool)
      → IsSeenBy (pass ∷ passes) (if b then pass.seat.me.0.seen else xs)
  either_saw pass passes xs r true = (0, pass, omega arith, refl)
  either_saw pass passes xs r false = let lt = r.2 in (suc r.0, r.1, omega arith, r.3)

  -- the longest of what was seen was seen by one of them
  one_saw : (passes : List (Pass V S E)) → 0 < length passes → IsSeenBy passes (joined_view passes).seen
  one_saw [] lt = absurd (omega arith)
  one_saw (pass ∷ []) lt = (0, pass, omega arith, refl)
  one_saw (pass ∷ (next ∷ passes)) lt =
      let w = joined_view (next ∷ passes) in
      either_saw pass (next ∷ passes) w.seen (one_saw (next ∷ passes) (omega arith)) (nat_lt (length w.seen) (length pass.seat.me.0.seen))

  part : (passes : ℕ) (start : S) (history : List (ℕ × E)) (list : List (Pass V S E))
      → AllByRecursion (λ pass. IsOwn passes history (lane pass, own pass)) list
      → AllByRecursion (λ pass. IsHeard start history (start_of pass, seen pass)) list
      → AllByRecursion (IsPart passes start history) list
  part passes start history [] owns told = tt
  part passes start history (pass ∷ list) owns told = (
    record { start_is = told.0.0; seen_is = told.0.1; lane_is = owns.0.0; own_is = owns.0.1 },
    part passes start history list owns.1 told.1,
  )

  -- what the view of all knows in the end, said of the passes
  pub joined : (follows : S → V → List (ℕ × E) → Type 0) (list : List (Pass V S E)) (value : V) → AllByRecursion HasOneLane list
      → 0 < length list
      → IsEnded (length list) follows (joined_view list) value → IsJoined follows list value
  joined follows list value one some e = record {
    start = e.start;
    history = e.history;
    follows_it = e.follows_it;
    known = e.known;
    each = All-from_recursion (IsPart (length list) e.start e.history) list (part (length list) e.start e.history list
        (each_own (IsOwn (length list) e.history) list one e.mine.0)
        (each_told (IsHeard e.start e.history) list (e.start_is, prefix_same (joined_view list).seen e.history e.seen_is) e.mine.1));
    apart = (λ n. let a = each_lane list n one in let b = e.apart n in omega arith);
    whole = (let r = one_saw list some in (r.0, r.1, r.2, r.3 ∙ e.seen_is));
  }

  -- of all passes that may be given back, each has one lane
  one_each : (turn : Turn V S E) (list : List (Pass V S E)) → AllByRecursion (MayClose turn) list → AllByRecursion HasOneLane list
  one_each turn [] all = tt
  one_each turn (pass ∷ list) all = (all.0.1.1, one_each turn list all.1)

  pub one_lane_each : (turn : Turn V S E) (list : List (Pass V S E)) → All (MayClose turn) list → AllByRecursion HasOneLane list
  one_lane_each turn list all = one_each turn list (recursion_from_All (MayClose turn) list all)

  -- the last of the passes that are left may be given back, as each of them
  pub last_may : (turn : Turn V S E) (all list left behind : List (Pass V S E)) (pass : Pass V S E) → All (MayClose turn) all
      → all ≡ list ++ behind → list ≡ left ++ pass ∷ []
      → MayClose turn pass
  last_may turn all list left behind pass may is last =
      let whole : all ≡ (left ++ pass ∷ []) ++ behind = is ∙ ap (λ (ps : List (Pass V S E)). ps ++ behind) last in
      let each = recursion_from_All (MayClose turn) ((left ++ pass ∷ []) ++ behind)
      (subst (λ (ps : List (Pass V S E)). All (MayClose turn) ps) whole may) in
      (all_front (MayClose turn) left (pass ∷ []) (all_front (MayClose turn) (left ++ pass ∷ []) behind each).0).1.0

  -- the same end, said of the view of the passes
  pub ended_as : (follows : S → V → List (ℕ × E) → Type 0) (list : List (Pass V S E)) (m : Me (Option V) (View S E)) (count : ℕ) (value : V)
      → count ≡ length list → m ≡ (joined_view list, []) → IsEnded count follows m.0 value
      → IsEnded (length list) follows (joined_view list) value
  ended_as follows list m count value long is e = subst (λ (x : ℕ × View S E). IsEnded x.0 follows x.1 value) (λ i. (long i, (is i).0)) e
