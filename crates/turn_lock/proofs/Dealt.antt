-- Passes as they are dealt.
use Rattle.std.proofs.Common.{◌≡◌, ℕ, zero, suc, ◌+◌, ◌-◌, ◌<◌, List, [], ◌∷◌, ◌++◌, length, sym, refl, ap, ◌∙◌, subst, arith, length-append, Option}
use Rattle.std.proofs.lemmas.List.{get_or_append_left, get_or_push}
use mathlib.Core.Logic.{dite}
use Rattle.atomic_table.specs.Table.{Me}
use native.Mathlib.Decide.{ℕ_discrete}
use Rattle.turn_lock.specs.declared.view.View.{View}
use Rattle.turn_lock.specs.declared.turn.Turn.{Turn}
use Rattle.turn_lock.specs.declared.turn.Pass.{Pass}
use Rattle.turn_lock.specs.Lists.{first_lane, first_own}
use Rattle.turn_lock.specs.Views.{begun, left_of, right_of}
use Rattle.turn_lock.specs.Passes.{IsPassOf, IsNew, AreNew}
use Rattle.turn_lock.proofs.Lanes.{blank_long}

module _ {S E : Type 0} where
  -- the first of the lanes from a number on is split off
  pub deal_left : (from n : ℕ) (start : S) → 0 < n → left_of (begun {E = E} from n start) ≡ begun (from + 1) (n - 1) start
  deal_left from zero start lt = absurd (omega arith)
  deal_left from (suc n) start lt = let e : n ≡ suc n - 1 = omega arith in ap (λ (k : ℕ). begun (from + 1) k start) e

  pub deal_right : (from n : ℕ) (start : S) → 0 < n → right_of (begun {E = E} from n start) ≡ begun from 1 start
  deal_right from zero start lt = absurd (omega arith)
  deal_right from (suc n) start lt = refl

  -- how many lanes such a view has
  pub begun_long : (from n : ℕ) (start : S) (v : View S E) → v ≡ begun from n start → length v.mine ≡ n
  begun_long from n start v is = ap (λ (u : View S E). length u.mine) is ∙ blank_long E from n

module _ {V S E : Type 0} where
  -- a pass with one blank lane is new
  pub new_pass : (turn : Turn V S E) (number : ℕ) (start : S) (pass : Pass V S E) → IsPassOf turn pass
      → pass.seat.me ≡ (begun number 1 start, []) → IsNew turn number start pass
  new_pass turn number start pass of is = record {
    table = of;
    free = ((λ i. (is i).0.stage, λ i. (is i).1), λ i. length (is i).0.mine);
    lane_is = λ i. first_lane (is i).0.mine;
    start_is = λ i. (is i).0.start;
    seen_is = λ i. (is i).0.seen;
    own_is = λ i. first_own (is i).0.mine;
  }

  -- one more new pass behind the others
  pub new_more : (turn : Turn V S E) (start : S) (passes : List (Pass V S E)) (pass : Pass V S E)
      → AreNew turn start passes → IsNew turn (length passes) start pass → AreNew turn start (passes ++ pass ∷ [])
  new_more turn start passes pass are is k d lt = dite (ℕ_discrete k (length passes))
      (λ e. subst (λ (x : ℕ × Pass V S E). IsNew turn x.0 start x.1) (λ i. (sym e i, sym (get_or_push passes pass d k (sym e)) i)) is)
      (λ ne. let less : k < length passes = (let l = length-append passes (pass ∷ []) in omega arith) in
      subst (IsNew turn k start) (sym (get_or_append_left passes (pass ∷ []) d k less)) (are k d less))

  -- a list of new passes with one more
  pub deals_more : (turn : Turn V S E) (start : S) (passes more : List (Pass V S E)) (pass : Pass V S E)
      → AreNew turn start passes → IsPassOf turn pass
      → pass.seat.me ≡ (begun (length passes) 1 start, []) → more ≡ passes ++ pass ∷ [] → AreNew turn start more
  deals_more turn start passes more pass are of me is =
      subst (AreNew turn start) (sym is) (new_more turn start passes pass are (new_pass turn (length passes) start pass of me))

  -- the lane that is split off, and what stays
  pub deals_one : (n p : ℕ) (start : S) (old new : Me (Option V) (View S E)) → old ≡ (begun n (p - n) start, [])
      → new ≡ (right_of old.0, []) → n < p
      → new ≡ (begun n 1 start, [])
  deals_one n p start old new was is lt = is ∙ (λ i. (right_of (was i).0, []))
      ∙ ap (λ (v : View S E). (v, [])) (deal_right n (p - n) start (omega arith))

  pub deals_rest : (n p len : ℕ) (start : S) (old new : Me (Option V) (View S E)) → old ≡ (begun n (p - n) start, [])
      → new ≡ (left_of old.0, []) → n < p → len ≡ n + 1
      → new ≡ (begun len (p - len) start, [])
  deals_rest n p len start old new was is lt long =
      let less : p - n - 1 ≡ p - len = omega arith in
      is ∙ (λ i. (left_of (was i).0, [])) ∙ ap (λ (v : View S E). (v, [])) (deal_left n (p - n) start (omega arith))
      ∙ (λ i. (begun (sym long i) (less i) start, []))

  pub deals_last : (n p : ℕ) (start : S) (m : Me (Option V) (View S E)) → m ≡ (begun n (p - n) start, []) → n + 1 ≡ p
      → m ≡ (begun n 1 start, [])
  deals_last n p start m was end = let one : p - n ≡ 1 = omega arith in was ∙ (λ i. (begun n (one i) start, []))
