-- Whether the first held row belongs to what is found.
use Rattle.std.proofs.Common.{◌≡◌, ℕ, Bool, true, false, List, [], sym, ap, ◌∙◌, subst}
use Rattle.std.specs.Prelude.{Some, None, Contains, slice_get, nat_eq}
use Rattle.std.specs.Cmp.Lexicographic.{pointwise, same_text, nat_list_eq_equiv}
use Rattle.std.specs.declared.cmp.Ordering.TheVariants.{Less}
use Rattle.lsm_rows.specs.declared.rows.Row.{Row}
use Rattle.lsm_rows.specs.Replay.{key_cmp}
use Rattle.lsm_merge.specs.declared.heads.Head.{Head}
use Rattle.lsm_merge.specs.Held.{AreFrom}
use Rattle.lsm_merge.specs.Order.{IsFrom}
use Rattle.lsm_merge.specs.Merging.{Merging, IsReady}
use Rattle.lsm_merge.specs.Steps.{HasMore, IsSettled}
use Rattle.lsm_merge.proofs.Lists.{some_same, got_is_in, none_in_nil}
use Rattle.lsm_merge.proofs.Orders.{from_other, from_later}

module _ {S : Type 0} (left : S → List Row) (ended : S → Bool) (m was : Merging S) (same : was ≡ m) where
  -- its user key is the found row's
  pub more_same : (head : Head) (row : Row) (a b : List ℕ) (r : Bool) → slice_get was.heads 0 ≡ Some head
      → was.found ≡ Some row → a ≡ head.row.key → b ≡ row.key → r ≡ pointwise nat_eq a b → r ≡ true → HasMore m
  unfolding HasMore
  more_same head row a b r top found a_is b_is test is =
      subst (λ (n : Merging S). (h : Head) × (slice_get n.heads 0 ≡ Some h)
      × ((f : Row) → n.found ≡ Some f → h.row.key ≡ f.key)) same (
        head,
        top,
        λ f f_is. sym a_is ∙ same_text a b (sym is ∙ test) ∙ b_is ∙ ap (λ (x : Row). x.key)
            (some_same row f (sym found ∙ f_is)),
      )

  -- none is found
  pub more_none : (head : Head) → slice_get was.heads 0 ≡ Some head → was.found ≡ None → HasMore m
  unfolding HasMore
  more_none head top none =
      subst (λ (n : Merging S). (h : Head) × (slice_get n.heads 0 ≡ Some h)
      × ((f : Row) → n.found ≡ Some f → h.row.key ≡ f.key)) same
      (head, top, λ f f_is. absurd (let clash : None ≡ Some f = sym none ∙ f_is in cc))

  -- its user key is another
  pub settled_other : (head : Head) (row : Row) (a b : List ℕ) (r : Bool) → IsReady left ended m
      → slice_get was.heads 0 ≡ Some head → AreFrom head.row was.heads → was.found ≡ Some row → a ≡ head.row.key
      → b ≡ row.key
      → r ≡ pointwise nat_eq a b → r ≡ false → IsSettled m
  unfolding IsSettled AreFrom
  settled_other head row a b r ready top bound found a_is b_is test is = λ other has.
      let found_m : m.found ≡ Some row = sym (ap (λ (n : Merging S). n.found) same) ∙ found in
      let top_in : Contains m.heads head = got_is_in m.heads 0 head
      (ap (λ (n : Merging S). slice_get n.heads 0) (sym same) ∙ top) in
      let from : IsFrom row head.row = (ready.first row found_m).1 head top_in in
      let differ : ¬ (head.row.key ≡ row.key) = λ keys. let clash : true ≡ false = sym (nat_list_eq_equiv.refl b)
      ∙ ap (λ (l : List ℕ). pointwise nat_eq l b) (b_is ∙ sym keys ∙ sym a_is) ∙ sym test ∙ is in absurd (cc) in
      let later : key_cmp row.key head.row.key ≡ Less = from_other row head.row from differ in (
        row,
        found_m,
        from_later row.key head.row other.row later
            (bound other (subst (λ (n : Merging S). Contains n.heads other) (sym same) has)),
      )

  -- none is held
  pub settled_none : was.heads ≡ [] → IsSettled m
  unfolding IsSettled
  settled_none none = λ other has.
      absurd (none_in_nil other (subst (λ (l : List Head). Contains l other) none
      (subst (λ (n : Merging S). Contains n.heads other) (sym same) has)))
