-- The heap of held rows.
use Rattle.std.proofs.Common.{inl, inr, ⊎_elim, ◌≡◌, ℕ, ◌+◌, List, ◌∷◌, length, refl, sym, ap, subst, arith}
use Rattle.std.specs.Prelude.{◌⊎◌, Contains, Option, Some, None, IfSome, Result, Ok, OnOk, IsPermutation}
use Rattle.std.specs.Borrow.{Bor}
use Rattle.std.specs.BinaryHeap.{IsHeap, IsUpperBound, PopsGreatest}
use Rattle.lsm_rows.specs.declared.rows.Row.{Row}
use Rattle.lsm_merge.specs.declared.heads.Head.{Head}
use Rattle.lsm_merge.specs.Order.{row_cmp}
use Rattle.lsm_merge.specs.Held.{AreFrom, IsPut, IsReplaced}
use Rattle.std.proofs.lemmas.List.Sorted.{IsPermutation-sym, Contains-permutation, length_permutation}
use Rattle.lsm_merge.proofs.Lists.{some_same, cons_cases, cons_here, cons_there}
use Rattle.lsm_merge.proofs.Moves.{listed}
use Rattle.lsm_merge.proofs.Orders.{from_bound}

-- none of the held rows comes before the top
pub top_first : (o : Option (Bor Head)) (heads : List Head) → IsHeap (λ a b. row_cmp b.row a.row) heads
    → IfSome o (λ x. IsHeap (λ a b. row_cmp b.row a.row) heads → IsUpperBound (λ a b. row_cmp b.row a.row) x.now
    heads) → IfSome o (λ head. AreFrom head.now.row heads)
top_first None heads heap greatest = greatest
top_first (Some x) heads heap greatest = from_bound x.now heads (greatest heap)

-- what a source answered is held
pub put_some : {E U : Type 0} (answer : Option Row) (row : Row) (place : ℕ) (old was new : List Head) (r : Result U E)
    (u : U) → answer ≡ Some row → r ≡ Ok u → was ≡ old
    → OnOk r (IsPermutation (record { row = row; place = place } ∷ was) new) → IsPut answer place old new
unfolding IsPut
put_some answer row place old was new r u is ok same put =
    subst (λ (a : Option Row). IsPut a place old new) (sym is)
    (subst (λ (l : List Head). IsPermutation (record { row = row; place = place } ∷ l) new) same
    (subst (λ x. OnOk x (IsPermutation (record { row = row; place = place } ∷ was) new)) ok put))

pub put_none : (answer : Option Row) (place : ℕ) (heads : List Head) → answer ≡ None → IsPut answer place heads heads
unfolding IsPut
put_none answer place heads is = subst (λ (a : Option Row). IsPut a place heads heads) (sym is) refl

-- the top that was popped
pub popped_first : (o : Option Head) (head : Head) (old was new : List Head) → o ≡ Some head → was ≡ old
    → IsHeap (λ a b. row_cmp b.row a.row) was
    → IfSome o (λ x. PopsGreatest (λ a b. row_cmp b.row a.row) was x new) → AreFrom head.row old
popped_first o head old was new is same heap pops =
    subst (λ (l : List Head). AreFrom head.row l) same
    (from_bound head was ((subst (λ (x : Option Head). IfSome x
    (λ y. PopsGreatest (λ a b. row_cmp b.row a.row) was y new)) is pops) heap).1)

pub popped_rest : (o : Option Head) (head : Head) (old was new : List Head) → o ≡ Some head → was ≡ old
    → IfSome o (λ x. IsPermutation was (x ∷ new)) → IsPermutation old (head ∷ new)
popped_rest o head old was new is same rest =
    subst (λ (l : List Head). IsPermutation l (head ∷ new)) same
    (subst (λ (x : Option Head). IfSome x (λ y. IsPermutation was (y ∷ new))) is rest)

-- which rows are held then
pub put_into : (answer : Option Row) (place : ℕ) (old new : List Head) → IsPut answer place old new → (head : Head)
    → Contains new head → Contains old head ⊎ ((head.place ≡ place) × (answer ≡ Some head.row))
unfolding IsPut
put_into None place old new put head has = inl (subst (λ (l : List Head). Contains l head) put has)
put_into (Some row) place old new put head has =
    let h : Head = record { row = row; place = place } in
    ⊎_elim (λ same. inr (ap (λ (x : Head). x.place) same, ap (λ (x : Head). Some x.row) (sym same))) (λ was. inl was)
    (cons_cases h old head (Contains-permutation new (h ∷ old) head (IsPermutation-sym (h ∷ old) new put) has))

pub put_out : (answer : Option Row) (place : ℕ) (old new : List Head) → IsPut answer place old new → (head : Head)
    → Contains old head → Contains new head
unfolding IsPut
put_out None place old new put head has = subst (λ (l : List Head). Contains l head) (sym put) has
put_out (Some row) place old new put head has =
    let h : Head = record { row = row; place = place } in
    Contains-permutation (h ∷ old) new head put (cons_there h old head has)

pub put_held : (answer : Option Row) (place : ℕ) (old new : List Head) → IsPut answer place old new → (row : Row)
    → answer ≡ Some row → (head : Head) × Contains new head × (head.row ≡ row) × (head.place ≡ place)
unfolding IsPut
put_held None place old new put row is = cc
put_held (Some first) place old new put row is =
    let h : Head = record { row = first; place = place } in
    (h, Contains-permutation (h ∷ old) new h put (cons_here h old), some_same first row is, refl)

pub put_length : (answer : Option Row) (place : ℕ) (old new : List Head) → IsPut answer place old new
    → length new ≡ length (listed answer) + length old
unfolding IsPut
put_length None place old new put = let same : length new ≡ length old = ap (length {A = Head}) put in omega (arith, same)
put_length (Some row) place old new put = omega (arith, length_permutation (record { row = row; place = place } ∷ old) new put)

pub replaced_into : (answer : Option Row) (taken : Head) (old new : List Head) → IsReplaced answer taken old new
    → (head : Head) → Contains new head
    → Contains old head ⊎ ((head.place ≡ taken.place) × (answer ≡ Some head.row))
replaced_into answer taken old new is head has =
    ⊎_elim (λ was. inl (Contains-permutation (taken ∷ is.rest) old head
    (IsPermutation-sym old (taken ∷ is.rest) is.taken) (cons_there taken is.rest head was))) (λ came. inr came)
    (put_into answer taken.place is.rest new is.put head has)

pub replaced_out : (answer : Option Row) (taken : Head) (old new : List Head) → IsReplaced answer taken old new
    → (head : Head) → Contains old head → Contains new head ⊎ (Some taken ≡ Some head)
replaced_out answer taken old new is head has =
    ⊎_elim (λ same. inr (ap Some (sym same))) (λ rest. inl (put_out answer taken.place is.rest new is.put head rest))
    (cons_cases taken is.rest head (Contains-permutation old (taken ∷ is.rest) head is.taken has))
