-- Elements of lists, and lists with one element set.
use Prim.Native.Nat.{zero, suc}
use Rattle.std.proofs.Common.{◌≡◌, ℕ, ◌+◌, List, [], ◌∷◌, slice_set, map, get_or, ◌∙◌, refl, sym, ap, arith, inl, inr, ⊎_elim}
use Rattle.std.specs.Prelude.{◌⊎◌, Some, All, Contains, slice_get}
use Rattle.std.specs.List.{sum_by}
use Rattle.std.specs.List.Sorted.{IsStrictlySortedBy}
use Rattle.std.specs.declared.cmp.Ordering.{Ordering}
use Rattle.std.specs.declared.cmp.Ordering.TheVariants.{Less}
use Rattle.std.proofs.lemmas.List.Elements.{All-from_recursion}
use Rattle.std.proofs.lemmas.List.Sums.{sum_by-cons}

pub some_same : {X : Type 0} (x y : X) → Some x ≡ Some y → x ≡ y
some_same x y is = cc

-- an element of a list is its first or one of the others
pub cons_cases : {X : Type 0} (x : X) (xs : List X) (y : X) → Contains (x ∷ xs) y → (y ≡ x) ⊎ Contains xs y
cons_cases x xs y (zero, within, is) = inl (sym is)
cons_cases x xs y (suc k, within, is) = inr (k, omega (arith, within), is)

pub cons_here : {X : Type 0} (x : X) (xs : List X) → Contains (x ∷ xs) x
cons_here x xs = (0, omega arith, refl)

pub cons_there : {X : Type 0} (x : X) (xs : List X) (y : X) → Contains xs y → Contains (x ∷ xs) y
cons_there x xs y (k, within, is) = (suc k, omega (arith, within), is)

pub none_in_nil : {X : Type 0} (y : X) → Contains [] y → ⊥
none_in_nil y (k, within, is) = absurd (omega (arith, within))

-- an element that was read
pub got_is_in : {X : Type 0} (xs : List X) (i : ℕ) (x : X) → slice_get xs i ≡ Some x → Contains xs x
got_is_in [] i x is = cc
got_is_in (y ∷ xs) zero x is = (0, omega arith, some_same y x is)
got_is_in (y ∷ xs) (suc i) x is = cons_there y xs x (got_is_in xs i x is)

-- what is read where one element was set
pub set_here : {X : Type 0} (xs : List X) (i : ℕ) (x y : X) → slice_get xs i ≡ Some x → slice_get (slice_set xs i y) i ≡ Some y
set_here [] i x y is = cc
set_here (z ∷ xs) zero x y is = refl
set_here (z ∷ xs) (suc i) x y is = set_here xs i x y is

pub set_cases : {X : Type 0} (xs : List X) (i : ℕ) (y : X) (j : ℕ) (z : X) → slice_get (slice_set xs i y) j ≡ Some z
    → ((j ≡ i) × (z ≡ y)) ⊎ (slice_get xs j ≡ Some z)
set_cases [] i y j z is = inr is
set_cases (x ∷ xs) zero y zero z is = inl (refl, sym (some_same y z is))
set_cases (x ∷ xs) zero y (suc j) z is = inr is
set_cases (x ∷ xs) (suc i) y zero z is = inr is
set_cases (x ∷ xs) (suc i) y (suc j) z is = ⊎_elim (λ same. inl (ap suc same.0, same.1)) (λ other. inr other)
    (set_cases xs i y j z is)

pub unset_cases : {X : Type 0} (xs : List X) (i : ℕ) (y : X) (j : ℕ) (z : X) → slice_get xs j ≡ Some z → (j ≡ i)
    ⊎ (slice_get (slice_set xs i y) j ≡ Some z)
unset_cases [] i y j z is = inr is
unset_cases (x ∷ xs) zero y zero z is = inl refl
unset_cases (x ∷ xs) zero y (suc j) z is = inr is
unset_cases (x ∷ xs) (suc i) y zero z is = inr is
unset_cases (x ∷ xs) (suc i) y (suc j) z is = ⊎_elim (λ same. inl (ap suc same)) (λ other. inr other)
    (unset_cases xs i y j z is)

-- what is seen of the elements, where one was set to another of which the same is seen
pub map_set : {X Y : Type 0} (f : X → Y) (xs : List X) (i : ℕ) (x y : X) → x ≡ get_or xs i x → f y ≡ f x
    → map f (slice_set xs i y) ≡ map f xs
map_set f [] i x y at same = refl
map_set {X} {Y} f (z ∷ xs) zero x y at same = ap (λ (v : Y). v ∷ map f xs) (same ∙ ap f at)
map_set {X} {Y} f (z ∷ xs) (suc i) x y at same = ap (λ (l : List Y). f z ∷ l) (map_set f xs i x y at same)

-- a sum where one element was set
pub sum_set : {X : Type 0} (f : X → ℕ) (xs : List X) (i : ℕ) (x y : X) → slice_get xs i ≡ Some x
    → sum_by f (slice_set xs i y) + f x ≡ sum_by f xs + f y
sum_set f [] i x y is = cc
sum_set f (z ∷ xs) zero x y is =
    let same : z ≡ x = some_same z x is in
    omega (arith, sum_by-cons f y xs, sum_by-cons f z xs, ap f same)
sum_set f (z ∷ xs) (suc i) x y is = omega (arith, sum_by-cons f z (slice_set xs i y), sum_by-cons f z xs, sum_set f xs i x y is)

-- a list that ascends strictly
pub rest_ascends : {X : Type 0} (c : X → X → Ordering) (x : X) (xs : List X) → IsStrictlySortedBy c (x ∷ xs)
    → IsStrictlySortedBy c xs
unfolding IsStrictlySortedBy
rest_ascends c x xs sorted = sorted.1

pub first_is_less : {X : Type 0} (c : X → X → Ordering) (x : X) (xs : List X) → IsStrictlySortedBy c (x ∷ xs)
    → All (λ y. c x y ≡ Less) xs
unfolding IsStrictlySortedBy
first_is_less c x xs sorted = All-from_recursion (λ y. c x y ≡ Less) xs sorted.0
