-- Lists that ascend strictly.
use Rattle.std.proofs.Common.{◌≡◌, Bool, true, false, cond, List, [], ◌∷◌, ◌++◌, refl, ap, ◌∙◌}
use Rattle.std.specs.Prelude.{All}
use Rattle.std.specs.List.{filter, AllByRecursion}
use Rattle.std.specs.List.Sorted.{IsStrictlySortedBy}
use Rattle.std.specs.declared.cmp.Ordering.{Ordering}
use Rattle.std.specs.declared.cmp.Ordering.TheVariants.{Less}
use Rattle.std.proofs.lemmas.List.Elements.{All-append, All-head, All-tail, All-from_recursion, recursion_from_All}
use Rattle.std.proofs.lemmas.Map.Keys.{sorted_head, sorted_tail}

pub sorted_nil : {K : Type 0} (c : K → K → Ordering) → IsStrictlySortedBy c []
unfolding IsStrictlySortedBy
sorted_nil c = tt

pub sorted_cons : {K : Type 0} (c : K → K → Ordering) (k : K) (ks : List K) → AllByRecursion (λ y. c k y ≡ Less) ks → IsStrictlySortedBy c ks → IsStrictlySortedBy c (k ∷ ks)
unfolding IsStrictlySortedBy
sorted_cons c k ks head rest = (head, rest)

-- lists of which all of the one is before all of the other
pub sorted-append : {K : Type 0} (c : K → K → Ordering) (xs ys : List K) → IsStrictlySortedBy c xs → IsStrictlySortedBy c ys → All (λ x. All (λ y. c x y ≡ Less) ys) xs → IsStrictlySortedBy c (xs ++ ys)
sorted-append c [] ys left right across = right
sorted-append c (x ∷ xs) ys left right across =
    sorted_cons c x (xs ++ ys)
    (recursion_from_All (λ y. c x y ≡ Less) (xs ++ ys)
    (All-append (λ y. c x y ≡ Less) xs ys (All-from_recursion (λ y. c x y ≡ Less) xs (sorted_head c x xs left)) (All-head (λ z. All (λ y. c z y ≡ Less) ys) x xs across)))
    (sorted-append c xs ys (sorted_tail c x xs left) right (All-tail (λ z. All (λ y. c z y ≡ Less) ys) x xs across))

-- a fact of each element from two
pub both : {X : Type 0} (P Q R : X → Type 0) → ((x : X) → P x → Q x → R x) → (xs : List X) → AllByRecursion P xs → All Q xs → AllByRecursion R xs
both P Q R join [] first second = tt
both P Q R join (x ∷ xs) first second = (join x first.0 (All-head Q x xs second), both P Q R join xs first.1 (All-tail Q x xs second))

pub weaker : {X : Type 0} (P R : X → Type 0) → ((x : X) → P x → R x) → (xs : List X) → AllByRecursion P xs → AllByRecursion R xs
weaker P R turn [] first = tt
weaker P R turn (x ∷ xs) first = (turn x first.0, weaker P R turn xs first.1)

-- a test that no element passes
pub filter_none : {X : Type 0} (p : X → Bool) (xs : List X) → All (λ x. p x ≡ false) xs → filter p xs ≡ []
filter_none p [] none = refl
filter_none p (x ∷ xs) none = ap (λ t. cond t (x ∷ filter p xs) (filter p xs)) (All-head (λ y. p y ≡ false) x xs none) ∙ filter_none p xs (All-tail (λ y. p y ≡ false) x xs none)

pub filter_all : {X : Type 0} (p : X → Bool) (xs : List X) → All (λ x. p x ≡ true) xs → filter p xs ≡ xs
filter_all p [] all = refl
filter_all p (x ∷ xs) all =
    ap (λ t. cond t (x ∷ filter p xs) (filter p xs)) (All-head (λ y. p y ≡ true) x xs all) ∙ ap (λ ys. x ∷ ys) (filter_all p xs (All-tail (λ y. p y ≡ true) x xs all))

-- the front of such a list
left_all : {X : Type 0} (P : X → Type 0) (xs ys : List X) → AllByRecursion P (xs ++ ys) → AllByRecursion P xs
left_all P [] ys all = tt
left_all P (x ∷ xs) ys all = (all.0, left_all P xs ys all.1)

pub sorted_left : {K : Type 0} (c : K → K → Ordering) (xs ys : List K) → IsStrictlySortedBy c (xs ++ ys) → IsStrictlySortedBy c xs
sorted_left c [] ys sorted = sorted_nil c
sorted_left c (x ∷ xs) ys sorted = sorted_cons c x xs (left_all (λ y. c x y ≡ Less) xs ys (sorted_head c x (xs ++ ys) sorted)) (sorted_left c xs ys (sorted_tail c x (xs ++ ys) sorted))
