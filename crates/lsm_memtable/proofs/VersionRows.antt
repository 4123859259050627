-- The rows of one key, and copies of those after an internal key.
use Rattle.std.proofs.Common.{◌≡◌, ℕ, ◌+◌, ◌<◌, ◌≤◌, ⊎_elim, Bool, true, false, cond, List, [], ◌∷◌, ◌++◌, length, take, get_or, refl, sym, ap, ◌∙◌, subst, arith, append_assoc}
use Rattle.std.specs.Prelude.{Option, All, reverse}
use Rattle.std.specs.List.{filter, sum_by}
use Rattle.std.proofs.lemmas.Bool.{cases_lt}
use Rattle.std.proofs.lemmas.List.{reverse-append, take-append-le, take_all, append-nil, length-take-le}
use Rattle.std.proofs.lemmas.List.Elements.{All-tail, filter-append}
use Rattle.std.proofs.lemmas.List.Sorted.{IsPermutation-reverse, sum_by-IsPermutation}
use Rattle.lsm_rows.specs.declared.rows.Row.{Row}
use Rattle.std.proofs.lemmas.List.Sums.{sum_by_more, sum_by-take-le}
use Rattle.lsm_block.specs.Runs.{rows_after}
use Rattle.lsm_memtable.specs.Sizes.{row_bytes}
use Rattle.lsm_memtable.proofs.RowPlaces.{is_row_after}

pub filter-reverse : {X : Type 0} (p : X → Bool) (xs : List X) → filter p (reverse xs) ≡ reverse (filter p xs)
filter-reverse p [] = refl
filter-reverse {X} p (x ∷ xs) =
    ap (filter p) (reverse-append (x ∷ []) xs) ∙ filter-append p (reverse xs) (x ∷ []) ∙ ap (λ l. l ++ filter p (x ∷ [])) (filter-reverse p xs)
    ∙ elim (p x) as (λ t. reverse (filter p xs) ++ cond t (x ∷ []) [] ≡ reverse (cond t (x ∷ filter p xs) (filter p xs))) [
      | true ↦ sym (reverse-append (x ∷ []) (filter p xs))
      | false ↦ append-nil (reverse (filter p xs))
    ]

pub sum-reverse : {X : Type 0} (f : X → ℕ) (xs : List X) → sum_by f (reverse xs) ≡ sum_by f xs
sum-reverse f xs = sum_by-IsPermutation f xs (reverse xs) (IsPermutation-reverse xs)

pub after_is : (after : Option (List ℕ)) (rows : List Row) → rows_after after rows ≡ filter (is_row_after after) rows
unfolding rows_after
after_is after rows = refl

pub after-cons : (after : Option (List ℕ)) (row : Row) (rows : List Row) → rows_after after (row ∷ rows) ≡ cond (is_row_after after row) (row ∷ rows_after after rows) (rows_after after rows)
after-cons after row rows =
    after_is after (row ∷ rows)
    ∙ ap (λ l. cond (is_row_after after row) (row ∷ l) l) (sym (after_is after rows))

pub after-append : (after : Option (List ℕ)) (rows more : List Row) → rows_after after (rows ++ more) ≡ rows_after after rows ++ rows_after after more
after-append after rows more = after_is after (rows ++ more) ∙ filter-append (is_row_after after) rows more ∙ (λ i. sym (after_is after rows) i ++ sym (after_is after more) i)

pub after-nil : (after : Option (List ℕ)) → rows_after after [] ≡ []
after-nil after = after_is after []

-- where a row is left out
pub left_out : (after : Option (List ℕ)) (count : ℕ) (out : List Row) (row : Row) (more : List Row) → is_row_after after row ≡ false
    → take count (out ++ rows_after after more) ≡ take count (out ++ rows_after after (row ∷ more))
left_out after count out row more left = ap (λ l. take count (out ++ l)) (sym (after-cons after row more ∙ ap (λ t. cond t (row ∷ rows_after after more) (rows_after after more)) left))

-- where it is copied
pub copied : (after : Option (List ℕ)) (count : ℕ) (out new : List Row) (row : Row) (more : List Row) → is_row_after after row ≡ true → new ≡ out ++ row ∷ []
    → take count (new ++ rows_after after more) ≡ take count (out ++ rows_after after (row ∷ more))
copied after count out new row more kept is =
    ap (λ l. take count (l ++ rows_after after more)) is
    ∙ ap (take count) (append_assoc out (row ∷ []) (rows_after after more))
    ∙ ap (λ l. take count (out ++ l)) (sym (after-cons after row more ∙ ap (λ t. cond t (row ∷ rows_after after more) (rows_after after more)) kept))

-- where there are as many as are wanted
pub enough : (count : ℕ) (out more : List Row) → length out ≡ count → out ≡ take count (out ++ more)
enough count out more is = sym (take_all count out (omega (arith, is))) ∙ sym (take-append-le count out more (omega (arith, is)))

pub sum_is : (items rows : List Row) → reverse items ≡ rows → sum_by row_bytes items ≡ sum_by row_bytes rows
sum_is items rows is = sym (sum-reverse row_bytes items) ∙ ap (sum_by row_bytes) is

-- the rows up to one count no more than all
pub sum_to : (items : List Row) (i : ℕ) (row : Row) → i < length items → row ≡ get_or items i row → sum_by row_bytes (take i items) + row_bytes row ≤ sum_by row_bytes items
sum_to items i row less is =
    let more = sum_by_more row_bytes items i row less in
    let all = sum_by-take-le row_bytes items (i + 1) in
    omega (arith, more, all, ap row_bytes is)

turned : (rest left : List Row) (row : Row) → rest ≡ left ++ row ∷ [] → reverse rest ≡ row ∷ reverse left
turned rest left row is = ap reverse is ∙ reverse-append left (row ∷ [])

-- one row of those that are left, from the last on
pub copied_turn : (after : Option (List ℕ)) (count : ℕ) (out new rest left target : List Row) (row copy : Row) → rest ≡ left ++ row ∷ [] → is_row_after after row ≡ true → new ≡ out ++ copy ∷ [] → copy ≡ row
    → take count (out ++ rows_after after (reverse rest)) ≡ target → take count (new ++ rows_after after (reverse left)) ≡ target
copied_turn after count out new rest left target row copy rest_is kept new_is copy_is so_far =
    copied after count out new row (reverse left) kept (new_is ∙ ap (λ r. out ++ r ∷ []) copy_is) ∙ ap (λ l. take count (out ++ rows_after after l)) (sym (turned rest left row rest_is)) ∙ so_far

pub left_turn : (after : Option (List ℕ)) (count : ℕ) (out rest left target : List Row) (row : Row) → rest ≡ left ++ row ∷ [] → is_row_after after row ≡ false
    → take count (out ++ rows_after after (reverse rest)) ≡ target → take count (out ++ rows_after after (reverse left)) ≡ target
left_turn after count out rest left target row rest_is left_out_is so_far =
    left_out after count out row (reverse left) left_out_is ∙ ap (λ l. take count (out ++ rows_after after l)) (sym (turned rest left row rest_is)) ∙ so_far

pub below_turn : (P : Row → Type 0) (rest left : List Row) (row : Row) → rest ≡ left ++ row ∷ [] → All P (reverse rest) → All P (reverse left)
below_turn P rest left row is all = All-tail P row (reverse left) (subst (All P) (turned rest left row is) all)

-- none are left
pub ended : (after : Option (List ℕ)) (count : ℕ) (out rest target : List Row) → length rest ≡ 0 → length out ≤ count → take count (out ++ rows_after after (reverse rest)) ≡ target → out ≡ target
ended after count out [] target none within so_far = sym (take_all count out within) ∙ ap (take count) (sym (append-nil out)) ∙ ap (λ l. take count (out ++ l)) (sym (after-nil after)) ∙ so_far
ended after count out (r ∷ rest) target none within so_far = absurd (omega (arith, none))

take_twice : {X : Type 0} (n : ℕ) (s t : List X) → take n (take n s ++ t) ≡ take n (s ++ t)
take_twice n s t =
    ⊎_elim
    (λ (short : length s < n). ap (λ l. take n (l ++ t)) (take_all n s (omega (arith, short))))
    (λ (long : n ≤ length s).
    let len : length (take n s) ≡ n = length-take-le n s long in
    take-append-le n (take n s) t (omega (arith, len)) ∙ take_all n (take n s) (omega (arith, len)) ∙ sym (take-append-le n s t long))
    (cases_lt (length s) n)

-- the rows of one key more
pub run_turn : (after : Option (List ℕ)) (count : ℕ) (out new rows rest target : List Row) → new ≡ take count (out ++ rows_after after rows)
    → take count (out ++ rows_after after (rows ++ rest)) ≡ target → take count (new ++ rows_after after rest) ≡ target
run_turn after count out new rows rest target new_is so_far =
    ap (λ l. take count (l ++ rows_after after rest)) new_is ∙ take_twice count (out ++ rows_after after rows) (rows_after after rest)
    ∙ ap (take count) (append_assoc out (rows_after after rows) (rows_after after rest)) ∙ ap (λ l. take count (out ++ l)) (sym (after-append after rows rest)) ∙ so_far
