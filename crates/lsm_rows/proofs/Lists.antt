-- What stands behind a place of a list.
use Rattle.std.specs.Prelude.{◌≡◌, ℕ, zero, suc, ◌+◌, ◌<◌, ◌≤◌, List, [], ◌∷◌, length, drop, get_or}
use Rattle.std.proofs.Common.{refl, sym, ap, ◌∙◌, arith}

drop_next : {X : Type 0} (xs : List X) (i : ℕ) (x : X) → i < length xs → x ≡ get_or xs i x
    → drop i xs ≡ x ∷ drop (suc i) xs
drop_next [] i x there is = absurd (omega (arith, there))
drop_next (y ∷ xs) zero x there is = ap (λ z. z ∷ xs) (sym is)
drop_next (y ∷ xs) (suc i) x there is = drop_next xs i x (omega (arith, there)) is

-- from a place that is there on, its element comes first
pub drop_here : {X : Type 0} (xs : List X) (i : ℕ) (x : X) → i < length xs → x ≡ get_or xs i x
    → drop i xs ≡ x ∷ drop (i + 1) xs
drop_here xs i x there is =
    let next : suc i ≡ i + 1 = omega arith in
    drop_next xs i x there is ∙ ap (λ (n : ℕ). x ∷ drop n xs) next

-- past the end nothing stands
pub drop_end : {X : Type 0} (xs : List X) (i : ℕ) → length xs ≤ i → drop i xs ≡ []
drop_end [] zero all = refl
drop_end [] (suc i) all = refl
drop_end (x ∷ xs) zero all = absurd (omega (arith, all))
drop_end (x ∷ xs) (suc i) all = drop_end xs i (omega (arith, all))
