-- What a reader gives in turn.
use Rattle.std.proofs.Common.{◌≡◌, ℕ, ◌+◌, zero, suc, List, [], ◌∷◌, ◌++◌, length, take, map, Some, ap, ◌∙◌, arith}
use Rattle.std.specs.Prelude.{slice_get}
use Rattle.std.proofs.lemmas.List.{take_all, length-map}
use Rattle.lsm_frame.specs.Records.{Ending, records_of, front}
use Rattle.lsm_frame.specs.Reader.{IsRecord, EndsBehind}
use Rattle.std.proofs.lemmas.Option.{same_Some}

get_map : {A B : Type 0} (f : A → B) (xs : List A) (n : ℕ) (x : A) → slice_get xs n ≡ Some x → slice_get (map f xs) n ≡ Some (f x)
get_map f [] n x e = absurd (cc)
get_map f (y ∷ xs) zero x e = ap (λ z. Some (f z)) (same_Some y x e)
get_map f (y ∷ xs) (suc n) x e = get_map f xs n x e

-- one more is taken
take_one : {A : Type 0} (xs : List A) (n : ℕ) (x : A) → slice_get xs n ≡ Some x → take (suc n) xs ≡ take n xs ++ x ∷ []
take_one [] n x e = absurd (cc)
take_one (y ∷ xs) zero x e = ap (λ z. z ∷ []) (same_Some y x e)
take_one (y ∷ xs) (suc n) x e = ap (λ l. y ∷ l) (take_one xs n x e)

pub in_turn : (text payload : List ℕ) (number place : ℕ) → IsRecord text number place payload → take (number + 1) (front text) ≡ take number (front text) ++ payload ∷ []
in_turn text payload number place is =
    let more : number + 1 ≡ suc number = omega arith in
    ap (λ (n : ℕ). take n (front text)) more
    ∙ take_one (front text) number payload (get_map (λ (r : ℕ × List ℕ). r.1) (records_of text).0 number (place, payload) is)

pub all_in_turn : (text : List ℕ) (count : ℕ) (ending : Ending) → EndsBehind text count ending → take count (front text) ≡ front text
all_in_turn text count ending ends =
    let long : length (front text) ≡ length (records_of text).0 = length-map _ _ in
    take_all count (front text) (omega (arith, ends.records, long))
