-- One file of the list, and what a crash leaves of the files.
use Rattle.std.specs.Prelude.{◌≡◌, ℕ, zero, suc, ◌-◌, ◌<◌, ◌≤◌, List, [], ◌∷◌, ◌++◌, length, take, drop, get_or, slice_set, Result, Ok, Err, OnOk}
use Rattle.std.proofs.Common.{refl, sym, ap, ◌∙◌, arith}
use Rattle.std.proofs.lemmas.List.{take_all}
use Rattle.lsm_disk.specs.State.{FileState, in_file}
use Rattle.lsm_changes.specs.Files.{IsLeft, AreLeft}

pub set_in : (change : FileState → FileState) (fs : List FileState) (id : ℕ) (f old : FileState) → id < length fs → old ≡ get_or fs id old → f ≡ change old → slice_set fs id f ≡ in_file change id fs
set_in change [] id f old lt at is = absurd (omega arith)
set_in change (g ∷ fs) zero f old lt at is = ap (λ (x : FileState). x ∷ fs) (is ∙ ap change at)
set_in change (g ∷ fs) (suc id) f old lt at is = ap (λ (l : List FileState). g ∷ l) (set_in change fs id f old (omega (arith, lt)) at is)

pub on_ok : {T E A B : Type 0} (r : Result T E) → (A → B) → OnOk r A → OnOk r B
on_ok (Ok x) f a = f a
on_ok (Err e) f a = tt

drop_none : (n : ℕ) (xs : List ℕ) → length xs ≤ n → drop n xs ≡ []
drop_none zero [] le = refl
drop_none (suc n) [] le = refl
drop_none zero (x ∷ xs) le = absurd (omega (arith, le))
drop_none (suc n) (x ∷ xs) le = drop_none n xs (omega (arith, le))

take_split : (f n : ℕ) (xs : List ℕ) → f ≤ n → take n xs ≡ take f xs ++ take (n - f) (drop f xs)
take_split zero n xs le = ap (λ (k : ℕ). take k xs) (omega arith)
take_split (suc f) zero xs le = absurd (omega (arith, le))
take_split (suc f) (suc n) [] le = sym (take_all (suc n - suc f) [] (omega arith))
take_split (suc f) (suc n) (x ∷ xs) le = ap (λ (l : List ℕ). x ∷ l) (take_split f n xs (omega (arith, le)) ∙ ap (λ (k : ℕ). take f xs ++ take k (drop f xs)) (omega arith))

pub left_of : (bytes held : List ℕ) (synced len n : ℕ) → synced ≤ len → held ≡ take len bytes → n ≡ length held
    → IsLeft (record { synced = take synced bytes; unsynced = drop synced bytes }) (record { synced = take n held; unsynced = drop n held })
left_of bytes held synced len n le is all = record {
  all = drop_none n held (omega (arith, all));
  cut = record { kept = len - synced; is = take_all n held (omega (arith, all)) ∙ is ∙ take_split synced len bytes le };
}

pub left_push : (fs gs : List FileState) (f g : FileState) → AreLeft fs gs → IsLeft f g → AreLeft (fs ++ f ∷ []) (gs ++ g ∷ [])
left_push [] [] f g left one = (one, tt)
left_push [] (h ∷ gs) f g left one = absurd left
left_push (e ∷ fs) [] f g left one = absurd left
left_push (e ∷ fs) (h ∷ gs) f g left one = (left.0, left_push fs gs f g left.1 one)
