-- The bytes of a block in memory are those of the text.
use Rattle.std.proofs.Common.{◌≡◌, inl, inr, ℕ, ◌+◌, ◌-◌, ◌%◌, ◌≤◌, min, List, length, take, drop, Option, Some, ap, sym, subst, ◌∙◌, arith}
use Rattle.std.proofs.lemmas.List.{length-drop, length-take, drop-drop, drop-take, take_all}
use Rattle.std.proofs.lemmas.Bool.{cases_lt}
use Rattle.lsm_disk.specs.Viewed.{Viewed}
use Rattle.lsm_frame.specs.Reader.{Tells}
use Rattle.lsm_frame.specs.Reading.{in_block}
use Rattle.lsm_frame.specs.Loaded.{size_at, base_of, IsLoaded, Loads}

-- the block that is in memory
pub loaded_at : (viewed : Viewed) (buffer : List ℕ) (base : Option ℕ) (at : ℕ) → base ≡ Some at → Loads viewed buffer base → IsLoaded viewed buffer at
loaded_at viewed buffer base at e loads = subst (λ (b : Option ℕ). Loads viewed buffer b) e loads

-- a block has at least the bytes before a place in it
size_splits : (len at : ℕ) → at ≤ len → size_at len (base_of at) ≡ at % 32768 + min (32768 - at % 32768) (len - at)
size_splits len at inside = omega arith

-- how many bytes of a block stand from a place on
pub rest_long : (viewed : Viewed) (buffer rest : List ℕ) (at : ℕ) → at ≤ viewed.len → IsLoaded viewed buffer (base_of at) → rest ≡ drop (at % 32768) (take (size_at viewed.len (base_of at)) buffer) → length rest ≡ min (32768 - at % 32768) (viewed.len - at)
rest_long viewed buffer rest at inside l e =
    ap (λ (r : List ℕ). length r) e
    ∙ length-drop (at % 32768) (take (size_at viewed.len (base_of at)) buffer)
    ∙ omega (arith, l.room, size_splits viewed.len at inside, length-take (size_at viewed.len (base_of at)) buffer)

-- no more bytes are taken than are there
take_there : (n : ℕ) (xs : List ℕ) → take (min n (length xs)) xs ≡ take n xs
take_there n xs = elim (cases_lt n (length xs)) [
  | inl less ↦ ap (λ (k : ℕ). take k xs) (omega arith)
  | inr more ↦ take_all (min n (length xs)) xs (omega arith) ∙ sym (take_all n xs more)
]

-- the bytes from a place on in its block
pub rest_told : (viewed : Viewed) (buffer rest : List ℕ) (at : ℕ) → at ≤ viewed.len → IsLoaded viewed buffer (base_of at) → rest ≡ drop (at % 32768) (take (size_at viewed.len (base_of at)) buffer)
    → (text : List ℕ) → Tells viewed text → rest ≡ in_block at text
rest_told viewed buffer rest at inside l e text told =
    let long : length (drop at text) ≡ viewed.len - at = length-drop at text ∙ ap (λ (n : ℕ). n - at) told.whole in
    let back : base_of at + at % 32768 ≡ at = omega arith in
    e
    ∙ ap (λ (r : List ℕ). drop (at % 32768) r) (l.same text told.bytes)
    ∙ ap (λ (n : ℕ). drop (at % 32768) (take n (drop (base_of at) text))) (size_splits viewed.len at inside)
    ∙ drop-take (at % 32768) (min (32768 - at % 32768) (viewed.len - at)) (drop (base_of at) text)
    ∙ ap (λ (r : List ℕ). take (min (32768 - at % 32768) (viewed.len - at)) r) (drop-drop (at % 32768) (base_of at) text ∙ ap (λ (n : ℕ). drop n text) back)
    ∙ ap (λ (n : ℕ). take (min (32768 - at % 32768) n) (drop at text)) (sym long)
    ∙ take_there (32768 - at % 32768) (drop at text)
