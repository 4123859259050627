-- The order of internal keys is total, and puts user keys before sequences.
use Rattle.std.proofs.Common.{◌≡◌, ℕ, ◌+◌, ◌-◌, ◌*◌, ◌/◌, ◌%◌, ◌^◌, ◌<◌, ◌≤◌, ◌≢◌, ⊎_elim, List, ◌++◌, length, take, drop, refl, sym, ap, ◌∙◌, subst, arith, length-append, length-drop, take-append-drop, get_or-drop}
use Rattle.std.specs.Int.{w64, to_le_bytes}
use Rattle.std.proofs.lemmas.List.{take_at, drop_at, take_all}
use Rattle.std.proofs.lemmas.Bool.{cases_lt}
use Rattle.std.proofs.lemmas.Bool.Decides.{nat_tests}
use Rattle.std.specs.Ordering.{nat_cmp, ordering_then}
use Rattle.lsm_bytes.specs.Numbers.{number_at}
use Rattle.lsm_rows.specs.Replay.{key_cmp}
use Rattle.lsm_rows.specs.declared.internal_keys.Kind.{Kind}
use Rattle.lsm_rows.specs.declared.internal_keys.Kind.TheVariants.{Delete, Put}
use Rattle.lsm_rows.proofs.ReadHeader.{Bytes, first_read}
use Rattle.lsm_rows.specs.InternalKeys.{kind_byte, internal_key, internal_cmp, user_key, trailer, IsInternalKey}

-- an internal key taken apart
pub apart : (bytes : List ℕ) → 8 ≤ length bytes → Bytes bytes → bytes ≡ user_key bytes ++ to_le_bytes w64 (trailer bytes)
apart bytes long fits =
    let at : ℕ = length bytes - 8 in
    let last : List ℕ = drop at bytes in
    let size : length last ≡ 8 = length-drop at bytes ∙ omega arith in
    let read : take 8 last ≡ to_le_bytes w64 (number_at 8 last 0) = first_read last (omega (arith, size)) (record { fit = λ i. subst (λ (b : ℕ). b < 256) (sym (get_or-drop at bytes i 0)) (fits.fit (at + i)) }) in
    sym (take-append-drop at bytes) ∙ ap (λ (s : List ℕ). take at bytes ++ s) (sym (take_all 8 last (omega (arith, size))) ∙ read)

eight_read : (n : ℕ) → n < 2 ^ 64 → number_at 8 (to_le_bytes w64 n) 0 ≡ n
eight_read n below = omega arith

at_end : (key : List ℕ) (n : ℕ) → length (key ++ to_le_bytes w64 n) - 8 ≡ length key
at_end key n = omega (arith, length-append key (to_le_bytes w64 n))

-- and put together
pub trailer_of : (key : List ℕ) (n : ℕ) → n < 2 ^ 64 → trailer (key ++ to_le_bytes w64 n) ≡ n
trailer_of key n below =
    ap (λ (at : ℕ). number_at 8 (key ++ to_le_bytes w64 n) at) (at_end key n) ∙ ap (λ (s : List ℕ). number_at 8 s 0) (drop_at key (to_le_bytes w64 n) (length key) refl) ∙ eight_read n below

pub user_key_of : (key : List ℕ) (n : ℕ) → user_key (key ++ to_le_bytes w64 n) ≡ key
user_key_of key n = ap (λ (at : ℕ). take at (key ++ to_le_bytes w64 n)) (at_end key n) ∙ take_at key (to_le_bytes w64 n) (length key) refl

pub kind_small : (kind : Kind) → kind_byte kind < 2
kind_small Delete = omega arith
kind_small Put = omega arith

pub parsed : (bytes : List ℕ) (kind : Kind) → 8 ≤ length bytes → Bytes bytes → trailer bytes < 2 ^ 64 → trailer bytes % 256 ≡ kind_byte kind → IsInternalKey bytes (user_key bytes) (trailer bytes / 256) kind
unfolding internal_key
parsed bytes kind long fits small is = record {
  is = apart bytes long fits ∙ ap (λ (n : ℕ). user_key bytes ++ to_le_bytes w64 n) (omega (arith, is));
  below = omega arith;
}

pub too_short : (bytes key : List ℕ) (sequence : ℕ) (kind : Kind) → length bytes < 8 → IsInternalKey bytes key sequence kind → ⊥
unfolding internal_key
too_short bytes key sequence kind short is = absurd (omega (arith, ap (length {A = ℕ}) is.is, length-append key (to_le_bytes w64 (sequence * 256 + kind_byte kind)), short))

pub other_kind : (bytes key : List ℕ) (sequence : ℕ) (kind : Kind) → (trailer bytes % 256 ≢ kind_byte kind) → IsInternalKey bytes key sequence kind → ⊥
unfolding internal_key
other_kind bytes key sequence kind other is =
    let number : ℕ = sequence * 256 + kind_byte kind in
    let read : trailer bytes ≡ number = ap trailer is.is ∙ trailer_of key number (omega (arith, is.below, kind_small kind)) in
    other (ap (λ (n : ℕ). n % 256) read ∙ omega (arith, kind_small kind))

numbers : (s t a b : ℕ) → a < 2 → b < 2 → s ≢ t → nat_cmp (t * 256 + b) (s * 256 + a) ≡ nat_cmp t s
numbers s t a b small less other =
    ⊎_elim
    (λ (below : s < t). grind (arith, nat_tests))
    (λ (above : t ≤ s). let past : t < s = by_other above in grind (arith, nat_tests))
    (cases_lt s t)
  where
    by_other : t ≤ s → t < s
    by_other above = ⊎_elim (λ (less : t < s). less) (λ (same : s ≤ t). absurd (other (omega arith))) (cases_lt t s)

-- user keys first, then the greater sequence
pub compared : (key other : List ℕ) (sequence later : ℕ) (kind kind_of_other : Kind) → sequence < 2 ^ 56 → later < 2 ^ 56 → sequence ≢ later
    → internal_cmp (internal_key key sequence (kind_byte kind)) (internal_key other later (kind_byte kind_of_other)) ≡ ordering_then (key_cmp key other) (nat_cmp later sequence)
unfolding internal_cmp internal_key
compared key other sequence later kind kind_of_other below less differ =
    let a : ℕ = sequence * 256 + kind_byte kind in
    let b : ℕ = later * 256 + kind_byte kind_of_other in
    (λ i. ordering_then (key_cmp (user_key_of key a i) (user_key_of other b i)) (nat_cmp (trailer_of other b (omega (arith, kind_small kind_of_other)) i) (trailer_of key a (omega (arith, kind_small kind)) i)))
    ∙ ap (ordering_then (key_cmp key other)) (numbers sequence later (kind_byte kind) (kind_byte kind_of_other) (kind_small kind) (kind_small kind_of_other) differ)

pub made : (bytes front number key : List ℕ) (sequence byte : ℕ) (kind : Kind) → bytes ≡ front ++ number → front ≡ key → number ≡ to_le_bytes w64 (sequence * 256 + byte) → byte ≡ kind_byte kind
    → sequence < 2 ^ 56 → IsInternalKey bytes key sequence kind
unfolding internal_key
made bytes front number key sequence byte kind joined is_key is_number is_kind below = record {
  is = joined ∙ (λ i. is_key i ++ is_number i) ∙ ap (λ (b : ℕ). key ++ to_le_bytes w64 (sequence * 256 + b)) is_kind;
  below = below;
}
