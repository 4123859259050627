-- Varints at a place of longer bytes: what was written stands there, and nothing else does.
use Rattle.std.proofs.Common.{◌≡◌, ℕ, ◌+◌, ◌-◌, ◌^◌, ◌<◌, ◌≤◌, List, [], ◌++◌, length, take, drop, refl, sym, ap, ◌∙◌, subst, arith, ◌⊎◌, inl, inr, min}
use Rattle.std.proofs.lemmas.Bool.{cases_lt}
use Rattle.std.proofs.lemmas.List.{append_assoc, length-append, length-take, length-drop, take-append-drop, take-take, take_at, drop_at}
use Rattle.lsm_bytes.specs.Varint.{IsVarint, IsVarintAt}
use Rattle.lsm_bytes.proofs.Spelling.{IsVarint-begins}

-- a spelling stands where it was put
pub IsVarintAt-placed : (before s more : List ℕ) (n : ℕ) → n < 2 ^ 64 → IsVarint s n → IsVarintAt (before ++ s ++ more) (length before) n (length before + length s)
IsVarintAt-placed before s more n fits is =
    let here : drop (length before) (before ++ s ++ more) ≡ s ++ more =
    ap (drop (length before)) (append_assoc before s more) ∙ drop_at before (s ++ more) (length before) refl in
    let size : length before + length s - length before ≡ length s = omega arith in
    let found : take (length before + length s - length before) (drop (length before) (before ++ s ++ more)) ≡ s =
    (λ i. take (size i) (here i)) ∙ take_at s more (length s) refl in
    let total : length (before ++ s ++ more) ≡ length before + length s + length more =
    length-append (before ++ s) more ∙ ap (λ (k : ℕ). k + length more) (length-append before s) in
    record {
      ordered = omega arith;
      within = omega arith;
      spelling = subst (λ (t : List ℕ). IsVarint t n) (sym found) is;
      fits = fits;
    }

-- of two spellings that begin the same bytes, the shorter is the other too
shorter : (rest : List ℕ) (n m j k : ℕ) → j ≤ k → k ≤ length rest → IsVarint (take j rest) n → IsVarint (take k rest) m → (n ≡ m) × (j ≡ k)
shorter rest n m j k le within one other =
    let tail : List ℕ = drop j (take k rest) in
    let joined : take k rest ≡ take j rest ++ tail =
    sym (take-append-drop j (take k rest)) ∙ ap (λ (t : List ℕ). t ++ tail) (take-take j k rest le) in
    let same : (n ≡ m) × (tail ≡ []) = IsVarint-begins (take j rest) tail n m one (subst (λ (t : List ℕ). IsVarint t m) joined other) in
    let size : min k (length rest) - j ≡ 0 = sym (length-drop j (take k rest) ∙ ap (λ (x : ℕ). x - j) (length-take k rest)) ∙ ap (length {A = ℕ}) same.1 in
    (same.0, omega arith)

-- at a place stands one varint at most
pub IsVarintAt-once : (bytes : List ℕ) (at n m next after : ℕ) → IsVarintAt bytes at n next → IsVarintAt bytes at m after → (n ≡ m) × (next ≡ after)
IsVarintAt-once bytes at n m next after one other =
    by_size (cases_lt (next - at) (after - at))
  where
    from_start : (k : ℕ) → k ≤ length bytes → k - at ≤ length (drop at bytes)
    from_start k within = omega (arith, length-drop at bytes)

    by_size : (next - at < after - at) ⊎ (after - at ≤ next - at) → (n ≡ m) × (next ≡ after)
    by_size (inl less) =
        let both : (n ≡ m) × (next - at ≡ after - at) = shorter (drop at bytes) n m (next - at) (after - at) (omega arith) (from_start after other.within) one.spelling other.spelling in
        (both.0, omega (arith, both.1, one.ordered, other.ordered))
    by_size (inr more) =
        let both : (m ≡ n) × (after - at ≡ next - at) = shorter (drop at bytes) m n (after - at) (next - at) more (from_start next one.within) other.spelling one.spelling in
        (sym both.0, omega (arith, both.1, one.ordered, other.ordered))
