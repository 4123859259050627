-- Varints by their first byte, and what follows from it: each number has one spelling, and no spelling
-- begins another.
use Rattle.std.proofs.Common.{◌≡◌, ℕ, ◌+◌, ◌*◌, ◌/◌, ◌%◌, ◌^◌, ◌<◌, ◌≤◌, List, [], ◌∷◌, ◌++◌, length, refl, sym, ap, ◌∙◌, subst, arith, zero, suc, ◌⊎◌, inl, inr}
use Rattle.std.proofs.lemmas.Bool.{cases_lt}
use Rattle.std.proofs.lemmas.Bool.Decides.{nat_tests}
use Rattle.std.proofs.Math.Nat.{pow-suc}
use Rattle.lsm_bytes.specs.Varint.{IsVarint, varint, varint_within}

pub varint_last : (more n : ℕ) → n < 128 → varint_within more n ≡ n ∷ []
unfolding varint_within
varint_last zero n below = refl
varint_last (suc more) n below = grind (arith, nat_tests)

varint_step : (more n : ℕ) → 128 ≤ n → varint_within (suc more) n ≡ (n % 128 + 128) ∷ varint_within more (n / 128)
unfolding varint_within
varint_step more n high = grind (arith, nat_tests)

pub varint_more : (more n : ℕ) → 128 ≤ n → n ≤ more → (m : ℕ) × (n / 128 ≤ m) × (varint_within more n ≡ (n % 128 + 128) ∷ varint_within m (n / 128))
varint_more zero n high within = absurd (omega arith)
varint_more (suc more) n high within = (more, omega arith, varint_step more n high)

-- a byte that says that more follow, before a spelling
pub IsVarint-cons : (b : ℕ) (bs : List ℕ) (n high : ℕ) → 128 ≤ b → b < 256 → 0 < high → n + 128 ≡ b + 128 * high → IsVarint bs high → IsVarint (b ∷ bs) n
unfolding IsVarint
IsVarint-cons b [] n high more byte some sum rest = absurd rest
IsVarint-cons b (c ∷ bs) n high more byte some sum rest = (more, byte, high, some, sum, rest)

-- what follows a byte that says that more follow
pub record IsRest (b : ℕ) (bs : List ℕ) (n : ℕ) : Type 0 where
  pub high : ℕ
  pub byte : b < 256
  pub some : 0 < high
  pub sum : n + 128 ≡ b + 128 * high
  pub rest : IsVarint bs high

pub IsVarint-rest : (b : ℕ) (bs : List ℕ) (n : ℕ) → 128 ≤ b → IsVarint (b ∷ bs) n → IsRest b bs n
unfolding IsVarint
IsVarint-rest b [] n more is = absurd (omega (arith, is.0))
IsVarint-rest b (c ∷ bs) n more is = record { high = is.2; byte = is.1; some = is.3; sum = is.4; rest = is.5 }

-- a byte that says that none follows is alone, and is the number
pub IsVarint-last : (b : ℕ) (bs : List ℕ) (n : ℕ) → b < 128 → IsVarint (b ∷ bs) n → (n ≡ b) × (bs ≡ [])
unfolding IsVarint
IsVarint-last b [] n last is = (is.1, refl)
IsVarint-last b (c ∷ bs) n last is = absurd (omega (arith, is.0))

pub IsVarint-one : (b : ℕ) → b < 128 → IsVarint (b ∷ []) b
unfolding IsVarint
IsVarint-one b last = (last, refl)

pub IsVarint-none : (n : ℕ) → IsVarint [] n → ⊥
unfolding IsVarint
IsVarint-none n is = is

IsVarint-varint_within : (more n : ℕ) → n ≤ more → IsVarint (varint_within more n) n
IsVarint-varint_within zero n within =
    subst (λ (s : List ℕ). IsVarint s n) (sym (varint_last zero n (omega arith))) (IsVarint-one n (omega arith))
IsVarint-varint_within (suc more) n within =
    by_size (cases_lt n 128) (λ (high : 128 ≤ n). IsVarint-varint_within more (n / 128) (omega arith))
  where
    by_size : (n < 128) ⊎ (128 ≤ n) → (128 ≤ n → IsVarint (varint_within more (n / 128)) (n / 128)) → IsVarint (varint_within (suc more) n) n
    by_size (inl low) rest =
        subst (λ (s : List ℕ). IsVarint s n) (sym (varint_last (suc more) n low)) (IsVarint-one n low)
    by_size (inr high) rest =
        subst (λ (s : List ℕ). IsVarint s n) (sym (varint_step more n high)) (IsVarint-cons (n % 128 + 128) (varint_within more (n / 128)) n (n / 128) (omega arith) (omega arith) (omega arith) (omega arith) (rest high))

-- the spelling of a number spells it
pub IsVarint-varint : (n : ℕ) → IsVarint (varint n) n
unfolding varint
IsVarint-varint n = IsVarint-varint_within n n (omega arith)

-- a number has one spelling
one_within : (s : List ℕ) (more n : ℕ) → n ≤ more → IsVarint s n → s ≡ varint_within more n
one_within [] more n within is = absurd (IsVarint-none n is)
one_within (b ∷ bs) more n within is =
    by_size (cases_lt b 128) (λ (m high : ℕ) (fits : high ≤ m) (rest : IsVarint bs high). one_within bs m high fits rest)
  where
    by_size : (b < 128) ⊎ (128 ≤ b) → ((m high : ℕ) → high ≤ m → IsVarint bs high → bs ≡ varint_within m high) → b ∷ bs ≡ varint_within more n
    by_size (inl low) next =
        let last : (n ≡ b) × (bs ≡ []) = IsVarint-last b bs n low is in
        (λ i. sym last.0 i ∷ last.1 i) ∙ sym (varint_last more n (omega arith))
    by_size (inr up) next =
        let r : IsRest b bs n = IsVarint-rest b bs n up is in
        let high : ℕ = r.high in
        let some : 0 < high = r.some in
        let sum : n + 128 ≡ b + 128 * high = r.sum in
        let byte : b < 256 = r.byte in
        let step : (m : ℕ) × (n / 128 ≤ m) × (varint_within more n ≡ (n % 128 + 128) ∷ varint_within m (n / 128)) = varint_more more n (omega arith) within in
        let quotient : n / 128 ≡ high = omega arith in
        let digit : b ≡ n % 128 + 128 = omega arith in
        let bound : high ≤ step.0 = omega (arith, step.1) in
        (λ i. digit i ∷ next step.0 high bound r.rest i) ∙ (λ i. (n % 128 + 128) ∷ varint_within step.0 (sym quotient i)) ∙ sym step.2

pub IsVarint-one_spelling : (s : List ℕ) (n : ℕ) → IsVarint s n → s ≡ varint n
unfolding varint
IsVarint-one_spelling s n is = one_within s n n (omega arith) is

-- no spelling begins another
pub IsVarint-begins : (s more : List ℕ) (n m : ℕ) → IsVarint s n → IsVarint (s ++ more) m → (n ≡ m) × (more ≡ [])
IsVarint-begins [] more n m is longer = absurd (IsVarint-none n is)
IsVarint-begins (b ∷ bs) more n m is longer =
    by_size (cases_lt b 128) (λ (x y : ℕ) (one : IsVarint bs x) (other : IsVarint (bs ++ more) y). IsVarint-begins bs more x y one other)
  where
    by_size : (b < 128) ⊎ (128 ≤ b) → ((x y : ℕ) → IsVarint bs x → IsVarint (bs ++ more) y → (x ≡ y) × (more ≡ [])) → (n ≡ m) × (more ≡ [])
    by_size (inl low) next =
        let last : (n ≡ b) × (bs ≡ []) = IsVarint-last b bs n low is in
        let also : (m ≡ b) × (bs ++ more ≡ []) = IsVarint-last b (bs ++ more) m low longer in
        (last.0 ∙ sym also.0, ap (λ (t : List ℕ). t ++ more) (sym last.1) ∙ also.1)
    by_size (inr up) next =
        let r : IsRest b bs n = IsVarint-rest b bs n up is in
        let q : IsRest b (bs ++ more) m = IsVarint-rest b (bs ++ more) m up longer in
        let same : (r.high ≡ q.high) × (more ≡ []) = next r.high q.high r.rest q.rest in
        (omega (arith, same.0, r.sum, q.sum), same.1)

-- a number below a power of 128 has no more bytes than that
IsVarint-length : (k : ℕ) (s : List ℕ) (n : ℕ) → n < 128 ^ suc k → IsVarint s n → length s ≤ suc k
IsVarint-length k [] n below is = omega arith
IsVarint-length k (b ∷ bs) n below is =
    by_size k below (cases_lt b 128) (λ (j high : ℕ) (small : high < 128 ^ suc j) (rest : IsVarint bs high). IsVarint-length j bs high small rest)
  where
    by_size : (k : ℕ) → n < 128 ^ suc k → (b < 128) ⊎ (128 ≤ b) → ((j high : ℕ) → high < 128 ^ suc j → IsVarint bs high → length bs ≤ suc j) → length (b ∷ bs) ≤ suc k
    by_size k below (inl low) next = omega (arith, ap (length {A = ℕ}) (IsVarint-last b bs n low is).1)
    by_size zero below (inr up) next =
        let r : IsRest b bs n = IsVarint-rest b bs n up is in
        absurd (omega (arith, r.some, r.sum))
    by_size (suc k) below (inr up) next =
        let r : IsRest b bs n = IsVarint-rest b bs n up is in
        let wide : 128 ^ suc (suc k) ≡ 128 ^ suc k * 128 = pow-suc 128 (suc k) in
        omega (arith, next k r.high (omega (arith, r.some, r.sum, wide)) r.rest)

pub IsVarint-length_64 : (s : List ℕ) (n : ℕ) → n < 2 ^ 64 → IsVarint s n → length s ≤ 10
IsVarint-length_64 s n fits is = IsVarint-length 9 s n (omega arith) is
