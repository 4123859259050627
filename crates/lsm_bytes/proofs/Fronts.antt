-- What a reader knows of a varint behind bytes which all say that more follow, and what it may answer there.
use Rattle.std.proofs.Common.{◌≡◌, ℕ, ◌+◌, ◌-◌, ◌*◌, ◌^◌, ◌<◌, ◌≤◌, ◌≢◌, List, [], ◌∷◌, ◌++◌, length, take, drop, get_or, refl, sym, ap, ◌∙◌, subst, arith, zero, suc, ◌⊎◌, inl, inr}
use Rattle.std.proofs.lemmas.Bool.{cases_lt}
use Rattle.std.proofs.Math.Nat.{mul-le-mul_left, pow-le-pow_right}
use Rattle.std.proofs.lemmas.Nat.{pow-add}
use Rattle.std.proofs.lemmas.List.{append_assoc, append-nil, length-append, length-drop, length-take-le, take-append-drop, take_more, take_all, drop_more}
use Rattle.lsm_bytes.specs.Faults.{IsFirstFault}
use Rattle.lsm_bytes.specs.Varint.{IsVarint, IsVarintAt, BeginsWithVarint}
use Rattle.lsm_bytes.proofs.Spelling.{IsRest, IsVarint-cons, IsVarint-rest, IsVarint-last, IsVarint-one, IsVarint-none}

-- The first k bytes all say that more follow. They give the number up to a multiple of the unit, which is what
-- the bytes behind them count.
pub record IsFront (rest : List ℕ) (k number unit : ℕ) : Type 0 where
  pub within : k ≤ length rest
  pub below : number < unit
  pub power : unit ≡ 128 ^ k
  -- a spelling behind them makes one with them
  pub goes_on : (tail : List ℕ) (high : ℕ) → IsVarint tail high → (0 < k → 0 < high) → IsVarint (take k rest ++ tail) (number + unit * high)
  -- and each spelling that begins with them is made so
  pub alone : (tail : List ℕ) (n len : ℕ) → IsVarint (take len (take k rest ++ tail)) n
      → (j : ℕ) × (high : ℕ) × (len ≡ k + j) × IsVarint (take j tail) high × (0 < k → 0 < high) × (n ≡ number + unit * high)

pub front_start : (rest : List ℕ) → IsFront rest 0 0 1
front_start rest = record {
  within = omega arith;
  below = omega arith;
  power = refl;
  goes_on = λ tail high is _. subst (IsVarint tail) (omega arith) is;
  alone = λ tail n len is. (len, n, omega arith, is, λ none. absurd (omega arith), omega arith);
}

-- one more byte that says that more follow
pub front_more : (rest : List ℕ) (k number unit b : ℕ) → IsFront rest k number unit → k < length rest → b ≡ get_or rest k 0 → 128 ≤ b → b < 256
    → IsFront rest (k + 1) (number + (b - 128) * unit) (unit * 128)
front_more rest k number unit b front here is more byte =
    let joined : take (k + 1) rest ≡ take k rest ++ b ∷ [] =
    take_more rest k 0 here ∙ ap (λ (x : ℕ). take k rest ++ x ∷ []) (sym is) in
    let behind : (tail : List ℕ) → take (k + 1) rest ++ tail ≡ take k rest ++ b ∷ tail =
    (λ (tail : List ℕ). ap (λ (t : List ℕ). t ++ tail) joined ∙ append_assoc (take k rest) (b ∷ []) tail) in
    record {
      within = omega arith;
      below = smaller number unit b front.below more byte;
      power = ap (λ (x : ℕ). x * 128) front.power ∙ sym (pow-add 128 k 1);
      goes_on = λ tail high spelled some. subst (λ (t : List ℕ). IsVarint t (number + (b - 128) * unit + unit * 128 * high)) (sym (behind tail)) (subst (IsVarint (take k rest ++ b ∷ tail)) (spread number unit b high more) (front.goes_on (b ∷ tail) (b - 128 + 128 * high) (IsVarint-cons b tail (b - 128 + 128 * high) high more byte (some (omega arith)) (omega arith) spelled) (λ _. positive b high (some (omega arith)))));
      alone = λ tail n len spelled. unfold_one tail n len (front.alone (b ∷ tail) n len (subst (λ (t : List ℕ). IsVarint (take len t) n) (behind tail) spelled));
    }
  where
    smaller : (number unit b : ℕ) → number < unit → 128 ≤ b → b < 256 → number + (b - 128) * unit < unit * 128
    smaller number unit b below more byte = grind arith

    positive : (b high : ℕ) → 0 < high → 0 < b - 128 + 128 * high
    positive b high some = omega arith

    spread : (number unit b high : ℕ) → 128 ≤ b → number + unit * (b - 128 + 128 * high) ≡ number + (b - 128) * unit + unit * 128 * high
    spread number unit b high more = omega arith

    unfold_one : (tail : List ℕ) (n len : ℕ) → (j : ℕ) × (high : ℕ) × (len ≡ k + j) × IsVarint (take j (b ∷ tail)) high × (0 < k → 0 < high) × (n ≡ number + unit * high)
        → (j : ℕ) × (high : ℕ) × (len ≡ k + 1 + j) × IsVarint (take j tail) high × (0 < k + 1 → 0 < high) × (n ≡ number + (b - 128) * unit + unit * 128 * high)
    unfold_one tail n len (zero, high, size, spelled, some, sum) = absurd (IsVarint-none high spelled)
    unfold_one tail n len (suc j, high, size, spelled, some, sum) =
        let r : IsRest b (take j tail) high = IsVarint-rest b (take j tail) high more spelled in
        let value : high ≡ b - 128 + 128 * r.high = omega (arith, r.sum) in
        (j, r.high, omega arith, r.rest, λ _. r.some, sum ∙ ap (λ (x : ℕ). number + unit * x) value ∙ spread number unit b r.high more)

-- at most nine bytes that say that more follow leave room for one
room : (k : ℕ) → k ≤ 9 → 128 ^ k ≤ 2 ^ 63
room k few = pow-le-pow_right {n = 128} (omega arith) few

starts : (front tail : List ℕ) (k n : ℕ) → length front ≡ k → IsVarint (front ++ tail) n → n < 2 ^ 64 → IsVarintAt (front ++ tail) 0 n (k + length tail)
starts front tail k n size spelled fits =
    let total : length (front ++ tail) ≡ k + length tail = length-append front tail ∙ ap (λ (x : ℕ). x + length tail) size in
    record {
      ordered = omega arith;
      within = omega arith;
      spelling = subst (λ (t : List ℕ). IsVarint t n) (sym (take_all (k + length tail - 0) (front ++ tail) (omega arith))) spelled;
      fits = fits;
    }

-- those bytes could go on to a varint
front_before : (rest : List ℕ) (k number unit : ℕ) → IsFront rest k number unit → k ≤ 9 → (more : List ℕ) × BeginsWithVarint (take k rest ++ more)
unfolding BeginsWithVarint
front_before rest k number unit front few =
    let wide : 128 ^ k ≤ 2 ^ 63 = room k few in
    let value : number + unit * 1 < 2 ^ 64 = omega (arith, front.below, front.power, wide) in
    (1 ∷ [], (number + unit * 1, k + 1, starts (take k rest) (1 ∷ []) k (number + unit * 1) (length-take-le k rest front.within) (front.goes_on (1 ∷ []) 1 (IsVarint-one 1 (omega arith)) (λ _. omega arith)) value))

-- a byte after which no varint of 64 bits can come
pub IsStuck : ℕ → ℕ → ℕ → ℕ → Type 0
IsStuck k number unit b = (tail : List ℕ) (j high : ℕ) → IsVarint (take j (b ∷ tail)) high → (0 < k → 0 < high) → number + unit * high < 2 ^ 64 → ⊥

-- behind several bytes a zero spells nothing
zero_stuck : (k number unit b : ℕ) → b ≡ 0 → 0 < k → IsStuck k number unit b
unfolding IsStuck
zero_stuck k number unit b none several tail zero high spelled some fits = IsVarint-none high spelled
zero_stuck k number unit b none several tail (suc j) high spelled some fits =
    absurd (omega (arith, (IsVarint-last b (take j tail) high (omega arith) spelled).0, some several))

-- a tenth byte is 1, or the number passes 64 bits
tenth_stuck : (k number unit b : ℕ) → k ≡ 9 → unit ≡ 128 ^ k → b ≢ 1 → IsStuck k number unit b
unfolding IsStuck
tenth_stuck k number unit b tenth power other tail zero high spelled some fits = IsVarint-none high spelled
tenth_stuck k number unit b tenth power other tail (suc j) high spelled some fits = by_size (cases_lt b 128)
  where
    wide : unit ≡ 2 ^ 63
    wide = power ∙ ap (λ (x : ℕ). 128 ^ x) tenth

    large : number + 2 ^ 63 * high < 2 ^ 64
    large = subst (λ (u : ℕ). number + u * high < 2 ^ 64) wide fits

    by_size : (b < 128) ⊎ (128 ≤ b) → ⊥
    by_size (inl low) =
        absurd (omega (arith, large, (IsVarint-last b (take j tail) high low spelled).0, some (omega arith), other))
    by_size (inr up) =
        let r : IsRest b (take j tail) high = IsVarint-rest b (take j tail) high up spelled in
        absurd (omega (arith, large, r.some, r.sum))

-- either is a fault
pub fault_stuck : (k number unit b : ℕ) → unit ≡ 128 ^ k → ((0 < k) × (b ≡ 0)) ⊎ ((k ≡ 9) × (b ≢ 1)) → IsStuck k number unit b
fault_stuck k number unit b power (inl zero_behind) = zero_stuck k number unit b zero_behind.1 zero_behind.0
fault_stuck k number unit b power (inr other_tenth) = tenth_stuck k number unit b other_tenth.0 power other_tenth.1

stuck_begins : (rest : List ℕ) (k number unit b : ℕ) → IsFront rest k number unit → IsStuck k number unit b → (more : List ℕ) → BeginsWithVarint (take k rest ++ b ∷ more) → ⊥
unfolding BeginsWithVarint IsStuck
stuck_begins rest k number unit b front stuck more begins =
    let found = front.alone (b ∷ more) begins.0 (begins.1 - 0) begins.2.spelling in
    stuck more found.0 found.1 found.3 found.4 (omega (arith, found.5, begins.2.fits))

-- a byte that nothing can follow is the first fault
pub stuck_fault : (rest : List ℕ) (k number unit b : ℕ) → IsFront rest k number unit → k < length rest → b ≡ get_or rest k 0 → k ≤ 9 → IsStuck k number unit b
    → IsFirstFault BeginsWithVarint rest k
stuck_fault rest k number unit b front here is few stuck = record {
  within = front.within;
  before = front_before rest k number unit front few;
  here = λ _ more begins. stuck_begins rest k number unit b front stuck more (subst BeginsWithVarint (ap (λ (t : List ℕ). t ++ more) (take_more rest k 0 here ∙ ap (λ (x : ℕ). take k rest ++ x ∷ []) (sym is)) ∙ append_assoc (take k rest) (b ∷ []) more) begins);
}

pub stuck_refused : (rest : List ℕ) (k number unit b : ℕ) → IsFront rest k number unit → k < length rest → b ≡ get_or rest k 0 → IsStuck k number unit b → BeginsWithVarint rest → ⊥
stuck_refused rest k number unit b front here is stuck begins =
    let split : rest ≡ take k rest ++ b ∷ drop (k + 1) rest =
    sym (take-append-drop k rest) ∙ ap (λ (t : List ℕ). take k rest ++ t) (drop_more rest k 0 here ∙ ap (λ (x : ℕ). x ∷ drop (k + 1) rest) (sym is)) in
    stuck_begins rest k number unit b front stuck (drop (k + 1) rest) (subst BeginsWithVarint split begins)

-- bytes that end while more should follow end early
pub end_fault : (rest : List ℕ) (k number unit : ℕ) → IsFront rest k number unit → length rest ≡ k → k ≤ 9 → IsFirstFault BeginsWithVarint rest (length rest)
end_fault rest k number unit front size few = subst (IsFirstFault BeginsWithVarint rest) (sym size) record {
  within = front.within;
  before = front_before rest k number unit front few;
  here = λ inside _ _. absurd (omega arith);
}

-- past the end of the bytes a varint ends early at once
pub past_fault : (bytes : List ℕ) (at : ℕ) → length bytes < at → IsFirstFault BeginsWithVarint (drop at bytes) (length bytes - at)
past_fault bytes at past =
    let none : length (drop at bytes) ≡ 0 = length-drop at bytes ∙ omega arith in
    subst (IsFirstFault BeginsWithVarint (drop at bytes)) (length-drop at bytes) (end_fault (drop at bytes) 0 0 1 (front_start (drop at bytes)) none (omega arith))

-- a varint at a place is one with which the bytes from there on begin
pub begins_there : (bytes : List ℕ) (at n next : ℕ) → IsVarintAt bytes at n next → BeginsWithVarint (drop at bytes)
unfolding BeginsWithVarint
begins_there bytes at n next found =
    let whole : next - at ≡ next - at - 0 = omega arith in (
      n,
      next - at,
      record {
        ordered = omega arith;
        within = omega (arith, found.within, length-drop at bytes);
        spelling = subst (λ (k : ℕ). IsVarint (take k (drop at bytes)) n) whole found.spelling;
        fits = found.fits;
      },
    )

pub end_refused : (rest : List ℕ) (k number unit : ℕ) → IsFront rest k number unit → length rest ≡ k → BeginsWithVarint rest → ⊥
unfolding BeginsWithVarint
end_refused rest k number unit front size begins =
    let whole : rest ≡ take k rest ++ [] = sym (append-nil (take k rest) ∙ take_all k rest (omega arith)) in
    let found = front.alone [] begins.0 (begins.1 - 0) (subst (λ (t : List ℕ). IsVarint (take (begins.1 - 0) t) begins.0) whole begins.2.spelling) in
    empty found.0 found.1 found.3
  where
    empty : (j high : ℕ) → IsVarint (take j []) high → ⊥
    empty zero high spelled = IsVarint-none high spelled
    empty (suc j) high spelled = IsVarint-none high spelled

-- a byte that says that none follow ends the spelling
pub front_last : (rest : List ℕ) (k number unit b : ℕ) → IsFront rest k number unit → k < length rest → b ≡ get_or rest k 0 → b < 128 → (0 < k → 0 < b) → number + b * unit < 2 ^ 64
    → IsVarintAt rest 0 (number + b * unit) (k + 1)
front_last rest k number unit b front here is last some fits =
    let joined : take (k + 1) rest ≡ take k rest ++ b ∷ [] =
    take_more rest k 0 here ∙ ap (λ (x : ℕ). take k rest ++ x ∷ []) (sym is) in
    let whole : k + 1 - 0 ≡ k + 1 = omega arith in
    record {
      ordered = omega arith;
      within = omega arith;
      spelling = subst (λ (t : List ℕ). IsVarint t (number + b * unit)) (sym (ap (λ (j : ℕ). take j rest) whole ∙ joined)) (subst (IsVarint (take k rest ++ b ∷ [])) (omega arith) (front.goes_on (b ∷ []) b (IsVarint-one b last) some));
      fits = fits;
    }

-- the last byte's seven bits fit with the others
pub last_fits : (k number unit b : ℕ) → number < unit → unit ≡ 128 ^ k → k ≤ 9 → b < 128 → (k ≡ 9 → b ≡ 1) → number + b * unit < 2 ^ 64
last_fits k number unit b below power few last tenth = by_place (cases_lt k 9)
  where
    narrow : (number unit b : ℕ) → number < unit → unit ≤ 128 ^ 8 → b < 128 → number + b * unit < 2 ^ 64
    narrow number unit b below small last =
        let product : b * unit ≤ b * 128 ^ 8 = mul-le-mul_left b small in omega arith

    by_place : (k < 9) ⊎ (9 ≤ k) → number + b * unit < 2 ^ 64
    by_place (inl less) =
        let eight : k ≤ 8 = omega arith in
        let small : 128 ^ k ≤ 128 ^ 8 = pow-le-pow_right {n = 128} (omega arith) eight in
        narrow number unit b below (omega (arith, power, small)) last
    by_place (inr most) =
        let nine : k ≡ 9 = omega arith in
        let wide : unit ≡ 2 ^ 63 = power ∙ ap (λ (x : ℕ). 128 ^ x) nine in
        subst (λ (x : ℕ). number + x * unit < 2 ^ 64) (sym (tenth nine)) (omega arith)

-- another byte's seven bits and the next unit fit too
pub more_fits : (k unit : ℕ) → unit ≡ 128 ^ k → k < 9 → unit * 128 < 2 ^ 64
more_fits k unit power less =
    let few : k ≤ 8 = omega arith in
    let small : 128 ^ k ≤ 128 ^ 8 = pow-le-pow_right {n = 128} (omega arith) few in
    omega (arith, power, small)

-- and a tenth byte that is no fault says that none follow
pub before_tenth : (k b : ℕ) → (k ≡ 9 → b ≡ 1) → k ≤ 9 → 128 ≤ b → k < 9
before_tenth k b tenth few more = by_place (cases_lt k 9)
  where
    by_place : (k < 9) ⊎ (9 ≤ k) → k < 9
    by_place (inl less) = less
    by_place (inr most) = let nine : k ≡ 9 = omega arith in absurd (omega (arith, tenth nine))
