-- A varint within any bounds, read byte by byte: what each byte says of the rest, and where it is a fault.
use Rattle.std.proofs.Common.{◌≡◌, ℕ, ◌+◌, ◌-◌, ◌*◌, ◌/◌, ◌<◌, ◌≤◌, ◌⊎◌, inl, inr, ⊎_elim, List, [], ◌∷◌, ◌++◌, length, drop, sym, ap, ◌∙◌, subst, arith}
use Rattle.std.proofs.lemmas.List.{append-nil}
use Rattle.lsm_bytes.specs.Varint.{IsVarint, varint}
use Rattle.lsm_bytes.proofs.Spelling.{IsVarint-varint, IsVarint-one_spelling, IsVarint-cons, IsVarint-rest, IsVarint-last, IsVarint-none, IsVarint-one, IsRest}
use Rattle.lsm_rows.specs.Pieces.{Begins, IsFault, FaultFrom, IsNumberIn, IsNumberAt}
use Rattle.lsm_rows.proofs.PieceFaults.{fault_after}
use Rattle.lsm_rows.proofs.ReadNumbers.{number_joined}
use Rattle.lsm_version.specs.Reading.{IsLeastHigh}

-- the first byte fits no number within the bounds
abbrev pub NoneFits : ℕ → ℕ → ℕ → Type 0
NoneFits least most b =
    ((b < 128) × ((b < least) ⊎ (most < b))) ⊎ ((128 ≤ b) × ((h : ℕ) → 1 ≤ h → least ≤ b - 128 + 128 * h → b - 128 + 128 * h ≤ most → ⊥))

never : (least most b : ℕ) → NoneFits least most b → (t piece more : List ℕ) → b ∷ t ≡ piece ++ more → IsNumberIn least most piece → ⊥
never least most b none t [] more joined good = IsVarint-none good.n good.spelled
never least most b (inl small) t (x ∷ piece) more joined good =
    let same : b ≡ x = cc in
    let n : ℕ = good.n in
    let is : IsVarint (x ∷ piece) n = good.spelled in
    let last : n ≡ x = (IsVarint-last x piece n (omega (arith, small.0, same)) is).0 in
    ⊎_elim
    (λ (below : b < least). absurd (omega (arith, last, same, good.low)))
    (λ (above : most < b). absurd (omega (arith, last, same, good.high)))
    small.1
never least most b (inr wide) t (x ∷ piece) more joined good =
    let same : b ≡ x = cc in
    let n : ℕ = good.n in
    let is : IsVarint (x ∷ piece) n = good.spelled in
    let r : IsRest x piece n = IsVarint-rest x piece n (omega (arith, wide.0, same)) is in
    let high : ℕ = r.high in
    let sum : n + 128 ≡ x + 128 * high = r.sum in
    wide.1 high (omega (arith, r.some)) (omega (arith, sum, same, good.low, wide.0)) (omega (arith, sum, same, good.high, wide.0))

outside : (least most b : ℕ) (rest : List ℕ) → least ≤ most → NoneFits least most b → IsFault (IsNumberIn least most) (Begins (IsNumberIn least most)) (b ∷ rest) 0
outside least most b rest some none = record {
  within = omega arith;
  none = λ ahead. never least most b none rest ahead.piece ahead.more ahead.joined ahead.good;
  before = (varint least, record { n = least; spelled = IsVarint-varint least; low = omega arith; high = some });
  here = λ below more ahead. never least most b none more ahead.piece ahead.more ahead.joined ahead.good;
}

-- from a place on, where a byte stands before the rest
pub read_outside : (bytes : List ℕ) (at least most b : ℕ) → drop at bytes ≡ b ∷ drop (at + 1) bytes → least ≤ most → NoneFits least most b → FaultFrom (IsNumberIn least most) bytes at at
read_outside bytes at least most b split some none = record {
  skipped = 0;
  placed = omega arith;
  fault = subst (λ (t : List ℕ). IsFault (IsNumberIn least most) (Begins (IsNumberIn least most)) t 0) (sym split) (outside least most b (drop (at + 1) bytes) some none);
}

pub read_last : (bytes : List ℕ) (at least most b : ℕ) → drop at bytes ≡ b ∷ drop (at + 1) bytes → at < length bytes → b < 128 → least ≤ b → b ≤ most → IsNumberAt bytes at least most b (at + 1)
read_last bytes at least most b split below last low high =
    let alone : b ∷ [] ≡ varint b = IsVarint-one_spelling (b ∷ []) b (IsVarint-one b last) in
    record {
      low = low;
      high = high;
      ends = ap (λ (s : List ℕ). at + length s) alone;
      within = omega arith;
      text = split ∙ ap (λ (s : List ℕ). s ++ drop (at + 1) bytes) alone;
    }

-- what comes behind a first byte that says that more follow
abbrev pub IsHigh : ℕ → ℕ → ℕ → List ℕ → Type 0
IsHigh high most b = IsNumberIn high ((most - (b - 128)) / 128)

number_high : (least most b high : ℕ) (rest : List ℕ) (k : ℕ) → 128 ≤ b → b < 256 → b - 128 ≤ most → IsLeastHigh least (b - 128) high
    → IsFault (IsHigh high most b) (Begins (IsHigh high most b)) rest k → IsFault (IsNumberIn least most) (Begins (IsNumberIn least most)) (b ∷ rest) (1 + k)
number_high least most b high rest k up byte fits first fault =
    fault_after (IsHigh high most b) (Begins (IsHigh high most b)) (IsNumberIn least most) (Begins (IsNumberIn least most)) (b ∷ []) rest k complete needed fault
  where
    complete : (v : List ℕ) → IsHigh high most b v → (w : List ℕ) × IsNumberIn least most (b ∷ (v ++ w))
    complete v is =
        let more : ℕ = is.n in
        let low : high ≤ more = is.low in
        let some : 0 < more = omega (arith, first.some, low) in
        let bound : more ≤ (most - (b - 128)) / 128 = is.high in (
          [],
          record {
            n = b - 128 + 128 * more;
            spelled = subst (λ (t : List ℕ). IsVarint (b ∷ t) (b - 128 + 128 * more)) (sym (append-nil v)) (IsVarint-cons b v (b - 128 + 128 * more) more up byte some (omega arith) is.spelled);
            low = omega (arith, first.reaches, low);
            high = omega (arith, bound, fits);
          },
        )

    needed : (t : List ℕ) → Begins (IsNumberIn least most) (b ∷ t) → Begins (IsHigh high most b) t
    needed t ahead = within t ahead.piece ahead.more ahead.joined ahead.good
      where
        within : (t piece more : List ℕ) → b ∷ t ≡ piece ++ more → IsNumberIn least most piece → Begins (IsHigh high most b) t
        within t [] more joined good = absurd (IsVarint-none good.n good.spelled)
        within t (x ∷ piece) more joined good =
            let same : b ≡ x = cc in
            let rest : t ≡ piece ++ more = cc in
            let n : ℕ = good.n in
            let is : IsVarint (x ∷ piece) n = good.spelled in
            let r : IsRest x piece n = IsVarint-rest x piece n (omega (arith, up, same)) is in
            let sum : n + 128 ≡ x + 128 * r.high = r.sum in
            record {
              piece = piece;
              more = more;
              joined = rest;
              good = record {
                n = r.high;
                spelled = r.rest;
                low = first.first r.high (omega (arith, r.some)) (omega (arith, sum, same, good.low, up));
                high = omega (arith, sum, same, good.high, up);
              };
            }

pub read_high : (bytes : List ℕ) (at least most high place b : ℕ) → drop at bytes ≡ b ∷ drop (at + 1) bytes → 128 ≤ b → b < 256 → b - 128 ≤ most → IsLeastHigh least (b - 128) high
    → FaultFrom (IsHigh high most b) bytes (at + 1) place → FaultFrom (IsNumberIn least most) bytes at place
read_high bytes at least most high place b split up byte fits first inner = record {
  skipped = 1 + inner.skipped;
  placed = omega (arith, inner.placed);
  fault = subst (λ (t : List ℕ). IsFault (IsNumberIn least most) (Begins (IsNumberIn least most)) t (1 + inner.skipped)) (sym split)
      (number_high least most b high (drop (at + 1) bytes) inner.skipped up byte fits first inner.fault);
}

pub read_more : (bytes : List ℕ) (at least most least_more high next b : ℕ) → drop at bytes ≡ b ∷ drop (at + 1) bytes → 128 ≤ b → b < 256 → b - 128 ≤ most
    → IsLeastHigh least (b - 128) least_more → IsNumberAt bytes (at + 1) least_more ((most - (b - 128)) / 128) high next → IsNumberAt bytes at least most (b - 128 + 128 * high) next
read_more bytes at least most least_more high next b split up byte fits first rest =
    let some : 0 < high = omega (arith, rest.low, first.some) in
    let bound : high ≤ (most - (b - 128)) / 128 = rest.high in
    let joined : b ∷ varint high ≡ varint (b - 128 + 128 * high) = number_joined b high up byte some in
    record {
      low = omega (arith, first.reaches, rest.low);
      high = omega (arith, bound, fits);
      ends = rest.ends ∙ omega arith ∙ ap (λ (s : List ℕ). at + length s) joined;
      within = rest.within;
      text = split ∙ ap (λ (s : List ℕ). b ∷ s) rest.text ∙ ap (λ (s : List ℕ). s ++ drop next bytes) joined;
    }
