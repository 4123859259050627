-- A varint within bounds, read byte by byte: what each byte says of the rest, and where it is a fault.
use Rattle.std.proofs.Common.{◌≡◌, ℕ, ◌+◌, ◌-◌, ◌*◌, ◌/◌, ◌<◌, ◌≤◌, ◌⊎◌, inl, inr, List, [], ◌∷◌, ◌++◌, length, drop, refl, sym, ap, ◌∙◌, subst, arith, ⊎_elim, get_or, add-one, drop-cons}
use Rattle.std.proofs.lemmas.List.{append-nil, drop_all}
use Rattle.std.proofs.lemmas.Bool.{cases_lt}
use Rattle.lsm_bytes.specs.Varint.{IsVarint, varint}
use Rattle.lsm_bytes.proofs.Spelling.{IsVarint-varint, IsVarint-one_spelling, IsVarint-cons, IsVarint-rest, IsVarint-last, IsVarint-none, IsVarint-one, IsRest}
use Rattle.lsm_rows.specs.Pieces.{Begins, IsFault, FaultFrom, IsNumberIn, IsNumberAt, IsByteIn, IsByteAt}
use Rattle.lsm_rows.proofs.PieceFaults.{fault_after, fault_at_end}

-- what comes behind a first byte that says that more follow
abbrev pub IsHigh : ℕ → ℕ → List ℕ → Type 0
IsHigh most b = IsNumberIn 1 ((most + 128 - b) / 128)

-- no bytes
pub number_end : (least most : ℕ) → least ≤ most → IsFault (IsNumberIn least most) (Begins (IsNumberIn least most)) [] 0
number_end least most some = record {
  within = omega arith;
  none = λ ahead. nothing ahead.piece ahead.more ahead.joined ahead.good;
  before = (varint least, record { n = least; spelled = IsVarint-varint least; low = omega arith; high = some });
  here = λ below. absurd (omega (arith, below));
}
  where
    nothing : (piece more : List ℕ) → [] ≡ piece ++ more → IsNumberIn least most piece → ⊥
    nothing [] more joined good = IsVarint-none good.n good.spelled
    nothing (x ∷ piece) more joined good = cc

-- a number that begins with a byte is at least that byte; a byte that no other follows is the number
first_byte : (b : ℕ) (piece : List ℕ) (n : ℕ) → IsVarint (b ∷ piece) n → (b < 128 → n ≡ b) × (b ≤ n)
first_byte b piece n is = by_size (cases_lt b 128)
  where
    by_size : (b < 128) ⊎ (128 ≤ b) → (b < 128 → n ≡ b) × (b ≤ n)
    by_size (inl low) = let last : n ≡ b = (IsVarint-last b piece n low is).0 in ((λ _. last), omega arith)
    by_size (inr up) = let r : IsRest b piece n = IsVarint-rest b piece n up is in ((λ low. absurd (omega arith)), omega (arith, r.some, r.sum))

-- a first byte outside the bounds
pub number_outside : (least most b : ℕ) (rest : List ℕ) → least ≤ most → least ≤ 1 → (b < least) ⊎ (most < b)
    → IsFault (IsNumberIn least most) (Begins (IsNumberIn least most)) (b ∷ rest) 0
number_outside least most b rest some one outside = record {
  within = omega arith;
  none = λ ahead. never rest ahead.piece ahead.more ahead.joined ahead.good;
  before = (varint least, record { n = least; spelled = IsVarint-varint least; low = omega arith; high = some });
  here = λ below more ahead. never more ahead.piece ahead.more ahead.joined ahead.good;
}
  where
    never : (t piece more : List ℕ) → b ∷ t ≡ piece ++ more → IsNumberIn least most piece → ⊥
    never t [] more joined good = IsVarint-none good.n good.spelled
    never t (x ∷ piece) more joined good =
        let same : b ≡ x = cc in
        let n : ℕ = good.n in
        let is : IsVarint (x ∷ piece) n = good.spelled in
        let facts : (x < 128 → n ≡ x) × (x ≤ n) = first_byte x piece n is in
        let low : least ≤ n = good.low in
        let high : n ≤ most = good.high in
        ⊎_elim
        (λ (below : b < least). let small : x < 128 = omega arith in absurd (omega (arith, facts.0 small)))
        (λ (above : most < b). absurd (omega (arith, facts.1)))
        outside

pub number_high : (least most b : ℕ) (rest : List ℕ) (k : ℕ) → least ≤ 1 → 128 ≤ b → b < 256 → b ≤ most
    → IsFault (IsHigh most b) (Begins (IsHigh most b)) rest k → IsFault (IsNumberIn least most) (Begins (IsNumberIn least most)) (b ∷ rest) (1 + k)
number_high least most b rest k one up byte fits fault =
    fault_after (IsHigh most b) (Begins (IsHigh most b)) (IsNumberIn least most) (Begins (IsNumberIn least most)) (b ∷ []) rest k complete needed fault
  where
    complete : (v : List ℕ) → IsHigh most b v → (w : List ℕ) × IsNumberIn least most (b ∷ (v ++ w))
    complete v is =
        let high : ℕ = is.n in
        let some : 1 ≤ high = is.low in
        let bound : high ≤ (most + 128 - b) / 128 = is.high in (
          [],
          record {
            n = b - 128 + 128 * high;
            spelled = subst (λ (t : List ℕ). IsVarint (b ∷ t) (b - 128 + 128 * high)) (sym (append-nil v)) (IsVarint-cons b v (b - 128 + 128 * high) high up byte some (omega arith) is.spelled);
            low = omega arith;
            high = omega arith;
          },
        )

    needed : (t : List ℕ) → Begins (IsNumberIn least most) (b ∷ t) → Begins (IsHigh most b) t
    needed t ahead = within t ahead.piece ahead.more ahead.joined ahead.good
      where
        within : (t piece more : List ℕ) → b ∷ t ≡ piece ++ more → IsNumberIn least most piece → Begins (IsHigh most b) t
        within t [] more joined good = absurd (IsVarint-none good.n good.spelled)
        within t (x ∷ piece) more joined good =
            let same : b ≡ x = cc in
            let rest : t ≡ piece ++ more = cc in
            let n : ℕ = good.n in
            let is : IsVarint (x ∷ piece) n = good.spelled in
            let wide : 128 ≤ x = omega arith in
            let r : IsRest x piece n = IsVarint-rest x piece n wide is in
            let high : ℕ = r.high in
            let some : 0 < high = r.some in
            let sum : n + 128 ≡ x + 128 * high = r.sum in
            let bound : n ≤ most = good.high in
            record { piece = piece; more = more; joined = rest; good = record { n = high; spelled = r.rest; low = omega arith; high = omega arith } }

-- a byte, and the spelling of the rest
pub number_joined : (b high : ℕ) → 128 ≤ b → b < 256 → 0 < high → b ∷ varint high ≡ varint (b - 128 + 128 * high)
number_joined b high up byte some =
    IsVarint-one_spelling (b ∷ varint high) (b - 128 + 128 * high) (IsVarint-cons b (varint high) (b - 128 + 128 * high) high up byte some (omega arith) (IsVarint-varint high))

-- the same in longer bytes, from a place on
fault_here : (Piece : List ℕ → Type 0) (bytes : List ℕ) (at : ℕ) → IsFault Piece (Begins Piece) (drop at bytes) 0 → FaultFrom Piece bytes at at
fault_here Piece bytes at fault = record { skipped = 0; placed = omega arith; fault = fault }

pub first_split : (bytes : List ℕ) (at : ℕ) → at < length bytes → drop at bytes ≡ get_or bytes at 0 ∷ drop (at + 1) bytes
first_split bytes at below = rw (add-one, drop-cons bytes at 0)

pub read_end : (bytes : List ℕ) (at least most : ℕ) → at ≡ length bytes → least ≤ most → FaultFrom (IsNumberIn least most) bytes at at
read_end bytes at least most ends some =
    fault_here (IsNumberIn least most) bytes at
    (subst (λ (t : List ℕ). IsFault (IsNumberIn least most) (Begins (IsNumberIn least most)) t 0) (sym (ap (λ (n : ℕ). drop n bytes) ends ∙ drop_all (length bytes) bytes (omega arith))) (number_end least most some))

pub read_outside : (bytes : List ℕ) (at least most : ℕ) → at < length bytes → least ≤ most → least ≤ 1 → (get_or bytes at 0 < least) ⊎ (most < get_or bytes at 0)
    → FaultFrom (IsNumberIn least most) bytes at at
read_outside bytes at least most below some one outside =
    fault_here (IsNumberIn least most) bytes at
    (subst (λ (t : List ℕ). IsFault (IsNumberIn least most) (Begins (IsNumberIn least most)) t 0) (sym (first_split bytes at below))
    (number_outside least most (get_or bytes at 0) (drop (at + 1) bytes) some one outside))

pub read_high : (bytes : List ℕ) (at least most place : ℕ) → at < length bytes → least ≤ 1 → 128 ≤ get_or bytes at 0 → get_or bytes at 0 < 256 → get_or bytes at 0 ≤ most
    → FaultFrom (IsHigh most (get_or bytes at 0)) bytes (at + 1) place → FaultFrom (IsNumberIn least most) bytes at place
read_high bytes at least most place below one up byte fits inner = record {
  skipped = 1 + inner.skipped;
  placed = omega (arith, inner.placed);
  fault = subst (λ (t : List ℕ). IsFault (IsNumberIn least most) (Begins (IsNumberIn least most)) t (1 + inner.skipped)) (sym (first_split bytes at below))
      (number_high least most (get_or bytes at 0) (drop (at + 1) bytes) inner.skipped one up byte fits inner.fault);
}

pub read_last : (bytes : List ℕ) (at least most : ℕ) → at < length bytes → get_or bytes at 0 < 128 → least ≤ get_or bytes at 0 → get_or bytes at 0 ≤ most
    → IsNumberAt bytes at least most (get_or bytes at 0) (at + 1)
read_last bytes at least most below last low high =
    let b : ℕ = get_or bytes at 0 in
    let alone : b ∷ [] ≡ varint b = IsVarint-one_spelling (b ∷ []) b (IsVarint-one b last) in
    record {
      low = low;
      high = high;
      ends = ap (λ (s : List ℕ). at + length s) alone;
      within = omega arith;
      text = first_split bytes at below ∙ ap (λ (s : List ℕ). s ++ drop (at + 1) bytes) alone;
    }

pub read_more : (bytes : List ℕ) (at least most high next : ℕ) → at < length bytes → least ≤ 1 → 128 ≤ get_or bytes at 0 → get_or bytes at 0 < 256 → get_or bytes at 0 ≤ most
    → IsNumberAt bytes (at + 1) 1 ((most + 128 - get_or bytes at 0) / 128) high next
    → IsNumberAt bytes at least most (get_or bytes at 0 - 128 + 128 * high) next
read_more bytes at least most high next below one up byte fits rest =
    let b : ℕ = get_or bytes at 0 in
    let some : 1 ≤ high = rest.low in
    let bound : high ≤ (most + 128 - b) / 128 = rest.high in
    let joined : b ∷ varint high ≡ varint (b - 128 + 128 * high) = number_joined b high up byte some in
    record {
      low = omega arith;
      high = omega arith;
      ends = rest.ends ∙ omega arith ∙ ap (λ (s : List ℕ). at + length s) joined;
      within = rest.within;
      text = first_split bytes at below ∙ ap (λ (s : List ℕ). b ∷ s) rest.text ∙ ap (λ (s : List ℕ). s ++ drop next bytes) joined;
    }

-- one byte
byte_end : (least most : ℕ) → least ≤ 1 → least ≤ most → IsFault (IsByteIn least most) (Begins (IsByteIn least most)) [] 0
byte_end least most one some =
    fault_at_end (IsByteIn least most) (Begins (IsByteIn least most)) [] (least ∷ []) (λ ahead. nothing ahead.piece ahead.more ahead.joined ahead.good.b ahead.good.spelled)
    (record { b = least; spelled = refl; byte = omega arith; low = omega arith; high = some })
  where
    nothing : (piece more : List ℕ) → [] ≡ piece ++ more → (b : ℕ) → piece ≡ b ∷ [] → ⊥
    nothing piece more joined b spelled = let clash : [] ≡ b ∷ more = joined ∙ ap (λ (s : List ℕ). s ++ more) spelled in cc

byte_outside : (least most b : ℕ) (rest : List ℕ) → least ≤ 1 → least ≤ most → (b < least) ⊎ (most < b)
    → IsFault (IsByteIn least most) (Begins (IsByteIn least most)) (b ∷ rest) 0
byte_outside least most b rest one some outside = record {
  within = omega arith;
  none = λ ahead. never rest ahead.piece ahead.more ahead.joined ahead.good;
  before = (least ∷ [], record { b = least; spelled = refl; byte = omega arith; low = omega arith; high = some });
  here = λ below more ahead. never more ahead.piece ahead.more ahead.joined ahead.good;
}
  where
    never : (t piece more : List ℕ) → b ∷ t ≡ piece ++ more → IsByteIn least most piece → ⊥
    never t piece more joined good =
        let same : b ∷ t ≡ good.b ∷ more = joined ∙ ap (λ (s : List ℕ). s ++ more) good.spelled in
        let head : b ≡ good.b = cc in
        ⊎_elim (λ (below : b < least). absurd (omega (arith, good.low, head))) (λ (above : most < b). absurd (omega (arith, good.high, head))) outside

pub read_byte_end : (bytes : List ℕ) (at least most : ℕ) → at ≡ length bytes → least ≤ 1 → least ≤ most → FaultFrom (IsByteIn least most) bytes at at
read_byte_end bytes at least most ends one some =
    fault_here (IsByteIn least most) bytes at
    (subst (λ (t : List ℕ). IsFault (IsByteIn least most) (Begins (IsByteIn least most)) t 0) (sym (drop_all at bytes (omega arith))) (byte_end least most one some))

pub read_byte_outside : (bytes : List ℕ) (at least most : ℕ) → at < length bytes → least ≤ 1 → least ≤ most → (get_or bytes at 0 < least) ⊎ (most < get_or bytes at 0)
    → FaultFrom (IsByteIn least most) bytes at at
read_byte_outside bytes at least most below one some outside =
    fault_here (IsByteIn least most) bytes at
    (subst (λ (t : List ℕ). IsFault (IsByteIn least most) (Begins (IsByteIn least most)) t 0) (sym (first_split bytes at below))
    (byte_outside least most (get_or bytes at 0) (drop (at + 1) bytes) one some outside))

pub read_byte_at : (bytes : List ℕ) (at least most : ℕ) → at < length bytes → get_or bytes at 0 < 256 → least ≤ get_or bytes at 0 → get_or bytes at 0 ≤ most
    → IsByteAt bytes at least most (get_or bytes at 0)
read_byte_at bytes at least most below byte low high = record { within = omega arith; byte = byte; low = low; high = high; text = first_split bytes at below }
