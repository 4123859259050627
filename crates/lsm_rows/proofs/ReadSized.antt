-- Bytes with their length before them: where their reading fails, and how long they may be.
use Rattle.std.proofs.Common.{◌≡◌, ℕ, ◌+◌, ◌-◌, ◌<◌, ◌≤◌, ◌⊎◌, inl, inr, ⊎_elim, List, ◌++◌, length, take, drop, refl, sym, ap, ◌∙◌, arith, append_assoc, length-append, length-drop, length-take, take-append-drop, min}
use Rattle.std.proofs.lemmas.List.{length-replicate, drop-drop}
use Rattle.std.specs.Prelude.{replicate}
use Rattle.std.proofs.lemmas.Bool.{cases_lt}
use Rattle.lsm_bytes.specs.Varint.{varint}
use Rattle.lsm_bytes.proofs.Spelling.{IsVarint-varint, IsVarint-one_spelling}
use Rattle.lsm_rows.specs.BatchText.{sized}
use Rattle.lsm_rows.specs.Pieces.{Begins, FaultFrom, IsNumberIn, IsNumberAt, IsSizedIn, IsSizedAt, IsMost}
use Rattle.lsm_rows.proofs.PieceFaults.{fault_of, fault_at_end}
use Rattle.lsm_rows.proofs.Prefixes.{varint_once}
use Rattle.lsm_rows.proofs.BatchSizes.{one_byte, two_bytes, three_bytes}

pub sized-is : (value : List ℕ) → sized value ≡ varint (length value) ++ value
unfolding sized
sized-is value = refl

-- some bytes of this length
filled : (n : ℕ) → sized (replicate n 0) ≡ varint n ++ replicate n 0
filled n = sized-is (replicate n 0) ∙ ap (λ (k : ℕ). varint k ++ replicate n 0) (length-replicate n 0)

-- a fault in the length
pub length_fault : (bytes : List ℕ) (at most place : ℕ) → FaultFrom (IsNumberIn 0 most) bytes at place → FaultFrom (IsSizedIn most) bytes at place
length_fault bytes at most place inner = record {
  skipped = inner.skipped;
  placed = inner.placed;
  fault = fault_of (IsNumberIn 0 most) (Begins (IsNumberIn 0 most)) (IsSizedIn most) (Begins (IsSizedIn most)) (drop at bytes) inner.skipped complete needed inner.fault;
}
  where
    complete : (v : List ℕ) → IsNumberIn 0 most v → (w : List ℕ) × IsSizedIn most (v ++ w)
    complete v is = (
      replicate is.n 0,
      record {
        value = replicate is.n 0;
        spelled = ap (λ (s : List ℕ). s ++ replicate is.n 0) (IsVarint-one_spelling v is.n is.spelled) ∙ sym (filled is.n);
        fits = omega (arith, length-replicate {A = ℕ} is.n 0, is.high);
      },
    )

    needed : (t : List ℕ) → Begins (IsSizedIn most) t → Begins (IsNumberIn 0 most) t
    needed t ahead =
        let value : List ℕ = ahead.good.value in
        record {
          piece = varint (length value);
          more = value ++ ahead.more;
          joined = ahead.joined ∙ ap (λ (s : List ℕ). s ++ ahead.more) (ahead.good.spelled ∙ sized-is value) ∙ append_assoc (varint (length value)) value ahead.more;
          good = record { n = length value; spelled = IsVarint-varint (length value); low = omega arith; high = ahead.good.fits };
        }

-- the bytes stop before the length is reached
pub early_end : (bytes : List ℕ) (at most n start : ℕ) → at ≤ length bytes → IsNumberAt bytes at 0 most n start → length (drop start bytes) < n → FaultFrom (IsSizedIn most) bytes at (length bytes)
early_end bytes at most n start inside is short =
    let tail : List ℕ = drop start bytes in
    let zeros : List ℕ = replicate (n - length tail) 0 in
    let size : length (tail ++ zeros) ≡ n = length-append tail zeros ∙ omega (arith, length-replicate {A = ℕ} (n - length tail) 0, short) in
    record {
      skipped = length (drop at bytes);
      placed = omega (arith, length-drop at bytes, inside);
      fault = fault_at_end (IsSizedIn most) (Begins (IsSizedIn most)) (drop at bytes) zeros
          (λ ahead. never ahead.more ahead.good.value (sym is.text ∙ ahead.joined ∙ ap (λ (s : List ℕ). s ++ ahead.more) (ahead.good.spelled ∙ sized-is ahead.good.value)
          ∙ append_assoc (varint (length ahead.good.value)) ahead.good.value ahead.more))
          (record {
            value = tail ++ zeros;
            spelled = ap (λ (s : List ℕ). s ++ zeros) is.text ∙ append_assoc (varint n) tail zeros ∙ ap (λ (k : ℕ). varint k ++ (tail ++ zeros)) (sym size) ∙ sym (sized-is (tail ++ zeros));
            fits = omega (arith, size, is.high);
          });
    }
  where
    never : (more value : List ℕ) → varint n ++ drop start bytes ≡ varint (length value) ++ (value ++ more) → ⊥
    never more value same =
        let once = varint_once n (length value) (drop start bytes) (value ++ more) same in
        absurd (omega (arith, once.0, ap (length {A = ℕ}) once.1, length-append value more, short))

-- the bytes behind their length
pub sized_at : (bytes : List ℕ) (at most n start : ℕ) → IsNumberAt bytes at 0 most n start → n ≤ length (drop start bytes) → IsSizedAt bytes at most (take n (drop start bytes)) (start + n)
sized_at bytes at most n start is long =
    let value : List ℕ = take n (drop start bytes) in
    let size : length value ≡ n = length-take n (drop start bytes) ∙ omega arith in
    let spelled : sized value ≡ varint n ++ value = sized-is value ∙ ap (λ (k : ℕ). varint k ++ value) size in
    record {
      fits = omega (arith, size, is.high);
      ends = omega (arith, is.ends, size, ap (length {A = ℕ}) spelled, length-append (varint n) value);
      within = omega (arith, long, length-drop start bytes, is.within);
      text =
          is.text ∙ ap (λ (s : List ℕ). varint n ++ s) (sym (take-append-drop n (drop start bytes)))
          ∙ sym (append_assoc (varint n) value (drop n (drop start bytes))) ∙ ap (λ (s : List ℕ). s ++ drop n (drop start bytes)) (sym spelled)
          ∙ ap (λ (s : List ℕ). sized value ++ s) (drop-drop n start bytes);
    }

-- how many bytes a length takes
by_size : (n : ℕ) → n < 2097152 → ((n < 128) × (length (varint n) ≡ 1)) ⊎ (((128 ≤ n) × (n < 16384) × (length (varint n) ≡ 2)) ⊎ ((16384 ≤ n) × (length (varint n) ≡ 3)))
by_size n small =
    ⊎_elim
    (λ (low : n < 128). inl (low, one_byte n low))
    (λ (high : 128 ≤ n). ⊎_elim
    (λ (low : n < 16384). inr (inl (high, low, two_bytes n high low)))
    (λ (top : 16384 ≤ n). inr (inr (top, three_bytes n top small)))
    (cases_lt n 16384))
    (cases_lt n 128)

abbrev pub PrefixIs : ℕ → ℕ → Type 0
PrefixIs room prefix = ((room ≤ 128) × (prefix ≡ 1)) ⊎ (((128 < room) × (room ≤ 16385) × (prefix ≡ 2)) ⊎ ((16385 < room) × (prefix ≡ 3)))

-- a length takes at most the room exactly where it is at most the room without the bytes of the room's own length
fits_in : (room prefix n k : ℕ) → 1 ≤ room → PrefixIs room prefix
    → ((n < 128) × (k ≡ 1)) ⊎ (((128 ≤ n) × (n < 16384) × (k ≡ 2)) ⊎ ((16384 ≤ n) × (k ≡ 3)))
    → (n ≤ room - prefix → k + n ≤ room) × (k + n ≤ room → n ≤ room - prefix)
fits_in room prefix n k some (inl a) (inl x) = ((λ h. omega arith), (λ h. omega arith))
fits_in room prefix n k some (inl a) (inr (inl x)) = ((λ h. omega arith), (λ h. omega arith))
fits_in room prefix n k some (inl a) (inr (inr x)) = ((λ h. omega arith), (λ h. omega arith))
fits_in room prefix n k some (inr (inl a)) (inl x) = ((λ h. omega arith), (λ h. omega arith))
fits_in room prefix n k some (inr (inl a)) (inr (inl x)) = ((λ h. omega arith), (λ h. omega arith))
fits_in room prefix n k some (inr (inl a)) (inr (inr x)) = ((λ h. omega arith), (λ h. omega arith))
fits_in room prefix n k some (inr (inr a)) (inl x) = ((λ h. omega arith), (λ h. omega arith))
fits_in room prefix n k some (inr (inr a)) (inr (inl x)) = ((λ h. omega arith), (λ h. omega arith))
fits_in room prefix n k some (inr (inr a)) (inr (inr x)) = ((λ h. omega arith), (λ h. omega arith))

pub most_is : (limit room most prefix : ℕ) → limit < 2097152 → 1 ≤ room → PrefixIs room prefix → most ≡ min limit (room - prefix) → IsMost limit room most
most_is limit room most prefix small some sizes is = record {
  limited = omega arith;
  fits = λ n within. (fits_in room prefix n (length (varint n)) some sizes (by_size n (omega arith))).0 (omega arith);
  greatest = λ n limited fits. let last : n ≤ room - prefix = (fits_in room prefix n (length (varint n)) some sizes (by_size n (omega arith))).1 fits in omega arith;
}
