-- An internal key with its length before it: where its reading fails, and what it gives.
use Rattle.std.proofs.Common.{◌≡◌, ℕ, zero, suc, ◌+◌, ◌-◌, ◌*◌, ◌/◌, ◌%◌, ◌^◌, ◌<◌, ◌≤◌, ◌⊎◌, inl, inr, ⊎_elim, List, [], ◌∷◌, ◌++◌, length, take, drop, refl, sym, ap, ◌∙◌, arith, append_assoc, length-append, length-drop, length-take, take-append-drop, drop-drop, get_or, get_or-drop}
use Rattle.std.specs.Prelude.{replicate}
use Rattle.std.specs.Int.{w64, to_le_bytes}
use Rattle.std.proofs.lemmas.List.{append-nil, length-replicate}
use Rattle.std.proofs.lemmas.Bool.{cases_lt}
use Rattle.std.proofs.Math.ListN.{get_or-append}
use Rattle.std.proofs.Math.Seq.{get_or-append_seam}
use Rattle.lsm_bytes.specs.Numbers.{number_at}
use Rattle.lsm_bytes.specs.Varint.{varint}
use Rattle.lsm_bytes.proofs.Spelling.{IsVarint-varint, IsVarint-one_spelling}
use Rattle.lsm_rows.specs.BatchText.{sized}
use Rattle.lsm_rows.specs.Pieces.{Begins, FaultFrom, IsNumberIn, IsNumberAt}
use Rattle.lsm_rows.specs.InternalKeys.{internal_key, kind_byte, user_key, trailer}
use Rattle.lsm_rows.specs.declared.internal_keys.Kind.{Kind}
use Rattle.lsm_rows.specs.declared.internal_keys.Kind.TheVariants.{Delete, Put}
use Rattle.lsm_rows.proofs.PieceFaults.{fault_of, fault_at_end, fault_behind}
use Rattle.lsm_rows.proofs.Prefixes.{varint_once}
use Rattle.lsm_rows.proofs.ReadHeader.{Bytes}
use Rattle.lsm_rows.proofs.InternalOrder.{parsed}
use Rattle.lsm_version.specs.Edits.{IsKey}
use Rattle.lsm_version.specs.Reading.{IsKeyIn, IsKeyAt}
use Rattle.lsm_rows.proofs.ReadSized.{sized-is}

-- bytes past the end count as zeros, so that zeros behind them change none
zero_at : (n i : ℕ) → get_or (replicate {A = ℕ} n 0) i 0 ≡ 0
zero_at zero i = refl
zero_at (suc n) zero = refl
zero_at (suc n) (suc i) = zero_at n i

padded_at : (xs : List ℕ) (n i : ℕ) → get_or (xs ++ replicate n 0) i 0 ≡ get_or xs i 0
padded_at [] n i = zero_at n i
padded_at (x ∷ xs) n zero = refl
padded_at (x ∷ xs) n (suc i) = padded_at xs n i

pub past_end : (xs : List ℕ) (i : ℕ) → length xs ≤ i → get_or xs i 0 ≡ 0
past_end [] i past = refl
past_end (x ∷ xs) zero past = absurd (omega (arith, past))
past_end (x ∷ xs) (suc i) past = past_end xs i (omega (arith, past))

pub taken_at : (xs : List ℕ) (k i : ℕ) → i < k → get_or (take k xs) i 0 ≡ get_or xs i 0
taken_at xs zero i less = absurd (omega (arith, less))
taken_at [] (suc k) i less = refl
taken_at (x ∷ xs) (suc k) zero less = refl
taken_at (x ∷ xs) (suc k) (suc i) less = taken_at xs k i (omega (arith, less))

bytes_taken : (xs : List ℕ) (k : ℕ) → Bytes xs → Bytes (take k xs)
bytes_taken xs k fits = record {
  fit = λ i. ⊎_elim
      (λ (less : i < k). omega (arith, taken_at xs k i less, fits.fit i))
      (λ (past : k ≤ i). omega (arith, past_end (take k xs) i (omega (arith, length-take k xs, past))))
      (cases_lt i k);
}

bytes_padded : (xs : List ℕ) (n : ℕ) → Bytes xs → Bytes (xs ++ replicate n 0)
bytes_padded xs n fits = record { fit = λ i. omega (arith, padded_at xs n i, fits.fit i) }

last_eight : (last : List ℕ) → length last ≡ 8 → Bytes last → (number_at 8 last 0 < 2 ^ 64) × (number_at 8 last 0 % 256 ≡ get_or last 0 0)
last_eight [] size fits = absurd (omega (arith, size))
last_eight (a ∷ []) size fits = absurd (omega (arith, size))
last_eight (a ∷ b ∷ []) size fits = absurd (omega (arith, size))
last_eight (a ∷ b ∷ c ∷ []) size fits = absurd (omega (arith, size))
last_eight (a ∷ b ∷ c ∷ d ∷ []) size fits = absurd (omega (arith, size))
last_eight (a ∷ b ∷ c ∷ d ∷ e ∷ []) size fits = absurd (omega (arith, size))
last_eight (a ∷ b ∷ c ∷ d ∷ e ∷ f ∷ []) size fits = absurd (omega (arith, size))
last_eight (a ∷ b ∷ c ∷ d ∷ e ∷ f ∷ g ∷ []) size fits = absurd (omega (arith, size))
last_eight (a ∷ b ∷ c ∷ d ∷ e ∷ f ∷ g ∷ h ∷ []) size fits =
    (omega (arith, fits.fit 0, fits.fit 1, fits.fit 2, fits.fit 3, fits.fit 4, fits.fit 5, fits.fit 6, fits.fit 7), omega (arith, fits.fit 0))
last_eight (a ∷ b ∷ c ∷ d ∷ e ∷ f ∷ g ∷ h ∷ x ∷ last) size fits = absurd (omega (arith, size))

some_kind : (b : ℕ) → b ≤ 1 → (kind : Kind) × (b ≡ kind_byte kind)
some_kind b small = by_size (cases_lt b 1)
  where
    by_size : (b < 1) ⊎ (1 ≤ b) → (kind : Kind) × (b ≡ kind_byte kind)
    by_size (inl none) = (Delete, omega arith)
    by_size (inr one) = (Put, omega arith)

-- bytes are an internal key exactly where they are long enough, but not too long, and the eighth from behind is a kind
key_of : (value : List ℕ) → 8 ≤ length value → length value ≤ 65543 → Bytes value → get_or value (length value - 8) 0 ≤ 1 → IsKey value
key_of value long short fits kind_is =
    let at : ℕ = length value - 8 in
    let last : List ℕ = drop at value in
    let read = last_eight last (length-drop at value ∙ omega (arith, long)) (record { fit = λ i. omega (arith, get_or-drop at value i 0, fits.fit (at + i)) }) in
    let k = some_kind (get_or value at 0) kind_is in
    let first : get_or last 0 0 ≡ get_or value at 0 = get_or-drop at value 0 0 ∙ ap (λ (i : ℕ). get_or value i 0) {x = at + 0} {y = at} (omega arith) in
    record {
      key = user_key value;
      sequence = trailer value / 256;
      kind = k.0;
      parts = parsed value k.0 long fits read.0 (read.1 ∙ first ∙ k.1);
      fits = omega (arith, length-take at value, short);
    }

kind_low : (kind : Kind) → kind_byte kind ≤ 1
kind_low Delete = omega arith
kind_low Put = omega arith

pub record HasKind (value : List ℕ) : Type 0 where
  pub long : 8 ≤ length value
  pub short : length value ≤ 65543
  pub kind : get_or value (length value - 8) 0 ≤ 1

kind_of : (value : List ℕ) → IsKey value → HasKind value
unfolding internal_key
kind_of value is =
    let n : ℕ = is.sequence * 256 + kind_byte is.kind in
    let whole : value ≡ is.key ++ to_le_bytes w64 n = is.parts.is in
    let size : length value ≡ length is.key + 8 = ap (length {A = ℕ}) whole ∙ length-append is.key (to_le_bytes w64 n) in
    let first : get_or value (length value - 8) 0 ≡ n % 256 =
    (λ i. get_or (whole i) (let at : length value - 8 ≡ length is.key = omega (arith, size) in at i) 0) ∙ get_or-append_seam is.key (n % 256) _ 0 in
    record {
      long = omega (arith, size);
      short = omega (arith, size, is.fits);
      kind = omega (arith, first, kind_low is.kind);
    }

-- an internal key of this length
pub record IsBody (n : ℕ) (value : List ℕ) : Type 0 where
  pub size : length value ≡ n
  pub key_is : IsKey value

pub zeros_key : (n : ℕ) → 8 ≤ n → n ≤ 65543 → IsKey (replicate n 0)
zeros_key n long short =
    let size : length (replicate {A = ℕ} n 0) ≡ n = length-replicate n 0 in
    key_of (replicate n 0) (omega (arith, size, long)) (omega (arith, size, short)) (record { fit = λ i. omega (arith, zero_at n i) }) (omega (arith, zero_at n (length (replicate {A = ℕ} n 0) - 8)))

-- a fault in the length
pub key_len_fault : (bytes : List ℕ) (at place : ℕ) → FaultFrom (IsNumberIn 8 65543) bytes at place → FaultFrom IsKeyIn bytes at place
key_len_fault bytes at place inner = record {
  skipped = inner.skipped;
  placed = inner.placed;
  fault = fault_of (IsNumberIn 8 65543) (Begins (IsNumberIn 8 65543)) IsKeyIn (Begins IsKeyIn) (drop at bytes) inner.skipped complete needed inner.fault;
}
  where
    complete : (v : List ℕ) → IsNumberIn 8 65543 v → (w : List ℕ) × IsKeyIn (v ++ w)
    complete v is = (
      replicate is.n 0,
      record {
        value = replicate is.n 0;
        spelled =
            ap (λ (s : List ℕ). s ++ replicate is.n 0) (IsVarint-one_spelling v is.n is.spelled)
            ∙ ap (λ (k : ℕ). varint k ++ replicate is.n 0) (sym (length-replicate {A = ℕ} is.n 0)) ∙ sym (sized-is (replicate is.n 0));
        key_is = zeros_key is.n is.low is.high;
      },
    )

    needed : (t : List ℕ) → Begins IsKeyIn t → Begins (IsNumberIn 8 65543) t
    needed t ahead =
        let value : List ℕ = ahead.good.value in
        let has : HasKind value = kind_of value ahead.good.key_is in
        record {
          piece = varint (length value);
          more = value ++ ahead.more;
          joined = ahead.joined ∙ ap (λ (s : List ℕ). s ++ ahead.more) (ahead.good.spelled ∙ sized-is value) ∙ append_assoc (varint (length value)) value ahead.more;
          good = record { n = length value; spelled = IsVarint-varint (length value); low = has.long; high = has.short };
        }

-- a fault in the key itself
body_fault : (bytes : List ℕ) (at n start place : ℕ) → IsNumberAt bytes at 8 65543 n start → FaultFrom (IsBody n) bytes start place → FaultFrom IsKeyIn bytes at place
body_fault bytes at n start place is inner =
    fault_behind (IsBody n) IsKeyIn bytes (varint n) at start place is.text is.ends complete needed inner
  where
    complete : (v : List ℕ) → IsBody n v → (w : List ℕ) × IsKeyIn (varint n ++ (v ++ w))
    complete v body = (
      [],
      record {
        value = v;
        spelled = ap (λ (s : List ℕ). varint n ++ s) (append-nil v) ∙ ap (λ (k : ℕ). varint k ++ v) (sym body.size) ∙ sym (sized-is v);
        key_is = body.key_is;
      },
    )

    needed : (t : List ℕ) → Begins IsKeyIn (varint n ++ t) → Begins (IsBody n) t
    needed t ahead =
        let value : List ℕ = ahead.good.value in
        let once = varint_once n (length value) t (value ++ ahead.more)
        (ahead.joined ∙ ap (λ (s : List ℕ). s ++ ahead.more) (ahead.good.spelled ∙ sized-is value) ∙ append_assoc (varint (length value)) value ahead.more) in
        record { piece = value; more = ahead.more; joined = once.1; good = record { size = sym once.0; key_is = ahead.good.key_is } }

-- a byte of no kind where the kind stands
no_kind : (n : ℕ) (t : List ℕ) → 8 ≤ n → 1 < get_or t (n - 8) 0 → Begins (IsBody n) t → ⊥
no_kind n t long other ahead =
    let piece : List ℕ = ahead.piece in
    let has : HasKind piece = kind_of piece ahead.good.key_is in
    let size : length piece ≡ n = ahead.good.size in
    let same : get_or t (n - 8) 0 ≡ get_or piece (n - 8) 0 = ap (λ (s : List ℕ). get_or s (n - 8) 0) ahead.joined ∙ get_or-append piece ahead.more 0 (n - 8) (omega (arith, size, long)) in
    let at : length piece - 8 ≡ n - 8 = omega (arith, size) in
    absurd (omega (arith, same, other, has.kind, ap (λ (i : ℕ). get_or piece i 0) at))

pub kind_fault : (bytes : List ℕ) (at n start : ℕ) → IsNumberAt bytes at 8 65543 n start → Bytes (drop start bytes) → n - 8 < length (drop start bytes)
    → 1 < get_or (drop start bytes) (n - 8) 0 → FaultFrom IsKeyIn bytes at (start + (n - 8))
kind_fault bytes at n start is fits less other =
    let rest : List ℕ = drop start bytes in
    let k : ℕ = n - 8 in
    let front : List ℕ = take k rest in
    let size : length front ≡ k = length-take k rest ∙ omega (arith, less) in
    let all : List ℕ = front ++ replicate 8 0 in
    let long : length all ≡ n = length-append front (replicate 8 0) ∙ omega (arith, size, is.low) in
    let there : length all - 8 ≡ k = omega (arith, long) in
    body_fault bytes at n start (start + k) is
    (record {
      skipped = k;
      placed = refl;
      fault = record {
        within = omega (arith, less);
        none = no_kind n rest is.low other;
        before = (
          replicate 8 0,
          record {
            size = long;
            key_is = key_of all (omega (arith, long, is.low)) (omega (arith, long, is.high)) (bytes_padded front 8 (bytes_taken rest k fits))
                (omega (arith, ap (λ (i : ℕ). get_or all i 0) there, padded_at front 8 k, past_end front k (omega (arith, size))));
          },
        );
        here = λ below more ahead. no_kind n (take (k + 1) rest ++ more) is.low
            (omega (arith, other, get_or-append (take (k + 1) rest) more 0 k (omega (arith, length-take (k + 1) rest, less)), taken_at rest (k + 1) k (omega arith))) ahead;
      };
    })

-- the bytes stop before the key does
pub key_early : (bytes : List ℕ) (at n start : ℕ) → IsNumberAt bytes at 8 65543 n start → Bytes (drop start bytes) → length (drop start bytes) < n
    → get_or (drop start bytes) (n - 8) 0 ≤ 1 → FaultFrom IsKeyIn bytes at (length bytes)
key_early bytes at n start is fits short kind =
    let rest : List ℕ = drop start bytes in
    let zeros : List ℕ = replicate (n - length rest) 0 in
    let all : List ℕ = rest ++ zeros in
    let size : length all ≡ n = length-append rest zeros ∙ omega (arith, length-replicate {A = ℕ} (n - length rest) 0, short) in
    let there : length all - 8 ≡ n - 8 = omega (arith, size) in
    body_fault bytes at n start (length bytes) is
    (record {
      skipped = length rest;
      placed = omega (arith, length-drop start bytes, is.within);
      fault = fault_at_end (IsBody n) (Begins (IsBody n)) rest zeros
          (λ ahead. absurd (omega (arith, ap (length {A = ℕ}) ahead.joined, length-append ahead.piece ahead.more, ahead.good.size, short)))
          (record {
            size = size;
            key_is = key_of all (omega (arith, size, is.low)) (omega (arith, size, is.high)) (bytes_padded rest (n - length rest) fits)
                (omega (arith, ap (λ (i : ℕ). get_or all i 0) there, padded_at rest (n - length rest) (n - 8), kind));
          });
    })

-- the key behind its length
pub key_at : (bytes : List ℕ) (at n start : ℕ) → IsNumberAt bytes at 8 65543 n start → Bytes (drop start bytes) → n ≤ length (drop start bytes)
    → get_or (drop start bytes) (n - 8) 0 ≤ 1 → IsKeyAt bytes at (take n (drop start bytes)) (start + n)
key_at bytes at n start is fits long kind =
    let rest : List ℕ = drop start bytes in
    let value : List ℕ = take n rest in
    let size : length value ≡ n = length-take n rest ∙ omega (arith, long) in
    let there : length value - 8 ≡ n - 8 = omega (arith, size) in
    let spelled : sized value ≡ varint n ++ value = sized-is value ∙ ap (λ (k : ℕ). varint k ++ value) size in
    record {
      key_is = key_of value (omega (arith, size, is.low)) (omega (arith, size, is.high)) (bytes_taken rest n fits)
          (omega (arith, ap (λ (i : ℕ). get_or value i 0) there, taken_at rest n (n - 8) (omega (arith, is.low)), kind));
      ends = omega (arith, is.ends, size, ap (length {A = ℕ}) spelled, length-append (varint n) value);
      within = omega (arith, long, length-drop start bytes, is.within);
      text =
          is.text ∙ ap (λ (s : List ℕ). varint n ++ s) (sym (take-append-drop n rest))
          ∙ sym (append_assoc (varint n) value (drop n rest)) ∙ ap (λ (s : List ℕ). s ++ drop n rest) (sym spelled)
          ∙ ap (λ (s : List ℕ). sized value ++ s) (drop-drop n start bytes);
    }
