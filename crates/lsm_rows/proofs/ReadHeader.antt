-- The header of a batch's text: where its reading fails.
use Rattle.std.proofs.Common.{◌≡◌, ℕ, ◌+◌, ◌-◌, ◌*◌, ◌/◌, ◌%◌, ◌^◌, ◌<◌, ◌≤◌, ◌≢◌, ⊎_elim, List, [], ◌∷◌, ◌++◌, length, take, drop, refl, sym, ap, ◌∙◌, subst, arith, zero, suc, append_assoc, length-append, take-append-drop, get_or}
use Rattle.std.proofs.lemmas.Bool.{cases_lt}
use Rattle.std.specs.Int.{w32, w64, to_le_bytes, from_le_bytes}
use Rattle.std.proofs.lemmas.Nat.{from_le_bytes-to_le_bytes_4, from_le_bytes-to_le_bytes_8}
use Rattle.lsm_rows.proofs.Prefixes.{same_length}
use Rattle.std.proofs.lemmas.List.{append-nil}
use Rattle.lsm_bytes.specs.Numbers.{number_at}
use Rattle.lsm_rows.specs.Pieces.{Begins, IsFault, FaultFrom, IsByteIn}
use Rattle.lsm_rows.specs.Decoding.{IsFirst, IsCount, IsHeader, IsHeaderAt, header}
use Rattle.lsm_rows.proofs.PieceFaults.{fault_of, fault_after, fault_behind, fault_at_end}

-- eight bytes are those of a number
eight_bytes : (a b c d e f g h : ℕ) → a < 256 → b < 256 → c < 256 → d < 256 → e < 256 → f < 256 → g < 256 → h < 256
    → to_le_bytes w64 (a + 256 * (b + 256 * (c + 256 * (d + 256 * (e + 256 * (f + 256 * (g + 256 * (h + 256 * 0)))))))) ≡ a ∷ b ∷ c ∷ d ∷ e ∷ f ∷ g ∷ h ∷ []
eight_bytes a b c d e f g h a< b< c< d< e< f< g< h< =
    let n : ℕ = (a + 256 * (b + 256 * (c + 256 * (d + 256 * (e + 256 * (f + 256 * (g + 256 * (h + 256 * 0)))))))) in
    let at0 : n % 256 ≡ a = omega arith in
    let at1 : n / 256 % 256 ≡ b = omega arith in
    let at2 : n / 65536 % 256 ≡ c = omega arith in
    let at3 : n / 16777216 % 256 ≡ d = omega arith in
    let at4 : n / 4294967296 % 256 ≡ e = omega arith in
    let at5 : n / 1099511627776 % 256 ≡ f = omega arith in
    let at6 : n / 281474976710656 % 256 ≡ g = omega arith in
    let at7 : n / 72057594037927936 % 256 ≡ h = omega arith in
    (λ i. at0 i ∷ at1 i ∷ at2 i ∷ at3 i ∷ at4 i ∷ at5 i ∷ at6 i ∷ at7 i ∷ [])

-- every byte is below 256
pub record Bytes (bytes : List ℕ) : Type 0 where
  pub fit : (i : ℕ) → get_or bytes i 0 < 256

-- seven bytes and a zero
is_first : (a b c d e f g : ℕ) → a < 256 → b < 256 → c < 256 → d < 256 → e < 256 → f < 256 → g < 256 → IsFirst (a ∷ b ∷ c ∷ d ∷ e ∷ f ∷ g ∷ 0 ∷ [])
is_first a b c d e f g a< b< c< d< e< f< g< = record {
  first = (a + 256 * (b + 256 * (c + 256 * (d + 256 * (e + 256 * (f + 256 * (g + 256 * (0 + 256 * 0))))))));
  spelled = sym (eight_bytes a b c d e f g 0 a< b< c< d< e< f< g< (omega arith));
  below = omega arith;
}

-- fewer than eight bytes, and more up to a first sequence
completed : (bytes : List ℕ) → length bytes < 8 → Bytes bytes → (more : List ℕ) × IsFirst (bytes ++ more)
completed [] short fits = (0 ∷ 0 ∷ 0 ∷ 0 ∷ 0 ∷ 0 ∷ 0 ∷ 0 ∷ [], is_first 0 0 0 0 0 0 0 (omega arith) (omega arith) (omega arith) (omega arith) (omega arith) (omega arith) (omega arith))
completed (a ∷ []) short fits = (0 ∷ 0 ∷ 0 ∷ 0 ∷ 0 ∷ 0 ∷ 0 ∷ [], is_first a 0 0 0 0 0 0 (fits.fit 0) (omega arith) (omega arith) (omega arith) (omega arith) (omega arith) (omega arith))
completed (a ∷ b ∷ []) short fits = (0 ∷ 0 ∷ 0 ∷ 0 ∷ 0 ∷ 0 ∷ [], is_first a b 0 0 0 0 0 (fits.fit 0) (fits.fit 1) (omega arith) (omega arith) (omega arith) (omega arith) (omega arith))
completed (a ∷ b ∷ c ∷ []) short fits = (0 ∷ 0 ∷ 0 ∷ 0 ∷ 0 ∷ [], is_first a b c 0 0 0 0 (fits.fit 0) (fits.fit 1) (fits.fit 2) (omega arith) (omega arith) (omega arith) (omega arith))
completed (a ∷ b ∷ c ∷ d ∷ []) short fits = (0 ∷ 0 ∷ 0 ∷ 0 ∷ [], is_first a b c d 0 0 0 (fits.fit 0) (fits.fit 1) (fits.fit 2) (fits.fit 3) (omega arith) (omega arith) (omega arith))
completed (a ∷ b ∷ c ∷ d ∷ e ∷ []) short fits = (0 ∷ 0 ∷ 0 ∷ [], is_first a b c d e 0 0 (fits.fit 0) (fits.fit 1) (fits.fit 2) (fits.fit 3) (fits.fit 4) (omega arith) (omega arith))
completed (a ∷ b ∷ c ∷ d ∷ e ∷ f ∷ []) short fits = (0 ∷ 0 ∷ [], is_first a b c d e f 0 (fits.fit 0) (fits.fit 1) (fits.fit 2) (fits.fit 3) (fits.fit 4) (fits.fit 5) (omega arith))
completed (a ∷ b ∷ c ∷ d ∷ e ∷ f ∷ g ∷ []) short fits = (0 ∷ [], is_first a b c d e f g (fits.fit 0) (fits.fit 1) (fits.fit 2) (fits.fit 3) (fits.fit 4) (fits.fit 5) (fits.fit 6))
completed (a ∷ b ∷ c ∷ d ∷ e ∷ f ∷ g ∷ h ∷ more) short fits = absurd (omega (arith, short))

first_len : (n : ℕ) → length (to_le_bytes w64 n) ≡ 8
first_len n = refl

-- no first sequence in fewer than eight bytes
too_short : (bytes : List ℕ) → length bytes < 8 → Begins IsFirst bytes → ⊥
too_short bytes short ahead =
    absurd (omega (arith, ap (length {A = ℕ}) ahead.joined, length-append ahead.piece ahead.more, ap (length {A = ℕ}) ahead.good.spelled, short))

pub first_early : (bytes : List ℕ) → length bytes < 8 → Bytes bytes → IsFault IsFirst (Begins IsFirst) bytes (length bytes)
first_early bytes short fits =
    let done = completed bytes short fits in
    fault_at_end IsFirst (Begins IsFirst) bytes done.0 (too_short bytes short) done.1

-- the eighth byte of a first sequence is 0
eighth : (a b c d e f g h : ℕ) (t : List ℕ) → Begins IsFirst (a ∷ b ∷ c ∷ d ∷ e ∷ f ∷ g ∷ h ∷ t) → h ≡ 0
eighth a b c d e f g h t ahead =
    let n : ℕ = ahead.good.first in
    let small : n < 2 ^ 56 = ahead.good.below in
    let same : a ∷ b ∷ c ∷ d ∷ e ∷ f ∷ g ∷ h ∷ t ≡ to_le_bytes w64 n ++ ahead.more = ahead.joined ∙ ap (λ (s : List ℕ). s ++ ahead.more) ahead.good.spelled in
    let last : h ≡ n / 72057594037927936 % 256 = cc in
    omega arith

-- a first sequence too great
pub first_great : (bytes : List ℕ) → 8 ≤ length bytes → Bytes bytes → 2 ^ 56 ≤ number_at 8 bytes 0 → IsFault IsFirst (Begins IsFirst) bytes 7
first_great (a ∷ b ∷ c ∷ d ∷ e ∷ f ∷ g ∷ h ∷ t) long fits great =
    let some : h ≡ 0 → ⊥ = λ none. absurd (omega (arith, great, none, fits.fit 0, fits.fit 1, fits.fit 2, fits.fit 3, fits.fit 4, fits.fit 5, fits.fit 6)) in
    record {
      within = omega arith;
      none = λ ahead. some (eighth a b c d e f g h t ahead);
      before = (0 ∷ [], is_first a b c d e f g (fits.fit 0) (fits.fit 1) (fits.fit 2) (fits.fit 3) (fits.fit 4) (fits.fit 5) (fits.fit 6));
      here = λ below more ahead. some (eighth a b c d e f g h more ahead);
    }
first_great [] long fits great = absurd (omega (arith, long))
first_great (a ∷ []) long fits great = absurd (omega (arith, long))
first_great (a ∷ b ∷ []) long fits great = absurd (omega (arith, long))
first_great (a ∷ b ∷ c ∷ []) long fits great = absurd (omega (arith, long))
first_great (a ∷ b ∷ c ∷ d ∷ []) long fits great = absurd (omega (arith, long))
first_great (a ∷ b ∷ c ∷ d ∷ e ∷ []) long fits great = absurd (omega (arith, long))
first_great (a ∷ b ∷ c ∷ d ∷ e ∷ f ∷ []) long fits great = absurd (omega (arith, long))
first_great (a ∷ b ∷ c ∷ d ∷ e ∷ f ∷ g ∷ []) long fits great = absurd (omega (arith, long))

-- the first sequence, read
pub first_read : (bytes : List ℕ) → 8 ≤ length bytes → Bytes bytes → take 8 bytes ≡ to_le_bytes w64 (number_at 8 bytes 0)
first_read (a ∷ b ∷ c ∷ d ∷ e ∷ f ∷ g ∷ h ∷ t) long fits =
    sym (eight_bytes a b c d e f g h (fits.fit 0) (fits.fit 1) (fits.fit 2) (fits.fit 3) (fits.fit 4) (fits.fit 5) (fits.fit 6) (fits.fit 7))
first_read [] long fits = absurd (omega (arith, long))
first_read (a ∷ []) long fits = absurd (omega (arith, long))
first_read (a ∷ b ∷ []) long fits = absurd (omega (arith, long))
first_read (a ∷ b ∷ c ∷ []) long fits = absurd (omega (arith, long))
first_read (a ∷ b ∷ c ∷ d ∷ []) long fits = absurd (omega (arith, long))
first_read (a ∷ b ∷ c ∷ d ∷ e ∷ []) long fits = absurd (omega (arith, long))
first_read (a ∷ b ∷ c ∷ d ∷ e ∷ f ∷ []) long fits = absurd (omega (arith, long))
first_read (a ∷ b ∷ c ∷ d ∷ e ∷ f ∷ g ∷ []) long fits = absurd (omega (arith, long))

-- the four bytes of a count of at most 1,024
record Cells (most : ℕ) (t : List ℕ) : Type 0 where
  low : ℕ
  high : ℕ
  more : List ℕ
  is : t ≡ low ∷ high ∷ 0 ∷ 0 ∷ more
  byte : low < 256
  some : 1 ≤ low + 256 * high
  fits : low + 256 * high ≤ most

four_bytes : (low high : ℕ) → low < 256 → high < 256 → to_le_bytes w32 (low + 256 * high) ≡ low ∷ high ∷ 0 ∷ 0 ∷ []
four_bytes low high l h =
    let n : ℕ = low + 256 * high in
    let at0 : n % 256 ≡ low = omega arith in
    let at1 : n / 256 % 256 ≡ high = omega arith in
    let at2 : n / 65536 % 256 ≡ 0 = omega arith in
    let at3 : n / 16777216 % 256 ≡ 0 = omega arith in
    (λ i. at0 i ∷ at1 i ∷ at2 i ∷ at3 i ∷ [])

cells : (most : ℕ) (t : List ℕ) → most ≤ 1024 → Begins (IsCount most) t → Cells most t
cells most t small ahead =
    let n : ℕ = ahead.good.count in
    let high : n ≤ most = ahead.good.high in
    let some : 1 ≤ n = ahead.good.some in
    let split : n ≡ n % 256 + 256 * (n / 256) = omega arith in
    let same : to_le_bytes w32 n ≡ n % 256 ∷ (n / 256) ∷ 0 ∷ 0 ∷ [] = ap (to_le_bytes w32) split ∙ four_bytes (n % 256) (n / 256) (omega arith) (omega arith) in
    record {
      low = n % 256;
      high = n / 256;
      more = ahead.more;
      is = ahead.joined ∙ ap (λ (s : List ℕ). s ++ ahead.more) (ahead.good.spelled ∙ same);
      byte = omega arith;
      some = omega arith;
      fits = omega arith;
    }

is_count : (most low high : ℕ) → most ≤ 1024 → low < 256 → 1 ≤ low + 256 * high → low + 256 * high ≤ most → IsCount most (low ∷ high ∷ 0 ∷ 0 ∷ [])
is_count most low high small byte some fits = record { count = low + 256 * high; spelled = sym (four_bytes low high byte (omega arith)); some = some; high = fits }

-- the lower byte of a count
pub lower_fault : (bytes : List ℕ) (most least place : ℕ) → 1 ≤ most → most ≤ 1024 → (most < 256 → least ≡ 1) → (256 ≤ most → least ≡ 0)
    → FaultFrom (IsByteIn least most) bytes 8 place → FaultFrom (IsCount most) bytes 8 place
lower_fault bytes most least place some small less more_than inner =
    record { skipped = inner.skipped; placed = inner.placed; fault = fault_of (IsByteIn least most) (Begins (IsByteIn least most)) (IsCount most) (Begins (IsCount most)) (drop 8 bytes) inner.skipped complete needed inner.fault }
  where
    complete : (v : List ℕ) → IsByteIn least most v → (w : List ℕ) × IsCount most (v ++ w)
    complete v is = by_zero is.b is.spelled is.byte is.low is.high
      where
        by_zero : (b : ℕ) → v ≡ b ∷ [] → b < 256 → least ≤ b → b ≤ most → (w : List ℕ) × IsCount most (v ++ w)
        by_zero zero spelled byte low high =
            let wide : 256 ≤ most = ⊎_elim (λ (below : most < 256). absurd (omega (arith, less below))) (λ (above : 256 ≤ most). above) (cases_lt most 256) in
            (1 ∷ 0 ∷ 0 ∷ [], subst (λ (l : List ℕ). IsCount most (l ++ 1 ∷ 0 ∷ 0 ∷ [])) (sym spelled) (is_count most 0 1 small (omega arith) (omega arith) (omega arith)))
        by_zero (suc b) spelled byte low high =
            (0 ∷ 0 ∷ 0 ∷ [], subst (λ (l : List ℕ). IsCount most (l ++ 0 ∷ 0 ∷ 0 ∷ [])) (sym spelled) (is_count most (suc b) 0 small byte (omega arith) (omega arith)))

    needed : (t : List ℕ) → Begins (IsCount most) t → Begins (IsByteIn least most) t
    needed t ahead =
        let c : Cells most t = cells most t small ahead in
        let low : ℕ = c.low in
        let byte : low < 256 = c.byte in
        let one : 1 ≤ low + 256 * c.high = c.some in
        let fits : low + 256 * c.high ≤ most = c.fits in
        record { piece = low ∷ []; more = c.high ∷ 0 ∷ 0 ∷ c.more; joined = c.is; good = record { b = low; spelled = refl; byte = byte; low = at_least low c.high byte one fits; high = omega arith } }
      where
        at_least : (low high : ℕ) → low < 256 → 1 ≤ low + 256 * high → low + 256 * high ≤ most → least ≤ low
        at_least low high byte one fits = ⊎_elim (λ (small_most : most < 256). omega (arith, less small_most)) (λ (great : 256 ≤ most). omega (arith, more_than great)) (cases_lt most 256)

-- the upper byte of a count
pub upper_fault : (bytes : List ℕ) (most lower least place : ℕ) → most ≤ 1024 → lower < 256 → lower ≤ most → (lower ≡ 0 → least ≡ 1) → (lower ≢ 0 → least ≡ 0)
    → drop 8 bytes ≡ lower ∷ drop 9 bytes
    → FaultFrom (IsByteIn least ((most - lower) / 256)) bytes 9 place → FaultFrom (IsCount most) bytes 8 place
upper_fault bytes most lower least place small byte low_fits when_zero when_some split inner =
    fault_behind (IsByteIn least ((most - lower) / 256)) (IsCount most) bytes (lower ∷ []) 8 9 place split (omega arith) complete needed inner
  where
    complete : (v : List ℕ) → IsByteIn least ((most - lower) / 256) v → (w : List ℕ) × IsCount most (lower ∷ (v ++ w))
    complete v is =
        let b : ℕ = is.b in
        let low : least ≤ b = is.low in
        let high : b ≤ (most - lower) / 256 = is.high in
        (0 ∷ 0 ∷ [], subst (λ (l : List ℕ). IsCount most (lower ∷ (l ++ 0 ∷ 0 ∷ []))) (sym is.spelled) (is_count most lower b small byte (one_at_least lower when_zero b low) (omega arith)))
      where
        one_at_least : (lower : ℕ) → (lower ≡ 0 → least ≡ 1) → (b : ℕ) → least ≤ b → 1 ≤ lower + 256 * b
        one_at_least zero when b low = omega (arith, when refl)
        one_at_least (suc lower) when b low = omega arith

    needed : (t : List ℕ) → Begins (IsCount most) (lower ∷ t) → Begins (IsByteIn least ((most - lower) / 256)) t
    needed t ahead =
        let c : Cells most (lower ∷ t) = cells most (lower ∷ t) small ahead in
        let high : ℕ = c.high in
        let is : lower ∷ t ≡ c.low ∷ high ∷ 0 ∷ 0 ∷ c.more = c.is in
        let head : lower ≡ c.low = cc in
        let tail : t ≡ high ∷ 0 ∷ 0 ∷ c.more = cc in
        let one : 1 ≤ c.low + 256 * high = c.some in
        let fits : c.low + 256 * high ≤ most = c.fits in
        record { piece = high ∷ []; more = 0 ∷ 0 ∷ c.more; joined = tail; good = record { b = high; spelled = refl; byte = omega arith; low = at_least lower high (omega arith) when_zero when_some; high = omega arith } }
      where
        at_least : (lower high : ℕ) → 1 ≤ lower + 256 * high → (lower ≡ 0 → least ≡ 1) → (lower ≢ 0 → least ≡ 0) → least ≤ high
        at_least zero high one when some = omega (arith, when refl)
        at_least (suc lower) high one when some = omega (arith, some (λ (e : suc lower ≡ 0). cc))

-- the two bytes above them
pub third_fault : (bytes : List ℕ) (most lower upper place : ℕ) → most ≤ 1024 → lower < 256 → 1 ≤ lower + 256 * upper → lower + 256 * upper ≤ most
    → drop 8 bytes ≡ lower ∷ upper ∷ drop 10 bytes → FaultFrom (IsByteIn 0 0) bytes 10 place → FaultFrom (IsCount most) bytes 8 place
third_fault bytes most lower upper place small byte some fits split inner =
    fault_behind (IsByteIn 0 0) (IsCount most) bytes (lower ∷ upper ∷ []) 8 10 place split (omega arith) complete needed inner
  where
    complete : (v : List ℕ) → IsByteIn 0 0 v → (w : List ℕ) × IsCount most (lower ∷ upper ∷ (v ++ w))
    complete v is =
        let zero_byte : v ≡ 0 ∷ [] = is.spelled ∙ ap (λ (b : ℕ). b ∷ []) (omega (arith, is.high)) in
        (0 ∷ [], subst (λ (l : List ℕ). IsCount most (lower ∷ upper ∷ (l ++ 0 ∷ []))) (sym zero_byte) (is_count most lower upper small byte some fits))

    needed : (t : List ℕ) → Begins (IsCount most) (lower ∷ upper ∷ t) → Begins (IsByteIn 0 0) t
    needed t ahead =
        let c : Cells most (lower ∷ upper ∷ t) = cells most (lower ∷ upper ∷ t) small ahead in
        let is : lower ∷ upper ∷ t ≡ c.low ∷ c.high ∷ 0 ∷ 0 ∷ c.more = c.is in
        let tail : t ≡ 0 ∷ 0 ∷ c.more = cc in
        record { piece = 0 ∷ []; more = 0 ∷ c.more; joined = tail; good = record { b = 0; spelled = refl; byte = omega arith; low = omega arith; high = omega arith } }

pub fourth_fault : (bytes : List ℕ) (most lower upper place : ℕ) → most ≤ 1024 → lower < 256 → 1 ≤ lower + 256 * upper → lower + 256 * upper ≤ most
    → drop 8 bytes ≡ lower ∷ upper ∷ 0 ∷ drop 11 bytes → FaultFrom (IsByteIn 0 0) bytes 11 place → FaultFrom (IsCount most) bytes 8 place
fourth_fault bytes most lower upper place small byte some fits split inner =
    fault_behind (IsByteIn 0 0) (IsCount most) bytes (lower ∷ upper ∷ 0 ∷ []) 8 11 place split (omega arith) complete needed inner
  where
    complete : (v : List ℕ) → IsByteIn 0 0 v → (w : List ℕ) × IsCount most (lower ∷ upper ∷ 0 ∷ (v ++ w))
    complete v is =
        let zero_byte : v ≡ 0 ∷ [] = is.spelled ∙ ap (λ (b : ℕ). b ∷ []) (omega (arith, is.high)) in
        ([], subst (λ (l : List ℕ). IsCount most (lower ∷ upper ∷ 0 ∷ (l ++ []))) (sym zero_byte) (is_count most lower upper small byte some fits))

    needed : (t : List ℕ) → Begins (IsCount most) (lower ∷ upper ∷ 0 ∷ t) → Begins (IsByteIn 0 0) t
    needed t ahead =
        let c : Cells most (lower ∷ upper ∷ 0 ∷ t) = cells most (lower ∷ upper ∷ 0 ∷ t) small ahead in
        let is : lower ∷ upper ∷ 0 ∷ t ≡ c.low ∷ c.high ∷ 0 ∷ 0 ∷ c.more = c.is in
        let tail : t ≡ 0 ∷ c.more = cc in
        record { piece = 0 ∷ []; more = c.more; joined = tail; good = record { b = 0; spelled = refl; byte = omega arith; low = omega arith; high = omega arith } }

pub count_read : (bytes : List ℕ) (lower upper : ℕ) → lower < 256 → upper < 256 → drop 8 bytes ≡ lower ∷ upper ∷ 0 ∷ 0 ∷ drop 12 bytes
    → drop 8 bytes ≡ to_le_bytes w32 (lower + 256 * upper) ++ drop 12 bytes
count_read bytes lower upper l u split = split ∙ ap (λ (s : List ℕ). s ++ drop 12 bytes) (sym (four_bytes lower upper l u))

-- the header's two parts
header-is : (first count : ℕ) → header first count ≡ to_le_bytes w64 first ++ to_le_bytes w32 count
unfolding header
header-is first count = refl

pub header_len : (first count : ℕ) → length (header first count) ≡ 12
unfolding header
header_len first count = refl

pub first_fault : (bytes : List ℕ) (place : ℕ) → IsFault IsFirst (Begins IsFirst) bytes place → IsFault IsHeader (Begins IsHeader) bytes place
first_fault bytes place inner = fault_of IsFirst (Begins IsFirst) IsHeader (Begins IsHeader) bytes place complete needed inner
  where
    complete : (v : List ℕ) → IsFirst v → (w : List ℕ) × IsHeader (v ++ w)
    complete v is = (
      to_le_bytes w32 1,
      record {
        first = is.first;
        count = 1;
        spelled = ap (λ (s : List ℕ). s ++ to_le_bytes w32 1) is.spelled ∙ sym (header-is is.first 1);
        some = omega arith;
        most = omega arith;
        last = omega (arith, is.below);
      },
    )

    needed : (t : List ℕ) → Begins IsHeader t → Begins IsFirst t
    needed t ahead =
        let first : ℕ = ahead.good.first in
        let count : ℕ = ahead.good.count in
        record {
          piece = to_le_bytes w64 first;
          more = to_le_bytes w32 count ++ ahead.more;
          joined = ahead.joined ∙ ap (λ (s : List ℕ). s ++ ahead.more) (ahead.good.spelled ∙ header-is first count) ∙ append_assoc (to_le_bytes w64 first) (to_le_bytes w32 count) ahead.more;
          good = record { first = first; spelled = refl; below = omega (arith, ahead.good.some, ahead.good.last) };
        }

same_first : (m n : ℕ) (x y : List ℕ) → m < 2 ^ 64 → n < 2 ^ 64 → to_le_bytes w64 m ++ x ≡ to_le_bytes w64 n ++ y → (m ≡ n) × (x ≡ y)
same_first m n x y small below same =
    let both : (to_le_bytes w64 m ≡ to_le_bytes w64 n) × (x ≡ y) = same_length (to_le_bytes w64 m) (to_le_bytes w64 n) x y refl same in
    (sym (from_le_bytes-to_le_bytes_8 m small) ∙ ap (from_le_bytes w64) both.0 ∙ from_le_bytes-to_le_bytes_8 n below, both.1)

same_count : (m n : ℕ) (x y : List ℕ) → m < 2 ^ 32 → n < 2 ^ 32 → to_le_bytes w32 m ++ x ≡ to_le_bytes w32 n ++ y → (m ≡ n) × (x ≡ y)
same_count m n x y small below same =
    let both : (to_le_bytes w32 m ≡ to_le_bytes w32 n) × (x ≡ y) = same_length (to_le_bytes w32 m) (to_le_bytes w32 n) x y refl same in
    (sym (from_le_bytes-to_le_bytes_4 m small) ∙ ap (from_le_bytes w32) both.0 ∙ from_le_bytes-to_le_bytes_4 n below, both.1)

pub header_once : (first other count others : ℕ) (x y : List ℕ) → first < 2 ^ 64 → other < 2 ^ 64 → count < 2 ^ 32 → others < 2 ^ 32
    → header first count ++ x ≡ header other others ++ y → (first ≡ other) × (count ≡ others) × (x ≡ y)
unfolding header
header_once first other count others x y f o c d same =
    let one = same_first first other (to_le_bytes w32 count ++ x) (to_le_bytes w32 others ++ y) f o same in
    let two = same_count count others x y c d one.1 in
    (one.0, two.0, two.1)

-- what the count of a header may be, behind its first sequence
pub count_fault : (bytes : List ℕ) (first most place : ℕ) → first < 2 ^ 56 → most ≤ 1024 → first + most ≤ 2 ^ 56 → ((n : ℕ) → n ≤ 1024 → first + n ≤ 2 ^ 56 → n ≤ most)
    → 8 ≤ length bytes → take 8 bytes ≡ to_le_bytes w64 first
    → FaultFrom (IsCount most) bytes 8 place → IsFault IsHeader (Begins IsHeader) bytes place
count_fault bytes first most place below small last greatest long front inner =
    subst (λ (t : List ℕ). IsFault IsHeader (Begins IsHeader) t place) (ap (λ (s : List ℕ). s ++ drop 8 bytes) (sym front) ∙ take-append-drop 8 bytes)
    (subst (λ (n : ℕ). IsFault IsHeader (Begins IsHeader) (to_le_bytes w64 first ++ drop 8 bytes) n) (sym inner.placed)
    (fault_after (IsCount most) (Begins (IsCount most)) IsHeader (Begins IsHeader) (to_le_bytes w64 first) (drop 8 bytes) inner.skipped complete needed inner.fault))
  where
    complete : (v : List ℕ) → IsCount most v → (w : List ℕ) × IsHeader (to_le_bytes w64 first ++ (v ++ w))
    complete v is = (
      [],
      record {
        first = first;
        count = is.count;
        spelled = ap (λ (s : List ℕ). to_le_bytes w64 first ++ s) (append-nil v ∙ is.spelled) ∙ sym (header-is first is.count);
        some = is.some;
        most = omega (arith, is.high);
        last = omega (arith, is.high);
      },
    )

    needed : (t : List ℕ) → Begins IsHeader (to_le_bytes w64 first ++ t) → Begins (IsCount most) t
    needed t ahead =
        let other : ℕ = ahead.good.first in
        let count : ℕ = ahead.good.count in
        let most_count : count ≤ 1024 = ahead.good.most in
        let end : other + count ≤ 2 ^ 56 = ahead.good.last in
        let same : to_le_bytes w64 first ++ t ≡ to_le_bytes w64 other ++ (to_le_bytes w32 count ++ ahead.more) =
        ahead.joined ∙ ap (λ (s : List ℕ). s ++ ahead.more) (ahead.good.spelled ∙ header-is other count) ∙ append_assoc (to_le_bytes w64 other) (to_le_bytes w32 count) ahead.more in
        let once = same_first first other t (to_le_bytes w32 count ++ ahead.more) (omega arith) (omega (arith, ahead.good.some)) same in
        record {
          piece = to_le_bytes w32 count;
          more = ahead.more;
          joined = once.1;
          good = record { count = count; spelled = refl; some = ahead.good.some; high = greatest count most_count (omega (arith, once.0)) };
        }

pub header_read : (bytes : List ℕ) (first count most : ℕ) → 8 ≤ length bytes → take 8 bytes ≡ to_le_bytes w64 first → 1 ≤ count → count ≤ most → most ≤ 1024 → first + most ≤ 2 ^ 56
    → 12 ≤ length bytes → drop 8 bytes ≡ to_le_bytes w32 count ++ drop 12 bytes → IsHeaderAt bytes first count
header_read bytes first count most long front some high small last within rest = record {
  some = some;
  most = omega arith;
  last = omega arith;
  within = within;
  text =
      sym (take-append-drop 8 bytes) ∙ (λ i. front i ++ rest i) ∙ sym (append_assoc (to_le_bytes w64 first) (to_le_bytes w32 count) (drop 12 bytes))
      ∙ ap (λ (s : List ℕ). s ++ drop 12 bytes) (sym (header-is first count));
}

pub some_count : (lower upper least : ℕ) → (lower ≡ 0 → least ≡ 1) → least ≤ upper → 1 ≤ lower + 256 * upper
some_count zero upper least when low = omega (arith, when refl)
some_count (suc lower) upper least when low = omega arith
