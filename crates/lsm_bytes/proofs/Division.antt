-- The division is linear in the register. So what it makes of a number is the xor of what it makes of the
-- number's bytes, each by one look into a table.
use Rattle.std.proofs.Common.{◌≡◌, ℕ, ◌+◌, ◌-◌, ◌*◌, ◌/◌, ◌%◌, ◌^◌, ◌<◌, ◌≤◌, Bool, true, false, cond, eqb, refl, sym, ap, ◌∙◌, subst, arith, zero, suc, pow-suc, List, [], ◌∷◌, length, take, drop, get_or, ◌⊎◌, inl, inr}
use Rattle.std.specs.Prelude.{bit_xor}
use Rattle.std.proofs.lemmas.Bool.{cases_lt}
use Rattle.std.proofs.lemmas.List.{get_or-take, get_or_past, length-take, length-take-le, take-append-drop}
use Rattle.std.proofs.lemmas.List.Sums.{fold-append}
use Rattle.std.proofs.lemmas.Nat.{shr-shr, xor_shr, xor_mod, xor_comm}
use lib.Bits.{xor_assoc, xor_shifted, xor_zero_r}
use Rattle.byteorder.specs.Endian.{little_from}
use Rattle.byteorder.specs.Numbers.{little_from-cons}
use Rattle.lsm_bytes.specs.Checksum.{divide_bit, divide_bits, take_byte, take_bytes}

-- what a low bit adds
pub carry : ℕ → ℕ
carry bit = cond (eqb bit 1) 0x82F63B78 0

divide_bit-is : (r : ℕ) → divide_bit r ≡ bit_xor (r / 2) (carry (r % 2))
unfolding carry
divide_bit-is r = by_bit (eqb (r % 2) 1)
  where
    by_bit : (b : Bool) → cond b (bit_xor (r / 2) 0x82F63B78) (r / 2) ≡ bit_xor (r / 2) (cond b 0x82F63B78 0)
    by_bit true = refl
    by_bit false = sym (xor_zero_r (r / 2))

carry-xor : (a b : ℕ) → a < 2 → b < 2 → carry (bit_xor a b) ≡ bit_xor (carry a) (carry b)
unfolding carry
carry-xor zero zero fa fb = refl
carry-xor zero (suc zero) fa fb = refl
carry-xor (suc zero) zero fa fb = refl
carry-xor (suc zero) (suc zero) fa fb = refl
carry-xor (suc (suc a)) b fa fb = absurd (omega arith)
carry-xor zero (suc (suc b)) fa fb = absurd (omega arith)
carry-xor (suc zero) (suc (suc b)) fa fb = absurd (omega arith)

-- a xor b xor c xor d, with b and c changed
swap_middle : (a b c d : ℕ) → bit_xor (bit_xor a b) (bit_xor c d) ≡ bit_xor (bit_xor a c) (bit_xor b d)
swap_middle a b c d =
    xor_assoc a b (bit_xor c d) ∙ ap (bit_xor a) (sym (xor_assoc b c d) ∙ ap (λ (x : ℕ). bit_xor x d) (xor_comm b c) ∙ xor_assoc c b d) ∙ sym (xor_assoc a c (bit_xor b d))

pub divide_bit-xor : (a b : ℕ) → divide_bit (bit_xor a b) ≡ bit_xor (divide_bit a) (divide_bit b)
divide_bit-xor a b =
    divide_bit-is (bit_xor a b)
    ∙ (λ i. bit_xor (xor_shr a b 1 i) (carry (xor_mod a b 1 i)))
    ∙ ap (bit_xor (bit_xor (a / 2) (b / 2))) (carry-xor (a % 2) (b % 2) (omega arith) (omega arith))
    ∙ swap_middle (a / 2) (b / 2) (carry (a % 2)) (carry (b % 2))
    ∙ (λ i. bit_xor (sym (divide_bit-is a) i) (sym (divide_bit-is b) i))

pub divide_bits-xor : (n a b : ℕ) → divide_bits n (bit_xor a b) ≡ bit_xor (divide_bits n a) (divide_bits n b)
unfolding divide_bits
divide_bits-xor zero a b = refl
divide_bits-xor (suc n) a b = ap divide_bit (divide_bits-xor n a b) ∙ divide_bit-xor (divide_bits n a) (divide_bits n b)

divide_bit-double : (x : ℕ) → divide_bit (x * 2) ≡ x
unfolding carry
divide_bit-double x =
    divide_bit-is (x * 2) ∙ ap (λ (k : ℕ). bit_xor k (carry (x * 2 % 2))) half ∙ ap (λ (k : ℕ). bit_xor x (carry k)) none ∙ clear
  where
    half : x * 2 / 2 ≡ x
    half = omega arith

    none : x * 2 % 2 ≡ 0
    none = omega arith

    clear : bit_xor x (carry 0) ≡ x
    clear = xor_zero_r x

divide_bits-none : (x : ℕ) → divide_bits 0 x ≡ x
unfolding divide_bits
divide_bits-none x = refl

divide_bits-shifted : (n x : ℕ) → divide_bits n (x * 2 ^ n) ≡ x
unfolding divide_bits
divide_bits-shifted zero x = omega arith
divide_bits-shifted (suc n) x = ap divide_bit (ap (divide_bits n) (shift x n) ∙ divide_bits-shifted n (x * 2)) ∙ divide_bit-double x
  where
    shift : (x n : ℕ) → x * 2 ^ suc n ≡ x * 2 * 2 ^ n
    shift x n = grind (arith, pow-suc)

-- the division goes on where it stopped
divide_bits-add : (k m n x : ℕ) → k ≡ m + n → divide_bits k x ≡ divide_bits m (divide_bits n x)
unfolding divide_bits
divide_bits-add k zero n x sum = let same : k ≡ n = omega arith in ap (λ (j : ℕ). divide_bits j x) same
divide_bits-add zero (suc m) n x sum = absurd (omega arith)
divide_bits-add (suc k) (suc m) n x sum = ap divide_bit (divide_bits-add k m n x (omega arith))

-- a number above a byte, as their xor
above_byte : (high byte : ℕ) → byte < 256 → byte + 256 * high ≡ bit_xor byte (high * 2 ^ 8)
above_byte high byte fits =
    let plain : byte + 256 * high ≡ high * 2 ^ 8 + byte = omega arith in
    plain ∙ sym (xor_shifted high 8 byte fits) ∙ xor_comm (high * 2 ^ 8) byte

-- eight bits of the division take a byte, and bring what stands above it down
divide_bits-byte : (r byte high : ℕ) → byte < 256 → divide_bits 8 (bit_xor r (byte + 256 * high)) ≡ bit_xor (divide_bits 8 (bit_xor r byte)) high
divide_bits-byte r byte high fits =
    ap (λ (x : ℕ). divide_bits 8 (bit_xor r x)) (above_byte high byte fits)
    ∙ ap (divide_bits 8) (sym (xor_assoc r byte (high * 2 ^ 8)))
    ∙ divide_bits-xor 8 (bit_xor r byte) (high * 2 ^ 8)
    ∙ ap (bit_xor (divide_bits 8 (bit_xor r byte))) (divide_bits-shifted 8 high)

-- the same, with the rest of the division behind it: a number's lowest byte apart from the others
pub lowest_byte : (n x : ℕ) → divide_bits (8 * suc n) x ≡ bit_xor (divide_bits (8 * suc n) (x % 256)) (divide_bits (8 * n) (x / 256))
lowest_byte n x =
    let bits : 8 * suc n ≡ 8 * n + 8 = omega arith in
    let parts : x ≡ x % 256 + 256 * (x / 256) = omega arith in
    let whole : x ≡ bit_xor (x % 256) (x / 256 * 2 ^ 8) = parts ∙ above_byte (x / 256) (x % 256) (omega arith) in
    ap (divide_bits (8 * suc n)) whole
    ∙ divide_bits-xor (8 * suc n) (x % 256) (x / 256 * 2 ^ 8)
    ∙ ap (bit_xor (divide_bits (8 * suc n) (x % 256))) (divide_bits-add (8 * suc n) (8 * n) 8 (x / 256 * 2 ^ 8) bits ∙ ap (divide_bits (8 * n)) (divide_bits-shifted 8 (x / 256)))

-- one byte by one look into a table of 256 entries
pub by_table : (register byte : ℕ) → byte < 256 → divide_bits 8 (bit_xor register byte) ≡ bit_xor (divide_bits 8 (bit_xor register byte % 256)) (register / 256)
by_table register byte fits =
    let high : bit_xor register byte / 256 ≡ register / 256 =
    xor_shr register byte 8 ∙ ap (bit_xor (register / 256)) (omega arith) ∙ xor_zero_r (register / 256) in
    let none : divide_bits (8 * 0) (bit_xor register byte / 256) ≡ register / 256 = divide_bits-none (bit_xor register byte / 256) ∙ high in
    lowest_byte 0 (bit_xor register byte) ∙ ap (bit_xor (divide_bits 8 (bit_xor register byte % 256))) none

-- bytes at once are their number at once
pub bytes_at_once : (register : ℕ) (bytes : List ℕ) → ((i : ℕ) → get_or bytes i 0 < 256)
    → take_bytes register bytes ≡ divide_bits (8 * length bytes) (bit_xor register (little_from 0 (length bytes) bytes))
unfolding take_byte
bytes_at_once register [] fit = sym (divide_bits-none (bit_xor register 0) ∙ xor_zero_r register)
bytes_at_once register (byte ∷ bytes) fit =
    let number : ℕ = little_from 0 (length bytes) bytes in
    let bits : 8 * suc (length bytes) ≡ 8 * length bytes + 8 = omega arith in
    let joined : little_from 0 (suc (length bytes)) (byte ∷ bytes) ≡ byte + 256 * number =
    ap (λ (x : ℕ). byte + 256 * x) (little_from-cons 0 (length bytes) byte bytes) in
    bytes_at_once (divide_bits 8 (bit_xor register byte)) bytes (λ i. fit (suc i))
    ∙ ap (divide_bits (8 * length bytes)) (sym (divide_bits-byte register byte number (fit 0)))
    ∙ sym (divide_bits-add (8 * suc (length bytes)) (8 * length bytes) 8 (bit_xor register (byte + 256 * number)) bits)
    ∙ ap (λ (x : ℕ). divide_bits (8 * suc (length bytes)) (bit_xor register x)) (sym joined)

-- before the first table no byte is taken
pub tables_start : (x : ℕ) → x < 2 ^ 64 → 0 ≡ divide_bits (8 * 0) (x / 2 ^ (64 - 8 * 0))
tables_start x fits =
    let none : x / 2 ^ 64 ≡ 0 = omega arith in
    sym (divide_bits-none (x / 2 ^ 64) ∙ none)

-- each table takes the next byte below those that are taken
pub table_step : (table x after found : ℕ) → table < 8 → after ≡ divide_bits (8 * table) (x / 2 ^ (64 - 8 * table)) → found ≡ divide_bits (8 * (table + 1)) (x / 2 ^ (56 - 8 * table) % 256)
    → bit_xor after found ≡ divide_bits (8 * (table + 1)) (x / 2 ^ (64 - 8 * (table + 1)))
table_step table x after found inside was is =
    let place : ℕ = 56 - 8 * table in
    let number : ℕ = x / 2 ^ place in
    let here : 64 - 8 * (table + 1) ≡ place = omega arith in
    let above : 64 - 8 * table ≡ place + 8 = omega arith in
    let bits : 8 * (table + 1) ≡ 8 * suc table = omega arith in
    let higher : x / 2 ^ (64 - 8 * table) ≡ number / 256 = ap (λ (k : ℕ). x / 2 ^ k) above ∙ sym (shr-shr x place 8) in
    xor_comm after found
    ∙ (λ i. bit_xor ((is ∙ ap (λ (k : ℕ). divide_bits k (number % 256)) bits) i) ((was ∙ ap (divide_bits (8 * table)) higher) i))
    ∙ sym (lowest_byte table number)
    ∙ (λ i. divide_bits (sym bits i) (x / 2 ^ (sym here i)))

-- and the last takes the lowest
pub tables_end : (table x : ℕ) → 8 ≤ table → table ≤ 8 → divide_bits (8 * table) (x / 2 ^ (64 - 8 * table)) ≡ divide_bits 64 x
tables_end table x past within =
    let all : table ≡ 8 = omega arith in
    let whole : x / 1 ≡ x = omega arith in
    (λ i. divide_bits (8 * all i) (x / 2 ^ (64 - 8 * all i))) ∙ ap (divide_bits 64) whole

-- a step over the bytes: eight at once, and the others behind them
pub eight_step : (register after number : ℕ) (rest eight behind : List ℕ) → 8 ≤ length rest → ((i : ℕ) → get_or rest i 0 < 256) → eight ≡ take 8 rest → behind ≡ drop 8 rest
    → number ≡ little_from 0 8 eight → after ≡ divide_bits 64 (bit_xor register number) → take_bytes after behind ≡ take_bytes register rest
eight_step register after number rest eight behind enough fit front back is taken =
    let size : length (take 8 rest) ≡ 8 = length-take-le 8 rest enough in
    let fits : (i : ℕ) → get_or (take 8 rest) i 0 < 256 = λ i. front_fits rest 8 i fit in
    let at_once : take_bytes register (take 8 rest) ≡ after =
    bytes_at_once register (take 8 rest) fits ∙ (λ i. divide_bits (8 * size i) (bit_xor register (little_from 0 (size i) (take 8 rest)))) ∙ ap (λ (x : ℕ). divide_bits 64 (bit_xor register x)) (sym (is ∙ ap (little_from 0 8) front)) ∙ sym taken in
    (λ i. take_bytes (sym at_once i) (back i)) ∙ sym (fold-append take_byte register (take 8 rest) (drop 8 rest)) ∙ ap (take_bytes register) (take-append-drop 8 rest)
  where
    front_fits : (rest : List ℕ) (n i : ℕ) → ((j : ℕ) → get_or rest j 0 < 256) → get_or (take n rest) i 0 < 256
    front_fits rest n i fit = by_place (cases_lt i n)
      where
        by_place : (i < n) ⊎ (n ≤ i) → get_or (take n rest) i 0 < 256
        by_place (inl less) = subst (λ (x : ℕ). x < 256) (sym (get_or-take n rest i 0 less)) (fit i)
        by_place (inr past) =
            let short : length (take n rest) ≤ i = omega (arith, length-take n rest) in
            subst (λ (x : ℕ). x < 256) (sym (get_or_past (take n rest) i 0 short)) (omega arith)
