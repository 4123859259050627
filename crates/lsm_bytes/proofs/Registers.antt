-- A register of 32 bits stays one, whatever bytes it takes.
use Rattle.std.proofs.Common.{ℕ, ◌/◌, ◌%◌, ◌^◌, ◌<◌, Bool, true, false, List, [], ◌∷◌, get_or, arith, zero, suc}
use Rattle.std.specs.Prelude.{bit_xor, if◌then◌else◌, ◌==◌}
use Rattle.std.proofs.lemmas.Nat.{xor_lt}
use Rattle.lsm_bytes.specs.Checksum.{crc32c, divide_bit, divide_bits, take_byte, take_bytes}

divide_bit-fits : (register : ℕ) → register < 2 ^ 32 → divide_bit register < 2 ^ 32
divide_bit-fits register fits = by_bit (register % 2 == 1)
  where
    half : register / 2 < 2 ^ 32
    half = omega arith

    by_bit : (b : Bool) → (if b then bit_xor (register / 2) 0x82F63B78 else register / 2) < 2 ^ 32
    by_bit true = xor_lt 32 (register / 2) 0x82F63B78 half (omega arith)
    by_bit false = half

divide_bits-fits : (n register : ℕ) → register < 2 ^ 32 → divide_bits n register < 2 ^ 32
unfolding divide_bits
divide_bits-fits zero register fits = fits
divide_bits-fits (suc n) register fits = divide_bit-fits (divide_bits n register) (divide_bits-fits n register fits)

take_byte-fits : (register byte : ℕ) → register < 2 ^ 32 → byte < 256 → take_byte register byte < 2 ^ 32
unfolding take_byte
take_byte-fits register byte fits small =
    divide_bits-fits 8 (bit_xor register byte) (xor_lt 32 register byte fits (omega arith))

pub take_bytes-fits : (register : ℕ) (bytes : List ℕ) → register < 2 ^ 32 → ((i : ℕ) → get_or bytes i 0 < 256) → take_bytes register bytes < 2 ^ 32
take_bytes-fits register [] fits small = fits
take_bytes-fits register (byte ∷ bytes) fits small =
    take_bytes-fits (take_byte register byte) bytes (take_byte-fits register byte fits (small 0)) (λ i. small (suc i))

pub crc32c-fits : (bytes : List ℕ) → ((i : ℕ) → get_or bytes i 0 < 256) → crc32c bytes < 2 ^ 32
crc32c-fits bytes small =
    xor_lt 32 (take_bytes 0xFFFFFFFF bytes) 0xFFFFFFFF (take_bytes-fits 0xFFFFFFFF bytes (omega arith) small) (omega arith)
