-- CRC32C, the Castagnoli cyclic redundancy check in its reflected form: the register takes a byte into its
-- low eight bits and is divided by the polynomial bit by bit.
use Rattle.std.specs.Prelude.{ℕ, ◌+◌, ◌-◌, ◌/◌, ◌%◌, ◌^◌, List, bit_xor, if◌then◌else◌, ◌==◌}
use Rattle.std.specs.List.{fold}
use Rattle.std.specs.Int.{w32, rotate_left, rotate_right}
use Prim.Native.Nat.{zero, suc}

-- one bit of the division by the polynomial 0x82F63B78
abbrev pub divide_bit : ℕ → ℕ
divide_bit register = if register % 2 == 1 then bit_xor (register / 2) 0x82F63B78 else register / 2

-- so many bits of it
unfoldable pub divide_bits : ℕ → ℕ → ℕ
divide_bits zero register = register
divide_bits (suc n) register = divide_bit (divide_bits n register)

-- the register after one more byte
unfoldable pub take_byte : ℕ → ℕ → ℕ
take_byte register byte = divide_bits 8 (bit_xor register byte)

-- the register after these bytes
abbrev pub take_bytes : ℕ → List ℕ → ℕ
take_bytes register bytes = fold take_byte register bytes

-- the checksum that a register stands for
abbrev pub checksum_of : ℕ → ℕ
checksum_of register = bit_xor register 0xFFFFFFFF

-- CRC32C of bytes
abbrev pub crc32c : List ℕ → ℕ
crc32c bytes = checksum_of (take_bytes 0xFFFFFFFF bytes)

-- a checksum as files keep it: rotated right by 15 bits, and a number added in 32 bits
abbrev pub masked : ℕ → ℕ
masked c = (rotate_right w32 c 15 + 0xA282EAD8) % 2 ^ 32

-- the checksum that is kept as this number: the number that was added taken off in 32 bits, and the rest
-- rotated left by 15 bits
abbrev pub unmasked : ℕ → ℕ
unmasked m = rotate_left w32 ((m + (2 ^ 32 - 0xA282EAD8)) % 2 ^ 32) 15
