-- Numbers of a fixed size, the lowest byte first.
use Rattle.std.specs.Prelude.{ℕ, List, drop}
use Rattle.std.specs.Int.{bytes_low_first}
use Rattle.byteorder.specs.Endian.{little_number}

-- the number in the bytes, so many of them, that stand at a place
abbrev pub number_at : ℕ → List ℕ → ℕ → ℕ
number_at size bytes at = little_number size (drop at bytes)

-- the bytes of a number, so many of them, as `to_le_bytes` gives them
abbrev pub number_bytes : ℕ → ℕ → List ℕ
number_bytes size n = bytes_low_first 0 size n
