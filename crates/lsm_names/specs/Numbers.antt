-- How names spell their numbers.
use Rattle.std.specs.Prelude.{ℕ, Bool, ◌-◌, ◌^◌, ◌&&◌, List, ◌++◌, length, nat_le, replicate}
use Rattle.std.specs.Fmt.{decimal}

-- decimal digits, behind zeros where they are fewer than this many
unfoldable pub padded_decimal : ℕ → ℕ → List ℕ
padded_decimal least number = replicate (least - length (decimal number)) 48 ++ decimal number

-- six digits or more, and no further zeros in front
abbrev pub six_digits : ℕ → List ℕ
six_digits number = padded_decimal 6 number

-- 1 to 2^56 - 2
abbrev pub is_file_number : ℕ → Bool
is_file_number number = nat_le 1 number && nat_le number (2 ^ 56 - 2)
