-- Numbers and bytes as a meta spells them.
use Rattle.std.specs.Prelude.{ℕ, Bool, ◌==◌, ◌&&◌, ◌||◌, not, if◌then◌else◌, nat_le, List, length, slice_index, Option, Some, None}
use Rattle.std.specs.Char.{is_ascii_digit}
use Rattle.std.specs.List.{list_all}
use Rattle.std.specs.Result.{result_ok}
use Rattle.std.specs.Str.Parse.{digits_value}
use Rattle.hex.specs.Hex.{decode_of}

-- decimal digits, and no zero in front of others
unfoldable pub is_decimal : List ℕ → Bool
is_decimal text = nat_le 1 (length text) && list_all is_ascii_digit text && (length text == 1 || not (slice_index text 0 == 48))

-- the number that such digits spell, where it isn't past the last one
unfoldable pub number_up_to : ℕ → List ℕ → Option ℕ
number_up_to last text = if is_decimal text && nat_le (digits_value 10 text) last then Some (digits_value 10 text) else None

-- a digit of the lower-case hexadecimal spelling: 0 to 9, a to f
unfoldable pub is_lower_digit : ℕ → Bool
is_lower_digit byte = (nat_le 48 byte && nat_le byte 57) || (nat_le 97 byte && nat_le byte 102)

-- 1 to 1,024 bytes, each as two such digits
unfoldable pub metadata_of : List ℕ → Option (List ℕ)
metadata_of digits =
    if list_all is_lower_digit digits && nat_le 2 (length digits) && nat_le (length digits) 2048 then result_ok (decode_of digits) else None
