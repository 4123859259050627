-- The words of a line, and the bytes that they stand for.
use Rattle.std.specs.Prelude.{ℕ, Bool, ◌&&◌, ◌||◌, not, List, [], ◌∷◌, ◌++◌, length, take, drop, Option, Some, None, if◌then◌else◌, nat_lt, nat_le, codes}
use Rattle.std.specs.List.{list_all}
use Rattle.std.specs.Result.{result_ok}
use Rattle.std.specs.Str.{bytes_eq}
use Rattle.hex.specs.Hex.{decode_of, encode_lower}

-- a printable byte that is not a space: 0x21 to 0x7E
unfoldable pub is_printable : ℕ → Bool
is_printable b = nat_le 33 b && nat_le b 126

-- a word has at least one byte, and printable ones alone
unfoldable pub is_word : List ℕ → Bool
is_word word = nat_lt 0 (length word) && list_all is_printable word

unfoldable pub is_small_letter : ℕ → Bool
is_small_letter b = nat_le 97 b && nat_le b 122

-- an actor is a word of 1 to 8 small letters
unfoldable pub is_actor : List ℕ → Bool
is_actor word = nat_lt 0 (length word) && (nat_le (length word) 8 && list_all is_small_letter word)

-- a digit of the lower-case hexadecimal spelling: 0 to 9, a to f
unfoldable pub is_lower_digit : ℕ → Bool
is_lower_digit b = (nat_le 48 b && nat_le b 57) || (nat_le 97 b && nat_le b 102)

-- it begins with `x:`
unfoldable pub is_hexadecimal : List ℕ → Bool
is_hexadecimal word = bytes_eq (take 2 word) (120 ∷ 58 ∷ [])

-- the bytes that an even number of lower-case digits spells
unfoldable pub bytes_of_digits : List ℕ → Option (List ℕ)
bytes_of_digits digits = if list_all is_lower_digit digits then result_ok (decode_of digits) else None

-- the bytes that a word stands for: behind `x:` those that its digits spell, else its own
unfoldable pub bytes_of_word : List ℕ → Option (List ℕ)
bytes_of_word word = if is_hexadecimal word then bytes_of_digits (drop 2 word) else Some word

-- bytes as one word: themselves where that is a word which stands for them, else `x:` and their digits
unfoldable pub shown : List ℕ → List ℕ
shown bytes = if is_word bytes && not (is_hexadecimal bytes) then bytes else codes "x:" ++ encode_lower bytes
