-- How the name of a session is spelled.
use Rattle.std.specs.Prelude.{ℕ, List, [], ◌∷◌, ◌++◌, ◌+◌, ◌/◌, ◌%◌, nat_le, nat_lt}
use Rattle.std.specs.Prelude.{Bool, false, ◌&&◌, ◌||◌, IsTrue, if◌then◌else◌}
use Rattle.std.specs.List.{list_all}
use Prim.Native.Nat.{zero, suc}

-- whether a byte is a digit or a capital letter of ASCII
abbrev pub is_session_byte : ℕ → Bool
is_session_byte byte = (nat_le 48 byte && nat_le byte 57) || (nat_le 65 byte && nat_le byte 90)

-- whether each byte of the name is one
abbrev pub is_session : List ℕ → Bool
is_session name = list_all is_session_byte name

-- the name is spelled as a session's
abbrev pub IsSession : List ℕ → Type 0
IsSession name = IsTrue (is_session name)

-- whether a name is left, and the first is spelled as a session's
abbrev pub has_session : List (List ℕ) → Bool
has_session [] = false
has_session (name ∷ names) = is_session name

-- the character for a digit to base 36: the digits 0 to 9, and then the letters A to Z
abbrev pub character_of : ℕ → ℕ
character_of digit = if nat_lt digit 10 then 48 + digit else 55 + digit

-- a number to base 36 in so many digits, the lowest first; what needs more digits is cut off
unfoldable pub digits : ℕ → ℕ → List ℕ
digits zero number = []
digits (suc count) number = character_of (number % 36) ∷ digits count (number / 36)

-- the name for a moment, in nanoseconds, and a number: thirteen digits of the one and seven of the other
abbrev pub session_name : ℕ → ℕ → List ℕ
session_name moment number = digits 13 moment ++ digits 7 number
