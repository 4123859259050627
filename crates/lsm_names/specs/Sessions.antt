-- The names of sessions.
use Rattle.std.specs.Prelude.{ℕ, Bool, ◌==◌, ◌&&◌, ◌||◌, List, length}
use Rattle.std.specs.Char.{is_ascii_digit, is_ascii_uppercase}
use Rattle.std.specs.List.{list_all}

-- 0-9 and A-Z
unfoldable pub is_session_byte : ℕ → Bool
is_session_byte byte = is_ascii_digit byte || is_ascii_uppercase byte

-- twenty such bytes
unfoldable pub is_session : List ℕ → Bool
is_session name = length name == 20 && list_all is_session_byte name
