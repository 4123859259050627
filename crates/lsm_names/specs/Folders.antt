-- The names of folders.
use Rattle.std.specs.Prelude.{ℕ, Bool, ◌==◌, ◌&&◌, ◌||◌, List, nat_le, length, slice_index}
use Rattle.std.specs.Char.{is_ascii_digit, is_ascii_lowercase}
use Rattle.std.specs.List.{list_all}

-- a-z and 0-9
unfoldable pub is_small_letter_or_digit : ℕ → Bool
is_small_letter_or_digit byte = is_ascii_lowercase byte || is_ascii_digit byte

-- those, `_` and `-`
unfoldable pub is_folder_byte : ℕ → Bool
is_folder_byte byte = is_small_letter_or_digit byte || byte == 95 || byte == 45

-- 1 to 64 such bytes, the first a letter or a digit
unfoldable pub is_folder_name : List ℕ → Bool
is_folder_name name = nat_le 1 (length name) && nat_le (length name) 64
    && is_small_letter_or_digit (slice_index name 0) && list_all is_folder_byte name
