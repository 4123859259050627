-- Paths: components with a slash, 47, between each two.
use Rattle.std.specs.Prelude.{ℕ, Bool, ◌==◌, ◌&&◌, ◌||◌, not, if◌then◌else◌, List, [], ◌∷◌, Option, Some, None, nat_le, length, codes}
use Rattle.std.specs.Char.{is_ascii_alphanumeric}
use Rattle.std.specs.List.{list_all, slice_split}
use Rattle.std.specs.Str.{bytes_eq}

-- A-Z, a-z, 0-9, `.`, `_` and `-`
unfoldable pub is_component_byte : ℕ → Bool
is_component_byte byte = is_ascii_alphanumeric byte || byte == 46 || byte == 95 || byte == 45

-- `.` and `..`, which a file system reads as a folder and as the one above it
unfoldable pub is_dots : List ℕ → Bool
is_dots part = bytes_eq part (codes ".") || bytes_eq part (codes "..")

-- 1 to 100 such bytes, and not dots alone
unfoldable pub is_component : List ℕ → Bool
is_component part = nat_le 1 (length part) && nat_le (length part) 100
    && list_all is_component_byte part && not (is_dots part)

abbrev pub is_slash : ℕ → Bool
is_slash byte = byte == 47

-- the parts between the slashes
abbrev pub components : List ℕ → List (List ℕ)
components path = slice_split is_slash path

-- at most 160 bytes, each part a component
unfoldable pub is_path : List ℕ → Bool
is_path path = nat_le (length path) 160 && list_all is_component (components path)

-- what stands before the last slash, from the first byte and from what stands before that of the rest
abbrev pub put_before : ℕ → Option (List ℕ) → Option (List ℕ)
put_before byte None = if byte == 47 then Some [] else None
put_before byte (Some front) = Some (byte ∷ front)

-- what stands before the last slash, if there is one
abbrev pub cut_last : List ℕ → Option (List ℕ)
cut_last [] = None
cut_last (byte ∷ path) = put_before byte (cut_last path)

-- that, or the root, which is the empty text
abbrev pub or_root : Option (List ℕ) → List ℕ
or_root None = []
or_root (Some front) = front

-- the folder that a path stands in
abbrev pub parent_of : List ℕ → List ℕ
parent_of path = or_root (cut_last path)
