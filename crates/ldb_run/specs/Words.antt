-- The words of the command line.
use Rattle.std.specs.Prelude.{◌≡◌, ℕ, List, [], ◌∷◌, ◌++◌, map, codes}
use Rattle.std.specs.String.{string_bytes}
use Rattle.std.specs.declared.string.String.{String}

-- the one command yet: `script`, alone
abbrev pub IsScript : {A : Type 0} → List (String A) → Type 0
IsScript words = map string_bytes words ≡ codes "script" ∷ []

abbrev pub usage_line : List ℕ
usage_line = codes "usage: ldb [--disk PATH] [--backups PATH] [--db DIR] COMMAND" ++ 10 ∷ []
