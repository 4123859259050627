-- What was read of a source, line by line.
use Rattle.std.specs.Prelude.{◌≡◌, ℕ, ◌≤◌, ◌<◌, List, [], ◌∷◌, ◌++◌, false, Option, Some, None, Result, Ok, Err, length, ◌==◌}
use Rattle.std.specs.List.{All}
use Rattle.std.specs.Io.KnownBytes.{Consumes, IsAtEnd}
use Rattle.ldb_script.specs.declared.input.Piece.{Piece}
use Rattle.ldb_script.specs.declared.input.Piece.TheVariants.{Line, Last, End}
use Rattle.ldb_script.specs.declared.input.InputError.{InputError}
use Rattle.ldb_script.specs.declared.input.InputError.TheVariants.{Failed, TooLong, NoMemory}

-- how many bytes a line has at most, without its newline
abbrev pub longest : ℕ
longest = 8388608

-- one byte, or none at the end
abbrev pub IsByte : Option (List ℕ) → Option (List ℕ) → Option ℕ → Type 0
IsByte old new None = Consumes old new [] × IsAtEnd new
IsByte old new (Some b) = Consumes old new (b ∷ [])

-- no newline among the bytes
abbrev pub IsInside : List ℕ → Type 0
IsInside line = All (λ b. (b == 10) ≡ false) line

-- the first bytes of a line, all of them read
pub record HasBegun (old new : Option (List ℕ)) (line : List ℕ) : Type 0 where
  pub bytes : Consumes old new line
  pub inside : IsInside line
  pub short : length line ≤ 8388608

-- a line and its newline
pub record IsWhole (old new : Option (List ℕ)) (line : List ℕ) : Type 0 where
  pub bytes : Consumes old new (line ++ 10 ∷ [])
  pub inside : IsInside line
  pub short : length line ≤ 8388608

-- a line that the input's end ends, of at least one byte
pub record IsLast (old new : Option (List ℕ)) (line : List ℕ) : Type 0 where
  pub begun : HasBegun old new line
  pub some : 0 < length line
  pub at_end : IsAtEnd new

-- nothing more
pub record IsOver (old new : Option (List ℕ)) : Type 0 where
  pub bytes : Consumes old new []
  pub at_end : IsAtEnd new

-- the longest line, and a byte more that is no newline
pub record IsTooLong (old new : Option (List ℕ)) (part : List ℕ) : Type 0 where
  pub bytes : Consumes old new part
  pub inside : IsInside part
  pub long : length part ≡ 8388609

-- what stands before the end of the input: a line, or nothing
abbrev pub last_of : List ℕ → Piece
last_of [] = End
last_of (b ∷ bs) = Last

-- what a reading of one line took, by its answer
abbrev pub Reads : Option (List ℕ) → Option (List ℕ) → List ℕ → Result Piece InputError → Type 0
Reads old new line (Ok Line) = IsWhole old new line
Reads old new line (Ok Last) = IsLast old new line
Reads old new line (Ok End) = IsOver old new
Reads old new line (Err Failed) = HasBegun old new line
Reads old new line (Err TooLong) = (b : ℕ) × IsTooLong old new (line ++ b ∷ [])
Reads old new line (Err NoMemory) = Unit {0}
