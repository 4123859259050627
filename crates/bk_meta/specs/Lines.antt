-- The lines of a text, and what a reading gives: a value, or the line that is bad and why.
use Rattle.std.specs.Prelude.{◌≡◌, ℕ, Bool, true, false, ◌==◌, if◌then◌else◌, List, [], ◌∷◌, Option, Some, None, Result, Ok, Err, take, length}
use Rattle.std.specs.Str.{bytes_eq}
use Rattle.bk_meta.specs.declared.errors.MetaWhy.{MetaWhy}
use Rattle.bk_meta.specs.declared.errors.MetaWhy.TheVariants.{Ending}
use Rattle.bk_meta.specs.declared.errors.MetaError.{MetaError}
use Rattle.bk_meta.specs.declared.errors.MetaError.TheVariants.{BadMeta, NoMemory}

-- a line, counted from 1, and what is wrong there
abbrev pub Bad : Type 0
Bad = ℕ × MetaWhy

-- the next step of a reading, which the first bad line ends
infixl 10 ◌>>=◌
abbrev pub ◌>>=◌ : {A B : Type 0} → Result A Bad → (A → Result B Bad) → Result B Bad
Ok x >>= next = next x
Err bad >>= next = Err bad

-- the value, or else this line is bad
abbrev pub some_or : {A : Type 0} → ℕ → MetaWhy → Option A → Result A Bad
some_or line why None = Err (line, why)
some_or line why (Some x) = Ok x

-- the rule holds, or else this line is bad
abbrev pub holds_or : ℕ → MetaWhy → Bool → Result Unit Bad
holds_or line why true = Ok tt
holds_or line why false = Err (line, why)

-- an error names the bad line of a reading; want of memory says nothing of it
abbrev pub IsBad : {A : Type 0} → Result A Bad → MetaError → Type 0
IsBad reading (BadMeta line why) = reading ≡ Err (line, why)
IsBad reading NoMemory = Unit {0}

-- whether a text begins with this one
abbrev pub begins : List ℕ → List ℕ → Bool
begins front text = bytes_eq (take (length front) text) front

-- a byte in front of the first of two parts
abbrev pub put_first : ℕ → Option (List ℕ × List ℕ) → Option (List ℕ × List ℕ)
put_first byte None = None
put_first byte (Some parts) = Some (byte ∷ parts.0, parts.1)

-- what stands before the first such byte, and what stands behind it
unfoldable pub cut_at : ℕ → List ℕ → Option (List ℕ × List ℕ)
cut_at mark [] = None
cut_at mark (byte ∷ text) = if byte == mark then Some ([], text) else put_first byte (cut_at mark text)

-- a line, which a newline ends, and the text behind it
abbrev pub line_at : ℕ → List ℕ → Result (List ℕ × List ℕ) Bad
line_at number text = some_or number Ending (cut_at 10 text)
