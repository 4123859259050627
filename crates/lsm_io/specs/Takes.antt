-- What a write does to the bytes that a sink has taken, where these are known.
use Rattle.std.specs.Prelude.{◌≡◌, ℕ, List, ◌++◌, Option, Result, MatchResult}
use Rattle.std.specs.Io.KnownBytes.{Appends}

-- the sink has taken all of the bytes at Ok, and some first ones of them after a failure
abbrev pub Takes : {E : Type 0} → Option (List ℕ) → Option (List ℕ) → Result Unit E → List ℕ → Type 0
Takes old new result bytes = MatchResult result (λ _. Appends old new bytes)
    (λ _. (front : List ℕ) × (rest : List ℕ) × (bytes ≡ front ++ rest) × Appends old new front)
