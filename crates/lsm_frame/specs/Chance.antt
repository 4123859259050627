-- A text in which nothing passes a checksum by chance. A crash may leave any bytes behind those that were synced, and
-- of such bytes one supposes that a piece among them whose checksum is right is one that was written there.
use Rattle.std.specs.Prelude.{◌≡◌, ℕ, ◌+◌, List, [], ◌∷◌, length, take, drop, Option, None, Some}
use Rattle.lsm_frame.specs.Records.{Piece, Taken, taken, pieces}
use Rattle.lsm_frame.specs.Records.Taken.{Ends, Adds, Wrong}

-- the pieces from a piece on that reading takes, by what this one makes of the record under way
abbrev pub met_by : Taken → Piece → List Piece → (ℕ × List ℕ → List Piece) → List Piece
met_by (Ends made) p next more = p ∷ next
met_by (Adds made) p next more = p ∷ more made
met_by Wrong p next more = []

-- the pieces that reading takes: all before the first that may not stand where it does
unfoldable pub met : Option (ℕ × List ℕ) → List Piece → List Piece
met begun [] = []
met begun (p ∷ ps) = met_by (taken begun p) p (met None ps) (λ (r : ℕ × List ℕ). met (Some r) ps)

-- two texts have the same bytes where this piece stands
abbrev pub IsAlikeAt : List ℕ → List ℕ → Piece → Type 0
IsAlikeAt written text p = take (7 + length p.part) (drop p.place written) ≡ take (7 + length p.part) (drop p.place text)

-- each piece has this
abbrev pub Each : (Piece → Type 0) → List Piece → Type 0
Each P [] = Unit {0}
Each P (p ∷ ps) = P p × Each P ps

-- each piece that reading takes of the text is written there
abbrev pub IsFreeOfChance : List ℕ → List ℕ → Type 0
IsFreeOfChance written text = Each (IsAlikeAt written text) (met None (pieces (length text) 0 0 text).0)
