-- Texts that end whole, as a grammar: pieces and zeros laid end to end.
use Rattle.std.specs.Prelude.{◌≡◌, ℕ, ◌+◌, ◌≤◌, ◌<◌, List, [], ◌∷◌, ◌++◌, length, replicate, get_or}
use Rattle.lsm_frame.specs.Frames.{piece, filling, start}
use Rattle.lsm_frame.specs.Records.{Piece}

-- the text from a place on is these pieces, each in its block and behind the zeros that end the block before it, and
-- then at most the zeros that end a block
abbrev pub IsLaid : ℕ → ℕ → List Piece → List ℕ → Type 0
IsLaid place offset [] text = (text ≡ replicate (length text) 0) × (length text ≤ filling offset)
IsLaid place offset (p ∷ ps) text = (rest : List ℕ) × (text ≡ replicate (filling offset) 0 ++ (piece p.kind p.part ++ rest))
    × (p.place ≡ place + filling offset) × (start offset + 7 + length p.part ≤ 32768)
    × IsLaid (p.place + 7 + length p.part) (start offset + 7 + length p.part) ps rest

-- every number of a text is a byte
abbrev pub IsBytes : List ℕ → Type 0
IsBytes text = (i : ℕ) → get_or text i 0 < 256
