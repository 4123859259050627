-- Lists: what is summed over a list, the entries of a lane, and lanes with their own entries.
use Rattle.std.specs.Prelude.{ℕ, zero, suc, if◌then◌else◌, ◌+◌, ◌==◌, nat_lt, List, [], ◌∷◌, ◌++◌, length, map, Bool, true, false}
use Rattle.std.specs.List.{filter}

-- a number of each, added up
abbrev pub total : {A : Type 0} → (A → ℕ) → List A → ℕ
total f [] = 0
total f (x ∷ xs) = f x + total f xs

-- 1 where the two numbers are the same, else 0
abbrev pub is_lane : ℕ → ℕ → ℕ
is_lane n m = if n == m then 1 else 0

-- of two lists the longer one; the first where they are as long
abbrev pub longer : {A : Type 0} → List A → List A → List A
longer xs ys = if nat_lt (length xs) (length ys) then ys else xs

-- what is entered: this, or nothing
abbrev pub picked : {E : Type 0} → E → Bool → List E
picked entry true = entry ∷ []
picked entry false = []

module _ {E : Type 0} where
  -- the entries of the history that are of this lane, in their order
  abbrev pub own_entries : ℕ → List (ℕ × E) → List (ℕ × E)
  own_entries lane history = filter (λ (entry : ℕ × E). entry.0 == lane) history

  -- entries of this lane
  abbrev pub tagged : ℕ → List E → List (ℕ × E)
  tagged lane more = map (λ (entry : E). (lane, entry)) more

  -- the history with the lane's entry behind it, or as it was
  abbrev pub grown : ℕ → E → List (ℕ × E) → Bool → List (ℕ × E)
  grown lane entry history true = history ++ (lane, entry) ∷ []
  grown lane entry history false = history

  -- so many lanes from this number on, with no entry
  abbrev pub blank : ℕ → ℕ → List (ℕ × List (ℕ × E))
  blank from zero = []
  blank from (suc n) = (from, []) ∷ blank (from + 1) n

  -- the number of the first lane, and its own entries
  abbrev pub first_lane : List (ℕ × List (ℕ × E)) → ℕ
  first_lane [] = 0
  first_lane (m ∷ ms) = m.0

  abbrev pub first_own : List (ℕ × List (ℕ × E)) → List (ℕ × E)
  first_own [] = []
  first_own (m ∷ ms) = m.1

  -- the lanes where the first one has entered these
  abbrev pub noted : List (ℕ × List (ℕ × E)) → List E → List (ℕ × List (ℕ × E))
  noted [] more = []
  noted (m ∷ ms) more = (m.0, m.1 ++ tagged m.0 more) ∷ ms

  -- all lanes but the first, and the first alone
  abbrev pub other_lanes : List (ℕ × List (ℕ × E)) → List (ℕ × List (ℕ × E))
  other_lanes [] = []
  other_lanes (m ∷ ms) = ms

  abbrev pub lane_alone : List (ℕ × List (ℕ × E)) → List (ℕ × List (ℕ × E))
  lane_alone [] = []
  lane_alone (m ∷ ms) = m ∷ []
