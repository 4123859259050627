-- The bytes that a buffered reader still gives.
use Rattle.std.specs.Prelude.{ℕ, ◌-◌, List, take, drop, Option}
use Rattle.std.specs.Io.KnownBytes.{prepend_known}

-- the bytes of a buffer from one place to another, and then those that the reader below has left, where it tells them
abbrev pub known_ahead : List ℕ → ℕ → ℕ → Option (List ℕ) → Option (List ℕ)
known_ahead buffer at end below = prepend_known (take (end - at) (drop at buffer)) below
