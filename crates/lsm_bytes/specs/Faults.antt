-- Where a text that is not in a grammar goes wrong.
use Rattle.std.specs.Prelude.{ℕ, ◌+◌, ◌<◌, ◌≤◌, List, ◌++◌, length, take}

-- The first fault of bytes against a grammar is at this place: what stands before it could still have gone
-- on to a good text, and with the byte that stands there nothing could. At the end of the bytes there is no
-- such byte: there the bytes end early.
pub record IsFirstFault (Good : List ℕ → Type 0) (bytes : List ℕ) (place : ℕ) : Type 0 where
  pub within : place ≤ length bytes
  pub before : (more : List ℕ) × Good (take place bytes ++ more)
  pub here : place < length bytes → (more : List ℕ) → ¬ Good (take (place + 1) bytes ++ more)
