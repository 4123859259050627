-- Varints: seven bits a byte, the lowest first, the top bit set on all bytes but the last. Of a number's
-- spellings the shortest alone is good, so that the last of several bytes isn't zero.
use Rattle.std.specs.Prelude.{ℕ, ◌≡◌, ◌+◌, ◌*◌, ◌/◌, ◌%◌, ◌^◌, ◌<◌, ◌≤◌, List, [], ◌∷◌, length, if◌then◌else◌, nat_lt}
use Rattle.std.specs.List.{slice_range}
use Prim.Native.Nat.{zero, suc}

-- These bytes are the spelling of the number. A last byte is below 128 and is the number itself. A byte from
-- 128 on gives the lowest seven bits, and the bytes after it spell the rest, which isn't zero.
unfoldable pub IsVarint : List ℕ → ℕ → Type 0
IsVarint [] n = ⊥
IsVarint (b ∷ []) n = (b < 128) × (n ≡ b)
IsVarint (b ∷ c ∷ bs) n = (128 ≤ b) × (b < 256) × (high : ℕ) × (0 < high) × (n + 128 ≡ b + 128 * high) × IsVarint (c ∷ bs) high

-- the spelling of a number that is at most the first one
unfoldable pub varint_within : ℕ → ℕ → List ℕ
varint_within zero n = n ∷ []
varint_within (suc more) n = if nat_lt n 128 then n ∷ [] else ((n % 128 + 128) ∷ varint_within more (n / 128))

-- the spelling of a number
unfoldable pub varint : ℕ → List ℕ
varint n = varint_within n n

-- The bytes from one place up to the next are the spelling of this number, which fits 64 bits.
pub record IsVarintAt (bytes : List ℕ) (at n next : ℕ) : Type 0 where
  pub ordered : at ≤ next
  pub within : next ≤ length bytes
  pub spelling : IsVarint (slice_range bytes at next) n
  pub fits : n < 2 ^ 64

-- the bytes begin with the spelling of a number that fits 64 bits
unfoldable pub BeginsWithVarint : List ℕ → Type 0
BeginsWithVarint bytes = (n : ℕ) × (next : ℕ) × IsVarintAt bytes 0 n next
