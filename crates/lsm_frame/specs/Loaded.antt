-- The block of a view that is in memory.
use Rattle.std.specs.Prelude.{◌≡◌, ◌-◌, ◌%◌, ◌≤◌, ℕ, List, length, take, drop, min, Option, None, Some}
use Rattle.lsm_disk.specs.Viewed.{Viewed}

-- how many bytes of a view of this length lie in the block that begins here
abbrev pub size_at : ℕ → ℕ → ℕ
size_at len base = min 32768 (len - base)

-- where the block of a place begins
abbrev pub base_of : ℕ → ℕ
base_of at = at - at % 32768

-- the buffer has the bytes of the block that begins here, where the view tells them
pub record IsLoaded (viewed : Viewed) (buffer : List ℕ) (base : ℕ) : Type 0 where
  pub room : size_at viewed.len base ≤ length buffer
  pub same : (text : List ℕ) → viewed.bytes ≡ Some text →
      take (size_at viewed.len base) buffer ≡ take (size_at viewed.len base) (drop base text)

-- no block is in memory, or this one
abbrev pub Loads : Viewed → List ℕ → Option ℕ → Type 0
Loads viewed buffer None = Unit {0}
Loads viewed buffer (Some base) = IsLoaded viewed buffer base
