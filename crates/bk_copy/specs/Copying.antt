-- What is read of a view, and how a copy of it stops.
use Rattle.std.specs.Prelude.{◌≡◌, ℕ, ◌-◌, ◌≤◌, min, List, length, take, Some}
use Rattle.lsm_bytes.specs.Checksum.{take_bytes, crc32c}
use Rattle.lsm_disk.specs.Viewed.{Viewed}
use Rattle.bk_copy.specs.declared.copying.CopyError.{CopyError}
use Rattle.bk_copy.specs.declared.copying.CopyError.TheVariants.{Refused, Source, NoMemory}

-- so many bytes at once, at most 1,048,576
abbrev pub piece_at : ℕ → ℕ → ℕ
piece_at len at = min (len - at) 1048576

-- the view has the same bytes, and its count of faults hasn't fallen
pub record IsSameView (old new : Viewed) : Type 0 where
  pub bytes : new.bytes ≡ old.bytes
  pub len : new.len ≡ old.len
  pub later : old.faults ≤ new.faults

-- the bytes are a prefix of the view's, where it tells them
abbrev pub IsFrontOf : Viewed → List ℕ → Type 0
IsFrontOf v text = (bytes : List ℕ) → v.bytes ≡ Some bytes → text ≡ take (length text) bytes

-- The bytes that were read of a view up to a place, and the register of their checksum.
pub record IsRead (v : Viewed) (at register : ℕ) (text : List ℕ) : Type 0 where
  pub sum : register ≡ take_bytes 0xFFFFFFFF text
  pub long : length text ≡ at
  pub same : (bytes : List ℕ) → v.bytes ≡ Some bytes → text ≡ take at bytes

-- The bytes are so many as the view has, have this checksum, and are the view's, where it tells them.
pub record IsCopyOf (v : Viewed) (crc : ℕ) (text : List ℕ) : Type 0 where
  pub sum : crc ≡ crc32c text
  pub long : length text ≡ v.len
  pub same : (bytes : List ℕ) → v.bytes ≡ Some bytes → length bytes ≡ v.len → text ≡ bytes

-- What holds where a copy stopped: by a refused piece, by a fault of the view, which raised its count, or for want of memory.
abbrev pub StopsBy : {R : Type 0} → (R → Type 0) → Type 0 → Type 0 → Type 0 → CopyError R → Type 0
StopsBy refused rose read none (Refused why) = refused why
StopsBy refused rose read none Source = rose × read
StopsBy refused rose read none NoMemory = none
