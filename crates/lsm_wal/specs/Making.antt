-- The making of a log.
use Rattle.std.specs.Prelude.{◌≡◌, ◌⊎◌, ℕ, List, [], Result, Ok, Err}
use Rattle.lsm_disk.specs.State.{State, Created, after, names_synced}
use Rattle.lsm_disk.specs.Images.{Tree, IsImage}
use Rattle.lsm_disk.specs.Kept.{HasNew}
use Rattle.lsm_disk.specs.declared.calls.DiskRefusal.{DiskRefusal}
use Rattle.lsm_wal.specs.Standing.{IsWal}

-- an image from before the call, with the new empty file or without
abbrev pub MayHaveNew : State → List ℕ → State → Tree → Type 0
MayHaveNew old path s t = IsImage old t ⊎ HasNew old path t

-- the disk with the new file, whose name is not yet sure
abbrev pub with_new : List ℕ → State → State
with_new path old = after old (Created path)

-- the disk with the new file, whose name is sure
abbrev pub with_made : List ℕ → State → State
with_made path old = after (with_new path old) (names_synced (with_new path old))

-- What a making leaves. Ok: an empty log that outlives each crash, on the disk with the new file. A refusal: the disk as it
-- was, or with the new file.
abbrev pub IsMade : {T : Type 0} → State → List ℕ → Result T DiskRefusal → State → Type 0
IsMade old path (Ok value) s = IsWal s path [] 0 × (s ≡ with_made path old)
IsMade old path (Err r) s = (s ≡ old) ⊎ (s ≡ with_new path old) ⊎ (s ≡ with_made path old)
