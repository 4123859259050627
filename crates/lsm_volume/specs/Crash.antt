-- A disk that is opened after a crash.
use Rattle.std.specs.Prelude.{◌≡◌, ℕ, List, [], ◌∷◌, IfSome}
use Rattle.lsm_disk.specs.State.{FileState, Seen, state_of}
use Rattle.lsm_disk.specs.Images.{Tree, IsImage}
use Rattle.lsm_volume.specs.Told.{start_of, seen_of}

abbrev pub all_synced : List (List ℕ) → List FileState
all_synced [] = []
all_synced (b ∷ bs) = (record { synced = b; unsynced = [] }) ∷ all_synced bs

-- the disk is one image of the other, and everything in it is durable
abbrev pub IsCrashOf : Seen → Seen → Type 0
IsCrashOf old new = IfSome old.told (λ story. (t : Tree) × IsImage (state_of story) t
    × (new ≡ seen_of (start_of (state_of story).links t.names (all_synced t.contents)) [] 0 0))
