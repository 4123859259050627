-- Backups that outlive a crash.
use Rattle.std.specs.Prelude.{◌≡◌, ℕ, ◌<◌, List, [], ◌∷◌, map, Some}
use Rattle.lsm_disk.specs.State.{State, FileState, Change}
use Rattle.lsm_disk.specs.Images.{Tree, IsImage}
use Rattle.lsm_disk.specs.Kept.{IsKeptFile, Spares}
use Rattle.bk_meta.specs.declared.metas.MetaFile.{MetaFile}
use Rattle.bk_meta.specs.declared.metas.Meta.{Meta}
use Rattle.bk_meta.specs.Metas.{IsMeta, meta_text}
use Rattle.bk_tree.specs.Places.{meta_path}
use Rattle.lsm_folder.specs.Files.{Files}
use Rattle.bk_tree.specs.Holds.{held}

-- a file of these bytes, all of them synced
abbrev pub all_synced : List ℕ → FileState
all_synced bytes = record { synced = bytes; unsynced = [] }

-- the file is there with these bytes, now and after each crash
pub record IsKeptText (s : State) (path bytes : List ℕ) : Type 0 where
  pub id : ℕ
  pub kept : IsKeptFile s path id (all_synced bytes)

-- each of the files is there with its bytes, now and after each crash
abbrev pub AreKept : State → List MetaFile → List (List ℕ) → Type 0
AreKept s [] [] = Unit {0}
AreKept s [] (bytes ∷ texts) = ⊥
AreKept s (file ∷ files) [] = ⊥
AreKept s (file ∷ files) (bytes ∷ texts) = IsKeptText s file.path bytes × AreKept s files texts

-- A backup of this meta and these bytes of its files outlives each crash.
pub record IsKeptBackup (s : State) (meta : Meta) (texts : List (List ℕ)) : Type 0 where
  pub lawful : IsMeta meta
  pub text : IsKeptText s (meta_path meta.id) (meta_text meta)
  pub each : AreKept s meta.files texts

-- the backup holds this folder in each image
abbrev pub SurelyHolds : State → ℕ → Files → Type 0
SurelyHolds s id files = (t : Tree) → IsImage s t → held t id ≡ Some files

-- The change touches none of these names, and of the files none of the first so many.
abbrev pub LeavesAlone : List (List ℕ) → ℕ → Change → Type 0
LeavesAlone [] count c = Unit {0}
LeavesAlone (path ∷ paths) count c = ((id : ℕ) → id < count → Spares path id c) × LeavesAlone paths count c

-- the paths of a backup: its meta's, and those of its files
abbrev pub paths_of : Meta → List (List ℕ)
paths_of meta = meta_path meta.id ∷ map (λ (file : MetaFile). file.path) meta.files
