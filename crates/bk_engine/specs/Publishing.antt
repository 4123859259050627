-- The publication of a backup that has no tables.
use Rattle.std.specs.Prelude.{◌≡◌, ◌⊎◌, ℕ, ◌≤◌, false, List, [], ◌∷◌}
use Rattle.lsm_names.specs.declared.file_names.FileName.{FileName}
use Rattle.lsm_disk.specs.State.{State, Change, Created, Named, Appended, Synced, Names_synced, Idle}
use Rattle.lsm_disk.specs.Images.{Tree}
use Rattle.lsm_disk.specs.Viewed.{Viewed}
use Rattle.lsm_publish.specs.Publishing.{IsMove}
use Rattle.bk_meta.specs.declared.metas.MetaFile.{MetaFile}
use Rattle.bk_meta.specs.declared.metas.Meta.{Meta}
use Rattle.bk_tree.specs.Places.{meta_path}
use Rattle.bk_tree.specs.Listed.{is_listed}
use Rattle.bk_tree.specs.Holds.{held, folder_of}
use Rattle.bk_engine.specs.Paths.{temporary_path}
use Rattle.bk_engine.specs.Creating.{plain_meta}
use Rattle.bk_engine.specs.Preparing.{IsOwnPath, IsOwnFolder, AreTexts}

-- What a creation changes: the backup's own folder and files and the temporary meta are made, this is renamed to the meta,
-- names are synced, and bytes go to new files alone: of the files none of the first so many.
abbrev pub Creates : ℕ → ℕ → Change → Type 0
Creates id first (Created path) = IsOwnPath id path ⊎ (path ≡ temporary_path id)
Creates id first (Named op) = IsOwnFolder id op ⊎ IsMove (temporary_path id) (meta_path id) op
Creates id first (Appended k bytes) = first ≤ k
Creates id first (Synced k) = first ≤ k
Creates id first Names_synced = Unit {0}
Creates id first Idle = Unit {0}

-- each file is of the backup's own
abbrev pub AreOwn : ℕ → List MetaFile → Type 0
AreOwn id [] = Unit {0}
AreOwn id (file ∷ files) = IsOwnPath id file.path × AreOwn id files

-- ---- what a crash leaves

-- the tree doesn't list the backup of this meta, or holds it with these bytes
abbrev pub NoneOrHeld : Meta → List (List ℕ) → State → Tree → Type 0
NoneOrHeld meta texts s t = (is_listed t meta.id ≡ false) ⊎ (held t meta.id ≡ folder_of meta texts)

-- The tree holds a whole backup of this identifier: its files have these names and the bytes of these views.
pub record HoldsWhole (id timestamp sequence : ℕ) (names : List FileName) (views : List Viewed) (t : Tree) : Type 0 where
  pub texts : List (List ℕ)
  pub of_views : AreTexts views texts
  pub holds : held t id ≡ folder_of (plain_meta id timestamp sequence names texts) texts

-- the tree doesn't list the backup, or holds all of it
abbrev pub NoneOrWhole : ℕ → ℕ → ℕ → List FileName → List Viewed → State → Tree → Type 0
NoneOrWhole id timestamp sequence names views s t = (is_listed t id ≡ false) ⊎ HoldsWhole id timestamp sequence names views t
