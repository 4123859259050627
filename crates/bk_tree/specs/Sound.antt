-- Which trees are sound backup folders.
use Rattle.std.specs.Prelude.{◌≡◌, ℕ, Some, IsTrue}
use Rattle.lsm_rows.specs.Replay.{Contents}
use Rattle.lsm_disk.specs.Images.{Tree}
use Rattle.lsm_folder.specs.Files.{Files}
use Rattle.lsm_folder.specs.Needed.{Stands}
use Rattle.bk_meta.specs.declared.metas.Meta.{Meta}
use Rattle.bk_tree.specs.Listed.{is_listed, IsPlain}
use Rattle.bk_tree.specs.Holds.{meta_in, held}

-- The backup holds a folder that stands for some contents, at the sequence of its meta.
pub record IsSoundBackup (t : Tree) (id : ℕ) : Type 0 where
  pub meta : Meta
  pub files : Files
  pub contents : Contents
  pub readable : meta_in t id ≡ Some meta
  pub holds : held t id ≡ Some files
  pub stands : Stands files contents meta.sequence

-- The tree is plain, and each backup that it lists is sound.
pub record Sound (t : Tree) : Type 0 where
  pub plain : IsPlain t
  pub each : (id : ℕ) → IsTrue (is_listed t id) → IsSoundBackup t id
