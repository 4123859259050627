-- What is read of the backup disk.
use Rattle.std.specs.Prelude.{◌≡◌, ℕ, List, length, Option, Some, None, IfSome}
use Rattle.lsm_bytes.specs.Checksum.{crc32c}
use Rattle.lsm_disk.specs.State.{Story, state_of, file_now, bytes_of}
use Rattle.lsm_disk.specs.Images.{bytes_at, tree_now}
use Rattle.lsm_disk.specs.Refusals.{no_file}
use Rattle.lsm_disk.specs.Viewed.{Viewed}
use Rattle.bk_meta.specs.declared.backup_files.BackupFile.{BackupFile}
use Rattle.bk_meta.specs.declared.metas.MetaFile.{MetaFile}
pub use Rattle.bk_copy.specs.Copying.{IsCopyOf, IsSameView}
use Rattle.bk_restore.specs.Wrong.{wrong_size}

-- the file is there with so many bytes, where the disk tells
abbrev pub HasLength : Option Story → List ℕ → ℕ → Type 0
HasLength told path len = IfSome told (λ story. (no_file path (state_of story) ≡ None)
    × (len ≡ length (bytes_of (file_now path (state_of story)))))

-- The view is of the whole file, and that has the right size.
pub record IsWholeView (told : Option Story) (file : MetaFile) (which : BackupFile) (v : Viewed) : Type 0 where
  pub fresh : v.faults ≡ 0
  pub size : wrong_size file which v.len ≡ None
  pub same : IfSome told (λ story. (bytes : List ℕ) × (bytes_at (tree_now (state_of story)) file.path ≡ Some bytes)
      × (length bytes ≡ v.len) × (v.bytes ≡ Some bytes))

-- The bytes were read of this file, which has the right size, and have this checksum. They are the file's, where the disk tells.
pub record IsTextOf (told : Option Story) (file : MetaFile) (which : BackupFile) (crc : ℕ) (text : List ℕ) : Type 0 where
  pub sum : crc ≡ crc32c text
  pub size : wrong_size file which (length text) ≡ None
  pub same : IfSome told (λ story. bytes_at (tree_now (state_of story)) file.path ≡ Some text)
