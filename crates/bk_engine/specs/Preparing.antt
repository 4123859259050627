-- The files of a backup that is being made, before its meta is published.
use Rattle.std.specs.Prelude.{◌≡◌, ◌≢◌, ℕ, ◌+◌, ◌^◌, ◌<◌, ◌≤◌, List, [], ◌∷◌, length, Option, Some, None}
use Rattle.std.specs.Option.{option_map}
use Rattle.lsm_bytes.specs.Checksum.{crc32c}
use Rattle.lsm_names.specs.declared.file_names.FileName.{FileName}
use Rattle.lsm_names.specs.declared.file_names.FileName.TheVariants.{Log}
use Rattle.lsm_disk.specs.Names.{Node, Folder_node, NameOp, Put, Gone, Moved}
use Rattle.lsm_disk.specs.State.{State, Change, Created, Named, Appended, Synced, Names_synced, Idle}
use Rattle.lsm_disk.specs.Viewed.{Viewed}
use Rattle.bk_meta.specs.declared.backup_files.BackupFile.TheVariants.{Private}
use Rattle.bk_meta.specs.declared.metas.MetaFile.{MetaFile}
use Rattle.bk_meta.specs.BackupFiles.{path_of}
use Rattle.bk_engine.specs.declared.plain.PlainFile.{PlainFile}
use Rattle.bk_engine.specs.declared.plain.PlainFiles.{PlainFiles}
use Rattle.bk_engine.specs.Copying.{IsSealed}
use Rattle.bk_engine.specs.Paths.{own_folder}

-- the text is that of the view, where the view tells its bytes
abbrev pub IsTextOf : Viewed → List ℕ → Type 0
IsTextOf v text = (bytes : List ℕ) → v.bytes ≡ Some bytes → length bytes ≡ v.len → text ≡ bytes

-- a file of the backup's own
abbrev pub IsOwnPath : ℕ → List ℕ → Type 0
IsOwnPath id path = (name : FileName) × (path ≡ path_of id (Private name))

abbrev pub IsOwnFolder : ℕ → NameOp → Type 0
IsOwnFolder id (Put path node) = (path ≡ own_folder id) × (node ≡ Folder_node)
IsOwnFolder id (Gone path) = ⊥
IsOwnFolder id (Moved from to) = ⊥

-- The backup's own folder and files are made, names are synced, and bytes go to new files alone: of the files none of the first so many.
abbrev pub Prepares : ℕ → ℕ → Change → Type 0
Prepares id first (Created path) = IsOwnPath id path
Prepares id first (Named op) = IsOwnFolder id op
Prepares id first (Appended k bytes) = first ≤ k
Prepares id first (Synced k) = first ≤ k
Prepares id first Names_synced = Unit {0}
Prepares id first Idle = Unit {0}

-- the path is none of these files'
abbrev pub Apart : List ℕ → List MetaFile → Type 0
Apart path [] = Unit {0}
Apart path (file ∷ files) = (file.path ≢ path) × Apart path files

-- the name leads to a new file now, which has these bytes, all of them synced
pub record IsNewFile (first : ℕ) (s : State) (path bytes : List ℕ) : Type 0 where
  pub id : ℕ
  pub from : first ≤ id
  pub now : IsSealed path id bytes s

-- each of these files is there now, with its bytes
abbrev pub AreNew : ℕ → State → List MetaFile → List (List ℕ) → Type 0
AreNew first s [] [] = Unit {0}
AreNew first s [] (bytes ∷ texts) = ⊥
AreNew first s (file ∷ files) [] = ⊥
AreNew first s (file ∷ files) (bytes ∷ texts) = IsNewFile first s file.path bytes × AreNew first s files texts

-- the number of a log, and its name, if there is one
abbrev pub log_names : Option ℕ → List FileName
log_names None = []
log_names (Some number) = Log number ∷ []

abbrev pub log_views : Option Viewed → List Viewed
log_views None = []
log_views (Some log) = log ∷ []

-- the views of the files, in the order of their paths
abbrev pub plain_views : Option Viewed → Viewed → Viewed → List Viewed
plain_views None current manifest = current ∷ manifest ∷ []
plain_views (Some log) current manifest = log ∷ current ∷ manifest ∷ []

-- the views of the files that a backup is made of, as they are seen
abbrev pub views_of : {V : Type 0} → (V → Viewed) → PlainFiles V → List Viewed
views_of viewed files =
    plain_views (option_map (λ (file : PlainFile _). viewed file.view) files.log) (viewed files.current) (viewed files.manifest.view)

-- how many faults the views had
abbrev pub faults_of : List Viewed → ℕ
faults_of [] = 0
faults_of (v ∷ views) = v.faults + faults_of views

-- The texts are those of the views, one for each, and their checksums have 32 bits.
abbrev pub AreTexts : List Viewed → List (List ℕ) → Type 0
AreTexts [] [] = Unit {0}
AreTexts [] (text ∷ texts) = ⊥
AreTexts (v ∷ views) [] = ⊥
AreTexts (v ∷ views) (text ∷ texts) = (IsTextOf v text × (crc32c text < 2 ^ 32)) × AreTexts views texts
