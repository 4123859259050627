-- What a backup of a tree holds: the store's folder that is made of its files.
use Rattle.std.specs.Prelude.{ℕ, ◌&&◌, Bool, true, ◌==◌, if◌then◌else◌, List, [], ◌∷◌, length, Option, Some, None, Result, Ok, Err}
use Rattle.std.specs.FinMap as map
use Rattle.lsm_bytes.specs.Checksum.{crc32c}
use Rattle.lsm_names.specs.declared.file_names.FileName.{FileName}
use Rattle.lsm_names.specs.declared.file_names.FileName.TheVariants.{Table}
use Rattle.lsm_disk.specs.Images.{Tree, bytes_at}
use Rattle.bk_meta.specs.declared.backup_files.BackupFile.{BackupFile}
use Rattle.bk_meta.specs.declared.backup_files.BackupFile.TheVariants.{Private, Shared}
use Rattle.bk_meta.specs.declared.metas.MetaFile.{MetaFile}
use Rattle.bk_meta.specs.declared.metas.Meta.{Meta}
use Rattle.bk_meta.specs.BackupFiles.{file_at}
use Rattle.bk_meta.specs.Metas.{meta_of}
use Rattle.bk_tree.specs.Places.{is_identifier, meta_path}
use Rattle.lsm_folder.specs.Files.{Item, A_file, Files}

-- the next step, where there is a value
infixl 10 ◌>>=◌
abbrev pub ◌>>=◌ : {A B : Type 0} → Option A → (A → Option B) → Option B
None >>= next = None
Some x >>= next = next x

-- a value, if the test holds
abbrev pub only_if : {A : Type 0} → Bool → A → Option A
only_if test value = if test then Some value else None

abbrev pub ok_of : {A E : Type 0} → Result A E → Option A
ok_of (Ok value) = Some value
ok_of (Err error) = None

-- ---- reading

-- the text of the meta of an identifier
abbrev pub meta_text_in : Tree → ℕ → Option (List ℕ)
meta_text_in t id = if is_identifier id then bytes_at t (meta_path id) else None

-- the meta of an identifier, where it is there and readable
unfoldable pub meta_in : Tree → ℕ → Option Meta
meta_in t id = do
  text ← meta_text_in t id
  ok_of (meta_of id text)

-- the bytes of these files, where each of them is there
unfoldable pub texts_in : Tree → List MetaFile → Option (List (List ℕ))
texts_in t [] = Some []
texts_in t (file ∷ files) = do
  bytes ← bytes_at t file.path
  more ← texts_in t files
  Some (bytes ∷ more)

-- ---- the folder that metas and bytes make

-- the name in a store's folder: a table's by its number, and else its own
abbrev pub store_name : BackupFile → FileName
store_name (Private name) = name
store_name (Shared name) = Table name.number

-- a shared file has the size that its name says
abbrev pub has_its_size : BackupFile → List ℕ → Bool
has_its_size (Private name) bytes = true
has_its_size (Shared name) bytes = length bytes == name.size

-- the checksum is the meta's, and the size is right
abbrev pub is_right : MetaFile → BackupFile → List ℕ → Bool
is_right file which bytes = crc32c bytes == file.crc && has_its_size which bytes

-- a file of the folder, where its bytes are right
unfoldable pub entry_of : ℕ → MetaFile → List ℕ → Option (FileName × Item)
entry_of id file bytes = do
  which ← file_at id file.path
  only_if (is_right file which bytes) (store_name which, A_file bytes)

-- the files of the folder, where the bytes of each are right
unfoldable pub entries_of : ℕ → List MetaFile → List (List ℕ) → Option (List (FileName × Item))
entries_of id [] [] = Some []
entries_of id [] (bytes ∷ texts) = None
entries_of id (file ∷ files) [] = None
entries_of id (file ∷ files) (bytes ∷ texts) = do
  entry ← entry_of id file bytes
  more ← entries_of id files texts
  Some (entry ∷ more)

-- the folder that a meta makes of the bytes of its files
unfoldable pub folder_of : Meta → List (List ℕ) → Option Files
folder_of meta texts = do
  entries ← entries_of meta.id meta.files texts
  Some (map.from_entries entries)

-- What the tree holds under an identifier: the folder made of the files that its meta names, shared ones as tables by their
-- numbers and private ones under their names. There is none where the meta isn't readable, a file isn't there or its
-- checksum isn't the meta's, or a shared file hasn't the size in its name.
unfoldable pub held : Tree → ℕ → Option Files
held t id = do
  meta ← meta_in t id
  texts ← texts_in t meta.files
  folder_of meta texts
