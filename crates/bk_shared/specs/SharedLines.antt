-- Which shared files metas name, how many metas name one, the checksum that it has, and where two
-- checksums of one file clash.
use Rattle.std.specs.Prelude.{ℕ, ◌<◌, ◌≡◌, ◌≢◌, Bool, ◌==◌, ◌&&◌, List, ◌∷◌, ◌++◌, Option, Some, None, option_map}
use Rattle.std.specs.List.{find, list_any, count_by, filter_map, flat_map, All, Contains}
use Rattle.std.specs.Str.{bytes_eq}
use Rattle.lsm_names.specs.declared.shared_names.SharedName.{SharedName}
use Rattle.bk_meta.specs.declared.backup_files.BackupFile.{BackupFile}
use Rattle.bk_meta.specs.declared.backup_files.BackupFile.TheVariants.{Shared}
use Rattle.bk_meta.specs.declared.metas.Meta.{Meta}
use Rattle.bk_meta.specs.declared.metas.MetaFile.{MetaFile}
use Rattle.bk_meta.specs.BackupFiles.{file_at}
use Rattle.bk_shared.specs.declared.errors.SharedError.{SharedError}
use Rattle.bk_shared.specs.declared.errors.SharedError.TheVariants.{SharedClash, NoMemory}

-- ---- the lines that name shared files

-- a line of a meta that names a shared file, and the checksum that it gives the file
pub record SharedLine : Type 0 where
  pub name : SharedName
  pub crc : ℕ

abbrev pub line_with : ℕ → Option BackupFile → Option SharedLine
line_with crc (Some (Shared name)) = Some (record { name = name; crc = crc })
line_with crc file = None

-- what a file line of the meta of this identifier says of a shared file, where it names one
abbrev pub shared_line : ℕ → MetaFile → Option SharedLine
shared_line id file = line_with file.crc (file_at id file.path)

-- the lines of a meta that name shared files, in their order
abbrev pub lines_of : Meta → List SharedLine
lines_of meta = filter_map (λ file. shared_line meta.id file) meta.files

-- those of all metas, meta after meta
abbrev pub all_lines : List Meta → List SharedLine
all_lines metas = flat_map lines_of metas

-- ---- what metas say of a shared file

-- both are one name: one number, one session and one size
unfoldable pub is_name : SharedName → SharedName → Bool
is_name name other = name.number == other.number && bytes_eq name.session other.session && name.size == other.size

-- the line names this file
abbrev pub is_of : SharedName → SharedLine → Bool
is_of name line = is_name line.name name

-- a line of the meta names this file
abbrev pub names_file : SharedName → Meta → Bool
names_file name meta = list_any (is_of name) (lines_of meta)

-- how many metas name the file
unfoldable pub count_of : List Meta → SharedName → ℕ
count_of metas name = count_by (names_file name) metas

-- the checksum that the first of the lines that name the file gives it
abbrev pub crc_in : SharedName → List SharedLine → Option ℕ
crc_in name lines = option_map (λ line. line.crc) (find (is_of name) lines)

-- the file's checksum, where a meta names it
unfoldable pub crc_of : List Meta → SharedName → Option ℕ
crc_of metas name = crc_in name (all_lines metas)

-- ---- whether checksums agree

-- each line gives its file the checksum that the first line of the file gives
unfoldable pub Agree : List SharedLine → Type 0
Agree lines = All (λ line. crc_in line.name lines ≡ Some line.crc) lines

-- The first line that gives its file another checksum than an earlier one: the lines before it
-- agree, the first of them that names the file gives `kept`, and this line gives `found`.
pub record FirstClash (lines : List SharedLine) (name : SharedName) (kept found : ℕ) : Type 0 where
  pub before : List SharedLine
  pub behind : List SharedLine
  pub stands : lines ≡ before ++ record { name = name; crc = found } ∷ behind
  pub agreed : Agree before
  pub first : crc_in name before ≡ Some kept
  pub differs : kept ≢ found

-- an error tells the first clash of the lines; want of memory says nothing of them
abbrev pub TellsClash : List SharedLine → SharedError → Type 0
TellsClash lines (SharedClash name kept found) = FirstClash lines name kept found
TellsClash lines NoMemory = Unit {0}

-- Two of the metas give the file two checksums: the one of the lower identifier gives `kept`, the
-- other one `found`.
pub record TwoChecksums (metas : List Meta) (name : SharedName) (kept found : ℕ) : Type 0 where
  pub lower : Meta
  pub higher : Meta
  pub lower_in : Contains metas lower
  pub higher_in : Contains metas higher
  pub below : lower.id < higher.id
  pub kept_is : crc_in name (lines_of lower) ≡ Some kept
  pub found_is : crc_in name (lines_of higher) ≡ Some found
  pub differs : kept ≢ found
