-- Metas: what the list of a backup's files says, and its one text.
use Rattle.std.specs.Prelude.{ℕ, ◌+◌, ◌-◌, ◌^◌, ◌<◌, ◌≤◌, Bool, true, false, not, ◌==◌, ◌&&◌, nat_le, if◌then◌else◌, List, [], ◌∷◌, ◌++◌, length, drop, codes, Option, Some, None, is_some, Result, Ok, IsTrue, zero, suc}
use Rattle.std.specs.Cmp.Lexicographic.{slice_cmp}
use Rattle.std.specs.Fmt.{decimal}
use Rattle.std.specs.List.{list_any, count_by, filter_map, flat_map, All}
use Rattle.std.specs.Ordering.{nat_cmp, is_lt}
use Rattle.hex.specs.Hex.{encode_lower, IsBytes}
use Rattle.lsm_names.specs.declared.file_names.FileName.TheVariants.{Manifest, Current}
use Rattle.bk_meta.specs.declared.errors.MetaWhy.TheVariants.{SchemaTwo, Number, Metadata, Count, File, Order, Set, Extra}
use Rattle.bk_meta.specs.declared.backup_files.BackupFile.{BackupFile}
use Rattle.bk_meta.specs.declared.backup_files.BackupFile.TheVariants.{Private, Shared}
use Rattle.bk_meta.specs.declared.metas.MetaFile.{MetaFile}
use Rattle.bk_meta.specs.declared.metas.Meta.{Meta}
use Rattle.bk_meta.specs.BackupFiles.{file_at}
use Rattle.bk_meta.specs.Lines.{Bad, ◌>>=◌, some_or, holds_or, begins, cut_at, line_at}
use Rattle.bk_meta.specs.Numbers.{number_up_to, metadata_of}

-- ---- the one text of a meta

abbrev pub with_newline : List ℕ → List ℕ
with_newline line = line ++ 10 ∷ []

-- `PATH crc32 NUMBER`
abbrev pub file_text : MetaFile → List ℕ
file_text file = file.path ++ codes " crc32 " ++ decimal file.crc

-- a line for each file
abbrev pub files_text : List MetaFile → List ℕ
files_text files = flat_map (λ file. with_newline (file_text file)) files

-- `metadata ` and lower-case digits, where the metadata isn't empty
abbrev pub metadata_text : List ℕ → List ℕ
metadata_text [] = []
metadata_text (byte ∷ bytes) = with_newline (codes "metadata " ++ encode_lower (byte ∷ bytes))

-- the timestamp, the sequence, the metadata, the number of files, and the files
unfoldable pub meta_text : Meta → List ℕ
meta_text meta = with_newline (decimal meta.timestamp) ++ with_newline (decimal meta.sequence) ++ metadata_text meta.metadata
    ++ with_newline (decimal (length meta.files)) ++ files_text meta.files

-- ---- which metas there are

-- byte by byte, and a text comes before those that go on behind it
abbrev pub comes_before : List ℕ → List ℕ → Bool
comes_before left right = is_lt (slice_cmp nat_cmp left right)

abbrev pub is_current : Option BackupFile → Bool
is_current (Some (Private Current)) = true
is_current file = false

abbrev pub is_manifest : Option BackupFile → Bool
is_manifest (Some (Private (Manifest number))) = true
is_manifest file = false

abbrev pub shared_number : Option BackupFile → Option ℕ
shared_number (Some (Shared name)) = Some name.number
shared_number file = None

-- no number stands twice
abbrev pub are_different : List ℕ → Bool
are_different [] = true
are_different (number ∷ numbers) = not (list_any (λ other. other == number) numbers) && are_different numbers

-- the numbers of the shared files
abbrev pub shared_numbers : ℕ → List MetaFile → List ℕ
shared_numbers id files = filter_map (λ file. shared_number (file_at id file.path)) files

-- There is exactly one `CURRENT` and one manifest, and no two shared files have one number.
unfoldable pub is_whole : ℕ → List MetaFile → Bool
is_whole id files = count_by (λ file. is_current (file_at id file.path)) files == 1
    && count_by (λ file. is_manifest (file_at id file.path)) files == 1 && are_different (shared_numbers id files)

-- its path names a file of this backup, and its checksum has 32 bits
pub record IsMetaFile (id : ℕ) (file : MetaFile) : Type 0 where
  pub named : IsTrue (is_some (file_at id file.path))
  pub fits : file.crc < 2 ^ 32

-- the path of the file at an index
abbrev pub path_at : List MetaFile → ℕ → List ℕ
path_at [] index = []
path_at (file ∷ files) zero = file.path
path_at (file ∷ files) (suc index) = path_at files index

-- each path comes before the next one
abbrev pub Ascends : List MetaFile → Type 0
Ascends files = (index : ℕ) → index + 1 < length files → IsTrue (comes_before (path_at files index) (path_at files (index + 1)))

-- a meta that a text can spell
pub record IsMeta (meta : Meta) : Type 0 where
  pub identifier : (1 ≤ meta.id) × (meta.id < 2 ^ 32)
  pub time : meta.timestamp < 2 ^ 64
  pub last : meta.sequence < 2 ^ 64
  pub short : length meta.metadata ≤ 1024
  pub bytes : IsBytes meta.metadata
  pub count : (2 ≤ length meta.files) × (length meta.files ≤ 10000)
  pub each : All (IsMetaFile meta.id) meta.files
  pub ascending : Ascends meta.files
  pub whole : IsTrue (is_whole meta.id meta.files)

-- ---- the meta of a text, found line by line

-- a line that is a number of 64 bits
abbrev pub number_at : ℕ → List ℕ → Result (ℕ × List ℕ) Bad
number_at at text = do
  line ← line_at at text
  number ← some_or at Number (number_up_to (2 ^ 64 - 1) line.0)
  Ok (number, line.1)

-- the first line, which is no line of the other form of metas
abbrev pub timestamp_at : List ℕ → Result (ℕ × List ℕ) Bad
timestamp_at text = do
  first ← holds_or 1 SchemaTwo (not (begins (codes "schema_version ") text))
  number_at 1 text

-- the metadata of the third line; none where the line is the number of files
abbrev pub metadata_in : List ℕ → Result (List ℕ) Bad
metadata_in line = if begins (codes "metadata ") line then some_or 3 Metadata (metadata_of (drop 9 line)) else Ok []

-- which line has the number of files, and the text from it on
abbrev pub behind_metadata : List ℕ → List ℕ → List ℕ → ℕ × List ℕ
behind_metadata [] third fourth = (3, third)
behind_metadata (byte ∷ bytes) third fourth = (4, fourth)

abbrev pub from_two : ℕ → Option ℕ
from_two count = if nat_le 2 count then Some count else None

abbrev pub some_from_two : Option ℕ → Option ℕ
some_from_two None = None
some_from_two (Some count) = from_two count

-- a line that is the number of files: 2 to 10,000
abbrev pub count_at : ℕ → List ℕ → Result (ℕ × List ℕ) Bad
count_at at text = do
  line ← line_at at text
  count ← some_or at Count (some_from_two (number_up_to 10000 line.0))
  Ok (count, line.1)

-- the checksum behind a path
abbrev pub crc_of : List ℕ → Option ℕ
crc_of text = if begins (codes "crc32 ") text then number_up_to (2 ^ 32 - 1) (drop 6 text) else None

abbrev pub file_with : List ℕ → Option ℕ → Option MetaFile
file_with path None = None
file_with path (Some crc) = Some (record { path = path; crc = crc })

abbrev pub file_where : ℕ → Option (List ℕ × List ℕ) → Option MetaFile
file_where id None = None
file_where id (Some parts) = if is_some (file_at id parts.0) then file_with parts.0 (crc_of parts.1) else None

-- what a file line says, a space behind its path
unfoldable pub file_of : ℕ → List ℕ → Option MetaFile
file_of id line = file_where id (cut_at 32 line)

-- the last path, if there is one
abbrev pub last_path : List MetaFile → Option (List ℕ)
last_path [] = None
last_path (file ∷ []) = Some file.path
last_path (file ∷ next ∷ files) = last_path (next ∷ files)

abbrev pub comes_after : Option (List ℕ) → List ℕ → Bool
comes_after None path = true
comes_after (Some last) path = comes_before last path

-- a file line behind the file of this path
abbrev pub file_in : ℕ → ℕ → Option (List ℕ) → List ℕ → Result MetaFile Bad
file_in id at last line = do
  file ← some_or at File (file_of id line)
  ordered ← holds_or at Order (comes_after last file.path)
  Ok file

-- so many files, the first of them on this line, and the text behind them
unfoldable pub files_at : ℕ → ℕ → ℕ → List ℕ → Result (List MetaFile × List ℕ) Bad
files_at id first zero text = Ok ([], text)
files_at id first (suc count) text = do
  files ← files_at id first count text
  line ← line_at (first + count) files.1
  file ← file_in id (first + count) (last_path files.0) line.0
  Ok (files.0 ++ file ∷ [], line.1)

abbrev pub is_end : List ℕ → Bool
is_end [] = true
is_end (byte ∷ text) = false

-- what holds behind the last file, which has this line: the files are whole, and no text follows
abbrev pub ends_at : ℕ → ℕ → List MetaFile → List ℕ → Result Unit Bad
ends_at id last files rest = do
  whole ← holds_or last Set (is_whole id files)
  holds_or (last + 1) Extra (is_end rest)

-- The meta of this identifier that a text spells, or its first bad line and why that is bad.
unfoldable pub meta_of : ℕ → List ℕ → Result Meta Bad
meta_of id text = do
  timestamp ← timestamp_at text
  sequence ← number_at 2 timestamp.1
  third ← line_at 3 sequence.1
  metadata ← metadata_in third.0
  count ← count_at (behind_metadata metadata sequence.1 third.1).0 (behind_metadata metadata sequence.1 third.1).1
  files ← files_at id ((behind_metadata metadata sequence.1 third.1).0 + 1) count.0 count.1
  over ← ends_at id ((behind_metadata metadata sequence.1 third.1).0 + count.0) files.0 files.1
  Ok (record { id = id; timestamp = timestamp.0; sequence = sequence.0; metadata = metadata; files = files.0 })
