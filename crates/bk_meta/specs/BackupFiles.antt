-- The files of a backup, and the paths that name them.
use Rattle.std.specs.Prelude.{ℕ, ◌^◌, ◌&&◌, Bool, nat_lt, if◌then◌else◌, List, ◌++◌, length, take, drop, codes, Option, Some, None, IsTrue}
use Rattle.std.specs.Char.{is_ascii_digit}
use Rattle.std.specs.Fmt.{decimal}
use Rattle.std.specs.List.{filter}
use Rattle.std.specs.Option.{option_map}
use Rattle.std.specs.Str.{bytes_eq}
use Rattle.std.specs.Str.Parse.{digits_value}
use Rattle.lsm_names.specs.declared.file_names.FileName.{FileName}
use Rattle.lsm_names.specs.declared.file_names.FileName.TheVariants.{Log, Table, Manifest, Temp, Current}
use Rattle.lsm_names.specs.declared.shared_names.SharedName.{SharedName}
use Rattle.lsm_names.specs.FileNames.{spelled, is_file_number}
use Rattle.lsm_names.specs.Sessions.{is_session}
use Rattle.lsm_names.specs.SharedNames.{spelled_shared, IsSharedName}
use Rattle.bk_meta.specs.declared.backup_files.BackupFile.{BackupFile}
use Rattle.bk_meta.specs.declared.backup_files.BackupFile.TheVariants.{Private, Shared}
use Rattle.bk_meta.specs.Lines.{begins, cut_at}

-- the folder that a backup has for itself: `private/<id>/`
abbrev pub private_folder : ℕ → List ℕ
private_folder id = codes "private/" ++ decimal id ++ codes "/"

-- the folder that all backups share
abbrev pub shared_folder : List ℕ
shared_folder = codes "shared_checksum/"

-- the one spelling of the path of a file
unfoldable pub path_of : ℕ → BackupFile → List ℕ
path_of id (Private name) = private_folder id ++ spelled name
path_of id (Shared name) = shared_folder ++ spelled_shared name

-- a backup keeps logs, manifests and `CURRENT` for itself, and tables are shared
abbrev pub IsBackupFile : BackupFile → Type 0
IsBackupFile (Private (Log number)) = IsTrue (is_file_number number)
IsBackupFile (Private (Table number)) = ⊥
IsBackupFile (Private (Manifest number)) = IsTrue (is_file_number number)
IsBackupFile (Private (Temp number)) = ⊥
IsBackupFile (Private Current) = Unit {0}
IsBackupFile (Shared name) = IsSharedName name

-- ---- which file a path names: the one that a text can spell, where the text is its spelling

-- the number that all digits of a text write
abbrev pub number_in : List ℕ → ℕ
number_in text = digits_value 10 (filter is_ascii_digit text)

-- a log, a manifest or `CURRENT` of this spelling
unfoldable pub private_name : List ℕ → Option FileName
private_name text =
    if bytes_eq text (spelled Current) then Some Current
    else if is_file_number (number_in text) && bytes_eq text (spelled (Manifest (number_in text))) then Some (Manifest (number_in text))
    else if is_file_number (number_in text) && bytes_eq text (spelled (Log (number_in text))) then Some (Log (number_in text))
    else None

-- what stands before and behind the first `_` of a shared name: its number, and `s<session>_<size>.sst`
abbrev pub shared_by : List ℕ × List ℕ → SharedName
shared_by parts = record {
  number = digits_value 10 parts.0;
  session = take 20 (drop 1 parts.1);
  size = number_in (drop 21 parts.1);
}

-- its number is a file's, its session a session's, and its size fits 64 bits
unfoldable pub is_shared_name : SharedName → Bool
is_shared_name name = is_file_number name.number && is_session name.session && nat_lt name.size (2 ^ 64)

abbrev pub if_spelled : List ℕ → SharedName → Option SharedName
if_spelled text name = if is_shared_name name && bytes_eq text (spelled_shared name) then Some name else None

abbrev pub shared_where : List ℕ → Option (List ℕ × List ℕ) → Option SharedName
shared_where text None = None
shared_where text (Some parts) = if_spelled text (shared_by parts)

-- a shared table of this spelling, which has a `_` behind its number
unfoldable pub shared_name : List ℕ → Option SharedName
shared_name text = shared_where text (cut_at 95 text)

-- the file that this path names in the backup of this identifier
unfoldable pub file_at : ℕ → List ℕ → Option BackupFile
file_at id path =
    if begins (private_folder id) path then option_map (λ name. Private name) (private_name (drop (length (private_folder id)) path))
    else if begins shared_folder path then option_map (λ name. Shared name) (shared_name (drop 16 path))
    else None
