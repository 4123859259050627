-- The lines that a script prints.
use Rattle.std.specs.Prelude.{ℕ, List, [], ◌∷◌, ◌++◌, length, Option, Some, None, codes}
use Rattle.std.specs.Fmt.{decimal}
use Rattle.std.specs.List.{flat_map}
use Rattle.std.specs.FinMap as finite
use Rattle.lsm_rows.specs.Limits.{Refused}
use Rattle.lsm_folder.specs.Reading.{Shown}
use Rattle.bk_engine.specs.declared.infos.BackupInfo.{BackupInfo}
use Rattle.lsm_rows.specs.declared.refusals.What.{What}
use Rattle.lsm_rows.specs.declared.refusals.What.TheVariants.{Key, Value, Count, Bytes}
use Rattle.ldb_script.specs.Words.{shown}

-- a text and its newline
abbrev pub with_newline : List ℕ → List ℕ
with_newline text = text ++ 10 ∷ []

-- a write is answered by the last sequence
unfoldable pub sequence_line : ℕ → List ℕ
sequence_line last = with_newline (codes "seq " ++ decimal last)

-- a get is answered by the value, or by `none`
unfoldable pub value_line : Option (List ℕ) → List ℕ
value_line None = with_newline (codes "none")
value_line (Some value) = with_newline (codes "value " ++ shown value)

-- a pair has a line of its own: its key and its value, each as one word
unfoldable pub pair_line : List ℕ × List ℕ → List ℕ
pair_line pair = shown pair.0 ++ 32 ∷ with_newline (shown pair.1)

-- how many pairs there were
unfoldable pub end_line : ℕ → List ℕ
end_line count = with_newline (codes "end " ++ decimal count)

-- a scan is answered by the line of each pair, and their count
abbrev pub scan_text : List (List ℕ × List ℕ) → List ℕ
scan_text pairs = flat_map pair_line pairs ++ end_line (length pairs)

-- the state is answered by the last sequence, and how many keys have a value
unfoldable pub state_line : ℕ → ℕ → List ℕ
state_line last keys = codes "seq " ++ (decimal last ++ (codes " keys " ++ with_newline (decimal keys)))

-- a call that has nothing else to say is answered so
abbrev pub ok_line : List ℕ
ok_line = with_newline (codes "ok")

-- an enum prints as its variant's name
abbrev pub what_name : What → List ℕ
what_name Key = codes "Key"
what_name Value = codes "Value"
what_name Count = codes "Count"
what_name Bytes = codes "Bytes"

-- a batch that would pass a limit: what is too large, its size, and the limit
unfoldable pub too_large_line : Refused → List ℕ
too_large_line refused = codes "refused BatchTooLarge " ++ (what_name refused.what
    ++ (codes " " ++ (decimal refused.kept ++ (codes " " ++ with_newline (decimal refused.limit)))))

-- ---- backups and folders

-- a backup: its identifier, the time of its making in seconds since 1970, what its maker noted, and what it holds
pub record Backup : Type 0 where
  pub id : ℕ
  pub timestamp : ℕ
  pub metadata : List ℕ
  pub shown : Shown

-- a creation is answered by the identifier and the last sequence
unfoldable pub backup_line : ℕ → ℕ → List ℕ
backup_line id last = codes "backup " ++ (decimal id ++ (codes " seq " ++ with_newline (decimal last)))

-- a backup has a line of its own: its identifier, its time, its last sequence and its note as a word
unfoldable pub listed_line : ℕ → ℕ → ℕ → List ℕ → List ℕ
listed_line id timestamp last metadata = decimal id ++ 32 ∷ (decimal timestamp ++ 32 ∷ (decimal last ++ 32 ∷ with_newline (shown metadata)))

abbrev pub line_of_backup : Backup → List ℕ
line_of_backup backup = listed_line backup.id backup.timestamp backup.shown.sequence backup.metadata

-- the same from what an engine tells of a backup
abbrev pub line_of_info : BackupInfo → List ℕ
line_of_info info = listed_line info.id info.timestamp info.sequence info.metadata

abbrev pub infos_text : List BackupInfo → List ℕ
infos_text infos = flat_map line_of_info infos ++ end_line (length infos)

-- a list is answered by the line of each backup, and their count
abbrev pub list_text : List Backup → List ℕ
list_text backups = flat_map line_of_backup backups ++ end_line (length backups)

unfoldable pub restored_line : ℕ → List ℕ → List ℕ
restored_line id name = codes "restored " ++ (decimal id ++ 32 ∷ with_newline name)

-- a folder is shown by its last sequence, the line of each pair, and their count
abbrev pub folder_text : Shown → List ℕ
folder_text shown = sequence_line shown.sequence ++ scan_text (finite.entries shown.contents)

-- the refusals that a run meets where its disks tell
unfoldable pub no_folder_line : List ℕ → List ℕ
no_folder_line name = with_newline (codes "refused NoFolder " ++ name)

unfoldable pub exists_line : List ℕ → List ℕ
exists_line name = with_newline (codes "refused DestinationExists " ++ name)

unfoldable pub no_backup_line : ℕ → List ℕ
no_backup_line id = with_newline (codes "refused NoSuchBackup " ++ decimal id)

abbrev pub ids_full_line : List ℕ
ids_full_line = with_newline (codes "refused IdsFull")

-- the last line of a run that met a line outside the grammar
unfoldable pub bad_line : ℕ → List ℕ
bad_line number = with_newline (codes "bad line " ++ decimal number)
