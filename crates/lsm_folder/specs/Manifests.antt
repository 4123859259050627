-- Manifests: each record is an edit, which is applied to the version that those before it left.
use Rattle.std.specs.Prelude.{ℕ, Bool, true, false, ◌&&◌, if◌then◌else◌, List, [], ◌∷◌, ◌++◌, map, Option, Some, None, Result, Ok, Err, unwrap_or}
use Rattle.lsm_names.specs.declared.file_names.FileName.{FileName}
use Rattle.lsm_frame.specs.Frames.{log_text}
use Rattle.lsm_frame.specs.Records.{records_of}
use Rattle.lsm_frame.specs.declared.ending.Ending.{Ending}
use Rattle.lsm_version.specs.declared.edits.Edit.{Edit}
use Rattle.lsm_version.specs.declared.refusals.ApplyError.{ApplyError}
use Rattle.lsm_version.specs.EditText.{edit_text}
use Rattle.lsm_version.specs.Levels.{Tables}
use Rattle.lsm_version.specs.Versions.{empty_version, numbers_after, version_after}
use Rattle.lsm_folder.specs.declared.refusals.Refusal.{Refusal}
use Rattle.lsm_folder.specs.declared.refusals.Refusal.TheVariants.{Malformed}
use Rattle.lsm_folder.specs.Edits.{edit_of}
use Rattle.lsm_folder.specs.Steps.{◌>>=◌, some_or, read_to_end, version_says}

-- the manifest of these edits
abbrev pub manifest_text : List Edit → List ℕ
manifest_text edits = log_text (map edit_text edits)

-- the edit of a new store: its log is the file of number 2, and number 3 comes next; it has no tables
abbrev pub first_edit : Edit
first_edit = record { log = Some 2; next = Some 3; last = Some 0; adds = []; drops = [] }

-- ---- what records say

-- there is a value
abbrev pub is_there : Option ℕ → Bool
is_there None = false
is_there (Some n) = true

-- an edit may follow these; the first one gives all three numbers
abbrev pub may_follow : List Edit → Edit → Bool
may_follow [] edit = is_there edit.log && is_there edit.next && is_there edit.last
may_follow (first ∷ edits) edit = true

-- these edits and one more, of the record at a place, where the version takes it
unfoldable pub with_edit : FileName → ℕ → List Edit → Edit → Result (List Edit) Refusal
with_edit name place edits edit =
    if may_follow edits edit
    then (version_says name place (version_after (edits ++ edit ∷ [])) >>= λ (tables : Tables). Ok (edits ++ edit ∷ []))
    else Err (Malformed name place)

-- these edits and those that records are
abbrev pub edits_in : FileName → List Edit → List (ℕ × List ℕ) → Ending → Result (List Edit) Refusal
edits_in name edits [] end = read_to_end name end edits
edits_in name edits (r ∷ rs) end = do
  edit ← some_or (Malformed name r.0) (edit_of r.1)
  more ← with_edit name r.0 edits edit
  edits_in name more rs end

-- a manifest has one edit at least
abbrev pub some_edits : FileName → List Edit → Result (List Edit) Refusal
some_edits name [] = Err (Malformed name 0)
some_edits name (edit ∷ edits) = Ok (edit ∷ edits)

-- the edits that a manifest's bytes say; a torn end is left out
unfoldable pub edits_said : FileName → List ℕ → Result (List Edit) Refusal
edits_said name bytes = do
  edits ← edits_in name [] (records_of bytes).0 (records_of bytes).1
  some_edits name edits

-- ---- what edits come to

abbrev pub tables_or_none : Result Tables ApplyError → Tables
tables_or_none (Ok tables) = tables
tables_or_none (Err e) = empty_version

-- the live tables
unfoldable pub tables_after : List Edit → Tables
tables_after edits = tables_or_none (version_after edits)

-- the number from which on logs are needed
unfoldable pub log_after : List Edit → ℕ
log_after edits = unwrap_or (numbers_after edits).log 0

-- the next file number
unfoldable pub next_after : List Edit → ℕ
next_after edits = unwrap_or (numbers_after edits).next 0

-- the last sequence in tables
unfoldable pub last_after : List Edit → ℕ
last_after edits = unwrap_or (numbers_after edits).last 0
