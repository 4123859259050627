-- The text of a manifest: its edits, each a record.
use Rattle.std.specs.Prelude.{ℕ, ◌<◌, ◌%◌, List, length, map}
use Rattle.lsm_frame.specs.Frames.{record_text, log_text}
use Rattle.lsm_version.specs.declared.edits.Edit.{Edit}
use Rattle.lsm_version.specs.EditText.{edit_text}
use Rattle.lsm_version.specs.Edits.{IsEdit}

-- an edit that a manifest takes: it is in the grammar, and says something
pub record IsTaken (edit : Edit) : Type 0 where
  pub grammar : IsEdit edit
  pub some : 0 < length (edit_text edit)

-- the text of a manifest of these edits
abbrev pub manifest_text : List Edit → List ℕ
manifest_text edits = log_text (map edit_text edits)

-- the record that an edit makes behind these edits
abbrev pub record_behind : List Edit → Edit → List ℕ
record_behind edits next = record_text (length (manifest_text edits) % 32768) (edit_text next)
