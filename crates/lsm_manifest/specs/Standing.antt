-- A manifest on a disk: what it holds now, and what a crash leaves of it.
use Rattle.std.specs.Prelude.{◌≡◌, ◌⊎◌, ℕ, ◌≤◌, List, [], ◌∷◌, ◌++◌, length, take, map, All, Some, Result, Ok, Err}
use Rattle.lsm_frame.specs.Records.{front, end_of}
use Rattle.lsm_frame.specs.Growth.{IsOpen}
use Rattle.lsm_disk.specs.State.{State, FileState, bytes_of}
use Rattle.lsm_disk.specs.Images.{Tree, bytes_at}
use Rattle.lsm_disk.specs.Kept.{IsKeptFile}
use Rattle.lsm_disk.specs.declared.calls.DiskCall.TheVariants.{Sync}
use Rattle.lsm_disk.specs.declared.calls.DiskRefusal.{DiskRefusal}
use Rattle.lsm_publish.specs.Publishing.{written}
use Rattle.lsm_version.specs.declared.edits.Edit.{Edit}
use Rattle.lsm_version.specs.EditText.{edit_text}
use Rattle.lsm_version.specs.Edits.{IsEdit}
use Rattle.lsm_manifest.specs.Texts.{manifest_text, record_behind}

-- A manifest stands: the file at the path outlives each crash, and its bytes, all of them synced,
-- are the text of these edits.
pub record Stands (s : State) (path : List ℕ) (edits : List Edit) : Type 0 where
  pub id : ℕ
  pub kept : IsKeptFile s path id (written (manifest_text edits))
  pub each : All IsEdit edits

-- The same, but that a front of the next edit's record stands behind them.
pub record IsTornManifest (s : State) (path : List ℕ) (edits : List Edit) (next : Edit) : Type 0 where
  pub id : ℕ
  pub file : FileState
  pub kept : IsKeptFile s path id file
  pub count : ℕ
  pub text : bytes_of file ≡ manifest_text edits ++ take count (record_behind edits next)
  pub synced : length (manifest_text edits) ≤ length file.synced
  pub each : All IsEdit edits

-- The records of a text are these edits, or these and the new one; and it ends there, or inside a
-- torn record.
pub record ReadsEither (edits : List Edit) (next : Edit) (text : List ℕ) : Type 0 where
  pub edits_are : (front text ≡ map edit_text edits) ⊎ (front text ≡ map edit_text (edits ++ next ∷ []))
  pub ends : IsOpen (end_of text)

-- The image has the file, and it reads so.
pub record HoldsEither (path : List ℕ) (edits : List Edit) (next : Edit) (s : State) (t : Tree) : Type 0 where
  pub bytes : List ℕ
  pub is : bytes_at t path ≡ Some bytes
  pub reads : ReadsEither edits next bytes

-- the whole record stands behind the edits, perhaps not durable
pub record HasWhole (s : State) (path : List ℕ) (edits : List Edit) (next : Edit) : Type 0 where
  pub id : ℕ
  pub file : FileState
  pub kept : IsKeptFile s path id file
  pub text : bytes_of file ≡ manifest_text (edits ++ next ∷ [])

-- What the append of an edit leaves. Ok: the manifest of one edit more. A refusal: a front of the
-- new record at most; and where the sync was refused, the whole record, which is perhaps not
-- durable.
abbrev pub IsLeft : {T : Type 0} → List ℕ → List Edit → Edit → Result T DiskRefusal → State → Type 0
IsLeft path edits next (Ok value) s = Stands s path (edits ++ next ∷ [])
IsLeft path edits next (Err r) s = IsTornManifest s path edits next × (r.at.call ≡ Sync → HasWhole s path edits next)
