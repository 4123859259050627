-- A log on a disk: what it holds now, and what a crash leaves of it.
use Rattle.std.specs.Prelude.{◌≡◌, ℕ, ◌≤◌, Bool, if◌then◌else◌, List, [], ◌∷◌, ◌++◌, length, take, map, All, Some, Result, Ok, Err}
use Rattle.lsm_frame.specs.Records.{front, end_of}
use Rattle.lsm_frame.specs.Growth.{IsOpen}
use Rattle.lsm_disk.specs.State.{State, FileState, bytes_of}
use Rattle.lsm_disk.specs.Images.{Tree, bytes_at}
use Rattle.lsm_disk.specs.Kept.{IsKeptFile, IsFrontOf}
use Rattle.lsm_disk.specs.declared.calls.DiskCall.TheVariants.{Sync}
use Rattle.lsm_disk.specs.declared.calls.DiskRefusal.{DiskRefusal}
use Rattle.lsm_wal.specs.Batches.{Logged, text_of, IsLogged, wal_text, record_behind}

-- The file at the path outlives each crash, its bytes are the text of these batches, and at least the first so many of
-- them are synced.
pub record IsWal (s : State) (path : List ℕ) (batches : List Logged) (durable : ℕ) : Type 0 where
  pub id : ℕ
  pub file : FileState
  pub kept : IsKeptFile s path id file
  pub text : bytes_of file ≡ wal_text batches
  pub within : durable ≤ length batches
  pub synced : length (wal_text (take durable batches)) ≤ length file.synced
  pub each : All IsLogged batches

-- The same, but that a front of the next batch's record stands behind them.
pub record IsTornWal (s : State) (path : List ℕ) (batches : List Logged) (next : Logged) (durable : ℕ) : Type 0 where
  pub id : ℕ
  pub file : FileState
  pub kept : IsKeptFile s path id file
  pub count : ℕ
  pub text : bytes_of file ≡ wal_text batches ++ take count (record_behind batches next)
  pub within : durable ≤ length batches
  pub synced : length (wal_text (take durable batches)) ≤ length file.synced
  pub each : All IsLogged batches

-- The image has the file; it reads as the first so many of these batches, of the durable ones each; and it ends there, or
-- inside a torn record.
pub record HoldsFront (path : List ℕ) (batches : List Logged) (durable : ℕ) (s : State) (t : Tree) : Type 0 where
  pub bytes : List ℕ
  pub is : bytes_at t path ≡ Some bytes
  pub batches_are : IsFrontOf durable (map text_of batches) (front bytes)
  pub ends : IsOpen (end_of bytes)

-- how many batches are durable after an append, which are all where it was asked to sync
abbrev pub durable_after : Bool → ℕ → List Logged → ℕ
durable_after sync durable batches = if sync then length batches else durable

-- What an append leaves. Ok: the log of one batch more. A refusal: a front of the new record at most; and where the sync was
-- refused, the whole record, which is perhaps not durable.
abbrev pub IsLeft : {T : Type 0} → List ℕ → List Logged → Logged → ℕ → Bool → Result T DiskRefusal → State → Type 0
IsLeft path batches next durable sync (Ok value) s = IsWal s path (batches ++ next ∷ []) (durable_after sync durable (batches ++ next ∷ []))
IsLeft path batches next durable sync (Err r) s = IsTornWal s path batches next durable
    × (r.at.call ≡ Sync → IsWal s path (batches ++ next ∷ []) durable)
