-- What was read of the logs of a folder.
use Rattle.std.specs.Prelude.{◌≡◌, ℕ, ◌+◌, ◌^◌, ◌<◌, Bool, if◌then◌else◌, List, ◌++◌, Option, Some, None, Result, Ok, Err}
use Rattle.lsm_names.specs.declared.file_names.FileName.{FileName}
use Rattle.lsm_rows.specs.declared.operations.Op.{Op}
use Rattle.lsm_rows.specs.declared.rows.Row.{Row}
use Rattle.lsm_rows.specs.Replay.{sequence_after}
use Rattle.lsm_rows.specs.Rows.{rows_of}
use Rattle.lsm_folder.specs.declared.refusals.Refusal.{Refusal}
use Rattle.lsm_folder.specs.Logs.{before_batches}
use Rattle.lsm_recover.specs.Answers.{IsRefusedBy}
use Rattle.lsm_recover.specs.declared.errors.FolderError.{FolderError}
use Rattle.lsm_recover.specs.declared.errors.FolderError.TheVariants.{TornLog, NoMemory}

-- the rows of batches that come behind a sequence were added, where their sequences fit 64 bits
abbrev pub AddsRows : ℕ → List (List Op) → List Row → List Row → Type 0
AddsRows last batches before after = sequence_after last batches < 2 ^ 64 → after ≡ before ++ rows_of (last + 1) batches

-- behind a first sequence some batches were read and their rows added, and then that is still to be
-- read
pub record Replays (first : ℕ) (read : Result (List (List Op)) Refusal) (rest : ℕ → Result (List (List Op)) Refusal)
    (before after : List Row) (last : ℕ) : Type 0 where
  pub more : List (List Op)
  pub is : read ≡ before_batches more (rest (last + 1))
  pub rows_are : after ≡ before ++ rows_of (first + 1) more
  pub last_is : last ≡ sequence_after first more
  pub small : last < 2 ^ 56

-- the answer is the last sequence behind what was read, or the refusal
abbrev pub AnswersReplay : ℕ → Result (List (List Op)) Refusal → (ℕ → Result (List (List Op)) Refusal) → List Row → List Row
    → Result ℕ FolderError → Type 0
AnswersReplay first read rest before after (Ok last) = Replays first read rest before after last
AnswersReplay first read rest before after (Err error) = IsRefusedBy read error

-- batches were read behind the last sequence, and their rows were added
pub record IsReplayed (read : Result (List (List Op)) Refusal) (last : ℕ) (before after : List Row) (next : ℕ) : Type 0 where
  pub batches : List (List Op)
  pub is : read ≡ Ok batches
  pub rows_are : after ≡ before ++ rows_of (last + 1) batches
  pub last_is : next + 1 ≡ sequence_after (last + 1) batches
  pub small : next < 2 ^ 56

-- the answer is the last sequence behind one log that is there, whose rows were added, or the log's
-- refusal; a log that isn't there is missing
abbrev pub AnswersLog : Option (List ℕ) → (List ℕ → Result (List (List Op)) Refusal) → ℕ → List Row → List Row
    → Result ℕ FolderError → Type 0
AnswersLog None read last before after result = Unit {0}
AnswersLog (Some text) read last before after (Ok next) = IsReplayed (read text) last before after next
AnswersLog (Some text) read last before after (Err error) = IsRefusedBy (read text) error

-- the place of a torn end, which hinders in all logs but the last
abbrev pub hindering : Bool → Option ℕ → Option ℕ
hindering is_last torn = if is_last then None else torn

-- a log isn't taken where its torn end hinders, or for want of memory
abbrev pub IsNotTaken : FileName → Option ℕ → FolderError → Type 0
IsNotTaken name None error = error ≡ NoMemory
IsNotTaken name (Some place) error = error ≡ TornLog name place
