-- What the text of a log reads to: batches, and then what stops the reading.
use Rattle.std.specs.Prelude.{◌≡◌, ◌≢◌, ℕ, List, length, take, map, All, Option, Some, None}
use Rattle.lsm_rows.specs.declared.operations.Op.{Op}
use Rattle.lsm_rows.specs.Decoding.{IsBatchText, IsSomeBatch}
use Rattle.lsm_rows.specs.Replay.{sequence_after}
use Rattle.lsm_frame.specs.declared.ending.Ending.{Ending}
use Rattle.lsm_frame.specs.Records.{front}
use Rattle.lsm_frame.specs.Reader.{IsRecord, EndsBehind}
use Rattle.lsm_frame.specs.declared.ending.Ending.TheVariants as ending
use Rattle.lsm_disk.specs.Kept.{IsFrontOf}
use Rattle.lsm_wal.specs.declared.why.WalWhy.{WalWhy}
use Rattle.lsm_wal.specs.declared.why.WalWhy.TheVariants as why
use Rattle.lsm_wal.specs.Batches.{text_of, IsLogged, in_sequence}

-- what stops the reading behind some batches: the text's end; the record of this place, which is no batch; or a batch whose
-- first sequence is this one and not the next
pub data Stop : Type 0 where
  At_end : (ending : Ending) → Stop
  At_no_batch : (place : ℕ) → Stop
  At_gap : (found : ℕ) → Stop

-- the record of this number, counted from 0, stands at this place and is no batch
pub record IsNoBatchAt (text : List ℕ) (number place : ℕ) : Type 0 where
  pub payload : List ℕ
  pub stands : IsRecord text number place payload
  pub none : ¬ IsSomeBatch payload

-- the record of this number is a batch from one sequence on, where another was expected
pub record IsGapAt (text : List ℕ) (number expected found : ℕ) : Type 0 where
  pub place : ℕ
  pub payload : List ℕ
  pub ops : List Op
  pub stands : IsRecord text number place payload
  pub batch : IsBatchText payload found ops
  pub other : found ≢ expected

-- behind these batches this stops the reading
abbrev pub StopsAt : ℕ → List ℕ → List (List Op) → Stop → Type 0
StopsAt expected text batches (At_end ending) = EndsBehind text (length batches) ending
StopsAt expected text batches (At_no_batch place) = IsNoBatchAt text (length batches) place
StopsAt expected text batches (At_gap found) = IsGapAt text (length batches) (sequence_after expected batches) found

-- The first records of the text are these batches, whose sequences follow one another from the expected one on, and then this
-- stops the reading.
pub record IsReading (expected : ℕ) (text : List ℕ) (batches : List (List Op)) (stop : Stop) : Type 0 where
  pub texts : take (length batches) (front text) ≡ map text_of (in_sequence expected batches)
  pub each : All IsLogged (in_sequence expected batches)
  pub stops : StopsAt expected text batches stop

-- an end behind which nothing is wrong: none, or a torn record from a place on
abbrev pub open_end : Option ℕ → Ending
open_end None = ending.End
open_end (Some place) = ending.Torn place

-- the text reads to the first so many of these batches, of the durable ones each, and nothing is wrong behind them
pub record ReadsToFront (expected : ℕ) (batches : List (List Op)) (durable : ℕ) (text : List ℕ) : Type 0 where
  pub read : List (List Op)
  pub torn : Option ℕ
  pub front_of : IsFrontOf durable batches read
  pub reading : IsReading expected text read (At_end (open_end torn))

-- what a refusal says of the text; a fault of the view and want of memory say nothing of it
abbrev pub IsTrouble : ℕ → List ℕ → WalWhy → Type 0
IsTrouble expected text why.ReadFault = Unit {0}
IsTrouble expected text (why.Damaged place kept found) = (before : List (List Op))
    × IsReading expected text before (At_end (ending.Damaged place kept found))
IsTrouble expected text (why.Malformed place) = (before : List (List Op)) × IsReading expected text before (At_end (ending.Malformed place))
IsTrouble expected text why.NoMemory = Unit {0}
IsTrouble expected text (why.BadBatch place) = (before : List (List Op)) × IsReading expected text before (At_no_batch place)
IsTrouble expected text (why.Gap kept found) = (before : List (List Op)) × (kept ≡ sequence_after expected before)
    × IsReading expected text before (At_gap found)
