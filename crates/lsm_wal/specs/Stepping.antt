-- What one step of a reading makes of a log's text.
use Rattle.std.specs.Prelude.{◌≡◌, ◌≢◌, ℕ, ◌+◌, ◌^◌, ◌≤◌, List, length}
use Rattle.lsm_rows.specs.declared.operations.Op.{Op}
use Rattle.lsm_rows.specs.Decoding.{IsBatchText, IsSomeBatch}
use Rattle.lsm_frame.specs.declared.ending.Ending.TheVariants as ending
use Rattle.lsm_frame.specs.Reader.{Reader, IsRecord, EndsBehind}
use Rattle.lsm_wal.specs.Reading.{IsNoBatchAt, IsGapAt, open_end}
use Rattle.lsm_wal.specs.declared.reading.Step.{Step}
use Rattle.lsm_wal.specs.declared.reading.Step.TheVariants.{More, Over}
use Rattle.lsm_wal.specs.declared.why.WalWhy.{WalWhy}
use Rattle.lsm_wal.specs.declared.why.WalWhy.TheVariants as why

-- why a record's payload is not taken as the batch from the expected sequence on
abbrev pub IsNotTaken : List ℕ → ℕ → ℕ → WalWhy → Type 0
IsNotTaken payload place expected why.ReadFault = ⊥
IsNotTaken payload place expected (why.Damaged at kept found) = ⊥
IsNotTaken payload place expected (why.Malformed at) = ⊥
IsNotTaken payload place expected why.NoMemory = Unit {0}
IsNotTaken payload place expected (why.BadBatch at) = (at ≡ place) × ¬ IsSomeBatch payload
IsNotTaken payload place expected (why.Gap kept found) = (kept ≡ expected) × (found ≢ expected)
    × ((ops : List Op) × IsBatchText payload found ops)

-- the record of this number is the batch of these operations from the expected sequence on
pub record IsBatchAt (text : List ℕ) (number expected : ℕ) (ops : List Op) : Type 0 where
  pub place : ℕ
  pub payload : List ℕ
  pub stands : IsRecord text number place payload
  pub batch : IsBatchText payload expected ops

-- behind so many records a batch stands, or the end
abbrev pub IsNext : List ℕ → ℕ → ℕ → Step → Type 0
IsNext text number expected (More ops) = IsBatchAt text number expected ops
IsNext text number expected (Over torn) = EndsBehind text number (open_end torn)

-- behind so many records this is wrong
abbrev pub IsLost : List ℕ → ℕ → ℕ → WalWhy → Type 0
IsLost text number expected why.ReadFault = Unit {0}
IsLost text number expected (why.Damaged place kept found) = EndsBehind text number (ending.Damaged place kept found)
IsLost text number expected (why.Malformed place) = EndsBehind text number (ending.Malformed place)
IsLost text number expected why.NoMemory = Unit {0}
IsLost text number expected (why.BadBatch place) = IsNoBatchAt text number place
IsLost text number expected (why.Gap kept found) = (kept ≡ expected) × IsGapAt text number expected found

-- where a reader stands behind a step: a batch leads on by one record, and its sequences are below 2^56
abbrev pub Follows : Reader → Reader → ℕ → Step → Type 0
Follows old new expected (More ops) = (new.given ≡ old.given + 1) × (expected + length ops ≤ 2 ^ 56)
Follows old new expected (Over torn) = Unit {0}
