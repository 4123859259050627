-- The batches of a log, and the text that they make.
use Rattle.std.specs.Prelude.{ℕ, ◌+◌, ◌%◌, List, [], ◌∷◌, length, map}
use Rattle.lsm_rows.specs.declared.operations.Op.{Op}
use Rattle.lsm_rows.specs.BatchText.{batch_text}
use Rattle.lsm_rows.specs.Decoding.{IsBatchText}
use Rattle.lsm_frame.specs.Frames.{record_text, log_text}

-- a batch in a log: the sequence of its first operation, and its operations
pub record Logged : Type 0 where
  pub first : ℕ
  pub ops : List Op

-- the text of a batch, which is the payload of its record
abbrev pub text_of : Logged → List ℕ
text_of batch = batch_text batch.first batch.ops

-- a batch that a log takes: some operations within the limits, the last sequence at most 2^56 - 1
abbrev pub IsLogged : Logged → Type 0
IsLogged batch = IsBatchText (text_of batch) batch.first batch.ops

-- the text of a log of these batches, each a record of its own
abbrev pub wal_text : List Logged → List ℕ
wal_text batches = log_text (map text_of batches)

-- the record that a batch makes behind these batches
abbrev pub record_behind : List Logged → Logged → List ℕ
record_behind batches next = record_text (length (wal_text batches) % 32768) (text_of next)

-- batches whose sequences follow one another, the first operation with the sequence `first`
abbrev pub in_sequence : ℕ → List (List Op) → List Logged
in_sequence first [] = []
in_sequence first (ops ∷ more) = record { first = first; ops = ops } ∷ in_sequence (first + length ops) more
