-- The rows that operations make.
use Rattle.std.specs.Prelude.{ℕ, ◌+◌, List, [], ◌∷◌, ◌++◌, length, Some, None}
use Rattle.lsm_rows.specs.declared.rows.Row.{Row}
use Rattle.lsm_rows.specs.declared.operations.Op.{Op}
use Rattle.lsm_rows.specs.declared.operations.Op.TheVariants.{Put, Delete}

-- the row of an operation with this sequence
abbrev pub row_of : ℕ → Op → Row
row_of sequence (Put key value) = record { key = key; sequence = sequence; value = Some value }
row_of sequence (Delete key) = record { key = key; sequence = sequence; value = None }

-- a batch's operations have the sequences from `first` on
abbrev pub batch_rows : ℕ → List Op → List Row
batch_rows first [] = []
batch_rows first (op ∷ ops) = row_of first op ∷ batch_rows (first + 1) ops

-- each batch's sequences follow those of the batch before it
abbrev pub rows_of : ℕ → List (List Op) → List Row
rows_of first [] = []
rows_of first (ops ∷ batches) = batch_rows first ops ++ rows_of (first + length ops) batches
