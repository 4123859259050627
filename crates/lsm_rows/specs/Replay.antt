-- Replay: what batches make of a map, and of the sequence.
use Rattle.std.specs.Prelude.{ℕ, ◌+◌, List, [], ◌∷◌, length}
use Rattle.std.specs.List.{fold}
use Rattle.std.specs.Ordering.{nat_cmp}
use Rattle.std.specs.Cmp.Lexicographic.{slice_cmp}
use Rattle.std.specs.declared.cmp.Ordering.{Ordering}
use Rattle.std.specs.FinMap as map
use Rattle.lsm_rows.specs.declared.operations.Op.{Op}
use Rattle.lsm_rows.specs.declared.operations.Op.TheVariants.{Put, Delete}

-- keys are ordered by their bytes, ascending
abbrev pub key_cmp : List ℕ → List ℕ → Ordering
key_cmp = slice_cmp nat_cmp

-- a finite map from keys to values
abbrev pub Contents : Type 0
Contents = map.FinMap key_cmp (List ℕ)

-- a put sets its key, a delete removes it
abbrev pub applied : Contents → Op → Contents
applied m (Put key value) = map.insert m key value
applied m (Delete key) = map.remove m key

-- the batches in order, and in each its operations in order
abbrev pub replayed : Contents → List (List Op) → Contents
replayed m [] = m
replayed m (ops ∷ batches) = replayed (fold applied m ops) batches

-- the sequence after the batches: the starting one plus the number of operations
abbrev pub sequence_after : ℕ → List (List Op) → ℕ
sequence_after start [] = start
sequence_after start (ops ∷ batches) = sequence_after (start + length ops) batches
