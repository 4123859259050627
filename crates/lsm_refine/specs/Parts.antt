-- What a store's folder is made of, as the store's own steps left it: edits, tables and logs.
use Rattle.std.specs.Prelude.{◌≡◌, ℕ, ◌+◌, List, [], ◌∷◌, ◌++◌, map, length}
use Rattle.std.specs.List.{flat_map}
use Rattle.std.specs.List.Sorted.{IsPermutation}
use Rattle.lsm_rows.specs.declared.operations.Op.{Op}
use Rattle.lsm_rows.specs.declared.rows.Row.{Row}
use Rattle.lsm_rows.specs.Replay.{sequence_after}
use Rattle.lsm_rows.specs.Rows.{rows_of}
use Rattle.lsm_rows.specs.Contents.{newest}
use Rattle.lsm_version.specs.declared.edits.Edit.{Edit}
use Rattle.lsm_folder.specs.Manifests.{last_after}

-- a live log: its number and its batches
pub record LogPart : Type 0 where
  pub number : ℕ
  pub batches : List (List Op)

-- The edits of the manifest; the rows of each live table, by the table's number; the live logs but the last one, by their
-- numbers; the last one; and how many of its batches are synced.
pub record Parts : Type 0 where
  pub edits : List Edit
  pub rows : ℕ → List Row
  pub older : List LogPart
  pub last : LogPart
  pub synced : ℕ

abbrev pub numbers_of : List LogPart → List ℕ
numbers_of logs = map (λ (log : LogPart). log.number) logs

-- the batches of logs, one log's behind those of the one before it
abbrev pub batches_in : List LogPart → List (List Op)
batches_in logs = flat_map (λ (log : LogPart). log.batches) logs

-- all live logs
abbrev pub logs_of : Parts → List LogPart
logs_of parts = parts.older ++ parts.last ∷ []

-- the batches that no table has
abbrev pub logged : Parts → List (List Op)
logged parts = batches_in parts.older ++ parts.last.batches

-- how many of them a crash leaves at least
abbrev pub synced_batches : Parts → ℕ
synced_batches parts = length (batches_in parts.older) + parts.synced

-- the first sequence of the oldest live log, and that of the last one
abbrev pub first_logged : Parts → ℕ
first_logged parts = last_after parts.edits + 1

abbrev pub first_in_last : Parts → ℕ
first_in_last parts = sequence_after (first_logged parts) (batches_in parts.older)

-- the rows are those of these batches, in some order, and each key's newest is the same
pub record AreRowsOf (first : ℕ) (batches : List (List Op)) (rows : List Row) : Type 0 where
  pub same : IsPermutation (rows_of first batches) rows
  pub newest_is : (key : List ℕ) → newest key rows ≡ newest key (rows_of first batches)
