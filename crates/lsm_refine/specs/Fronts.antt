-- What a crash leaves of a running store's folder: all parts whole, but of the last log a front.
use Rattle.std.specs.Prelude.{◌≡◌, ℕ, ◌≤◌, List, [], ◌∷◌, ◌++◌, map, take, length}
use Rattle.std.specs.Ordering.{nat_cmp}
use Rattle.std.specs.FinMap as finmap
use Rattle.lsm_rows.specs.declared.operations.Op.{Op}
use Rattle.lsm_rows.specs.Replay.{replayed, sequence_after}
use Rattle.lsm_rows.specs.Contents.{contents_of}
use Rattle.lsm_disk.specs.Images.{Tree}
use Rattle.lsm_wal.specs.Batches.{in_sequence, wal_text}
use Rattle.lsm_folder.specs.Files.{files_in}
use Rattle.lsm_folder.specs.Manifests.{last_after}
use Rattle.lsm_folder.specs.Parts.{HasParts, all_of, rows_of_all}
use Rattle.lsm_model.specs.declared.states.State.{State}
use Rattle.lsm_refine.specs.Parts.{LogPart, Parts, first_logged, first_in_last}

-- the texts of logs from a sequence on, by their numbers
abbrev pub texts_from : ℕ → List LogPart → List (ℕ × List ℕ)
texts_from first [] = []
texts_from first (log ∷ logs) = (log.number, wal_text (in_sequence first log.batches)) ∷ texts_from (sequence_after first log.batches) logs

-- the texts of the live logs, where the last one has this text
abbrev pub texts_with : Parts → List ℕ → List (ℕ × List ℕ)
texts_with parts text = texts_from (first_logged parts) parts.older ++ (parts.last.number, text) ∷ []

abbrev pub logs_with : Parts → List ℕ → finmap.FinMap nat_cmp (List ℕ)
logs_with parts text = finmap.from_entries (texts_with parts text)

-- the last log's whole text
abbrev pub last_text : Parts → List ℕ
last_text parts = wal_text (in_sequence (first_in_last parts) parts.last.batches)

-- the batches log by log, where the last one has these
abbrev pub batches_with : Parts → List (List Op) → List (List (List Op))
batches_with parts batches = map (λ (log : LogPart). log.batches) parts.older ++ batches ∷ []

-- in this tree the folder has all parts, and of the last log the first so many batches, the synced ones among them
pub record HasFirst (dir : List ℕ) (parts : Parts) (t : Tree) : Type 0 where
  pub count : ℕ
  pub enough : parts.synced ≤ count
  pub within : count ≤ length parts.last.batches
  pub text : List ℕ
  pub has : HasParts (files_in dir t) parts.edits parts.rows (logs_with parts text) (batches_with parts (take count parts.last.batches))

-- The rows of the parts, with the first so many batches of the last log, stand for this front of the accepted batches, and
-- end at its last sequence. The durable batches are in it.
pub record ShowsFirst (parts : Parts) (s : State) (kept count : ℕ) : Type 0 where
  pub contents : contents_of (rows_of_all parts.edits parts.rows (batches_with parts (take kept parts.last.batches)))
      ≡ replayed s.opening (take count s.accepted)
  pub sequence : sequence_after (last_after parts.edits) (all_of (batches_with parts (take kept parts.last.batches)))
      ≡ sequence_after s.began (take count s.accepted)
  pub durable : s.durable ≤ count
