-- What the parts of a store's folder are to the batches of a state.
use Rattle.std.specs.Prelude.{◌≡◌, ℕ, ◌+◌, ◌≤◌, List, map, take, drop, length, sum_by}
use Rattle.std.specs.FinMap as finmap
use Rattle.lsm_rows.specs.Replay.{replayed, sequence_after}
use Rattle.lsm_rows.specs.Contents.{contents_of}
use Rattle.lsm_version.specs.declared.tables.Placed.{Placed}
use Rattle.lsm_folder.specs.Manifests.{tables_after, last_after}
use Rattle.lsm_folder.specs.Parts.{rows_of_tables}
use Rattle.lsm_model.specs.declared.states.State.{State}
use Rattle.lsm_model.specs.declared.states.LiveTable.{LiveTable}
use Rattle.lsm_refine.specs.Kept.{Kept}
use Rattle.lsm_refine.specs.Parts.{Parts, logged, synced_batches, batches_in, first_logged}
use Rattle.lsm_refine.specs.Fronts.{texts_from, last_text}

-- The tables stand for the first so many of the accepted batches and end at their last sequence; the logs have the others;
-- and the durable batches are among those in tables and those that are synced in logs.
pub record Tied (parts : Parts) (s : State) : Type 0 where
  pub flushed : ℕ
  pub within : flushed ≤ length s.accepted
  pub below : contents_of (rows_of_tables (tables_after parts.edits) parts.rows) ≡ replayed s.opening (take flushed s.accepted)
  pub last : last_after parts.edits ≡ sequence_after s.began (take flushed s.accepted)
  pub above : logged parts ≡ drop flushed s.accepted
  pub durable : s.durable ≤ flushed + synced_batches parts

-- a table of a version as a state lists it
abbrev pub live_table : ℕ × Placed → LiveTable
live_table table = record { level = table.1.level; number = table.0; size = table.1.info.size }

-- how many bytes the logs have but the last one
abbrev pub older_bytes : Parts → ℕ
older_bytes parts = sum_by (λ (text : ℕ × List ℕ). length text.1) (texts_from (first_logged parts) parts.older)

-- What a running store keeps of its work is the state's: which rows are in memory, how long their logs are, the tables, the
-- compaction under way, the next number and the manifest's length.
pub record WorksAs (kept : Kept) (parts : Parts) (s : State) : Type 0 where
  pub active : s.active ≡ length parts.last.batches
  pub frozen : s.frozen ≡ length (batches_in parts.older)
  pub log_len : kept.log_len ≡ length (last_text parts)
  pub older_len : kept.older_len ≡ older_bytes parts
  pub active_len : s.active_len ≡ kept.log_len
  pub frozen_len : s.frozen_len ≡ kept.older_len
  pub tables : s.tables ≡ map live_table (finmap.entries kept.version)
  pub merging : s.merging ≡ kept.merging
  pub outputs : s.outputs ≡ kept.outputs
  pub next : s.next ≡ kept.next
  pub manifest_len : s.manifest_len ≡ kept.manifest_len
