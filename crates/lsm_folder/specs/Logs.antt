-- What the logs of a folder say: their batches, each log from its start on, the logs by their numbers.
use Rattle.std.specs.Prelude.{ℕ, ◌+◌, Bool, ◌==◌, nat_le, if◌then◌else◌, List, [], ◌∷◌, ◌++◌, map, length, Option, Some, None, Result, Ok, Err}
use Rattle.std.specs.List.{filter_map}
use Rattle.std.specs.Ordering.{nat_cmp}
use Rattle.std.specs.FinMap as finmap
use Rattle.lsm_names.specs.declared.file_names.FileName.{FileName}
use Rattle.lsm_names.specs.declared.file_names.FileName.TheVariants.{Log}
use Rattle.lsm_rows.specs.declared.operations.Op.{Op}
use Rattle.lsm_rows.specs.Replay.{sequence_after}
use Rattle.lsm_frame.specs.Records.{records_of}
use Rattle.lsm_frame.specs.declared.ending.Ending.{Ending}
use Rattle.lsm_frame.specs.declared.ending.Ending.TheVariants as ending
use Rattle.lsm_wal.specs.Batches.{Logged}
use Rattle.lsm_wal.specs.Reading.{Stop, At_end, At_no_batch, At_gap}
use Rattle.lsm_folder.specs.declared.refusals.Refusal.{Refusal}
use Rattle.lsm_folder.specs.declared.refusals.Refusal.TheVariants.{Malformed, TornLog, Gap}
use Rattle.lsm_folder.specs.Batches.{batch_of}
use Rattle.lsm_folder.specs.Files.{Item, A_file, Files}
use Rattle.lsm_folder.specs.Steps.{◌>>=◌, read_to_end}

-- ---- one log's text

-- what a log's text says: its batches, and what ends them
pub record LogText : Type 0 where
  pub batches : List Logged
  pub ends : Ending

-- a batch before those behind it; a record that is none ends the batches as a malformed piece does
abbrev pub with_batch : ℕ → Option Logged → LogText → LogText
with_batch place None rest = record { batches = []; ends = ending.Malformed place }
with_batch place (Some batch) rest = record { batches = batch ∷ rest.batches; ends = rest.ends }

-- the batches that records are
abbrev pub batches_in : List (ℕ × List ℕ) → Ending → LogText
batches_in [] end = record { batches = []; ends = end }
batches_in (r ∷ rs) end = with_batch r.0 (batch_of r.1) (batches_in rs end)

-- what the bytes of a log say
unfoldable pub log_of : List ℕ → LogText
log_of bytes = batches_in (records_of bytes).0 (records_of bytes).1

-- ---- which logs there are

-- the number and the bytes of a log from this number on
abbrev pub live_log : ℕ → FileName × Item → Option (ℕ × List ℕ)
live_log least (Log number, A_file bytes) = if nat_le least number then Some (number, bytes) else None
live_log least (name, item) = None

-- the logs of a folder from this number on, by their numbers
abbrev pub live_logs : ℕ → Files → List (ℕ × List ℕ)
live_logs least files = filter_map (live_log least) (finmap.entries files)

-- a log's number, and what its bytes say
abbrev pub said : ℕ × List ℕ → ℕ × LogText
said log = (log.0, log_of log.1)

-- what the logs from a number on say
unfoldable pub logs_of : ℕ → Files → finmap.FinMap nat_cmp LogText
logs_of least files = finmap.from_entries (map said (live_logs least files))

-- ---- their batches

-- batches whose first one has the expected sequence, and each other the one behind those before it
abbrev pub follow_on : FileName → ℕ → List Logged → Result (List (List Op)) Refusal
follow_on name expected [] = Ok []
follow_on name expected (batch ∷ batches) = if batch.first == expected
    then (follow_on name (expected + length batch.ops) batches >>= λ (more : List (List Op)). Ok (batch.ops ∷ more))
    else Err (Gap name expected batch.first)

-- a torn end is left out of the last log alone
abbrev pub not_torn : Bool → FileName → Ending → List (List Op) → Result (List (List Op)) Refusal
not_torn is_last name (ending.Torn place) batches = if is_last then Ok batches else Err (TornLog name place)
not_torn is_last name end batches = read_to_end name end batches

-- the batches of one log, of which the first has the expected sequence
unfoldable pub batches_of : Bool → ℕ → ℕ → LogText → Result (List (List Op)) Refusal
batches_of is_last expected number log = do
  batches ← follow_on (Log number) expected log.batches
  not_torn is_last (Log number) log.ends batches

abbrev pub is_empty : {A : Type 0} → List A → Bool
is_empty xs = length xs == 0

-- the batches of all logs, each log going on behind the one before it
abbrev pub all_batches : ℕ → List (ℕ × LogText) → Result (List (List Op)) Refusal
all_batches expected [] = Ok []
all_batches expected (log ∷ logs) = do
  batches ← batches_of (is_empty logs) expected log.0 log.1
  more ← all_batches (sequence_after expected batches) logs
  Ok (batches ++ more)

-- what becomes of a log by how it was read: its batches, where it ends so that they are taken, or the refusal
abbrev pub outcome : Bool → FileName → ℕ → List (List Op) → Stop → Result (List (List Op)) Refusal
outcome is_last name expected batches (At_end ends) = not_torn is_last name ends batches
outcome is_last name expected batches (At_no_batch place) = Err (Malformed name place)
outcome is_last name expected batches (At_gap found) = Err (Gap name (sequence_after expected batches) found)

-- batches before those that are still to be read
abbrev pub before_batches : List (List Op) → Result (List (List Op)) Refusal → Result (List (List Op)) Refusal
before_batches batches rest = rest >>= λ (more : List (List Op)). Ok (batches ++ more)
