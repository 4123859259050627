-- What a log's reader gives is what the log says in its folder.
use Rattle.std.specs.Prelude.{◌≡◌, ℕ, ◌+◌, ◌^◌, ◌<◌, ◌≤◌, Bool, true, false, cond, List, [], ◌∷◌, ◌++◌, length, All, Option, Some, None, Result, Ok, Err}
use Rattle.std.proofs.Common.{refl, sym, ap, ◌∙◌, arith, append_assoc}
use Rattle.std.proofs.lemmas.List.Elements.{All-head, All-tail}
use Rattle.std.proofs.lemmas.Option.{same_Some}
use Rattle.lsm_names.specs.declared.file_names.FileName.{FileName}
use Rattle.lsm_names.specs.declared.file_names.FileName.TheVariants.{Log}
use Rattle.lsm_rows.specs.declared.operations.Op.{Op}
use Rattle.lsm_rows.specs.Replay.{sequence_after}
use Rattle.lsm_frame.specs.declared.ending.Ending.TheVariants as ending
use Rattle.lsm_wal.specs.Batches.{Logged, IsLogged, in_sequence}
use Rattle.lsm_wal.specs.Reading.{At_end, At_no_batch, At_gap, IsReading, IsTrouble, open_end}
use Rattle.lsm_wal.specs.declared.why.WalWhy.{WalWhy}
use Rattle.lsm_wal.specs.declared.why.WalWhy.TheVariants as why
use Rattle.lsm_folder.specs.declared.refusals.Refusal.{Refusal}
use Rattle.lsm_folder.specs.declared.refusals.Refusal.TheVariants.{Malformed, Damaged, TornLog, Gap}
use Rattle.lsm_folder.specs.Logs.{log_of, not_torn, batches_of, before_batches}
use Rattle.lsm_folder.specs.Steps.{trouble_of}
use Rattle.lsm_folder.proofs.LogLemmas.{read_log}

-- ---- one log

module _ (is_last : Bool) (number expected : ℕ) (bytes : List ℕ) where
  abbrev pub this_log : Result (List (List Op)) Refusal
  this_log = batches_of is_last expected number (log_of bytes)

  not_hindered : (last : Bool) (name : FileName) (torn : Option ℕ) (batches : List (List Op)) → cond last None torn ≡ None
      → not_torn last name (open_end torn) batches ≡ Ok batches
  not_hindered last name None batches is = refl
  not_hindered true name (Some place) batches is = refl
  not_hindered false name (Some place) batches is = cc

  hindered : (last : Bool) (name : FileName) (torn : Option ℕ) (batches : List (List Op)) (place : ℕ)
      → cond last None torn ≡ Some place → not_torn last name (open_end torn) batches ≡ Err (TornLog name place)
  hindered true name torn batches place is = cc
  hindered false name None batches place is = cc
  hindered false name (Some at) batches place is = ap (λ (p : ℕ). Err (TornLog name p)) (same_Some at place is)

  pub log_taken : (batches : List (List Op)) (torn : Option ℕ) → IsReading expected bytes batches (At_end (open_end torn))
      → cond is_last None torn ≡ None → this_log ≡ Ok batches
  log_taken batches torn r none =
      read_log is_last number expected bytes batches (At_end (open_end torn)) r
      ∙ not_hindered is_last (Log number) torn batches none

  pub log_torn : (batches : List (List Op)) (torn : Option ℕ) (place : ℕ)
      → IsReading expected bytes batches (At_end (open_end torn)) → cond is_last None torn ≡ Some place
      → this_log ≡ Err (TornLog (Log number) place)
  log_torn batches torn place r is =
      read_log is_last number expected bytes batches (At_end (open_end torn)) r
      ∙ hindered is_last (Log number) torn batches place is

  pub log_trouble : (reason : WalWhy) (refusal : Refusal) → IsTrouble expected bytes reason
      → trouble_of (Log number) reason ≡ Some refusal → this_log ≡ Err refusal
  log_trouble why.ReadFault refusal trouble is = cc
  log_trouble (why.Damaged place kept found) refusal trouble is =
      read_log is_last number expected bytes trouble.0 (At_end (ending.Damaged place kept found)) trouble.1
      ∙ ap Err (same_Some (Damaged (Log number) place kept found) refusal is)
  log_trouble (why.Malformed place) refusal trouble is =
      read_log is_last number expected bytes trouble.0 (At_end (ending.Malformed place)) trouble.1
      ∙ ap Err (same_Some (Malformed (Log number) place) refusal is)
  log_trouble why.NoMemory refusal trouble is = cc
  log_trouble (why.BadBatch place) refusal trouble is =
      read_log is_last number expected bytes trouble.0 (At_no_batch place) trouble.1
      ∙ ap Err (same_Some (Malformed (Log number) place) refusal is)
  log_trouble (why.Gap kept found) refusal trouble is =
      read_log is_last number expected bytes trouble.0 (At_gap found) trouble.2
      ∙ ap (λ (k : ℕ). Err (Gap (Log number) k found)) (sym trouble.1)
      ∙ ap Err (same_Some (Gap (Log number) kept found) refusal is)

sequence_small : (expected : ℕ) (batches : List (List Op)) → expected ≤ 2 ^ 56 → All IsLogged (in_sequence expected batches)
    → sequence_after expected batches ≤ 2 ^ 56
sequence_small expected [] small each = small
sequence_small expected (ops ∷ batches) small each =
    let first : Logged = record { first = expected; ops = ops } in
    sequence_small (expected + length ops) batches
    (All-head IsLogged first (in_sequence (expected + length ops) batches) each).last
    (All-tail IsLogged first (in_sequence (expected + length ops) batches) each)

pub last_small : (expected last : ℕ) (bytes : List ℕ) (batches : List (List Op)) (torn : Option ℕ) → expected ≤ 2 ^ 56
    → last + 1 ≡ sequence_after expected batches → IsReading expected bytes batches (At_end (open_end torn)) → last < 2 ^ 56
last_small expected last bytes batches torn small is r = omega (arith, is, sequence_small expected batches small r.each)

-- ---- batches before those that are still to be read

pub none_before : (r : Result (List (List Op)) Refusal) → r ≡ before_batches [] r
none_before (Err refusal) = refl
none_before (Ok batches) = refl

pub before_both : (one two : List (List Op)) (rest : Result (List (List Op)) Refusal)
    → before_batches one (before_batches two rest) ≡ before_batches (one ++ two) rest
before_both one two (Err refusal) = refl
before_both one two (Ok more) = ap Ok (sym (append_assoc one two more))
