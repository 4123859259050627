-- How one log of a folder on a disk is answered.
use Rattle.std.specs.Prelude.{◌≡◌, ℕ, ◌+◌, ◌^◌, ◌<◌, Bool, cond, List, Option, Some, None, IfOk, OnOk, IfErr, Result, Ok, Err}
use Rattle.std.proofs.Common.{refl, sym, ap, subst, ◌∙◌, arith}
use Rattle.lsm_names.specs.declared.file_names.FileName.TheVariants.{Log}
use Rattle.lsm_rows.specs.declared.operations.Op.{Op}
use Rattle.lsm_rows.specs.declared.rows.Row.{Row}
use Rattle.lsm_rows.specs.Replay.{sequence_after}
use Rattle.lsm_disk.specs.Answers.{RefusesBy}
use Rattle.lsm_disk.specs.declared.calls.Halt.{Halt}
use Rattle.lsm_disk.specs.declared.calls.DiskRefusal.{DiskRefusal}
use Rattle.lsm_disk.specs.declared.calls.DiskError.{DiskError}
use Rattle.lsm_disk.specs.declared.calls.DiskError.TheVariants as disk
use Rattle.lsm_wal.specs.Reading.{IsReading, IsTrouble, At_end, open_end}
use Rattle.lsm_wal.specs.declared.why.WalWhy.{WalWhy}
use Rattle.lsm_wal.specs.declared.why.WalWhy.TheVariants as why
use Rattle.lsm_folder.specs.declared.refusals.Refusal.{Refusal}
use Rattle.lsm_folder.specs.declared.refusals.Refusal.TheVariants as refusal
use Rattle.lsm_folder.proofs.ReadLogLemmas.{this_log, log_taken, log_torn, log_trouble, last_small}
use Rattle.lsm_recover.specs.declared.errors.FolderError.{FolderError}
use Rattle.lsm_recover.specs.Answers.{IsRefusedBy}
use Rattle.lsm_recover.specs.Causes.{error_for, error_by, wal_error}
use Rattle.lsm_recover.specs.Logs.{AddsRows, AnswersLog, IsReplayed, IsNotTaken, hindering}
use Rattle.lsm_rows.proofs.Replaying.{sequence_next}
use Rattle.lsm_recover.proofs.DiskLemmas.{refused_call}

module _ (is_last : Bool) (number last : ℕ) (bytes : List ℕ) (small : last < 2 ^ 56) (batches : List (List Op)) (torn : Option ℕ) (found : ℕ) (before after : List Row) (reads : IsReading (last + 1) bytes batches (At_end (open_end torn)))
    (ends : found + 1 ≡ sequence_after (last + 1) batches) where
  fits : sequence_after last batches < 2 ^ 64
  fits =
      let end : found < 2 ^ 56 = last_small (last + 1) found bytes batches torn (omega (arith, small)) ends reads in
      omega (arith, end, ends, sequence_next last batches)

  taken : (next : ℕ) → hindering is_last torn ≡ None → AddsRows last batches before after → next ≡ found → IsReplayed (this_log is_last number (last + 1) bytes) last before after next
  taken next none adds is = record {
    batches = batches;
    is = log_taken is_last number (last + 1) bytes batches torn reads none;
    rows_are = adds fits;
    last_is = ap (λ (n : ℕ). n + 1) is ∙ ends;
    small = subst (λ (n : ℕ). n < 2 ^ 56) (sym is) (last_small (last + 1) found bytes batches torn (omega (arith, small)) ends reads);
  }

  hindered : (o : Option ℕ) (error : FolderError) → hindering is_last torn ≡ o → IsNotTaken (Log number) o error → IsRefusedBy (this_log is_last number (last + 1) bytes) error
  hindered None error is not = subst (λ (e : FolderError). IsRefusedBy (this_log is_last number (last + 1) bytes) e) (sym not) tt
  hindered (Some place) error is not = subst (λ (e : FolderError). IsRefusedBy (this_log is_last number (last + 1) bytes) e) (sym not) (log_torn is_last number (last + 1) bytes batches torn place reads is)

  pub log_answered : (result : Result ℕ FolderError) → IfOk result (λ (next : ℕ). (hindering is_last torn ≡ None) × (next ≡ found)) → OnOk result (AddsRows last batches before after) → IfErr result (IsNotTaken (Log number) (hindering is_last torn))
      → AnswersLog (Some bytes) (λ (text : List ℕ). this_log is_last number (last + 1) text) last before after result
  log_answered (Ok next) ok adds err = taken next ok.0 adds ok.1
  log_answered (Err error) ok adds err = hindered (hindering is_last torn) error refl err

-- a log that couldn't be opened
not_opened : (o : Option (List ℕ)) (read : List ℕ → Result (List (List Op)) Refusal) (last : ℕ) (before after : List Row) (missing : FolderError) (at : Halt) (reason : DiskError) (b : Bool)
    → RefusesBy (cond b None (Some disk.NotThere)) reason → (cond b None (Some disk.NotThere) ≡ Some disk.NotThere → o ≡ None) → AnswersLog o read last before after (Err (error_for missing at reason))
not_opened None read last before after missing at reason b refused none = tt
not_opened (Some text) read last before after missing at reason b refused none = refused_call (read text) missing at reason b refused (λ is. let clash : Some text ≡ None = none is in absurd (cc))

pub log_not_opened : (o : Option (List ℕ)) (read : List ℕ → Result (List (List Op)) Refusal) (last : ℕ) (rows : List Row) (missing : FolderError) (r : DiskRefusal) (b : Bool) (error : FolderError) → error ≡ error_by missing r
    → RefusesBy (cond b None (Some disk.NotThere)) r.why → (cond b None (Some disk.NotThere) ≡ Some disk.NotThere → o ≡ None) → AnswersLog o read last rows rows (Err error)
log_not_opened o read last rows missing r b error is refused none = subst (λ (e : FolderError). AnswersLog o read last rows rows (Err e)) (sym is) (not_opened o read last rows rows missing r.at r.why b refused none)

-- a log that is there is answered by its bytes
pub log_there : (o : Option (List ℕ)) (read : List ℕ → Result (List (List Op)) Refusal) {bytes : List ℕ} → o ≡ Some bytes → (last : ℕ) (before after : List Row) (result : Result ℕ FolderError)
    → AnswersLog (Some bytes) read last before after result → AnswersLog o read last before after result
log_there o read is last before after result says = subst (λ (x : Option (List ℕ)). AnswersLog x read last before after result) (sym is) says

-- ---- a log's trouble

wal_refused : (is_last : Bool) (number expected : ℕ) (bytes : List ℕ) (reason : WalWhy) → IsTrouble expected bytes reason → IsRefusedBy (this_log is_last number expected bytes) (wal_error (Log number) reason)
wal_refused is_last number expected bytes why.ReadFault trouble = tt
wal_refused is_last number expected bytes (why.Damaged place kept found) trouble = log_trouble is_last number expected bytes (why.Damaged place kept found) (refusal.Damaged (Log number) place kept found) trouble refl
wal_refused is_last number expected bytes (why.Malformed place) trouble = log_trouble is_last number expected bytes (why.Malformed place) (refusal.Malformed (Log number) place) trouble refl
wal_refused is_last number expected bytes why.NoMemory trouble = tt
wal_refused is_last number expected bytes (why.BadBatch place) trouble = log_trouble is_last number expected bytes (why.BadBatch place) (refusal.Malformed (Log number) place) trouble refl
wal_refused is_last number expected bytes (why.Gap kept found) trouble = log_trouble is_last number expected bytes (why.Gap kept found) (refusal.Gap (Log number) kept found) trouble refl

pub log_refused : (is_last : Bool) (number expected : ℕ) (bytes : List ℕ) (reason : WalWhy) (error : FolderError) → error ≡ wal_error (Log number) reason → IsTrouble expected bytes reason → IsRefusedBy (this_log is_last number expected bytes) error
log_refused is_last number expected bytes reason error is trouble = subst (IsRefusedBy (this_log is_last number expected bytes)) (sym is) (wal_refused is_last number expected bytes reason trouble)
