-- The text of a log, as it grows by a batch.
use Rattle.std.specs.Prelude.{◌≡◌, ℕ, zero, suc, ◌+◌, ◌<◌, List, [], ◌∷◌, ◌++◌, length, take, map}
use Rattle.std.proofs.Common.{refl, ap, ◌∙◌, arith, length-append}
use Rattle.std.proofs.lemmas.List.{map-append}
use Rattle.std.proofs.lemmas.List.Sums.{fold_push}
use Rattle.std.specs.Int.{w32, w64, to_le_bytes}
use Rattle.std.specs.List.{flat_map}
use Rattle.lsm_rows.specs.declared.operations.Op.{Op}
use Rattle.lsm_rows.specs.BatchText.{op_text, batch_text}
use Rattle.lsm_frame.specs.Frames.{with_record, log_text}
use Rattle.lsm_rows.specs.Replay.{sequence_after}
use Rattle.lsm_wal.specs.Batches.{Logged, text_of, wal_text, record_behind, in_sequence}

-- a batch's text has some bytes
pub text_some : (first : ℕ) (ops : List Op) → 0 < length (batch_text first ops)
unfolding batch_text
text_some first ops = omega (arith, length-append (to_le_bytes w64 first) (to_le_bytes w32 (length ops)), length-append (to_le_bytes w64 first ++ to_le_bytes w32 (length ops)) (flat_map op_text ops))

-- a log of one batch more is the log, and behind it the record
pub text_push : (batches : List Logged) (next : Logged) → wal_text (batches ++ next ∷ []) ≡ wal_text batches ++ record_behind batches next
text_push batches next = ap log_text (map-append text_of batches (next ∷ [])) ∙ fold_push with_record [] (map text_of batches) (text_of next)

-- a batch behind the last one continues the sequence
pub sequence_push : (first : ℕ) (batches : List (List Op)) (ops : List Op) → in_sequence first (batches ++ ops ∷ []) ≡ in_sequence first batches ++ record { first = sequence_after first batches; ops = ops } ∷ []
sequence_push first [] ops = refl
sequence_push first (batch ∷ batches) ops = ap (λ (rest : List Logged). record { first = first; ops = batch } ∷ rest) (sequence_push (first + length batch) batches ops)

-- the first so many batches in sequence
pub sequence_take : (n : ℕ) (first : ℕ) (batches : List (List Op)) → take n (in_sequence first batches) ≡ in_sequence first (take n batches)
sequence_take zero first batches = refl
sequence_take (suc n) first [] = refl
sequence_take (suc n) first (batch ∷ batches) = ap (λ (rest : List Logged). record { first = first; ops = batch } ∷ rest) (sequence_take n (first + length batch) batches)

pub sequence_length : (first : ℕ) (batches : List (List Op)) → length (in_sequence first batches) ≡ length batches
sequence_length first [] = refl
sequence_length first (batch ∷ batches) = ap suc (sequence_length (first + length batch) batches)
