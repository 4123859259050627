-- What the texts of logs read to.
use Rattle.std.specs.Prelude.{◌≡◌, ℕ, List, length, take, map, All, Option, Some, None}
use Rattle.std.proofs.Common.{refl, sym, ap, subst, ◌∙◌, arith}
use Rattle.std.proofs.lemmas.List.{take_all, length-map, take-map}
use Rattle.std.proofs.lemmas.List.Elements.{All-take}
use Rattle.lsm_rows.specs.declared.operations.Op.{Op}
use Rattle.lsm_frame.specs.declared.ending.Ending.{Ending}
use Rattle.lsm_frame.specs.Records.{records_of, front, end_of}
use Rattle.lsm_frame.specs.Growth.{IsOpen}
use Rattle.lsm_frame.specs.declared.ending.Ending.TheVariants.{End, Torn, Damaged, Malformed}
use Rattle.lsm_frame.proofs.Appended.{front_log}
use Rattle.lsm_disk.specs.State.{State}
use Rattle.lsm_disk.specs.Images.{Tree}
use Rattle.lsm_wal.specs.Batches.{text_of, IsLogged, in_sequence, wal_text}
use Rattle.lsm_wal.specs.Standing.{HoldsFront}
use Rattle.lsm_wal.specs.Reading.{At_end, IsReading, ReadsToFront, open_end}
use Rattle.lsm_wal.proofs.Texts.{sequence_take, sequence_length}

-- a text whose records are just these batches
all_read : (expected : ℕ) (text : List ℕ) (batches : List (List Op)) (ending : Ending) → front text ≡ map text_of (in_sequence expected batches) → All IsLogged (in_sequence expected batches) → end_of text ≡ ending → IsReading expected text batches (At_end ending)
all_read expected text batches ending is each end =
    let many : length (front text) ≡ length batches = ap length is ∙ length-map (in_sequence expected batches) text_of ∙ sequence_length expected batches in
    record {
      texts = take_all (length batches) (front text) (omega (arith, many)) ∙ is;
      each = each;
      stops = record { records = sym (length-map (records_of text).0 (λ (r : ℕ × List ℕ). r.1)) ∙ many; end = end };
    }

pub whole_reads : (expected : ℕ) (batches : List (List Op)) → All IsLogged (in_sequence expected batches) → IsReading expected (wal_text (in_sequence expected batches)) batches (At_end (open_end None))
whole_reads expected batches each =
    let read = front_log (map text_of (in_sequence expected batches)) in
    all_read expected (wal_text (in_sequence expected batches)) batches End read.0 each read.1

-- an open end is none, or a torn record
pub as_open : (ending : Ending) → IsOpen ending → (torn : Option ℕ) × (ending ≡ open_end torn)
as_open End open_ = (None, refl)
as_open (Torn place) open_ = (Some place, refl)
as_open (Damaged place kept found) open_ = absurd open_
as_open (Malformed place) open_ = absurd open_

pub image_reads : (expected : ℕ) (path : List ℕ) (batches : List (List Op)) (durable : ℕ) (s : State) (t : Tree) → All IsLogged (in_sequence expected batches)
    → (held : HoldsFront path (in_sequence expected batches) durable s t) → ReadsToFront expected batches durable held.bytes
image_reads expected path batches durable s t each held =
    let end = as_open (end_of held.bytes) held.ends in
    let is : front held.bytes ≡ map text_of (in_sequence expected (take held.batches_are.count batches)) =
    held.batches_are.is ∙ take-map text_of held.batches_are.count (in_sequence expected batches) ∙ ap (map text_of) (sequence_take held.batches_are.count expected batches) in
    record {
      read = take held.batches_are.count batches;
      torn = end.0;
      front_of = record { count = held.batches_are.count; enough = held.batches_are.enough; is = refl };
      reading = all_read expected held.bytes (take held.batches_are.count batches) (open_end end.0) is
          (subst (All IsLogged) (sequence_take held.batches_are.count expected batches) (All-take IsLogged held.batches_are.count (in_sequence expected batches) each)) end.1;
    }
