-- What a crash leaves of a log.
use Rattle.std.proofs.Common.{◌≡◌, refl, ℕ, ◌-◌, ◌%◌, ◌≤◌, List, [], ◌∷◌, ◌++◌, length, take, drop, ap, sym, ◌∙◌, arith}
use Rattle.std.specs.List.{fold}
use Rattle.std.proofs.lemmas.List.{take_at, append_assoc, take-append-drop}
use Rattle.std.proofs.lemmas.Grind.{fold-append}
use Rattle.std.proofs.Math.Seq.{take-append-add}
use Rattle.lsm_frame.specs.Frames.{record_text, with_record, log_text}
use Rattle.lsm_frame.specs.Records.{front, end_of}
use Rattle.lsm_frame.specs.Growth.{IsOpen}
use Rattle.lsm_frame.specs.Begins.{Begins}
use Rattle.lsm_frame.proofs.Beginnings.{begins_same}
use Rattle.lsm_frame.proofs.Fronts.{front_grows, cut_open, front_cut}
use Rattle.lsm_frame.proofs.Appended.{front_log}

-- whatever stands behind a log, its records are read
pub log_read : (records : List (List ℕ)) (text : List ℕ) → Begins (log_text records) text → Begins records (front text)
log_read records text b =
    let g = front_grows (log_text records) b.rest in
    record { rest = g.rest; is = ap (λ (l : List ℕ). front l) b.is ∙ g.is ∙ ap (λ (l : List (List ℕ)). l ++ g.rest) (front_log records).0 }

-- a log cut anywhere
pub log_cut : (records : List (List ℕ)) (n : ℕ) → Begins (front (take n (log_text records))) records × IsOpen (end_of (take n (log_text records)))
log_cut records n =
    let b = front_cut (log_text records) n in
    (record { rest = b.rest; is = sym (front_log records).0 ∙ b.is }, cut_open (log_text records) n (front_log records).1)

fold_begins : (records : List (List ℕ)) (text : List ℕ) → Begins text (fold with_record text records)
fold_begins [] text = begins_same text
fold_begins (r ∷ records) text =
    let b = fold_begins records (with_record text r) in
    record { rest = record_text (length text % 32768) r ++ b.rest; is = b.is ∙ append_assoc text (record_text (length text % 32768) r) b.rest }

pub log_begins : (first last : List (List ℕ)) → Begins (log_text first) (log_text (first ++ last))
log_begins first last =
    let b = fold_begins last (log_text first) in
    record { rest = b.rest; is = fold-append with_record [] first last ∙ b.is }

begins_cut : (a whole : List ℕ) (n : ℕ) → Begins a whole → length a ≤ n → Begins a (take n whole)
begins_cut a whole n b le =
    record { rest = take (n - length a) b.rest; is = ap (λ (l : List ℕ). take n l) b.is ∙ ap (λ (k : ℕ). take k (a ++ b.rest)) (omega arith) ∙ take-append-add a b.rest (n - length a) }

-- and it keeps at least the records whose text lies within the cut
pub log_keeps : (first last : List (List ℕ)) (n : ℕ) → length (log_text first) ≤ n → Begins first (front (take n (log_text (first ++ last))))
log_keeps first last n le = log_read first (take n (log_text (first ++ last))) (begins_cut (log_text first) (log_text (first ++ last)) n (log_begins first last) le)

-- two texts that agree on a log's bytes
pub log_agrees : (records : List (List ℕ)) (text : List ℕ) → take (length (log_text records)) text ≡ log_text records → Begins records (front text)
log_agrees records text e = log_read records text (record { rest = drop (length (log_text records)) text; is = sym (take-append-drop (length (log_text records)) text) ∙ ap (λ (l : List ℕ). l ++ drop (length (log_text records)) text) e })

-- as a number of records
pub log_cut_count : (records : List (List ℕ)) (n : ℕ) → front (take n (log_text records)) ≡ take (length (front (take n (log_text records)))) records
log_cut_count records n =
    let b = (log_cut records n).0 in
    sym (ap (λ (l : List (List ℕ)). take (length (front (take n (log_text records)))) l) b.is ∙ take_at (front (take n (log_text records))) b.rest (length (front (take n (log_text records)))) refl)
