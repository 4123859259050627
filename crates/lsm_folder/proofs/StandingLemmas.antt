-- What stands for its log's batches: a folder with one log, whole or cut, and a new store's, which is empty.
use Rattle.std.specs.Prelude.{◌≡◌, ℕ, ◌≤◌, true, List, [], ◌++◌, length, take, drop, map, All, Option, Some, None, Result, Ok}
use Rattle.std.proofs.Common.{refl, sym, ap, subst, ◌∙◌, arith, length-append}
use Rattle.std.proofs.lemmas.List.{take_all, length-map, take-map, map-append, take-append-drop, length-take}
use Rattle.std.proofs.lemmas.List.Elements.{All-nil, All-take}
use Rattle.std.specs.FinMap as finmap
use Rattle.lsm_names.specs.declared.file_names.FileName.TheVariants.{Log}
use Rattle.lsm_rows.specs.declared.operations.Op.{Op}
use Rattle.lsm_rows.specs.Replay.{replayed, sequence_after}
use Rattle.lsm_frame.specs.Begins.{Begins}
use Rattle.lsm_frame.specs.Frames.{log_text}
use Rattle.lsm_frame.specs.Records.{records_of, front, end_of}
use Rattle.lsm_frame.proofs.Crash.{log_cut, log_cut_count, log_keeps}
use Rattle.lsm_wal.specs.Batches.{Logged, text_of, IsLogged, wal_text, in_sequence}
use Rattle.lsm_wal.specs.Reading.{At_end, IsReading, open_end, ReadsToFront}
use Rattle.lsm_wal.proofs.Texts.{sequence_take, sequence_length}
use Rattle.lsm_wal.proofs.Fronts.{whole_reads, as_open}
use Rattle.lsm_folder.specs.declared.refusals.Refusal.{Refusal}
use Rattle.lsm_folder.specs.Files.{Files}
use Rattle.lsm_folder.specs.Logs.{outcome}
use Rattle.lsm_folder.specs.Reading.{shown_by}
use Rattle.lsm_folder.specs.Steps.{◌>>=◌}
use Rattle.lsm_folder.specs.Needed.{HasOneLog, Stands, IsPrefixShown}
use Rattle.lsm_folder.proofs.NoTableLemmas.{lawful}
use Rattle.lsm_folder.proofs.OneLogLemmas.{one_log_reads, has_no_tables}

-- ---- one log

open_outcome : (torn : Option ℕ) (batches : List (List Op))
    → outcome true (Log 2) 1 batches (At_end (open_end torn)) ≡ Ok batches
open_outcome None batches = refl
open_outcome (Some place) batches = refl

module _ (files : Files) (text : List ℕ) (has : HasOneLog files text) where
  -- a log that is read to its end, or to a torn one, stands for its batches
  pub stands_for : (accepted : List (List Op)) (torn : Option ℕ) → IsReading 1 text accepted (At_end (open_end torn))
      → Stands files (replayed finmap.empty accepted) (sequence_after 0 accepted)
  stands_for accepted torn is = record {
    read =
        one_log_reads files text has accepted (At_end (open_end torn)) is
        ∙ ap (λ (r : Result (List (List Op)) Refusal). r >>= shown_by) (open_outcome torn accepted);
    lawful = lawful files (has_no_tables files text has);
  }

pub front_stands : (files : Files) (text : List ℕ) (accepted : List (List Op)) (durable : ℕ) → HasOneLog files text
    → (front : ReadsToFront 1 accepted durable text)
    → Stands files (replayed finmap.empty front.read) (sequence_after 0 front.read)
front_stands files text accepted durable has front = stands_for files text has front.read front.torn front.reading

-- an empty log stands for nothing
pub new_stands : (files : Files) → HasOneLog files [] → Stands files finmap.empty 0
new_stands files has = stands_for files [] has [] None (whole_reads 1 [] (All-nil IsLogged))

-- ---- a log that is cut

module _ (accepted : List (List Op)) (n : ℕ) where
  abbrev logged : List Logged
  logged = in_sequence 1 accepted

  abbrev cut : List ℕ
  cut = take n (wal_text logged)

  abbrev count : ℕ
  count = length (front cut)

  parts : (durable : ℕ) → map text_of (take durable logged) ++ map text_of (drop durable logged) ≡ map text_of logged
  parts durable =
      sym (map-append text_of (take durable logged) (drop durable logged)) ∙ ap (map text_of) (take-append-drop durable logged)

  enough : (durable : ℕ) → durable ≤ length accepted → length (wal_text (take durable logged)) ≤ n → durable ≤ count
  enough durable within long =
      let records : List (List ℕ) = map text_of (take durable logged) in
      let keeps : Begins records (front (take n (log_text (records ++ map text_of (drop durable logged))))) =
      log_keeps records (map text_of (drop durable logged)) n long in
      let is : front cut ≡ records ++ keeps.rest =
      ap (λ (rs : List (List ℕ)). front (take n (log_text rs))) (sym (parts durable)) ∙ keeps.is in
      let many : length records ≡ durable =
      length-map (take durable logged) text_of ∙ length-take durable logged
      ∙ omega (arith, within, sequence_length 1 accepted) in
      omega (arith, ap length is, length-append records keeps.rest, many)

  texts_are : front cut ≡ map text_of (in_sequence 1 (take count accepted))
  texts_are =
      log_cut_count (map text_of logged) n ∙ take-map text_of count logged ∙ ap (map text_of) (sequence_take count 1 accepted)

  cut_reads : All IsLogged logged
      → IsReading 1 cut (take count accepted) (At_end (open_end (as_open (end_of cut) (log_cut (map text_of logged) n).1).0))
  cut_reads each =
      let many : length (front cut) ≡ length (take count accepted) =
      ap length texts_are ∙ length-map (in_sequence 1 (take count accepted)) text_of
      ∙ sequence_length 1 (take count accepted) in
      record {
        texts = take_all (length (take count accepted)) (front cut) (omega (arith, many)) ∙ texts_are;
        each = subst (All IsLogged) (sequence_take count 1 accepted) (All-take IsLogged count logged each);
        stops = record { records = sym (length-map (records_of cut).0 (λ (r : ℕ × List ℕ). r.1)) ∙ many; end = (as_open (end_of cut) (log_cut (map text_of logged) n).1).1 };
      }

  -- so the folder stands for the batches that lie within the cut
  pub cut_stands : (files : Files) → All IsLogged logged → HasOneLog files cut
      → Stands files (replayed finmap.empty (take count accepted)) (sequence_after 0 (take count accepted))
  cut_stands files each has =
      stands_for files cut has (take count accepted) (as_open (end_of cut) (log_cut (map text_of logged) n).1).0
      (cut_reads each)

-- the batches within a cut, and at least those whose whole text lies there
pub cut_shows : (files : Files) (accepted : List (List Op)) (n : ℕ) → All IsLogged (in_sequence 1 accepted)
    → HasOneLog files (take n (wal_text (in_sequence 1 accepted))) → IsPrefixShown files accepted n
cut_shows files accepted n each has =
    record { count = count accepted n; stands = cut_stands accepted n files each has; enough = enough accepted n }
