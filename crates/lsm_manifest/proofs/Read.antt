-- What the texts of manifests read to.
use Rattle.std.specs.Prelude.{◌≡◌, ℕ, List, [], ◌∷◌, ◌++◌, length, map, All, None}
use Rattle.std.proofs.Common.{⊎_elim, inl, inr, sym, ap, ◌∙◌, arith}
use Rattle.std.proofs.lemmas.List.{take_all, length-map}
use Rattle.std.proofs.lemmas.List.Elements.{All-push}
use Rattle.lsm_frame.specs.declared.ending.Ending.{Ending}
use Rattle.lsm_frame.specs.declared.ending.Ending.TheVariants.{End}
use Rattle.lsm_frame.specs.Records.{records_of, front, end_of}
use Rattle.lsm_frame.proofs.Appended.{front_log}
use Rattle.lsm_wal.specs.Reading.{open_end}
use Rattle.lsm_version.specs.declared.edits.Edit.{Edit}
use Rattle.lsm_version.specs.EditText.{edit_text}
use Rattle.lsm_version.specs.Edits.{IsEdit}
use Rattle.lsm_manifest.specs.Texts.{manifest_text}
use Rattle.lsm_manifest.specs.Standing.{ReadsEither}
use Rattle.lsm_manifest.specs.Reading.{At_end, IsReading, ReadsToEither}
use Rattle.lsm_wal.proofs.Fronts.{as_open}

-- a text whose records are just these edits
all_read : (text : List ℕ) (edits : List Edit) (ending : Ending) → front text ≡ map edit_text edits → All IsEdit edits
    → end_of text ≡ ending → IsReading text edits (At_end ending)
all_read text edits ending is each end =
    let many : length (front text) ≡ length edits = ap length is ∙ length-map edits edit_text in
    record {
      texts = take_all (length edits) (front text) (omega (arith, many)) ∙ is;
      each = each;
      stops = record { records = sym (length-map (records_of text).0 (λ (r : ℕ × List ℕ). r.1)) ∙ many; end = end };
    }

pub whole_reads : (edits : List Edit) → All IsEdit edits → IsReading (manifest_text edits) edits (At_end (open_end None))
whole_reads edits each =
    let read = front_log (map edit_text edits) in
    all_read (manifest_text edits) edits End read.0 each read.1

pub either_reads : (edits : List Edit) (next : Edit) (text : List ℕ) → All IsEdit edits → IsEdit next
    → ReadsEither edits next text → ReadsToEither edits next text
either_reads edits next text each taken reads =
    let end = as_open (end_of text) reads.ends in
    record {
      torn = end.0;
      reads = ⊎_elim
          (λ is. inl (all_read text edits (open_end end.0) is each end.1))
          (λ is. inr (all_read text (edits ++ next ∷ []) (open_end end.0) is (All-push IsEdit edits next each taken) end.1))
          reads.edits_are;
    }
