-- The text of a manifest, as it grows by an edit.
use Rattle.std.specs.Prelude.{◌≡◌, List, [], ◌∷◌, ◌++◌, map}
use Rattle.std.proofs.Common.{ap, ◌∙◌}
use Rattle.std.proofs.lemmas.List.{map-append}
use Rattle.std.proofs.lemmas.List.Sums.{fold_push}
use Rattle.lsm_frame.specs.Frames.{with_record, log_text}
use Rattle.lsm_version.specs.declared.edits.Edit.{Edit}
use Rattle.lsm_version.specs.EditText.{edit_text}
use Rattle.lsm_manifest.specs.Texts.{manifest_text, record_behind}

-- the records of one edit more
pub texts_push : (edits : List Edit) (next : Edit) → map edit_text (edits ++ next ∷ []) ≡ map edit_text edits ++ edit_text next ∷ []
texts_push edits next = map-append edit_text edits (next ∷ [])

-- a manifest of one edit more is the manifest, and behind it the record
pub text_push : (edits : List Edit) (next : Edit) → manifest_text (edits ++ next ∷ []) ≡ manifest_text edits ++ record_behind edits next
text_push edits next = ap log_text (texts_push edits next) ∙ fold_push with_record [] (map edit_text edits) (edit_text next)
