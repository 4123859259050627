-- A new store's edit, and the manifest that has it alone.
use Rattle.std.specs.Prelude.{◌≡◌, true, [], ◌∷◌, Some, Ok}
use Rattle.std.proofs.Common.{refl, ap, ◌∙◌, sym}
use Rattle.std.proofs.lemmas.List.Elements.{All-nil, All-cons}
use Rattle.std.specs.Ordering.{nat_cmp}
use Rattle.std.specs.Cmp.{nat_cmp_total}
use Rattle.std.specs.FinMap as finmap
use Rattle.lsm_names.specs.declared.file_names.FileName.{FileName}
use Rattle.lsm_version.specs.EditText.{fields_of, edit_text}
use Rattle.lsm_version.specs.Edits.{rank_of, start, IsEdit}
use Rattle.lsm_version.specs.Levels.{overlaps, overlaps_from}
use Rattle.lsm_version.specs.Versions.{empty_version, applied, changed, refused_by, version_after, numbers_after}
use Rattle.lsm_folder.specs.Edits.{edit_of, field_fits, comes_before, fields_fit}
use Rattle.lsm_folder.specs.Manifests.{manifest_text, first_edit, edits_said, tables_or_none, tables_after, log_after, last_after}
use Rattle.lsm_folder.specs.Parts.{AreEdits}
use Rattle.lsm_folder.proofs.EditLemmas.{edit_back, tested_fields}
use Rattle.lsm_folder.proofs.LiveLemmas.{same_entries}
use Rattle.lsm_folder.proofs.ManifestLemmas.{manifest_says, manifest_written}

-- ---- the edit

first_fits : fields_fit start (fields_of first_edit) ≡ true
unfolding field_fits comes_before rank_of
first_fits = refl

pub first_is : IsEdit first_edit
first_is = record { fields = tested_fields start (fields_of first_edit) first_fits }

-- its text is read back
pub edit_again : edit_of (edit_text first_edit) ≡ Some first_edit
edit_again = edit_back (edit_text first_edit) first_edit (record { is = refl; edit_is = first_is })

-- ---- what it comes to

-- a version without tables has no entries
pub no_entries : finmap.entries empty_version ≡ []
no_entries =
    ap finmap.entries
    (finmap.same_map nat_cmp_total finmap.nat_cmp-IsAntisymmetric empty_version (finmap.from_entries {R = nat_cmp} [])
    (λ number. finmap.get-empty nat_cmp number ∙ sym (finmap.get-from_entries nat_cmp_total [] number)))
    ∙ same_entries nat_cmp nat_cmp_total [] tt finmap.nat_cmp-IsAntisymmetric

no_overlaps : overlaps empty_version ≡ []
no_overlaps = ap (overlaps_from 6 1) no_entries

pub first_version : version_after (first_edit ∷ []) ≡ Ok empty_version
unfolding version_after applied changed
first_version = ap (refused_by empty_version) no_overlaps

pub first_tables : tables_after (first_edit ∷ []) ≡ empty_version
unfolding tables_after
first_tables = ap tables_or_none first_version

pub first_log : log_after (first_edit ∷ []) ≡ 2
unfolding log_after numbers_after
first_log = refl

pub first_last : last_after (first_edit ∷ []) ≡ 0
unfolding last_after numbers_after
first_last = refl

-- ---- the manifest

pub first_edits : AreEdits (first_edit ∷ [])
first_edits = record {
  first = refl;
  each = All-cons IsEdit first_edit [] first_is (All-nil IsEdit);
  taken = record { tables = empty_version; is = first_version };
}

-- a manifest with this edit alone says it
pub first_manifest : (name : FileName) → edits_said name (manifest_text (first_edit ∷ [])) ≡ Ok (first_edit ∷ [])
first_manifest name =
    manifest_says name (manifest_text (first_edit ∷ [])) (first_edit ∷ []) (manifest_written (first_edit ∷ []) first_edits)
