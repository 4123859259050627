-- What an edit makes of a version, by its drops, its adds and the test of the levels.
use Rattle.std.specs.Prelude.{◌≡◌, List, [], Option, Some, None, Ok, Err}
use Rattle.std.proofs.Common.{refl, sym, ap, ◌∙◌}
use Rattle.std.specs.List.{fold}
use Rattle.lsm_version.specs.declared.edits.Edit.{Edit}
use Rattle.lsm_version.specs.declared.tables.Add.{Add}
use Rattle.lsm_version.specs.declared.tables.Place.{Place}
use Rattle.lsm_version.specs.declared.refusals.ApplyError.{ApplyError}
use Rattle.lsm_version.specs.declared.refusals.ApplyError.TheVariants.{BadEdit}
use Rattle.lsm_version.specs.Levels.{Tables, overlaps}
use Rattle.lsm_version.specs.Versions.{dropped, added, changed, leveled, refused_by, applied}
use Rattle.lsm_version.proofs.Overlaps.{fold_none}
use Rattle.lsm_version.proofs.TableMaps.{added_none}

applied_is : (tables : Tables) (edit : Edit) → applied tables edit ≡ leveled (fold added (fold dropped (Some tables) edit.drops) edit.adds)
unfolding applied changed
applied_is tables edit = refl

-- the copy of the version, the edit's lists as they were read, and what the drops and the adds left
module _ (tables start : Tables) (edit : Edit) (drops : List Place) (adds : List Add) (same : start ≡ tables) (drops_are : drops ≡ edit.drops) (adds_are : adds ≡ edit.adds) where
  all : (mid last : Option Tables) → fold dropped (Some start) drops ≡ mid → fold added mid adds ≡ last → applied tables edit ≡ leveled last
  all mid last after_drops after_adds =
      applied_is tables edit
      ∙ (λ i. leveled (fold added (fold dropped (Some (sym same i)) (sym drops_are i)) (sym adds_are i)))
      ∙ (λ i. leveled (fold added (after_drops i) adds)) ∙ ap leveled after_adds

  pub drop_refused : fold dropped (Some start) drops ≡ None → applied tables edit ≡ Err (BadEdit 0)
  drop_refused refused = all None None refused (fold_none added added_none adds)

  module _ (mid : Tables) (after_drops : fold dropped (Some start) drops ≡ Some mid) where
    pub add_refused : fold added (Some mid) adds ≡ None → applied tables edit ≡ Err (BadEdit 0)
    add_refused refused = all (Some mid) None after_drops refused

    module _ (last : Tables) (after_adds : fold added (Some mid) adds ≡ Some last) where
      pub levels_refused : (e : ApplyError) → refused_by last (overlaps last) ≡ Err e → applied tables edit ≡ Err e
      levels_refused e is = all (Some mid) (Some last) after_drops after_adds ∙ is

      pub all_applied : overlaps last ≡ [] → applied tables edit ≡ Ok last
      all_applied none = all (Some mid) (Some last) after_drops after_adds ∙ ap (refused_by last) none
