-- The edit that adds all tables of a version is one of a manifest.
use Rattle.std.specs.Prelude.{◌≡◌, ℕ, ◌+◌, ◌^◌, ◌<◌, ◌≤◌, List, [], ◌∷◌, ◌++◌, map, take, length, All, Contains, Some}
use Rattle.std.proofs.Common.{get_or, refl, sym, ap, subst, ◌∙◌, arith}
use Rattle.std.specs.FinMap as finmap
use Rattle.std.specs.List.Sorted.{IsStrictlySortedBy}
use Rattle.std.proofs.lemmas.List.{map-append, take_more, take_all}
use Rattle.std.proofs.lemmas.List.Elements.{All-nil, All-cons, All-append, All-weaker, Contains-get_or}
use Rattle.lsm_version.specs.declared.edits.Edit.{Edit}
use Rattle.lsm_version.specs.declared.tables.Add.{Add}
use Rattle.lsm_version.specs.declared.tables.Place.{Place}
use Rattle.lsm_version.specs.EditText.{edit_text, field_text}
use Rattle.lsm_version.specs.Edits.{IsPlace, IsTable}
use Rattle.lsm_version.specs.Levels.{Tables}
use Rattle.lsm_version.specs.Orders.{Stands, places_of, place_cmp}
use Rattle.lsm_version.proofs.PlaceOrders.{places_ascend, places_are_all}
use Rattle.lsm_manifest.specs.Texts.{IsTaken}
use Rattle.lsm_refine.specs.WholeEdits.{AreInRange, whole_edit, place_added, placed_by}
use Rattle.lsm_refine.proofs.WholeEditLemmas.{whole_fits}
use Rattle.lsm_opening.specs.Edits.{IsWholeEdit, IsAdded}

-- ---- the loop

-- the tables of these places were added
pub record AreAddedTo (tables : Tables) (places : List Place) (adds : List Add) : Type 0 where
  pub places_are : map place_added adds ≡ places
  pub each : All (λ (add : Add). finmap.get tables add.table.number ≡ Some (placed_by add)) adds

abbrev IsHere : Tables → Add → Type 0
IsHere tables add = finmap.get tables add.table.number ≡ Some (placed_by add)

pub added_none : (tables : Tables) (adds : List Add) → adds ≡ [] → AreAddedTo tables [] adds
added_none tables adds none = subst (AreAddedTo tables []) (sym none)
    (record { places_are = refl; each = All-nil (λ (add : Add). finmap.get tables add.table.number ≡ Some (placed_by add)) })

pub added_more : (tables : Tables) (places : List Place) (i : ℕ) (d : Place) (before after : List Add) → i < length places
    → AreAddedTo tables (take i places) before → IsAdded tables (get_or places i d) before after
    → AreAddedTo tables (take (i + 1) places) after
added_more tables places i d before after less were added =
    let both : map place_added (before ++ added.add ∷ []) ≡ take i places ++ get_or places i d ∷ [] =
    map-append place_added before (added.add ∷ []) ∙ ap (λ (l : List Place). l ++ place_added added.add ∷ []) were.places_are
    ∙ ap (λ (p : Place). take i places ++ p ∷ []) added.place_is in
    record {
      places_are = ap (map place_added) added.after_is ∙ both ∙ sym (take_more places i d less);
      each = subst (All (IsHere tables)) (sym added.after_is)
          (All-append (IsHere tables) before (added.add ∷ []) were.each
          (All-cons (IsHere tables) added.add [] added.there (All-nil (IsHere tables))));
    }

-- the places of a version in range are those of tables
pub stands_at : (tables : Tables) → AreInRange tables → (places : List Place) → places ≡ places_of tables → (i : ℕ)
    (d : Place)
    → i < length places → Stands tables (get_or places i d)
stands_at tables range places are i d less =
    (places_are_all tables (record { most = λ number placed there. (range.each number placed there).0.level_is })
    (get_or places i d)).0
    (subst (λ (l : List Place). Contains l (get_or places i d)) are (Contains-get_or places i d less))

pub all_added : (tables : Tables) (places : List Place) (i : ℕ) (adds : List Add) → places ≡ places_of tables
    → length places ≤ i
    → AreAddedTo tables (take i places) adds → (log next last : ℕ) → IsWholeEdit tables log next last
    (whole_edit adds log next last)
all_added tables places i adds are all were log next last = record {
  is = refl;
  all = record { places = were.places_are ∙ take_all i places all ∙ are; each = were.each };
}

-- ---- the edit

some_text : (adds : List Add) (log next last : ℕ) → 0 < length (edit_text (whole_edit adds log next last))
unfolding edit_text field_text
some_text adds log next last = omega arith

pub whole_taken : (tables : Tables) → AreInRange tables → (log next last : ℕ) → 1 ≤ log → log + 1 < 2 ^ 56 → 1 ≤ next
    → next < 2 ^ 56
    → last < 2 ^ 56 → (edit : Edit) → IsWholeEdit tables log next last edit → IsTaken edit
whole_taken tables range log next last least most some fits small edit whole =
    subst IsTaken (sym whole.is) (record {
      grammar = whole_fits edit.adds log next last (record { some = least; most = omega (arith, most) }) some fits small
          (All-weaker (IsHere tables) (λ (add : Add). IsPlace add.level add.table.number × IsTable add.table)
          (λ add is. let fine = range.each add.table.number (placed_by add) is in (fine.0, fine.1)) edit.adds whole.all.each)
          (subst (IsStrictlySortedBy place_cmp) (sym whole.all.places) (places_ascend tables));
      some = some_text edit.adds log next last;
    })
