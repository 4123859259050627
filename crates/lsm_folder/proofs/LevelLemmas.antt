-- The tables of a version that edits make stand at the seven levels.
use Rattle.std.specs.Prelude.{◌≡◌, ℕ, ◌≤◌, Bool, true, false, cond, List, [], ◌∷◌, ◌++◌, map, All, Option, Some, None, Result, Ok, Err, if◌then◌else◌}
use Rattle.std.proofs.Common.{sym, subst, ◌∙◌}
use Rattle.std.proofs.lemmas.List.{append_assoc}
use Rattle.std.proofs.lemmas.List.Elements.{All-nil, All-cons, All-head, All-tail}
use Rattle.std.proofs.lemmas.Cmp.{nat_cmp_total}
use Rattle.std.specs.List.{fold}
use Rattle.std.specs.Ordering.{nat_cmp, eq_by_cmp}
use Rattle.std.specs.FinMap as finite
use Rattle.lsm_version.specs.declared.tables.Add.{Add}
use Rattle.lsm_version.specs.declared.tables.Place.{Place}
use Rattle.lsm_version.specs.declared.tables.Placed.{Placed}
use Rattle.lsm_version.specs.declared.edits.Edit.{Edit}
use Rattle.lsm_version.specs.declared.refusals.ApplyError.{ApplyError}
use Rattle.lsm_version.specs.declared.fields.Rank.{Rank}
use Rattle.lsm_version.specs.declared.fields.Field.{Field}
use Rattle.lsm_version.specs.declared.fields.Field.TheVariants.{LogNumber, NextNumber, LastSequence, Added, Dropped}
use Rattle.lsm_version.specs.EditText.{given}
use Rattle.lsm_version.specs.Edits.{AreFields, InRange, IsEdit, rank_of, start, last_level}
use Rattle.lsm_version.specs.Levels.{Tables, Overlap, overlaps}
use Rattle.lsm_version.specs.Orders.{AreLevels}
use Rattle.lsm_version.specs.Versions.{empty_version, is_of_level, dropped, added, changed, refused_by, leveled, applied, applied_after, version_after}
use Rattle.lsm_folder.specs.Manifests.{tables_or_none, tables_after}
use Rattle.lsm_folder.specs.Parts.{AreEdits}

-- ---- what an edit adds

abbrev IsLow : Add → Type 0
IsLow add = add.level ≤ last_level

behind_given : (field : ℕ → Field) (value : Option ℕ) (after : Rank) (rest : List Field) → AreFields after (given field value ++ rest)
    → (rank : Rank) × AreFields rank rest
unfolding AreFields
behind_given field None after rest are = (after, are)
behind_given field (Some n) after rest are = (rank_of (field n), are.1)

adds_at : (adds : List Add) (after : Rank) (rest : List Field) → AreFields after (map Added adds ++ rest) → All IsLow adds
unfolding AreFields InRange
adds_at [] after rest are = All-nil IsLow
adds_at (add ∷ adds) after rest are =
    All-cons IsLow add adds are.0.range.0.level_is (adds_at adds (rank_of (Added add)) rest are.1)

adds_are_low : (edit : Edit) → IsEdit edit → All IsLow edit.adds
adds_are_low edit is =
    let first : List Field = given LogNumber edit.log in
    let second : List Field = given NextNumber edit.next in
    let third : List Field = given LastSequence edit.last in
    let added : List Field = map Added edit.adds in
    let gone : List Field = map Dropped edit.drops in
    let flat = append_assoc (first ++ second ++ third) added gone ∙ append_assoc (first ++ second) third (added ++ gone)
    ∙ append_assoc first second (third ++ (added ++ gone)) in
    let log = behind_given LogNumber edit.log start (second ++ (third ++ (added ++ gone))) (subst (AreFields start) flat is.fields) in
    let next = behind_given NextNumber edit.next log.0 (third ++ (added ++ gone)) log.1 in
    let last = behind_given LastSequence edit.last next.0 (added ++ gone) next.1 in
    adds_at edit.adds last.0 gone last.1

-- ---- one table less, one more

some_is : (a b : Placed) → Some a ≡ Some b → a ≡ b
some_is a b is = cc

not_none : (placed : Placed) → None ≡ Some placed → ⊥
not_none placed is = cc

less : (tables : Tables) (number : ℕ) → AreLevels tables → AreLevels (finite.remove tables number)
less tables number low = record {
  most = λ other placed there. among other placed (eq_by_cmp nat_cmp other number)
      (sym (finite.get-remove nat_cmp_total tables number other) ∙ there);
}
  where
    among : (other : ℕ) (placed : Placed) (same : Bool) → cond same None (finite.get tables other) ≡ Some placed
        → placed.level ≤ last_level
    among other placed true there = absurd (not_none placed there)
    among other placed false there = low.most other placed there

more : (tables : Tables) (number : ℕ) (placed : Placed) → placed.level ≤ last_level → AreLevels tables
    → AreLevels (finite.insert tables number placed)
more tables number placed few low = record {
  most = λ other found there. among other found (eq_by_cmp nat_cmp other number)
      (sym (finite.get-insert nat_cmp_total tables number placed other) ∙ there);
}
  where
    among : (other : ℕ) (found : Placed) (same : Bool) → cond same (Some placed) (finite.get tables other) ≡ Some found
        → found.level ≤ last_level
    among other found true there = subst (λ (p : Placed). p.level ≤ last_level) (some_is placed found there) few
    among other found false there = low.most other found there

-- ---- all edits

abbrev AreLow : Option Tables → Type 0
AreLow None = Unit {0}
AreLow (Some tables) = AreLevels tables

drop_low : (tables : Option Tables) (place : Place) → AreLow tables → AreLow (dropped tables place)
unfolding dropped
drop_low None place low = low
drop_low (Some tables) place low = by (is_of_level place.level (finite.get tables place.number))
  where
    by : (stands : Bool) → AreLow (if stands then Some (finite.remove tables place.number) else None)
    by true = less tables place.number low
    by false = tt

add_low : (tables : Option Tables) (add : Add) → IsLow add → AreLow tables → AreLow (added tables add)
unfolding added
add_low None add few low = low
add_low (Some tables) add few low = by (finite.contains_key tables add.table.number)
  where
    by : (stands : Bool) → AreLow (if stands then None
        else Some (finite.insert tables add.table.number (record { level = add.level; info = add.table })))
    by true = tt
    by false = more tables add.table.number (record { level = add.level; info = add.table }) few low

drops_low : (drops : List Place) (tables : Option Tables) → AreLow tables → AreLow (fold dropped tables drops)
drops_low [] tables low = low
drops_low (place ∷ drops) tables low = drops_low drops (dropped tables place) (drop_low tables place low)

adds_low : (adds : List Add) (tables : Option Tables) → All IsLow adds → AreLow tables → AreLow (fold added tables adds)
adds_low [] tables each low = low
adds_low (add ∷ adds) tables each low =
    adds_low adds (added tables add) (All-tail IsLow add adds each) (add_low tables add (All-head IsLow add adds each) low)

abbrev LeavesLow : Result Tables ApplyError → Type 0
LeavesLow (Ok tables) = AreLevels tables
LeavesLow (Err e) = Unit {0}

level_low : (tables : Option Tables) → AreLow tables → LeavesLow (leveled tables)
level_low None low = tt
level_low (Some tables) low = by (overlaps tables)
  where
    by : (pairs : List Overlap) → LeavesLow (refused_by tables pairs)
    by [] = low
    by (pair ∷ pairs) = tt

apply_low : (so_far : Result Tables ApplyError) (edit : Edit) → IsEdit edit → LeavesLow so_far → LeavesLow (applied_after so_far edit)
unfolding applied changed
apply_low (Ok tables) edit is low =
    level_low _ (adds_low edit.adds _ (adds_are_low edit is) (drops_low edit.drops (Some tables) low))
apply_low (Err e) edit is low = tt

edits_low : (edits : List Edit) (so_far : Result Tables ApplyError) → All IsEdit edits → LeavesLow so_far
    → LeavesLow (fold applied_after so_far edits)
edits_low [] so_far each low = low
edits_low (edit ∷ edits) so_far each low =
    edits_low edits (applied_after so_far edit) (All-tail IsEdit edit edits each)
    (apply_low so_far edit (All-head IsEdit edit edits each) low)

none_low : AreLevels empty_version
none_low = record {
  most = λ number placed there. absurd (not_none placed (sym (finite.get-empty nat_cmp number) ∙ there));
}

-- the edits of a manifest make a version of the seven levels
pub versions_have_seven_levels : (edits : List Edit) → AreEdits edits → AreLevels (tables_after edits)
unfolding tables_after version_after
versions_have_seven_levels edits are =
    by (fold applied_after (Ok empty_version) edits) (edits_low edits (Ok empty_version) are.each none_low)
  where
    by : (made : Result Tables ApplyError) → LeavesLow made → AreLevels (tables_or_none made)
    by (Ok tables) low = low
    by (Err e) low = none_low
