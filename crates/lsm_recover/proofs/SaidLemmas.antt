-- What edits of the grammar say of a version's tables.
use Rattle.std.specs.Prelude.{◌≡◌, ℕ, Bool, true, false, cond, List, [], ◌∷◌, ◌++◌, map, All, Option, Some, None, Ok}
use Rattle.std.proofs.Common.{refl, sym, subst, ◌∙◌}
use Rattle.std.proofs.lemmas.List.Elements.{All-nil, All-cons, All-head, All-tail}
use Rattle.std.proofs.lemmas.Cmp.{nat_cmp_total}
use Rattle.std.specs.List.{fold}
use Rattle.std.specs.Ordering.{nat_cmp, eq_by_cmp}
use Rattle.std.specs.FinMap as finmap
use Rattle.lsm_version.specs.declared.edits.Edit.{Edit}
use Rattle.lsm_version.specs.declared.tables.Add.{Add}
use Rattle.lsm_version.specs.declared.tables.Place.{Place}
use Rattle.lsm_version.specs.declared.tables.Placed.{Placed}
use Rattle.lsm_version.specs.declared.fields.Field.{Field}
use Rattle.lsm_version.specs.declared.fields.Field.TheVariants.{LogNumber, NextNumber, LastSequence, Added, Dropped}
use Rattle.lsm_version.specs.declared.fields.Rank.{Rank}
use Rattle.lsm_version.specs.EditText.{given}
use Rattle.lsm_version.specs.Edits.{InRange, AreFields, IsEdit, rank_of, start}
use Rattle.lsm_version.specs.Levels.{Tables, Overlap, overlaps}
use Rattle.lsm_version.specs.Versions.{empty_version, is_of_level, dropped, added, changed, leveled, applied}
use Rattle.lsm_version.proofs.TableMaps.{same_number}
use Rattle.lsm_recover.specs.Stated.{IsSaid, AreSaid}
use Rattle.lsm_recover.proofs.SoundLemmas.{front_fields, back_fields, unrefused}

-- ---- the tables that an edit adds

abbrev placed_by : Add → Placed
placed_by add = record { level = add.level; info = add.table }

abbrev IsFine : Add → Type 0
IsFine add = IsSaid add.table.number (placed_by add)

fine_adds : (after : Rank) (adds : List Add) → AreFields after (map Added adds) → All IsFine adds
unfolding AreFields InRange
fine_adds after [] are = All-nil IsFine
fine_adds after (add ∷ adds) are =
    All-cons IsFine add adds (record { place = are.0.range.0; info = are.0.range.1; own = refl })
    (fine_adds (rank_of (Added add)) adds are.1)

edit_adds : (edit : Edit) → IsEdit edit → All IsFine edit.adds
edit_adds edit is =
    let numbers : List Field = given LogNumber edit.log ++ given NextNumber edit.next ++ given LastSequence edit.last in
    let front = front_fields start (numbers ++ map Added edit.adds) (map Dropped edit.drops) is.fields in
    let adds = back_fields start numbers (map Added edit.adds) front in
    fine_adds adds.0 edit.adds adds.1

-- ---- versions

abbrev AreFine : Option Tables → Type 0
AreFine None = Unit {0}
AreFine (Some tables) = AreSaid tables

removed : (tables : Tables) (number : ℕ) → AreSaid tables → AreSaid (finmap.remove tables number)
removed tables number are q placed is =
    by_test (eq_by_cmp nat_cmp q number) (sym (finmap.get-remove nat_cmp_total tables number q) ∙ is)
  where
    by_test : (b : Bool) → cond b None (finmap.get tables q) ≡ Some placed → IsSaid q placed
    by_test true found = absurd (cc)
    by_test false found = are q placed found

inserted : (tables : Tables) (number : ℕ) (new : Placed) → IsSaid number new → AreSaid tables → AreSaid (finmap.insert tables number new)
inserted tables number new fits are q placed is =
    by_test (eq_by_cmp nat_cmp q number) refl (sym (finmap.get-insert nat_cmp_total tables number new q) ∙ is)
  where
    same_table : (a b : Placed) → Some a ≡ Some b → a ≡ b
    same_table a b same = cc

    by_test : (b : Bool) → eq_by_cmp nat_cmp q number ≡ b → cond b (Some new) (finmap.get tables q) ≡ Some placed → IsSaid q placed
    by_test true same found = subst (λ (n : ℕ). IsSaid n placed) (sym (same_number q number same))
        (subst (λ (p : Placed). IsSaid number p) (same_table new placed found) fits)
    by_test false other found = are q placed found

kept_by : (b : Bool) (tables : Tables) → AreSaid tables → AreFine (cond b (Some tables) None)
kept_by true tables are = are
kept_by false tables are = tt

refused_or : (b : Bool) (tables : Tables) → AreSaid tables → AreFine (cond b None (Some tables))
refused_or true tables are = tt
refused_or false tables are = are

one_dropped : (o : Option Tables) (place : Place) → AreFine o → AreFine (dropped o place)
unfolding dropped
one_dropped None place are = tt
one_dropped (Some tables) place are =
    kept_by (is_of_level place.level (finmap.get tables place.number)) (finmap.remove tables place.number)
    (removed tables place.number are)

one_added : (o : Option Tables) (add : Add) → IsFine add → AreFine o → AreFine (added o add)
unfolding added
one_added None add fits are = tt
one_added (Some tables) add fits are =
    refused_or (finmap.contains_key tables add.table.number) (finmap.insert tables add.table.number (placed_by add))
    (inserted tables add.table.number (placed_by add) fits are)

all_dropped : (o : Option Tables) (places : List Place) → AreFine o → AreFine (fold dropped o places)
all_dropped o [] are = are
all_dropped o (place ∷ places) are = all_dropped (dropped o place) places (one_dropped o place are)

all_added : (o : Option Tables) (adds : List Add) → All IsFine adds → AreFine o → AreFine (fold added o adds)
all_added o [] fits are = are
all_added o (add ∷ adds) fits are =
    all_added (added o add) adds (All-tail IsFine add adds fits) (one_added o add (All-head IsFine add adds fits) are)

leveled_so : (o : Option Tables) (after : Tables) → leveled o ≡ Ok after → AreFine o → AreSaid after
leveled_so None after is are = absurd (cc)
leveled_so (Some tables) after is are = subst AreSaid (unrefused tables after (overlaps tables) is) are

-- a version after an edit of the grammar
pub applied_said : (tables after : Tables) (edit : Edit) → IsEdit edit → applied tables edit ≡ Ok after → AreSaid tables → AreSaid after
unfolding applied changed
applied_said tables after edit is takes are =
    leveled_so (changed tables edit) after takes
    (all_added (fold dropped (Some tables) edit.drops) edit.adds (edit_adds edit is) (all_dropped (Some tables) edit.drops are))

pub none_said : AreSaid empty_version
none_said number placed is = let clash : None ≡ Some placed = sym (finmap.get-empty nat_cmp number) ∙ is in absurd (cc)
