-- The numbers that edits of the grammar give a version.
use Rattle.std.specs.Prelude.{◌≡◌, ℕ, ◌^◌, ◌<◌, Bool, true, false, cond, List, [], ◌∷◌, ◌++◌, map, All, Option, Some, None, IfSome, Ok}
use Rattle.std.proofs.Common.{refl, sym, subst, ◌∙◌, arith}
use Rattle.std.proofs.lemmas.Bool.Decides.{nat_tests}
use Rattle.std.proofs.lemmas.List.Elements.{All-nil, All-cons, All-head, All-tail}
use Rattle.std.proofs.lemmas.Cmp.{nat_cmp_total}
use Rattle.std.specs.List.{fold}
use Rattle.std.specs.Ordering.{nat_cmp, eq_by_cmp}
use Rattle.std.specs.FinMap as finmap
use Rattle.lsm_names.specs.FileNames.{is_file_number}
use Rattle.lsm_version.specs.declared.edits.Edit.{Edit}
use Rattle.lsm_version.specs.declared.tables.Add.{Add}
use Rattle.lsm_version.specs.declared.tables.Place.{Place}
use Rattle.lsm_version.specs.declared.tables.Placed.{Placed}
use Rattle.lsm_version.specs.declared.fields.Field.{Field}
use Rattle.lsm_version.specs.declared.fields.Field.TheVariants.{LogNumber, NextNumber, LastSequence, Added, Dropped}
use Rattle.lsm_version.specs.declared.fields.Rank.{Rank}
use Rattle.lsm_version.specs.EditText.{given}
use Rattle.lsm_version.specs.Edits.{InRange, AreFields, IsEdit, IsFileNumber, rank_of, start}
use Rattle.lsm_version.specs.Levels.{Tables, Overlap, overlaps}
use Rattle.lsm_version.specs.Versions.{empty_version, is_of_level, dropped, added, changed, refused_by, leveled, applied}
use Rattle.lsm_version.proofs.TableMaps.{same_number}
use Rattle.lsm_recover.specs.Stated.{AreNumbered}

-- ---- fields

pub front_fields : (after : Rank) (xs ys : List Field) → AreFields after (xs ++ ys) → AreFields after xs
unfolding AreFields
front_fields after [] ys are = tt
front_fields after (x ∷ xs) ys are = (are.0, front_fields (rank_of x) xs ys are.1)

pub back_fields : (after : Rank) (xs ys : List Field) → AreFields after (xs ++ ys) → (behind : Rank) × AreFields behind ys
unfolding AreFields
back_fields after [] ys are = (after, are)
back_fields after (x ∷ xs) ys are = back_fields (rank_of x) xs ys are.1

last_small : (after : Rank) (last : Option ℕ) → AreFields after (given LastSequence last) → IfSome last (λ (n : ℕ). n < 2 ^ 56)
unfolding AreFields InRange
last_small after None are = tt
last_small after (Some n) are = are.0.range

file_number : (n : ℕ) → IsFileNumber n → is_file_number n ≡ true
file_number n is = grind (arith, nat_tests, is.some, is.most)

abbrev AreFiles : List Add → Type 0
AreFiles adds = All (λ (add : Add). is_file_number add.table.number ≡ true) adds

adds_numbered : (after : Rank) (adds : List Add) → AreFields after (map Added adds) → AreFiles adds
unfolding AreFields InRange
adds_numbered after [] are = All-nil (λ (add : Add). is_file_number add.table.number ≡ true)
adds_numbered after (add ∷ adds) are =
    All-cons (λ (add : Add). is_file_number add.table.number ≡ true) add adds (file_number add.table.number are.0.range.0.number_is) (adds_numbered (rank_of (Added add)) adds are.1)

module _ (edit : Edit) (is : IsEdit edit) where
  abbrev numbers : List Field
  numbers = given LogNumber edit.log ++ given NextNumber edit.next ++ given LastSequence edit.last

  -- an edit's last sequence is small
  pub edit_small : IfSome edit.last (λ (n : ℕ). n < 2 ^ 56)
  edit_small =
      let front = front_fields start numbers (map Added edit.adds) (front_fields start (numbers ++ map Added edit.adds) (map Dropped edit.drops) is.fields) in
      let last = back_fields start (given LogNumber edit.log ++ given NextNumber edit.next) (given LastSequence edit.last) front in
      last_small last.0 edit.last last.1

  files : AreFiles edit.adds
  files =
      let front = front_fields start (numbers ++ map Added edit.adds) (map Dropped edit.drops) is.fields in
      let adds = back_fields start numbers (map Added edit.adds) front in
      adds_numbered adds.0 edit.adds adds.1

-- ---- versions

abbrev IsNumbered : Option Tables → Type 0
IsNumbered None = Unit {0}
IsNumbered (Some tables) = AreNumbered tables

removed : (tables : Tables) (number : ℕ) → AreNumbered tables → AreNumbered (finmap.remove tables number)
removed tables number are q placed is = by_test (eq_by_cmp nat_cmp q number) (sym (finmap.get-remove nat_cmp_total tables number q) ∙ is) where
  by_test : (b : Bool) → cond b None (finmap.get tables q) ≡ Some placed → is_file_number q ≡ true
  by_test true found = cc
  by_test false found = are q placed found

inserted : (tables : Tables) (number : ℕ) (new : Placed) → is_file_number number ≡ true → AreNumbered tables → AreNumbered (finmap.insert tables number new)
inserted tables number new fits are q placed is = by_test (eq_by_cmp nat_cmp q number) refl (sym (finmap.get-insert nat_cmp_total tables number new q) ∙ is) where
  by_test : (b : Bool) → eq_by_cmp nat_cmp q number ≡ b → cond b (Some new) (finmap.get tables q) ≡ Some placed → is_file_number q ≡ true
  by_test true same found = subst (λ (n : ℕ). is_file_number n ≡ true) (sym (same_number q number same)) fits
  by_test false other found = are q placed found

kept_by : (b : Bool) (tables : Tables) → AreNumbered tables → IsNumbered (cond b (Some tables) None)
kept_by true tables are = are
kept_by false tables are = tt

refused_or : (b : Bool) (tables : Tables) → AreNumbered tables → IsNumbered (cond b None (Some tables))
refused_or true tables are = tt
refused_or false tables are = are

one_dropped : (o : Option Tables) (place : Place) → IsNumbered o → IsNumbered (dropped o place)
unfolding dropped
one_dropped None place are = tt
one_dropped (Some tables) place are = kept_by (is_of_level place.level (finmap.get tables place.number)) (finmap.remove tables place.number) (removed tables place.number are)

one_added : (o : Option Tables) (add : Add) → is_file_number add.table.number ≡ true → IsNumbered o → IsNumbered (added o add)
unfolding added
one_added None add fits are = tt
one_added (Some tables) add fits are = refused_or (finmap.contains_key tables add.table.number) (finmap.insert tables add.table.number (record { level = add.level; info = add.table })) (inserted tables add.table.number _ fits are)

all_dropped : (o : Option Tables) (places : List Place) → IsNumbered o → IsNumbered (fold dropped o places)
all_dropped o [] are = are
all_dropped o (place ∷ places) are = all_dropped (dropped o place) places (one_dropped o place are)

all_added : (o : Option Tables) (adds : List Add) → AreFiles adds → IsNumbered o → IsNumbered (fold added o adds)
all_added o [] fits are = are
all_added o (add ∷ adds) fits are =
    all_added (added o add) adds (All-tail (λ (a : Add). is_file_number a.table.number ≡ true) add adds fits) (one_added o add (All-head (λ (a : Add). is_file_number a.table.number ≡ true) add adds fits) are)

pub unrefused : (tables after : Tables) (pairs : List Overlap) → refused_by tables pairs ≡ Ok after → tables ≡ after
unrefused tables after [] is = cc
unrefused tables after (pair ∷ pairs) is = cc

leveled_so : (o : Option Tables) (after : Tables) → leveled o ≡ Ok after → IsNumbered o → AreNumbered after
leveled_so None after is are = cc
leveled_so (Some tables) after is are = subst AreNumbered (unrefused tables after (overlaps tables) is) are

-- a version after an edit of the grammar
pub applied_numbered : (tables after : Tables) (edit : Edit) → IsEdit edit → applied tables edit ≡ Ok after → AreNumbered tables → AreNumbered after
unfolding applied changed
applied_numbered tables after edit is takes are =
    leveled_so (changed tables edit) after takes (all_added (fold dropped (Some tables) edit.drops) edit.adds (files edit is) (all_dropped (Some tables) edit.drops are))

pub none_numbered : AreNumbered empty_version
none_numbered number placed is = let clash : None ≡ Some placed = sym (finmap.get-empty nat_cmp number) ∙ is in cc
