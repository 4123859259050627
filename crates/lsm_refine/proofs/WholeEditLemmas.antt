-- Edits that are in the grammar, and the one of a new manifest, which makes the version again.
use Rattle.std.specs.Prelude.{◌≡◌, ◌≢◌, ◌⊎◌, ℕ, ◌^◌, ◌<◌, ◌≤◌, Bool, true, false, cond, is_some, List, [], ◌∷◌, ◌++◌, map, All, Contains, Option, Some, None, Result, Ok, Err}
use Rattle.std.specs.List.{fold, AllByRecursion}
use Rattle.std.specs.List.Sorted.{IsStrictlySortedBy}
use Rattle.std.specs.Ordering.{nat_cmp, eq_by_cmp, ordering_then}
use Rattle.std.specs.Cmp.{nat_cmp_total}
use Rattle.std.specs.declared.cmp.Ordering.{Ordering}
use Rattle.std.specs.declared.cmp.Ordering.TheVariants.{Less, Equal, Greater}
use Rattle.std.specs.FinMap as finmap
use Rattle.std.proofs.Common.{⊎_elim, inl, inr, refl, sym, ap, subst, ◌∙◌, arith}
use Rattle.std.proofs.lemmas.Bool.Decides.{nat_tests}
use Rattle.std.proofs.lemmas.List.{append-nil}
use Rattle.std.proofs.lemmas.List.Elements.{All-nil, All-cons, All-head, All-tail, All-contains, All-weaker, Contains-append_cases}
use Rattle.lsm_version.specs.declared.edits.Edit.{Edit}
use Rattle.lsm_version.specs.declared.fields.Field.{Field}
use Rattle.lsm_version.specs.declared.fields.Field.TheVariants.{LogNumber, NextNumber, LastSequence, Added, Dropped}
use Rattle.lsm_version.specs.declared.fields.Rank.{Rank}
use Rattle.lsm_version.specs.declared.refusals.ApplyError.{ApplyError}
use Rattle.lsm_version.specs.declared.tables.Add.{Add}
use Rattle.lsm_version.specs.declared.tables.Place.{Place}
use Rattle.lsm_version.specs.declared.tables.Placed.{Placed}
use Rattle.lsm_version.specs.declared.tables.TableInfo.{TableInfo}
use Rattle.lsm_version.specs.Edits.{IsFileNumber, IsPlace, IsTable, InRange, PlaceBefore, Before, rank_of, start, AreFields, IsEdit}
use Rattle.lsm_version.specs.EditText.{given, fields_of}
use Rattle.lsm_version.specs.Levels.{Tables, Overlap, overlaps}
use Rattle.lsm_version.specs.Orders.{AreLevels, place_cmp}
use Rattle.lsm_version.specs.Versions.{empty_version, is_of_level, dropped, added, changed, leveled, refused_by, applied, applied_after, version_after, numbers_after}
use Rattle.lsm_version.proofs.PlaceOrders.{places_ascend, places_are_all}
use Rattle.lsm_version.proofs.TableMaps.{same_number, dropped_is, dropped_not, dropped_none, added_is, added_not, added_none}
use Rattle.lsm_folder.specs.Manifests.{tables_after, log_after, last_after}
use Rattle.lsm_folder.specs.Parts.{AreEdits}
use Rattle.lsm_refine.specs.Flushed.{flush_edit, AddTable}
use Rattle.lsm_refine.specs.WholeEdits.{place_added, placed_by, AddAll, whole_edit, AreInRange}
use Rattle.lsm_refine.proofs.AddedLemmas.{tables_are, version_in_order}
use Rattle.lsm_refine.proofs.EditedLemmas.{both_all}
use Rattle.lsm_refine.proofs.FlushedLemmas.{all_left, all_right}

-- ---- the order of fields

place_less : (a b : Place) → place_cmp a b ≡ Less → PlaceBefore a.level a.number b.level b.number
unfolding place_cmp
place_less a b less = by (nat_cmp a.level b.level) refl less
  where
    below : (m n : ℕ) → nat_cmp m n ≡ Less → m < n
    below m n is = grind (arith, nat_tests)

    same : (m n : ℕ) → nat_cmp m n ≡ Equal → m ≡ n
    same m n is = grind (arith, nat_tests)

    by : (o : Ordering) → nat_cmp a.level b.level ≡ o → ordering_then o (nat_cmp a.number b.number) ≡ Less
        → PlaceBefore a.level a.number b.level b.number
    by Less is then = inl (below a.level b.level is)
    by Equal is then = inr (same a.level b.level is, below a.number b.number then)
    by Greater is then = absurd (cc)

never_itself : (a : Place) → place_cmp a a ≡ Less → ⊥
never_itself a less = ⊎_elim (λ level. omega (arith, level)) (λ rest. omega (arith, rest.1)) (place_less a a less)

adds_follow : (after : Rank) (adds : List Add) → after.tag < 4
    → All (λ (add : Add). IsPlace add.level add.table.number × IsTable add.table) adds
    → IsStrictlySortedBy place_cmp (map place_added adds) → AreFields after (map Added adds)
unfolding AreFields IsStrictlySortedBy InRange Before rank_of
adds_follow after [] early each sorted = tt
adds_follow after (add ∷ adds) early each sorted = (
  record { range = All-head (λ (a : Add). IsPlace a.level a.table.number × IsTable a.table) add adds each; behind = inl early },
  behind_add add adds
      (All-tail (λ (a : Add). IsPlace a.level a.table.number × IsTable a.table) add adds each) sorted.0 sorted.1,
)
  where
    behind_add : (one : Add) (more : List Add) → All (λ (a : Add). IsPlace a.level a.table.number × IsTable a.table) more
        → AllByRecursion (λ (place : Place). place_cmp (place_added one) place ≡ Less) (map place_added more)
        → IsStrictlySortedBy place_cmp (map place_added more) → AreFields (rank_of (Added one)) (map Added more)
    behind_add one [] in_range above ascend = tt
    behind_add one (two ∷ more) in_range above ascend = (
      record {
        range = All-head (λ (a : Add). IsPlace a.level a.table.number × IsTable a.table) two more in_range;
        behind = inr (refl, place_less (place_added one) (place_added two) above.0);
      },
      behind_add two more
          (All-tail (λ (a : Add). IsPlace a.level a.table.number × IsTable a.table) two more in_range) ascend.0 ascend.1,
    )

-- an edit that sets all three numbers and adds tables in the order of their places
pub whole_fits : (adds : List Add) (log next last : ℕ) → IsFileNumber log → 1 ≤ next → next < 2 ^ 56 → last < 2 ^ 56
    → All (λ (add : Add). IsPlace add.level add.table.number × IsTable add.table) adds
    → IsStrictlySortedBy place_cmp (map place_added adds) → IsEdit (whole_edit adds log next last)
unfolding AreFields InRange Before rank_of
whole_fits adds log next last log_fits some most last_fits each sorted = record {
  fields = (
    record { range = log_fits; behind = inl (omega arith) },
    (
      record { range = (some, most); behind = inl (omega arith) },
      (
        record { range = last_fits; behind = inl (omega arith) },
        subst (AreFields (rank_of (LastSequence last))) (sym (append-nil (map Added adds)))
            (adds_follow (rank_of (LastSequence last)) adds (omega arith) each sorted),
      ),
    ),
  );
}

-- so is that of a flush
pub flush_fits : (info : TableInfo) (log next last : ℕ) → IsFileNumber log → 1 ≤ next → next < 2 ^ 56 → last < 2 ^ 56
    → IsFileNumber info.number → IsTable info → IsEdit (flush_edit info log next last)
unfolding IsStrictlySortedBy
flush_fits info log next last log_fits some most last_fits numbered is =
    whole_fits (record { level = 0; table = info } ∷ []) log next last log_fits some most last_fits
    (All-cons (λ (add : Add). IsPlace add.level add.table.number × IsTable add.table) (record { level = 0; table = info }) []
    (record { level_is = omega arith; number_is = numbered }, is)
    (All-nil (λ (add : Add). IsPlace add.level add.table.number × IsTable add.table))) (tt, tt)

-- ---- what the edits' tables are

all_fields : (after : Rank) (fields : List Field) → AreFields after fields → All InRange fields
unfolding AreFields
all_fields after [] are = All-nil InRange
all_fields after (field ∷ fields) are = All-cons InRange field fields are.0.range (all_fields (rank_of field) fields are.1)

adds_in_range : (edit : Edit) → IsEdit edit
    → All (λ (add : Add). IsPlace add.level add.table.number × IsTable add.table) edit.adds
unfolding InRange
adds_in_range edit is =
    let front : List Field = given LogNumber edit.log ++ given NextNumber edit.next ++ given LastSequence edit.last in
    (both_all InRange Added edit.adds [] (subst (All InRange) (sym (append-nil (map Added edit.adds)))
    (all_right InRange front (map Added edit.adds)
    (all_left InRange (front ++ map Added edit.adds) (map Dropped edit.drops)
    (all_fields start (fields_of edit) is.fields))))).0

IsFine : Option Tables → Type 0
IsFine o = (tables : Tables) → o ≡ Some tables → AreInRange tables

once : (a b : Tables) → Some a ≡ Some b → a ≡ b
once a b same = cc

some_table : (a b : Placed) → Some a ≡ Some b → a ≡ b
some_table a b same = cc

with_drop : (o : Option Tables) (place : Place) → IsFine o → IsFine (dropped o place)
unfolding IsFine
with_drop None place fine = λ tables is. let clash : None ≡ Some tables = sym (dropped_none place) ∙ is in absurd (cc)
with_drop (Some old) place fine = by (is_of_level place.level (finmap.get old place.number)) refl
  where
    still : (number : ℕ) (placed : Placed) (b : Bool) → eq_by_cmp nat_cmp number place.number ≡ b
        → cond (eq_by_cmp nat_cmp number place.number) None (finmap.get old number) ≡ Some placed
        → IsPlace placed.level number × IsTable placed.info × (placed.info.number ≡ number)
    still number placed true same found =
        let clash : None ≡ Some placed = ap (λ (b : Bool). cond b None (finmap.get old number)) (sym same) ∙ found in
        absurd (cc)
    still number placed false other found =
        (fine old refl).each number placed (ap (λ (b : Bool). cond b None (finmap.get old number)) (sym other) ∙ found)

    by : (b : Bool) → is_of_level place.level (finmap.get old place.number) ≡ b
        → (tables : Tables) → dropped (Some old) place ≡ Some tables → AreInRange tables
    by false not = λ tables is. let clash : None ≡ Some tables = sym (dropped_not old place not) ∙ is in absurd (cc)
    by true there = λ tables is. subst AreInRange
        (once (finmap.remove old place.number) tables (sym (dropped_is old place there) ∙ is)) (record {
          each = λ number placed found. still number placed (eq_by_cmp nat_cmp number place.number) refl
              (sym (finmap.get-remove nat_cmp_total old place.number number) ∙ found);
        })

with_add : (o : Option Tables) (add : Add) → IsPlace add.level add.table.number × IsTable add.table → IsFine o
    → IsFine (added o add)
unfolding IsFine
with_add None add fits fine = λ tables is. let clash : None ≡ Some tables = sym (added_none add) ∙ is in absurd (cc)
with_add (Some old) add fits fine = by (is_some (finmap.get old add.table.number)) refl
  where
    still : (number : ℕ) (placed : Placed) (b : Bool) → eq_by_cmp nat_cmp number add.table.number ≡ b
        → cond (eq_by_cmp nat_cmp number add.table.number) (Some (placed_by add)) (finmap.get old number) ≡ Some placed
        → IsPlace placed.level number × IsTable placed.info × (placed.info.number ≡ number)
    still number placed true same found =
        let here : number ≡ add.table.number = same_number number add.table.number same in
        subst (λ (p : Placed). IsPlace p.level number × IsTable p.info × (p.info.number ≡ number))
        (some_table (placed_by add) placed (ap (λ (b : Bool). cond b (Some (placed_by add)) (finmap.get old number)) (sym same)
        ∙ found))
        (subst (λ (n : ℕ). IsPlace add.level n × IsTable add.table × (add.table.number ≡ n)) (sym here) (fits.0, fits.1, refl))
    still number placed false other found =
        (fine old refl).each number placed (ap (λ (b : Bool). cond b (Some (placed_by add)) (finmap.get old number)) (sym other)
        ∙ found)

    by : (b : Bool) → is_some (finmap.get old add.table.number) ≡ b
        → (tables : Tables) → added (Some old) add ≡ Some tables → AreInRange tables
    by true taken = λ tables is. let clash : None ≡ Some tables = sym (added_not old add taken) ∙ is in absurd (cc)
    by false free = λ tables is. subst AreInRange
        (once (finmap.insert old add.table.number (placed_by add)) tables (sym (added_is old add free) ∙ is)) (record {
          each = λ number placed found. still number placed (eq_by_cmp nat_cmp number add.table.number) refl
              (sym (finmap.get-insert nat_cmp_total old add.table.number (placed_by add) number) ∙ found);
        })

all_drops : (drops : List Place) (o : Option Tables) → IsFine o → IsFine (fold dropped o drops)
all_drops [] o fine = fine
all_drops (place ∷ drops) o fine = all_drops drops (dropped o place) (with_drop o place fine)

all_adds : (adds : List Add) (o : Option Tables)
    → All (λ (add : Add). IsPlace add.level add.table.number × IsTable add.table) adds
    → IsFine o → IsFine (fold added o adds)
all_adds [] o each fine = fine
all_adds (add ∷ adds) o each fine =
    all_adds adds (added o add) (All-tail (λ (a : Add). IsPlace a.level a.table.number × IsTable a.table) add adds each)
    (with_add o add (All-head (λ (a : Add). IsPlace a.level a.table.number × IsTable a.table) add adds each) fine)

ok_once : (r : Result Tables ApplyError) (a b : Tables) → r ≡ Ok a → r ≡ Ok b → a ≡ b
ok_once r a b one other = let same : Ok a ≡ Ok b = sym one ∙ other in cc

refused_same : (tables after : Tables) (os : List Overlap) → refused_by tables os ≡ Ok after → tables ≡ after
refused_same tables after [] is = ok_once (Ok tables) tables after refl is
refused_same tables after (pair ∷ os) is = absurd (cc)

leveled_same : (o : Option Tables) (after : Tables) → leveled o ≡ Ok after → o ≡ Some after
leveled_same None after is = absurd (cc)
leveled_same (Some tables) after is = ap Some (refused_same tables after (overlaps tables) is)

IsFineResult : Result Tables ApplyError → Type 0
IsFineResult r = (tables : Tables) → r ≡ Ok tables → AreInRange tables

with_edit : (r : Result Tables ApplyError) (edit : Edit) → IsEdit edit → IsFineResult r → IsFineResult (applied_after r edit)
unfolding IsFineResult IsFine applied changed
with_edit (Ok tables) edit is fine = λ after same.
    all_adds edit.adds (fold dropped (Some tables) edit.drops) (adds_in_range edit is)
    (all_drops edit.drops (Some tables) (λ old here. subst AreInRange (once tables old here) (fine tables refl)))
    after (leveled_same (changed tables edit) after same)
with_edit (Err e) edit is fine = λ after same. absurd (cc)

with_edits : (edits : List Edit) (r : Result Tables ApplyError) → All IsEdit edits → IsFineResult r
    → IsFineResult (fold applied_after r edits)
with_edits [] r each fine = fine
with_edits (edit ∷ edits) r each fine =
    with_edits edits (applied_after r edit) (All-tail IsEdit edit edits each)
    (with_edit r edit (All-head IsEdit edit edits each) fine)

-- the tables that edits make are such as an edit may add
pub tables_in_range : (edits : List Edit) → AreEdits edits → AreInRange (tables_after edits)
unfolding version_after IsFineResult
tables_in_range edits are =
    subst AreInRange (sym (tables_are edits are.taken.tables are.taken.is))
    (with_edits edits (Ok empty_version) are.each
    (λ tables is. subst AreInRange (ok_once (Ok empty_version) empty_version tables refl is) (record {
      each = λ number placed found. let clash : None ≡ Some placed = sym (finmap.get-empty nat_cmp number)
          ∙ found in absurd (cc);
    })) are.taken.tables are.taken.is)

-- ---- all tables of a version, added to none, are the version

same_test : (n : ℕ) → eq_by_cmp nat_cmp n n ≡ true
same_test n = grind (arith, nat_tests)

other_test : (m n : ℕ) → m ≢ n → eq_by_cmp nat_cmp m n ≡ false
other_test m n other = grind (arith, nat_tests)

abbrev put_in : Tables → Add → Tables
put_in tables add = finmap.insert tables add.table.number (placed_by add)

module _ (tables : Tables) where
  abbrev IsItsOwn : Add → Type 0
  IsItsOwn add = finmap.get tables add.table.number ≡ Some (placed_by add)

  abbrev IsFree : Tables → Add → Type 0
  IsFree held add = finmap.get held add.table.number ≡ None

  -- a table behind another one has another number
  other_number : (one two : Add) → IsItsOwn one → IsItsOwn two → place_cmp (place_added one) (place_added two) ≡ Less
      → two.table.number ≢ one.table.number
  other_number one two is_one is_two less same =
      let placed : placed_by two ≡ placed_by one = some_table (placed_by two) (placed_by one)
      (sym is_two ∙ ap (finmap.get tables) same ∙ is_one) in
      never_itself (place_added one) (subst (λ (place : Place). place_cmp (place_added one) place ≡ Less)
      (λ i. record { level = (ap (λ (p : Placed). p.level) placed) i; number = same i }) less)

  free_behind : (held : Tables) (one : Add) (adds : List Add) → IsItsOwn one
      → AllByRecursion (λ (place : Place). place_cmp (place_added one) place ≡ Less) (map place_added adds)
      → All IsItsOwn adds → All (IsFree held) adds → All (IsFree (put_in held one)) adds
  free_behind held one [] is above each free = All-nil (IsFree (put_in held one))
  free_behind held one (two ∷ adds) is above each free =
      All-cons (IsFree (put_in held one)) two adds
      (finmap.get-insert nat_cmp_total held one.table.number (placed_by one) two.table.number
      ∙ ap (λ (b : Bool). cond b (Some (placed_by one)) (finmap.get held two.table.number))
      (other_test two.table.number one.table.number (other_number one two is (All-head IsItsOwn two adds each) above.0))
      ∙ All-head (IsFree held) two adds free)
      (free_behind held one adds is above.1 (All-tail IsItsOwn two adds each) (All-tail (IsFree held) two adds free))

  all_added : (held : Tables) (adds : List Add) → IsStrictlySortedBy place_cmp (map place_added adds) → All IsItsOwn adds
      → All (IsFree held) adds → fold added (Some held) adds ≡ Some (fold put_in held adds)
  unfolding IsStrictlySortedBy
  all_added held [] sorted each free = refl
  all_added held (add ∷ adds) sorted each free =
      ap (λ (o : Option Tables). fold added o adds)
      (added_is held add (ap is_some (All-head (IsFree held) add adds free)))
      ∙ all_added (put_in held add) adds sorted.1 (All-tail IsItsOwn add adds each)
      (free_behind held add adds (All-head IsItsOwn add adds each) sorted.0 (All-tail IsItsOwn add adds each)
      (All-tail (IsFree held) add adds free))

  -- no others are there
  abbrev IsPart : Tables → Type 0
  IsPart held = (number : ℕ) (placed : Placed) → finmap.get held number ≡ Some placed → finmap.get tables number ≡ Some placed

  part_with : (held : Tables) (add : Add) → IsItsOwn add → IsPart held → IsPart (put_in held add)
  part_with held add is part number placed found =
      by (eq_by_cmp nat_cmp number add.table.number) refl
      (sym (finmap.get-insert nat_cmp_total held add.table.number (placed_by add) number) ∙ found)
    where
      by : (b : Bool) → eq_by_cmp nat_cmp number add.table.number ≡ b
          → cond (eq_by_cmp nat_cmp number add.table.number) (Some (placed_by add)) (finmap.get held number) ≡ Some placed
          → finmap.get tables number ≡ Some placed
      by true same there =
          ap (finmap.get tables) (same_number number add.table.number same) ∙ is
          ∙ ap (λ (b : Bool). cond b (Some (placed_by add)) (finmap.get held number)) (sym same) ∙ there
      by false other there =
          part number placed (ap (λ (b : Bool). cond b (Some (placed_by add)) (finmap.get held number)) (sym other) ∙ there)

  parts_with : (held : Tables) (adds : List Add) → All IsItsOwn adds → IsPart held → IsPart (fold put_in held adds)
  parts_with held [] each part = part
  parts_with held (add ∷ adds) each part =
      parts_with (put_in held add) adds (All-tail IsItsOwn add adds each)
      (part_with held add (All-head IsItsOwn add adds each) part)

  -- and each of them is
  there_with : (held : Tables) (add : Add) (number : ℕ) → is_some (finmap.get held number) ≡ true
      → is_some (finmap.get (put_in held add) number) ≡ true
  there_with held add number there =
      ap is_some (finmap.get-insert nat_cmp_total held add.table.number (placed_by add) number)
      ∙ by (eq_by_cmp nat_cmp number add.table.number)
    where
      by : (b : Bool) → is_some (cond b (Some (placed_by add)) (finmap.get held number)) ≡ true
      by true = refl
      by false = there

  itself_there : (held : Tables) (add : Add) → is_some (finmap.get (put_in held add) add.table.number) ≡ true
  itself_there held add =
      ap is_some (finmap.get-insert nat_cmp_total held add.table.number (placed_by add) add.table.number
      ∙ ap (λ (b : Bool). cond b (Some (placed_by add)) (finmap.get held add.table.number)) (same_test add.table.number))

  each_there : (held : Tables) (adds : List Add) (place : Place)
      → (is_some (finmap.get held place.number) ≡ true) ⊎ Contains (map place_added adds) place
      → is_some (finmap.get (fold put_in held adds) place.number) ≡ true
  each_there held [] place (inl there) = there
  each_there held [] place (inr among) = absurd (All-contains (λ (p : Place). ⊥) [] place (All-nil (λ (p : Place). ⊥)) among)
  each_there held (add ∷ adds) place (inl there) =
      each_there (put_in held add) adds place (inl (there_with held add place.number there))
  each_there held (add ∷ adds) place (inr among) =
      each_there (put_in held add) adds place (⊎_elim
      (λ here. inl (subst (λ (p : Place). is_some (finmap.get (put_in held add) p.number) ≡ true)
      (sym (All-contains (λ (p : Place). p ≡ place_added add) (place_added add ∷ []) place
      (All-cons (λ (p : Place). p ≡ place_added add) (place_added add) [] refl (All-nil (λ (p : Place). p ≡ place_added add)))
      here))
      (itself_there held add)))
      (λ later. inr later)
      (Contains-append_cases (place_added add ∷ []) (map place_added adds) place among))

  module _ (adds : List Add) (all : AddAll tables adds) (levels : AreLevels tables) where
    abbrev made : Tables
    made = fold put_in empty_version adds

    none_there : (number : ℕ) (placed : Placed) → finmap.get empty_version number ≡ Some placed
        → finmap.get tables number ≡ Some placed
    none_there number placed found = let clash : None ≡ Some placed = sym (finmap.get-empty nat_cmp number)
        ∙ found in absurd (cc)

    same_at : (number : ℕ) (one two : Option Placed) → finmap.get made number ≡ one → finmap.get tables number ≡ two → one ≡ two
    same_at number None None is_one is_two = refl
    same_at number (Some placed) two is_one is_two =
        sym (parts_with empty_version adds all.each none_there number placed is_one) ∙ is_two
    same_at number None (Some placed) is_one is_two =
        let place : Place = record { level = placed.level; number = number } in
        let among : Contains (map place_added adds) place = subst (λ (places : List Place). Contains places place)
        (sym all.places)
        ((places_are_all tables levels place).1 (record { placed = placed; there = is_two; level_is = refl })) in
        let clash : false ≡ true = sym (ap is_some is_one) ∙ each_there empty_version adds place (inr among) in
        absurd (cc)

    made_is : made ≡ tables
    made_is = finmap.same_map nat_cmp_total finmap.nat_cmp-IsAntisymmetric made tables
        (λ number. same_at number (finmap.get made number) (finmap.get tables number) refl refl)

    sorted : IsStrictlySortedBy place_cmp (map place_added adds)
    sorted = subst (IsStrictlySortedBy place_cmp) (sym all.places) (places_ascend tables)

    all_in : fold added (Some empty_version) adds ≡ Some tables
    all_in =
        all_added empty_version adds sorted all.each
        (All-weaker IsItsOwn (IsFree empty_version) (λ add is. finmap.get-empty nat_cmp add.table.number) adds all.each)
        ∙ ap Some made_is

    version_again : overlaps tables ≡ [] → (log next last : ℕ) → version_after (whole_edit adds log next last ∷ []) ≡ Ok tables
    unfolding version_after applied changed
    version_again order log next last = ap leveled all_in ∙ ap (refused_by tables) order

-- a manifest of this one edit says what the edits of the version do
module _ (edits : List Edit) (are : AreEdits edits) (adds : List Add) (all : AddAll (tables_after edits) adds)
    (log next last : ℕ) (log_fits : IsFileNumber log) (some : 1 ≤ next) (most : next < 2 ^ 56) (last_fits : last < 2 ^ 56) where
  abbrev whole : Edit
  whole = whole_edit adds log next last

  abbrev tables : Tables
  tables = tables_after edits

  fine : AreInRange (tables_after edits)
  fine = tables_in_range edits are

  again : version_after (whole_edit adds log next last ∷ []) ≡ Ok (tables_after edits)
  again = version_again tables adds all
      (record { most = λ number placed found. (fine.each number placed found).0.level_is })
      (version_in_order edits tables are.first (are.taken.is ∙ ap Ok (sym (tables_are edits are.taken.tables are.taken.is))))
      log next last

  pub whole_are : AreEdits (whole_edit adds log next last ∷ [])
  whole_are = record {
    first = refl;
    each = All-cons IsEdit whole [] (whole_fits adds log next last log_fits some most last_fits
        (All-weaker (λ (add : Add). finmap.get tables add.table.number ≡ Some (placed_by add))
        (λ (add : Add). IsPlace add.level add.table.number × IsTable add.table)
        (λ add is. let fits = fine.each add.table.number (placed_by add) is in (fits.0, fits.1)) adds all.each)
        (subst (IsStrictlySortedBy place_cmp) (sym all.places) (places_ascend tables))) (All-nil IsEdit);
    taken = record { tables = tables; is = again };
  }

  pub whole_tables : tables_after (whole_edit adds log next last ∷ []) ≡ tables_after edits
  whole_tables = tables_are (whole ∷ []) tables again

  pub whole_log : log_after (whole_edit adds log next last ∷ []) ≡ log
  unfolding log_after numbers_after
  whole_log = refl

  pub whole_last : last_after (whole_edit adds log next last ∷ []) ≡ last
  unfolding last_after numbers_after
  whole_last = refl

-- so it adds the table of a flush
pub whole_adds : (before : List Edit) (info : TableInfo) (log last : ℕ) (edits : List Edit)
    → AddTable before info log last edits
    → (adds : List Add) → AddAll (tables_after edits) adds → (next : ℕ) → IsFileNumber log → 1 ≤ next → next < 2 ^ 56
    → last < 2 ^ 56
    → AddTable before info log last (whole_edit adds log next last ∷ [])
whole_adds before info log last edits add adds all next log_fits some most last_fits = record {
  are = whole_are edits add.are adds all log next last log_fits some most last_fits;
  tables = whole_tables edits add.are adds all log next last log_fits some most last_fits ∙ add.tables;
  log_is = whole_log edits add.are adds all log next last log_fits some most last_fits;
  last_is = whole_last edits add.are adds all log next last log_fits some most last_fits;
}
