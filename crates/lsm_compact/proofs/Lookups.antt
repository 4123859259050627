-- What stands after an edit's drops and its adds.
use Rattle.std.specs.Prelude.{◌≡◌, ◌⊎◌, ℕ, ◌==◌, Bool, true, false, cond, ◌||◌, List, [], ◌∷◌, Contains, Option, Some, None, Ok, Err, is_some}
use Rattle.std.proofs.Common.{refl, sym, ap, subst, inl, inr, ◌∙◌, arith}
use Rattle.std.proofs.lemmas.Bool.{eqb-true}
use Rattle.std.proofs.lemmas.Cmp.{nat_cmp_total, tied_itself}
use Rattle.std.specs.List.{fold}
use Rattle.std.specs.Ordering.{nat_cmp, eq_by_cmp, is_eq}
use Rattle.std.specs.FinMap as finite
use Rattle.lsm_version.specs.declared.edits.Edit.{Edit}
use Rattle.lsm_version.specs.declared.refusals.ApplyError.{ApplyError}
use Rattle.lsm_version.specs.declared.tables.Add.{Add}
use Rattle.lsm_version.specs.declared.tables.Place.{Place}
use Rattle.lsm_version.specs.declared.tables.Placed.{Placed}
use Rattle.lsm_version.specs.Levels.{Tables, Overlap, overlaps}
use Rattle.lsm_version.specs.Versions.{is_of_level, dropped, added, changed, leveled, refused_by, applied}
use Rattle.lsm_version.proofs.Overlaps.{fold_none}
use Rattle.lsm_version.proofs.TableMaps.{dropped_is, dropped_not, added_is, added_not, dropped_none, added_none, same_number}
use Rattle.lsm_compact.specs.Written.{is_input}
use Rattle.lsm_compact.proofs.Keys.{untrue}
use Rattle.lsm_compact.proofs.Members.{nothing, has_first, has_later, by_first, no_table}

same_tables : (a b : Tables) → Some a ≡ Some b → a ≡ b
same_tables a b is = cc

pub either_false : (a b : Bool) → (a || b) ≡ false → (a ≡ false) × (b ≡ false)
either_false true b e = absurd (untrue (sym e))
either_false false b e = (refl, e)

-- ---- drops

pub drops_rest : (tables : Tables) (place : Place) (places : List Place) (after : Tables) → fold dropped (Some tables)
    (place ∷ places) ≡ Some after
    → fold dropped (Some (finite.remove tables place.number)) places ≡ Some after
drops_rest tables place places after is =
    elim (is_of_level place.level (finite.get tables place.number)) as
    (λ b. is_of_level place.level (finite.get tables place.number) ≡ b
    → fold dropped (Some (finite.remove tables place.number)) places ≡ Some after) [
      | true ↦ λ yes. ap (λ o. fold dropped o places) (sym (dropped_is tables place yes)) ∙ is
      | false ↦ λ other. absurd (no_table after (
          sym is ∙ ap (λ o. fold dropped o places) (dropped_not tables place other) ∙ fold_none dropped dropped_none places))
    ] refl

-- numbers that differ by one test do by the other
other_number : (q n : ℕ) → eq_by_cmp nat_cmp q n ≡ false → (n == q) ≡ false
other_number q n other =
    elim (n == q) as (λ b. (n == q) ≡ b → b ≡ false) [
      | true ↦ λ is. absurd (untrue (sym other ∙ ap (λ (k : ℕ). is_eq (nat_cmp q k)) (eqb-true n q is) ∙ ap is_eq
          (tied_itself nat_cmp_total q)))
      | false ↦ λ _. refl
    ] refl

pub number_other : (q n : ℕ) → (n == q) ≡ false → eq_by_cmp nat_cmp q n ≡ false
number_other q n other =
    elim (eq_by_cmp nat_cmp q n) as (λ b. eq_by_cmp nat_cmp q n ≡ b → b ≡ false) [
      | true ↦ λ is. absurd (untrue (sym other ∙ ap (λ (k : ℕ). n == k) (same_number q n is) ∙ grind arith))
      | false ↦ λ _. refl
    ] refl

-- what stands after the drops stood before, and wasn't dropped
pub stood : (places : List Place) (tables after : Tables) → fold dropped (Some tables) places ≡ Some after → (q : ℕ)
    (placed : Placed)
    → finite.get after q ≡ Some placed → (finite.get tables q ≡ Some placed) × (is_input places q ≡ false)
stood [] tables after is q placed there = (ap (λ (t : Tables). finite.get t q) (same_tables tables after is) ∙ there, refl)
stood (place ∷ places) tables after is q placed there =
    let rest = stood places (finite.remove tables place.number) after
    (drops_rest tables place places after is) q placed there in
    let got = sym (finite.get-remove nat_cmp_total tables place.number q) ∙ rest.0 in
    elim (eq_by_cmp nat_cmp q place.number) as
    (λ b. eq_by_cmp nat_cmp q place.number ≡ b → cond b None (finite.get tables q) ≡ Some placed
    → (finite.get tables q ≡ Some placed) × (is_input (place ∷ places) q ≡ false)) [
      | true ↦ λ _ none. absurd (no_table placed (sym none))
      | false ↦ λ other was. (was, ap (λ b. b || is_input places q) (other_number q place.number other) ∙ rest.1)
    ] refl got

-- and what wasn't dropped stands
pub stays : (places : List Place) (tables after : Tables) → fold dropped (Some tables) places ≡ Some after → (q : ℕ)
    (placed : Placed)
    → finite.get tables q ≡ Some placed → is_input places q ≡ false → finite.get after q ≡ Some placed
stays [] tables after is q placed there kept = ap (λ (t : Tables). finite.get t q) (sym (same_tables tables after is)) ∙ there
stays (place ∷ places) tables after is q placed there kept =
    let parts = either_false (place.number == q) (is_input places q) kept in
    stays places (finite.remove tables place.number) after (drops_rest tables place places after is) q placed
    (finite.get-remove nat_cmp_total tables place.number q
    ∙ ap (λ b. cond b None (finite.get tables q)) (number_other q place.number parts.0) ∙ there) parts.1

-- ---- adds

abbrev pub placed_of : Add → Placed
placed_of add = record { level = add.level; info = add.table }

pub record Adding (tables : Tables) (add : Add) (adds : List Add) (after : Tables) : Type 0 where
  pub free : finite.get tables add.table.number ≡ None
  pub rest : fold added (Some (finite.insert tables add.table.number (placed_of add))) adds ≡ Some after

pub adding : (tables : Tables) (add : Add) (adds : List Add) (after : Tables) → fold added (Some tables)
    (add ∷ adds) ≡ Some after → Adding tables add adds after
adding tables add adds after is =
    elim (finite.get tables add.table.number) as (λ o. finite.get tables add.table.number ≡ o → Adding tables add adds after) [
      | Some taken ↦ λ there. absurd (no_table after (
          sym is ∙ ap (λ o. fold added o adds) (added_not tables add (ap is_some there)) ∙ fold_none added added_none adds))
      | None ↦ λ free. record {
        free = free;
        rest = ap (λ o. fold added o adds) (sym (added_is tables add (ap is_some free))) ∙ is;
      }
    ] refl

-- what stood stands after the adds
pub still : (adds : List Add) (tables after : Tables) → fold added (Some tables) adds ≡ Some after → (q : ℕ) (placed : Placed)
    → finite.get tables q ≡ Some placed → finite.get after q ≡ Some placed
still [] tables after is q placed there = ap (λ (t : Tables). finite.get t q) (sym (same_tables tables after is)) ∙ there
still (add ∷ adds) tables after is q placed there =
    let a = adding tables add adds after is in
    still adds (finite.insert tables add.table.number (placed_of add)) after a.rest q placed
    (finite.get-insert nat_cmp_total tables add.table.number (placed_of add) q
    ∙ elim (eq_by_cmp nat_cmp q add.table.number) as
    (λ b. eq_by_cmp nat_cmp q add.table.number ≡ b → cond b (Some (placed_of add)) (finite.get tables q) ≡ Some placed) [
      | true ↦ λ is_number. absurd (no_table placed
          (sym there ∙ ap (λ (n : ℕ). finite.get tables n) (same_number q add.table.number is_number) ∙ a.free))
      | false ↦ λ _. there
    ] refl)

-- each add's table stands
pub stands_added : (adds : List Add) (tables after : Tables) → fold added (Some tables) adds ≡ Some after → (add : Add)
    → Contains adds add
    → finite.get after add.table.number ≡ Some (placed_of add)
stands_added [] tables after is add c = absurd (nothing add c)
stands_added (one ∷ adds) tables after is add c =
    let a = adding tables one adds after is in
    let more = finite.insert tables one.table.number (placed_of one) in
    elim (by_first one adds add c) [
      | inl same ↦ subst (λ (x : Add). finite.get after x.table.number ≡ Some (placed_of x)) same
          (still adds more after a.rest one.table.number (placed_of one)
          (finite.get-insert nat_cmp_total tables one.table.number (placed_of one) one.table.number
          ∙ ap (λ o. cond (is_eq o) (Some (placed_of one)) (finite.get tables one.table.number))
          (tied_itself nat_cmp_total one.table.number)))
      | inr later ↦ stands_added adds more after a.rest add later
    ]

-- the table of this number was added
pub record WasAdded (adds : List Add) (number : ℕ) (placed : Placed) : Type 0 where
  pub add : Add
  pub among : Contains adds add
  pub number_is : add.table.number ≡ number
  pub placed_is : placed_of add ≡ placed

some_is : (a b : Placed) → Some a ≡ Some b → a ≡ b
some_is a b is = cc

-- what stands after the adds was added, or stood before
pub which : (adds : List Add) (tables after : Tables) → fold added (Some tables) adds ≡ Some after → (q : ℕ) (placed : Placed)
    → finite.get after q ≡ Some placed → WasAdded adds q placed ⊎ (finite.get tables q ≡ Some placed)
which [] tables after is q placed there = inr (ap (λ (t : Tables). finite.get t q) (same_tables tables after is) ∙ there)
which (one ∷ adds) tables after is q placed there =
    let a = adding tables one adds after is in
    elim (which adds (finite.insert tables one.table.number (placed_of one)) after a.rest q placed there) [
      | inl w ↦ inl (record {
        add = w.add;
        among = has_later one adds w.add w.among;
        number_is = w.number_is;
        placed_is = w.placed_is;
      })
      | inr was ↦ by_number (eq_by_cmp nat_cmp q one.table.number) refl
          (sym (finite.get-insert nat_cmp_total tables one.table.number (placed_of one) q) ∙ was)
    ]
  where
    by_number : (b : Bool) → eq_by_cmp nat_cmp q one.table.number ≡ b → cond b (Some (placed_of one))
        (finite.get tables q) ≡ Some placed
        → WasAdded (one ∷ adds) q placed ⊎ (finite.get tables q ≡ Some placed)
    by_number true same now = inl (record {
      add = one;
      among = has_first one adds;
      number_is = sym (same_number q one.table.number same);
      placed_is = some_is (placed_of one) placed now;
    })
    by_number false _ now = inr now

-- ---- an edit

-- the tables between an edit's drops and its adds
pub record Between (tables : Tables) (edit : Edit) (after : Tables) : Type 0 where
  pub mid : Tables
  pub dropped_is : fold dropped (Some tables) edit.drops ≡ Some mid
  pub added_is : fold added (Some mid) edit.adds ≡ Some after

no_answer : (after : Tables) (e : ApplyError) → Err e ≡ Ok after → ⊥
no_answer after e is = cc

refused_not : (tables after : Tables) (pairs : List Overlap) → refused_by tables pairs ≡ Ok after → Some tables ≡ Some after
refused_not tables after [] is = cc
refused_not tables after (pair ∷ pairs) is = absurd (no_answer after _ is)

left_in_order : (left : Option Tables) (after : Tables) → leveled left ≡ Ok after → left ≡ Some after
left_in_order None after is = absurd (no_answer after _ is)
left_in_order (Some tables) after is = refused_not tables after (overlaps tables) is

pub between : (tables : Tables) (edit : Edit) (after : Tables) → applied tables edit ≡ Ok after → Between tables edit after
unfolding applied changed
between tables edit after is =
    let all = left_in_order (fold added (fold dropped (Some tables) edit.drops) edit.adds) after is in
    elim (fold dropped (Some tables) edit.drops) as
    (λ o. fold dropped (Some tables) edit.drops ≡ o → fold added o edit.adds ≡ Some after → Between tables edit after) [
      | None ↦ λ _ none. absurd (no_table after (sym none ∙ fold_none added added_none edit.adds))
      | Some mid ↦ λ was more. record { mid = mid; dropped_is = was; added_is = more }
    ] refl all
