-- The edit of a compaction is never refused.
use Rattle.std.specs.Prelude.{◌≡◌, ◌≢◌, ℕ, zero, suc, ◌+◌, ◌<◌, ◌≤◌, ◌==◌, nat_eq, nat_lt, Bool, true, false, cond, ◌&&◌, List, [], ◌∷◌, ◌++◌, map, filter, Contains, Some, None, Ok, is_some}
use Rattle.std.proofs.Common.{refl, sym, ap, subst, ◌∙◌, arith}
use Rattle.std.proofs.lemmas.Bool.{eqb-true, eq-eqb}
use Rattle.std.proofs.lemmas.Bool.Decides.{nat_tests}
use Rattle.std.proofs.lemmas.Cmp.{nat_cmp_total, tied_itself}
use Rattle.std.proofs.lemmas.List.Elements.{All-contains, All-from_recursion}
use Rattle.std.specs.List.{fold, flat_map, IsDistinct, AllByRecursion}
use Rattle.std.specs.List.Sorted.{IsStrictlySortedBy}
use Rattle.std.specs.Ordering.{nat_cmp, ordering_then, is_eq}
use Rattle.std.specs.declared.cmp.Ordering.TheVariants.{Less, Equal}
use Rattle.std.specs.FinMap as finite
use Rattle.lsm_rows.specs.declared.rows.Row.{Row}
use Rattle.lsm_version.specs.declared.choices.Choice.{Choice}
use Rattle.lsm_version.specs.declared.edits.Edit.{Edit}
use Rattle.lsm_version.specs.declared.tables.Add.{Add}
use Rattle.lsm_version.specs.declared.tables.Place.{Place}
use Rattle.lsm_version.specs.declared.tables.Placed.{Placed}
use Rattle.lsm_version.specs.Levels.{Tables, Overlap, clash, overlap, overlaps_with, overlaps_from, overlaps}
use Rattle.lsm_version.specs.Orders.{Stands, place_cmp}
use Rattle.lsm_version.specs.Versions.{is_of_level, dropped, added, changed, refused_by, leveled, applied}
use Rattle.lsm_version.proofs.TableMaps.{dropped_is, added_is}
use Rattle.lsm_compact.specs.Closed.{IsClosed}
use Rattle.lsm_compact.specs.Installed.{AreFree, IsInstalled, added_rows}
use Rattle.lsm_compact.specs.Orderly.{IsOrderly}
use Rattle.lsm_compact.specs.Outputs.{IsEditOf}
use Rattle.lsm_compact.specs.Written.{input_rows}
use Rattle.lsm_compact.proofs.Keys.{untrue, not_so, first_true, later_true}
use Rattle.lsm_compact.proofs.Levels.{orderly_made}
use Rattle.lsm_compact.proofs.Lookups.{Between, number_other, placed_of, stood}
use Rattle.lsm_compact.proofs.Members.{has_first, has_later, entry_stands, no_table}

-- ---- drops

below_from : (a : Place) (places : List Place) → AllByRecursion (λ (b : Place). place_cmp a b ≡ Less) places → (b : Place)
    → Contains places b → place_cmp a b ≡ Less
below_from a places all b c = All-contains (λ (x : Place). place_cmp a x ≡ Less) places b
    (All-from_recursion (λ (x : Place). place_cmp a x ≡ Less) places all) c

not_itself : (a : Place) → place_cmp a a ≡ Less → ⊥
unfolding place_cmp
not_itself a less =
    clash_of (sym less ∙ ap (λ o. ordering_then o (nat_cmp a.number a.number)) (tied_itself nat_cmp_total a.level)
    ∙ tied_itself nat_cmp_total a.number)
  where
    clash_of : Less ≡ Equal → ⊥
    clash_of e = untrue (ap is_eq e)

same_level : (a b : Placed) → Some a ≡ Some b → a.level ≡ b.level
same_level a b is = cc

-- places of one number at which tables stand are one place
same_place : (tables : Tables) (p q : Place) → Stands tables p → Stands tables q → p.number ≡ q.number → p ≡ q
same_place tables p q s t same =
    let level : p.level ≡ q.level = sym s.level_is ∙ same_level s.placed t.placed
    (sym s.there ∙ ap (λ (n : ℕ). finite.get tables n) same ∙ t.there) ∙ t.level_is in
    λ i. record { level = level i; number = same i }

differ_eq : (p q : ℕ) → (p ≡ q → ⊥) → (p == q) ≡ false
differ_eq p q differ = not_so (p == q) (λ is. differ (eqb-true p q is))

pub all_drop : (places : List Place) (tables : Tables) → ((p : Place) → Contains places p → Stands tables p)
    → IsStrictlySortedBy place_cmp places
    → (mid : Tables) × (fold dropped (Some tables) places ≡ Some mid)
unfolding IsStrictlySortedBy
all_drop [] tables stand ascend = (tables, refl)
all_drop (p ∷ places) tables stand ascend =
    let s = stand p (has_first p places) in
    let is = dropped_is tables p (ap (is_of_level p.level) s.there ∙ eq-eqb s.placed.level p.level s.level_is) in
    let rest = all_drop places (finite.remove tables p.number)
    (λ q c.
    let t = stand q (has_later p places q c) in
    let other = differ_eq p.number q.number (λ same. not_itself q
    (subst (λ (x : Place). place_cmp x q ≡ Less) (same_place tables p q s t same) (below_from p places ascend.0 q c))) in
    record {
      placed = t.placed;
      there = finite.get-remove nat_cmp_total tables p.number q.number ∙ ap (λ b. cond b None (finite.get tables q.number))
          (number_other q.number p.number other) ∙ t.there;
      level_is = t.level_is;
    })
    ascend.1 in
    (rest.0, ap (λ o. fold dropped o places) is ∙ rest.1)

-- ---- adds

pub all_add : (adds : List Add) (tables : Tables) →
    ((add : Add) → Contains adds add → finite.get tables add.table.number ≡ None)
    → IsDistinct nat_eq (map (λ (add : Add). add.table.number) adds) → (after : Tables) ×
    (fold added (Some tables) adds ≡ Some after)
unfolding IsDistinct
all_add [] tables free distinct = (tables, refl)
all_add (one ∷ adds) tables free distinct =
    let is = added_is tables one (ap is_some (free one (has_first one adds))) in
    let rest = all_add adds (finite.insert tables one.table.number (placed_of one))
    (λ add c.
    finite.get-insert nat_cmp_total tables one.table.number (placed_of one) add.table.number
    ∙ ap (λ b. cond b (Some (placed_of one)) (finite.get tables add.table.number))
    (number_other add.table.number one.table.number (others adds distinct.0 add c))
    ∙ free add (has_later one adds add c))
    distinct.1 in
    (rest.0, ap (λ o. fold added o adds) is ∙ rest.1)
  where
    others : (list : List Add) → AllByRecursion (λ (n : ℕ). nat_eq one.table.number n ≡ false)
        (map (λ (add : Add). add.table.number) list) → (add : Add) → Contains list add
        → (one.table.number == add.table.number) ≡ false
    others list all add c = All-contains (λ (a : Add). nat_eq one.table.number a.table.number ≡ false) list add
        (All-from_recursion (λ (a : Add). nat_eq one.table.number a.table.number ≡ false) list (unmapped list all)) c
      where
        unmapped : (xs : List Add) → AllByRecursion (λ (n : ℕ). nat_eq one.table.number n ≡ false)
            (map (λ (add : Add). add.table.number) xs)
            → AllByRecursion (λ (a : Add). nat_eq one.table.number a.table.number ≡ false) xs
        unmapped [] all = tt
        unmapped (x ∷ xs) all = (all.0, unmapped xs all.1)

-- ---- overlaps

filter_none : {A : Type 0} (p : A → Bool) (xs : List A) → ((x : A) → Contains xs x → p x ≡ false) → filter p xs ≡ []
filter_none p [] none = refl
filter_none p (x ∷ xs) none =
    ap (λ b. cond b (x ∷ filter p xs) (filter p xs)) (none x (has_first x xs)) ∙ filter_none p xs
    (λ y c. none y (has_later x xs y c))

flat_none : {A B : Type 0} (f : A → List B) (xs : List A) → ((x : A) → Contains xs x → f x ≡ []) → flat_map f xs ≡ []
flat_none f [] none = refl
flat_none f (x ∷ xs) none = ap (λ ys. ys ++ flat_map f xs) (none x (has_first x xs)) ∙ flat_none f xs
    (λ y c. none y (has_later x xs y c))

less_differ : (a b : ℕ) → nat_lt a b ≡ true → a ≢ b
less_differ a b less same = let below : a < b = grind (arith, nat_tests) in absurd (omega (arith, below, same))

no_clash : (tables : Tables) (rows : ℕ → List Row) (level : ℕ) → IsOrderly tables rows → 1 ≤ level → (a b : ℕ × Placed)
    → Contains (finite.entries tables) a
    → Contains (finite.entries tables) b → clash level a b ≡ false
unfolding clash
no_clash tables rows level o least a b in_a in_b = not_so (clash level a b) (λ is.
    let less = first_true (nat_lt a.0 b.0) (a.1.level == level && (b.1.level == level && overlap a.1.info b.1.info)) is in
    let more = later_true (nat_lt a.0 b.0) (a.1.level == level && (b.1.level == level && overlap a.1.info b.1.info)) is in
    let level_a = eqb-true a.1.level level
    (first_true (a.1.level == level) (b.1.level == level && overlap a.1.info b.1.info) more) in
    let last = later_true (a.1.level == level) (b.1.level == level && overlap a.1.info b.1.info) more in
    let level_b = eqb-true b.1.level level (first_true (b.1.level == level) (overlap a.1.info b.1.info) last) in
    untrue (sym (o.leveled.apart a.0 b.0 a.1 b.1 (entry_stands tables a in_a) (entry_stands tables b in_b)
    (less_differ a.0 b.0 less) (omega (arith, least, level_a)) (level_a ∙ sym level_b))
    ∙ later_true (b.1.level == level) (overlap a.1.info b.1.info) last))

none_from : (tables : Tables) (rows : ℕ → List Row) → IsOrderly tables rows → (levels level : ℕ) → 1 ≤ level
    → overlaps_from levels level (finite.entries tables) ≡ []
none_from tables rows o zero level least = refl
none_from tables rows o (suc levels) level least =
    ap (λ (xs : List Overlap). xs ++ overlaps_from levels (level + 1) (finite.entries tables))
    (flat_none (overlaps_with level (finite.entries tables)) (finite.entries tables)
    (λ a in_a. ap (map (λ (b : ℕ × Placed). record { level = level; left = a.0; right = b.0 }))
    (filter_none (clash level a) (finite.entries tables) (λ b in_b. no_clash tables rows level o least a b in_a in_b))))
    ∙ none_from tables rows o levels (level + 1) (omega (arith, least))

pub none_overlap : (tables : Tables) (rows : ℕ → List Row) → IsOrderly tables rows → overlaps tables ≡ []
none_overlap tables rows o = none_from tables rows o 6 1 (omega arith)

-- ---- the edit

module _ (tables : Tables) (rows later : ℕ → List Row) (choice : Choice) (edit : Edit) (o : IsOrderly tables rows)
    (closed : IsClosed tables rows choice)
    (e : IsEditOf tables choice (input_rows rows choice) (added_rows later edit.adds) edit) (free : AreFree tables edit.adds)
    (same : (number : ℕ) (placed : Placed) → finite.get tables number ≡ Some placed → later number ≡ rows number) where
  drops : (mid : Tables) × (fold dropped (Some tables) edit.drops ≡ Some mid)
  drops = subst (λ (places : List Place). (mid : Tables) × (fold dropped (Some tables) places ≡ Some mid)) (sym e.drops)
      (all_drop choice.inputs tables closed.stand closed.ascend)

  free_in : (add : Add) → Contains edit.adds add → finite.get drops.0 add.table.number ≡ None
  free_in add c =
      elim (finite.get drops.0 add.table.number) as (λ r. finite.get drops.0 add.table.number ≡ r → r ≡ None) [
        | None ↦ λ _. refl
        | Some placed ↦ λ is. absurd (no_table placed
            (sym (stood edit.drops tables drops.0 drops.1 add.table.number placed is).0
            ∙ All-contains (λ (a : Add). finite.get tables a.table.number ≡ None) edit.adds add free.free c))
      ] refl

  adds : (after : Tables) × (fold added (Some drops.0) edit.adds ≡ Some after)
  adds = all_add edit.adds drops.0 free_in free.distinct

  made : Between tables edit adds.0
  made = record { mid = drops.0; dropped_is = drops.1; added_is = adds.1 }

  is_applied : overlaps adds.0 ≡ [] → applied tables edit ≡ Ok adds.0
  unfolding applied changed
  is_applied none = ap (λ r. leveled (fold added r edit.adds)) drops.1 ∙ ap leveled adds.1 ∙ ap (refused_by adds.0) none

  pub goes_in : (after : Tables) × IsInstalled tables after rows later edit
  goes_in =
      let stay = λ (number : ℕ) (placed : Placed) (there : finite.get tables number ≡ Some placed)
      (_ : finite.get adds.0 number ≡ Some placed). same number placed there in
      let orderly = orderly_made tables adds.0 rows later choice edit o closed e made stay in (
        adds.0,
        record { is = is_applied (none_overlap adds.0 later orderly); stay = stay },
      )
