-- Compactions lower the weight.
use Rattle.std.specs.Prelude.{◌≡◌, ℕ, suc, ◌+◌, ◌*◌, ◌-◌, ◌<◌, ◌≤◌, ◌==◌, true, false, cond, T, List, [], ◌∷◌, ◌++◌, map, Option, Some, None, Ok, Err, is_some, option_map, unwrap_or, sum_by}
use Rattle.std.proofs.Common.{refl, sym, ap, subst, ◌∙◌, arith}
use Rattle.std.specs.List.{fold, filter, AllByRecursion}
use Rattle.std.proofs.lemmas.Bool.{eqb-true}
use Rattle.std.proofs.lemmas.List.Sums.{sum_by-cons, sum_by-append}
use Rattle.std.proofs.lemmas.List.Elements.{recursion_from_All}
use Rattle.std.proofs.lemmas.Cmp.{nat_cmp_total}
use Rattle.std.proofs.Math.Nat.{mul-add, mul-le-mul_left}
use Rattle.std.specs.Ordering.{nat_cmp, eq_by_cmp}
use Rattle.std.specs.FinMap as finite
use Rattle.lsm_version.specs.declared.choices.Choice.{Choice}
use Rattle.lsm_version.specs.declared.edits.Edit.{Edit}
use Rattle.lsm_version.specs.declared.refusals.ApplyError.{ApplyError}
use Rattle.lsm_version.specs.declared.tables.Add.{Add}
use Rattle.lsm_version.specs.declared.tables.Place.{Place}
use Rattle.lsm_version.specs.declared.tables.Placed.{Placed}
use Rattle.lsm_version.specs.Levels.{Tables, Overlap, overlaps}
use Rattle.lsm_version.specs.Orders.{place_of}
use Rattle.lsm_version.specs.Versions.{is_of_level, dropped, added, changed, leveled, refused_by, applied}
use Rattle.lsm_version.proofs.TableMaps.{dropped_is, dropped_not, added_is, added_not, dropped_none, added_none}
use Rattle.lsm_version.proofs.Overlaps.{fold_none}
use Rattle.lsm_pick.specs.Picked.{size_of, range_of_all, meeting, going, choice_at, picked}
use Rattle.lsm_pick.specs.Weight.{weight_of, weight, HaveBytes, IsCompaction}
use Rattle.lsm_pick.proofs.Chosen.{Live, AreLive, no_table, all_so, going_has, level_live, stand_again}
use Rattle.lsm_pick.proofs.Sound.{Beyond, chosen_of, IsSome, some_go, merged_live, meeting_has}
use Rattle.lsm_pick.proofs.Weights.{weight_put, weight_removed}

-- ---- sums over lists

sum_same : {A : Type 0} (f g : A → ℕ) (xs : List A) → AllByRecursion (λ x. f x ≡ g x) xs → sum_by f xs ≡ sum_by g xs
sum_same f g [] same = refl
sum_same f g (x ∷ xs) same =
    let one = sum_by-cons f x xs in
    let other = sum_by-cons g x xs in
    let rest = sum_same f g xs same.1 in
    let here = same.0 in
    omega (arith, one, other, rest, here)

sum_times : {A : Type 0} (k : ℕ) (f g : A → ℕ) (xs : List A) → AllByRecursion (λ x. f x ≡ k * g x) xs → sum_by f xs ≡ k * sum_by g xs
sum_times k f g [] same = grind arith
sum_times k f g (x ∷ xs) same =
    let one = sum_by-cons f x xs in
    let rest = sum_times k f g xs same.1 in
    let here = same.0 in
    let parts = mul-add k (g x) (sum_by g xs) in
    let total : k * sum_by g (x ∷ xs) ≡ k * (g x + sum_by g xs) = ap (λ s. k * s) (sum_by-cons g x xs) in
    omega (arith, one, rest, here, parts, total)

-- ---- drops

-- the weight of the table of a place's number, if one stands
abbrev pub weight_at : Tables → Place → ℕ
weight_at tables place = unwrap_or (option_map (λ (placed : Placed). weight_of (place.number, placed)) (finite.get tables place.number)) 0

none_is_some : (after : Tables) → None ≡ Some after → ⊥
none_is_some after is = no_table after (sym is)

same_tables : (a b : Tables) → Some a ≡ Some b → a ≡ b
same_tables a b is = cc

-- a place could be dropped: its table stood, and is gone
record Dropped (tables : Tables) (place : Place) (places : List Place) (after : Tables) : Type 0 where
  placed : Placed
  there : finite.get tables place.number ≡ Some placed
  rest : fold dropped (Some (finite.remove tables place.number)) places ≡ Some after

first_dropped : (tables : Tables) (place : Place) (places : List Place) (after : Tables) → fold dropped (Some tables) (place ∷ places) ≡ Some after
    → Dropped tables place places after
first_dropped tables place places after is =
    elim (finite.get tables place.number) as (λ o. finite.get tables place.number ≡ o → Dropped tables place places after) [
      | None ↦ λ none. absurd (none_is_some after (
          sym (fold_none dropped dropped_none places)
          ∙ ap (λ o. fold dropped o places) (sym (dropped_not tables place (ap (is_of_level place.level) none))) ∙ is))
      | Some placed ↦ λ there.
          elim (is_of_level place.level (finite.get tables place.number)) as (λ b. is_of_level place.level (finite.get tables place.number) ≡ b → Dropped tables place places after) [
            | true ↦ λ yes. record {
              placed = placed;
              there = there;
              rest = ap (λ o. fold dropped o places) (sym (dropped_is tables place yes)) ∙ is;
            }
            | false ↦ λ other. absurd (none_is_some after (
                sym (fold_none dropped dropped_none places) ∙ ap (λ o. fold dropped o places) (sym (dropped_not tables place other)) ∙ is))
          ] refl
    ] refl

kept_after : (tables : Tables) (gone q : ℕ) → is_some (finite.get (finite.remove tables gone) q) ≡ true
    → finite.get (finite.remove tables gone) q ≡ finite.get tables q
kept_after tables gone q is =
    let got = finite.get-remove nat_cmp_total tables gone q in
    elim (eq_by_cmp nat_cmp q gone) as (λ b. finite.get (finite.remove tables gone) q ≡ cond b None (finite.get tables q) → finite.get (finite.remove tables gone) q ≡ finite.get tables q) [
      | true ↦ λ none. absurd (untrue (sym (ap is_some none) ∙ is))
      | false ↦ λ same. same
    ] got
  where
    untrue : false ≡ true → ⊥
    untrue e = subst (λ b. T (cond b false true)) e tt

-- the tables of all places dropped stood
all_stood : (places : List Place) (tables after : Tables) → fold dropped (Some tables) places ≡ Some after
    → AllByRecursion (λ (p : Place). is_some (finite.get tables p.number) ≡ true) places
all_stood [] tables after is = tt
all_stood (place ∷ places) tables after is =
    let d = first_dropped tables place places after is in (
      ap is_some d.there,
      all_so (λ (p : Place). is_some (finite.get (finite.remove tables place.number) p.number) ≡ true) (λ (p : Place). is_some (finite.get tables p.number) ≡ true)
          (λ p stood. ap is_some (sym (kept_after tables place.number p.number stood)) ∙ stood) places (all_stood places (finite.remove tables place.number) after d.rest),
    )

weights_dropped : (places : List Place) (tables after : Tables) → fold dropped (Some tables) places ≡ Some after
    → weight after + sum_by (weight_at tables) places ≡ weight tables
weights_dropped [] tables after is = let same = ap weight (same_tables tables after is) in omega (arith, same)
weights_dropped (place ∷ places) tables after is =
    let d = first_dropped tables place places after is in
    let less = finite.remove tables place.number in
    let rest = weights_dropped places less after d.rest in
    let one = weight_removed tables place.number d.placed d.there in
    let same : sum_by (weight_at less) places ≡ sum_by (weight_at tables) places =
    sum_same (weight_at less) (weight_at tables) places
    (all_so (λ (p : Place). is_some (finite.get less p.number) ≡ true) (λ (p : Place). weight_at less p ≡ weight_at tables p)
    (λ p stood. ap (λ (o : Option Placed). unwrap_or (option_map (λ (placed : Placed). weight_of (p.number, placed)) o) 0) (kept_after tables place.number p.number stood))
    places (all_stood places less after d.rest)) in
    let split = sum_by-cons (weight_at tables) place places in
    let here : weight_at tables place ≡ weight_of (place.number, d.placed) =
    ap (λ (o : Option Placed). unwrap_or (option_map (λ (placed : Placed). weight_of (place.number, placed)) o) 0) d.there in
    omega (arith, rest, one, same, split, here)

-- ---- adds

abbrev pub weight_added : Add → ℕ
weight_added add = weight_of (add.table.number, record { level = add.level; info = add.table })

weights_added : (adds : List Add) (tables after : Tables) → fold added (Some tables) adds ≡ Some after → weight after ≡ weight tables + sum_by weight_added adds
weights_added [] tables after is = let same = ap weight (same_tables tables after is) in omega (arith, same)
weights_added (add ∷ adds) tables after is =
    elim (finite.get tables add.table.number) as (λ o. finite.get tables add.table.number ≡ o → weight after ≡ weight tables + sum_by weight_added (add ∷ adds)) [
      | Some taken ↦ λ there. absurd (none_is_some after (
          sym (fold_none added added_none adds) ∙ ap (λ o. fold added o adds) (sym (added_not tables add (ap is_some there))) ∙ is))
      | None ↦ λ free.
          let more = finite.insert tables add.table.number (record { level = add.level; info = add.table }) in
          let rest = weights_added adds more after (ap (λ o. fold added o adds) (sym (added_is tables add (ap is_some free))) ∙ is) in
          let one = weight_put tables add.table.number (record { level = add.level; info = add.table }) free in
          let split = sum_by-cons weight_added add adds in
          omega (arith, rest, one, split)
    ] refl

-- ---- an edit

-- the tables between an edit's drops and its adds
record Between (tables : Tables) (edit : Edit) (after : Tables) : Type 0 where
  mid : Tables
  dropped_is : fold dropped (Some tables) edit.drops ≡ Some mid
  added_is : fold added (Some mid) edit.adds ≡ Some after

no_answer : (after : Tables) (e : ApplyError) → Err e ≡ Ok after → ⊥
no_answer after e is = cc

refused_not : (tables after : Tables) (pairs : List Overlap) → refused_by tables pairs ≡ Ok after → Some tables ≡ Some after
refused_not tables after [] is = cc
refused_not tables after (pair ∷ pairs) is = absurd (no_answer after _ is)

left_in_order : (left : Option Tables) (after : Tables) → leveled left ≡ Ok after → left ≡ Some after
left_in_order None after is = absurd (no_answer after _ is)
left_in_order (Some tables) after is = refused_not tables after (overlaps tables) is

between : (tables : Tables) (edit : Edit) (after : Tables) → applied tables edit ≡ Ok after → Between tables edit after
unfolding applied changed
between tables edit after is =
    let all = left_in_order (fold added (fold dropped (Some tables) edit.drops) edit.adds) after is in
    elim (fold dropped (Some tables) edit.drops) as (λ o. fold dropped (Some tables) edit.drops ≡ o → fold added o edit.adds ≡ Some after → Between tables edit after) [
      | None ↦ λ _ none. absurd (none_is_some after (sym (fold_none added added_none edit.adds) ∙ none))
      | Some mid ↦ λ was more. record { mid = mid; dropped_is = was; added_is = more }
    ] refl all

-- ---- what is picked

at_their_level : (level : ℕ) (es : List (ℕ × Placed)) → AllByRecursion (λ (t : ℕ × Placed). t.1.level ≡ level) (filter (λ table. table.1.level == level) es)
at_their_level level [] = tt
at_their_level level (e ∷ es) =
    elim (e.1.level == level) as (λ b. (e.1.level == level) ≡ b
    → AllByRecursion (λ (t : ℕ × Placed). t.1.level ≡ level) (cond b (e ∷ filter (λ table. table.1.level == level) es) (filter (λ table. table.1.level == level) es))) [
      | true ↦ λ is. (eqb-true e.1.level level is, at_their_level level es)
      | false ↦ λ _. at_their_level level es
    ] refl

placed_weights : (tables : Tables) (list : List (ℕ × Placed)) → AreLive tables list → sum_by (weight_at tables) (map place_of list) ≡ sum_by weight_of list
placed_weights tables [] live = refl
placed_weights tables (table ∷ list) live =
    let rest = placed_weights tables list live.1 in
    let one = sum_by-cons (weight_at tables) (place_of table) (map place_of list) in
    let other = sum_by-cons weight_of table list in
    let here : weight_at tables (place_of table) ≡ weight_of table =
    ap (λ (o : Option Placed). unwrap_or (option_map (λ (placed : Placed). weight_of (table.0, placed)) o) 0) live.0 in
    omega (arith, rest, one, other, here)

level_weight : (level : ℕ) (list : List (ℕ × Placed)) → AllByRecursion (λ (t : ℕ × Placed). t.1.level ≡ level) list
    → sum_by weight_of list ≡ (6 - level) * sum_by size_of list
level_weight level list all =
    sum_times (6 - level) weight_of size_of list
    (all_so (λ (t : ℕ × Placed). t.1.level ≡ level) (λ (t : ℕ × Placed). weight_of t ≡ (6 - level) * size_of t) (λ t is. ap (λ l. (6 - l) * size_of t) is) list all)

added_weight : (level : ℕ) (adds : List Add) → AllByRecursion (λ (add : Add). add.level ≡ level) adds
    → sum_by weight_added adds ≡ (6 - level) * sum_by (λ (add : Add). add.table.size) adds
added_weight level adds all =
    sum_times (6 - level) weight_added (λ (add : Add). add.table.size) adds
    (all_so (λ (add : Add). add.level ≡ level) (λ (add : Add). weight_added add ≡ (6 - level) * add.table.size) (λ add is. ap (λ l. (6 - l) * add.table.size) is) adds all)

some_bytes : (tables : Tables) (list : List (ℕ × Placed)) → HaveBytes tables → AreLive tables list → IsSome list → 1 ≤ sum_by size_of list
some_bytes tables [] have live some = let none = some.is in absurd (cc)
some_bytes tables (table ∷ list) have live some =
    let one = sum_by-cons size_of table list in
    let here = have table.0 table.1 live.0 in
    omega (arith, one, here)

-- a byte of what goes counts once less, and one of what stays as often as before
falls : (k was mid after gone stays bytes : ℕ) → mid + (suc k * gone + k * stays) ≡ was → after ≡ mid + k * bytes → bytes ≤ gone + stays → 1 ≤ gone → after < was
falls k was mid after gone stays bytes before then within some =
    let most = mul-le-mul_left k within in
    let parts = mul-add k gone stays in
    let more : suc k * gone ≡ k * gone + gone = grind arith in
    omega (arith, before, then, most, parts, more, some)

falls_at : (tables after : Tables) (level : ℕ) (edit : Edit) → Beyond tables level → HaveBytes tables → IsCompaction tables (choice_at tables level) edit
    → applied tables edit ≡ Ok after → weight after < weight tables
falls_at tables after level edit beyond have compaction is =
    let from = going level tables in
    let more = meeting (range_of_all from) (level + 1) tables in
    let b = between tables edit after is in
    let live = merged_live tables level in
    let less = weights_dropped edit.drops tables b.mid b.dropped_is in
    let inputs : sum_by (weight_at tables) edit.drops ≡ sum_by weight_of (from ++ more) =
    ap (sum_by (weight_at tables)) compaction.drops ∙ placed_weights tables (from ++ more) live in
    let split = sum_by-append weight_of from more in
    let gone = level_weight level from (going_has (λ (t : ℕ × Placed). t.1.level ≡ level) level tables (at_their_level level (finite.entries tables))) in
    let stays = level_weight (level + 1) more
    (meeting_has (λ (t : ℕ × Placed). t.1.level ≡ level + 1) (range_of_all from) (level + 1) tables (at_their_level (level + 1) (finite.entries tables))) in
    let gains = weights_added edit.adds b.mid after b.added_is in
    let comes = added_weight (level + 1) edit.adds (recursion_from_All (λ (add : Add). add.level ≡ level + 1) edit.adds compaction.levels) in
    let within : sum_by (λ (add : Add). add.table.size) edit.adds ≤ sum_by size_of from + sum_by size_of more =
    let sizes = ap (sum_by size_of) (stand_again tables (from ++ more) live) ∙ sum_by-append size_of from more in
    let bytes = compaction.bytes in
    omega (arith, sizes, bytes) in
    let some = some_bytes tables from have (going_has (Live tables) level tables (level_live tables level)) (some_go tables level beyond.is) in
    let below = beyond.below in
    let deeper : 6 - level ≡ suc (6 - (level + 1)) = omega (arith, below) in
    let gone_by : sum_by weight_of from ≡ suc (6 - (level + 1)) * sum_by size_of from = gone ∙ ap (λ k. k * sum_by size_of from) deeper in
    falls (6 - (level + 1)) (weight tables) (weight b.mid) (weight after) (sum_by size_of from) (sum_by size_of more) (sum_by (λ (add : Add). add.table.size) edit.adds)
    (omega (arith, less, inputs, split, gone_by, stays)) (omega (arith, gains, comes)) within some

pub weight_falls : (tables after : Tables) (choice : Choice) (edit : Edit) → picked tables ≡ Some choice → HaveBytes tables
    → IsCompaction tables choice edit → applied tables edit ≡ Ok after → weight after < weight tables
weight_falls tables after choice edit is have compaction done_so =
    let c = chosen_of tables choice is in
    falls_at tables after c.level edit c.beyond have (subst (λ (x : Choice). IsCompaction tables x edit) (sym c.is) compaction) done_so
