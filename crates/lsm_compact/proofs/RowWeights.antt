-- Compactions by the shape lower the weight by rows.
use Rattle.std.specs.Prelude.{◌≡◌, ℕ, suc, ◌+◌, ◌*◌, ◌-◌, ◌<◌, ◌≤◌, ◌==◌, Bool, true, false, cond, List, [], ◌∷◌, ◌++◌, map, length, Contains, Option, Some, None, sum_by}
use Rattle.std.proofs.Common.{refl, sym, ap, subst, inl, inr, ◌∙◌, arith, length-append}
use Rattle.std.proofs.lemmas.Bool.{eqb-true}
use Rattle.std.proofs.lemmas.Cmp.{nat_cmp_total}
use Rattle.std.proofs.lemmas.List.Concat.{length-flat_map}
use Rattle.std.proofs.lemmas.List.Elements.{Contains-append_cases, Contains-append_left, Contains-append_right}
use Rattle.std.proofs.lemmas.List.Sums.{sum_by-cons, sum_by-append}
use Rattle.std.proofs.Math.Nat.{mul-add, mul-le-mul_left}
use Rattle.std.specs.List.{fold}
use Rattle.std.specs.Ordering.{nat_cmp, is_eq, eq_by_cmp}
use Rattle.std.specs.declared.cmp.Ordering.TheVariants.{Less, Equal, Greater}
use Rattle.std.specs.FinMap as finite
use Rattle.std.specs.FinMap.Entries.{by_order}
use Rattle.lsm_rows.specs.declared.rows.Row.{Row}
use Rattle.lsm_rows.specs.Replay.{key_cmp}
use Rattle.lsm_version.specs.declared.choices.Choice.{Choice}
use Rattle.lsm_version.specs.declared.edits.Edit.{Edit}
use Rattle.lsm_version.specs.declared.tables.Add.{Add}
use Rattle.lsm_version.specs.declared.tables.Place.{Place}
use Rattle.lsm_version.specs.declared.tables.Placed.{Placed}
use Rattle.lsm_version.specs.Edits.{last_level}
use Rattle.lsm_version.specs.Levels.{Tables}
use Rattle.lsm_version.specs.Orders.{place_of}
use Rattle.lsm_version.specs.Versions.{is_of_level, dropped, added}
use Rattle.lsm_version.proofs.TableMaps.{same_number, dropped_not, dropped_none}
use Rattle.lsm_version.proofs.Overlaps.{fold_none}
use Rattle.lsm_pick.specs.Picked.{range_of_all, meeting, going, choice_at, picked}
use Rattle.lsm_pick.proofs.Sound.{Beyond, chosen_of, IsSome, some_go}
use Rattle.lsm_pick.proofs.Weights.{gone}
use Rattle.lsm_compact.specs.Closed.{IsClosed}
use Rattle.lsm_compact.specs.Installed.{IsInstalled, added_rows}
use Rattle.lsm_compact.specs.Orderly.{IsOrderly}
use Rattle.lsm_compact.specs.Outputs.{IsEditOf, AreAdds, joined}
use Rattle.lsm_compact.specs.RowWeight.{rows_below, row_weight}
use Rattle.lsm_compact.specs.Written.{input_rows}
use Rattle.lsm_compact.proofs.Ascending.{Ascend, first_below, rest_ascends, not_less}
use Rattle.lsm_compact.proofs.Keeping.{out_read, stay_rows}
use Rattle.lsm_compact.proofs.Lookups.{Between, adding, between, drops_rest, placed_of}
use Rattle.lsm_compact.proofs.Members.{nothing, has_first, has_later, by_first, entry_stands, no_table}
use Rattle.lsm_compact.proofs.Picks.{goes_at, closed_at, met_level}

-- ---- no more rows than there are

-- a list is parted at one of its elements
record Parted {A : Type 0} (xs : List A) (x : A) : Type 0 where
  before : List A
  behind : List A
  is : xs ≡ before ++ x ∷ behind

part : {A : Type 0} (xs : List A) (x : A) → Contains xs x → Parted xs x
part [] x c = absurd (nothing x c)
part (y ∷ xs) x c =
    elim (by_first y xs x c) [
      | inl same ↦ record { before = []; behind = xs; is = ap (λ z. z ∷ xs) same }
      | inr more ↦ let p = part xs x more in record { before = y ∷ p.before; behind = p.behind; is = ap (λ l. y ∷ l) p.is }
    ]

without : {A : Type 0} (before behind : List A) (x y : A) → (x ≡ y → ⊥) → Contains (before ++ x ∷ behind) y → Contains
    (before ++ behind) y
without before behind x y other c =
    elim (Contains-append_cases before (x ∷ behind) y c) [
      | inl here ↦ Contains-append_left before behind y here
      | inr more ↦ elim (by_first x behind y more) [
        | inl same ↦ absurd (other same)
        | inr later ↦ Contains-append_right before behind y later
      ]
    ]

-- rows that ascend are no more than the rows among which they are
no_more : (xs ys : List Row) → Ascend xs → ((row : Row) → Contains xs row → Contains ys row) → length xs ≤ length ys
no_more [] ys ascend among = omega arith
no_more (x ∷ xs) ys ascend among =
    let p = part ys x (among x (has_first x xs)) in
    let rest = no_more xs (p.before ++ p.behind) (rest_ascends x xs ascend) (λ row c. without p.before p.behind x row
    (λ same. not_less x.key (subst (λ (r : Row). key_cmp x.key r.key ≡ Less) (sym same) (first_below x xs ascend row c)))
    (subst (λ (l : List Row). Contains l row) p.is (among row (has_later x xs row c)))) in
    let size = ap (length {A = Row}) p.is in
    let parts = length-append p.before (x ∷ p.behind) in
    let others = length-append p.before p.behind in
    omega (arith, rest, size, parts, others)

-- ---- sums over a version's tables

put_sum : (f : ℕ × Placed → ℕ) (k : ℕ) (v : Placed) (es : List (ℕ × Placed)) → finite.find nat_cmp k es ≡ None
    → sum_by f (finite.put nat_cmp k v es) ≡ sum_by f es + f (k, v)
put_sum f k v [] none = refl
put_sum f k v (e ∷ es) none =
    elim (nat_cmp k e.0) as (λ o. cond (is_eq o) (Some e.1) (finite.find nat_cmp k es) ≡ None
    → sum_by f (by_order o ((k, v) ∷ e ∷ es) ((e.0, v) ∷ es) (e ∷ finite.put nat_cmp k v es)) ≡ sum_by f (e ∷ es) + f (k, v)) [
      | Less ↦ λ _. let whole = sum_by-cons f (k, v) (e ∷ es) in omega (arith, whole)
      | Equal ↦ λ taken. absurd (no_table e.1 taken)
      | Greater ↦ λ later.
          let rest = put_sum f k v es later in
          let whole = sum_by-cons f e (finite.put nat_cmp k v es) in
          let before = sum_by-cons f e es in
          omega (arith, rest, whole, before)
    ] none

abbrev total : (ℕ × Placed → ℕ) → Tables → ℕ
total f tables = sum_by f (finite.entries tables)

total_put : (f : ℕ × Placed → ℕ) (tables : Tables) (k : ℕ) (v : Placed) → finite.get tables k ≡ None → total f
    (finite.insert tables k v) ≡ total f tables + f (k, v)
total_put f tables k v none =
    ap (sum_by f) (finite.entries-insert nat_cmp_total tables k v) ∙ put_sum f k v (finite.entries tables)
    (sym (finite.get-entries tables k) ∙ none)

back : (tables : Tables) (k : ℕ) (v : Placed) → finite.get tables k ≡ Some v → finite.insert
    (finite.remove tables k) k v ≡ tables
back tables k v there =
    finite.same_map nat_cmp_total finite.nat_cmp-IsAntisymmetric _ _ (λ q.
    finite.get-insert nat_cmp_total (finite.remove tables k) k v q
    ∙ ap (cond (eq_by_cmp nat_cmp q k) (Some v)) (finite.get-remove nat_cmp_total tables k q)
    ∙ by_tie q (eq_by_cmp nat_cmp q k) refl)
  where
    by_tie : (q : ℕ) (b : Bool) → is_eq (nat_cmp q k) ≡ b → cond b (Some v)
        (cond b None (finite.get tables q)) ≡ finite.get tables q
    by_tie q true is = sym there ∙ ap (finite.get tables) (sym (same_number q k is))
    by_tie q false is = refl

total_removed : (f : ℕ × Placed → ℕ) (tables : Tables) (k : ℕ) (v : Placed) → finite.get tables k ≡ Some v → total f
    (finite.remove tables k) + f (k, v) ≡ total f tables
total_removed f tables k v there = sym (total_put f (finite.remove tables k) k v (gone tables k)) ∙ ap (total f)
    (back tables k v there)

same_tables : (a b : Tables) → Some a ≡ Some b → a ≡ b
same_tables a b is = cc

-- what the rows of a place's table count
abbrev at_place : (ℕ → List Row) → Place → ℕ
at_place rows place = (last_level - place.level) * length (rows place.number)

total_dropped : (rows : ℕ → List Row) (places : List Place) (tables after : Tables) → fold dropped
    (Some tables) places ≡ Some after
    → total (rows_below rows) after + sum_by (at_place rows) places ≡ total (rows_below rows) tables
total_dropped rows [] tables after is = let same = ap (total (rows_below rows)) (same_tables tables after is) in omega
    (arith, same)
total_dropped rows (place ∷ places) tables after is =
    by_found (finite.get tables place.number) refl
    (total_dropped rows places (finite.remove tables place.number) after (drops_rest tables place places after is))
  where
    refused : is_of_level place.level (finite.get tables place.number) ≡ false → ⊥
    refused other = no_table after
        (sym is ∙ ap (λ o. fold dropped o places) (dropped_not tables place other) ∙ fold_none dropped dropped_none places)

    by_level : (placed : Placed) → finite.get tables place.number ≡ Some placed → (b : Bool) →
        (placed.level == place.level) ≡ b
        → total (rows_below rows) after + sum_by (at_place rows) places ≡ total (rows_below rows)
        (finite.remove tables place.number)
        → total (rows_below rows) after + sum_by (at_place rows) (place ∷ places) ≡ total (rows_below rows) tables
    by_level placed there true level rest =
        let one = total_removed (rows_below rows) tables place.number placed there in
        let here : rows_below rows (place.number, placed) ≡ at_place rows place = ap
        (λ l. (last_level - l) * length (rows place.number)) (eqb-true placed.level place.level level) in
        let split = sum_by-cons (at_place rows) place places in
        omega (arith, rest, one, here, split)
    by_level placed there false level rest = absurd (refused (ap (is_of_level place.level) there ∙ level))

    by_found : (o : Option Placed) → finite.get tables place.number ≡ o
        → total (rows_below rows) after + sum_by (at_place rows) places ≡ total (rows_below rows)
        (finite.remove tables place.number)
        → total (rows_below rows) after + sum_by (at_place rows) (place ∷ places) ≡ total (rows_below rows) tables
    by_found None none rest = absurd (refused (ap (is_of_level place.level) none))
    by_found (Some placed) there rest = by_level placed there (placed.level == place.level) refl rest

total_added : (f : ℕ × Placed → ℕ) (adds : List Add) (tables after : Tables) → fold added (Some tables) adds ≡ Some after
    → total f after ≡ total f tables + sum_by (λ (add : Add). f (add.table.number, placed_of add)) adds
total_added f [] tables after is = let same = ap (total f) (same_tables tables after is) in omega (arith, same)
total_added f (add ∷ adds) tables after is =
    let a = adding tables add adds after is in
    let rest = total_added f adds (finite.insert tables add.table.number (placed_of add)) after a.rest in
    let one = total_put f tables add.table.number (placed_of add) a.free in
    let split = sum_by-cons (λ (x : Add). f (x.table.number, placed_of x)) add adds in
    omega (arith, rest, one, split)

sum_same : {A : Type 0} (f g : A → ℕ) (xs : List A) → ((x : A) → Contains xs x → f x ≡ g x) → sum_by f xs ≡ sum_by g xs
sum_same f g [] same = refl
sum_same f g (x ∷ xs) same =
    let one = sum_by-cons f x xs in
    let other = sum_by-cons g x xs in
    let here = same x (has_first x xs) in
    let rest = sum_same f g xs (λ y c. same y (has_later x xs y c)) in
    omega (arith, one, other, here, rest)

sum_times : {A : Type 0} (k : ℕ) (f g : A → ℕ) (xs : List A) → ((x : A) → Contains xs x → f x ≡ k * g x)
    → sum_by f xs ≡ k * sum_by g xs
sum_times k f g [] same = grind arith
sum_times k f g (x ∷ xs) same =
    let one = sum_by-cons f x xs in
    let rest = sum_times k f g xs (λ y c. same y (has_later x xs y c)) in
    let here = same x (has_first x xs) in
    let parts = mul-add k (g x) (sum_by g xs) in
    let all : k * sum_by g (x ∷ xs) ≡ k * (g x + sum_by g xs) = ap (λ s. k * s) (sum_by-cons g x xs) in
    omega (arith, one, rest, here, parts, all)

sum_mapped : {A B : Type 0} (f : B → ℕ) (h : A → B) (xs : List A) → sum_by f (map h xs) ≡ sum_by (λ x. f (h x)) xs
sum_mapped f h [] = refl
sum_mapped f h (x ∷ xs) =
    let one = sum_by-cons f (h x) (map h xs) in
    let other = sum_by-cons (λ y. f (h y)) x xs in
    let rest = sum_mapped f h xs in
    omega (arith, one, other, rest)

-- ---- adds

at_output : (level : ℕ) (f : Add → List Row) (adds : List Add) → AreAdds level (map f adds) adds → (add : Add)
    → Contains adds add → add.level ≡ level
unfolding AreAdds
at_output level f [] all add c = absurd (nothing add c)
at_output level f (one ∷ adds) all add c =
    elim (by_first one adds add c) [
      | inl same ↦ sym (ap (λ (x : Add). x.level) same) ∙ all.0.level_is
      | inr more ↦ at_output level f adds all.1 add more
    ]

-- ---- in all

falls : (k was mid after gone_rows stays bytes : ℕ) → mid + (suc k * gone_rows + k * stays) ≡ was → after ≡ mid + k * bytes
    → bytes ≤ gone_rows + stays → 1 ≤ gone_rows → after < was
falls k was mid after gone_rows stays bytes before then_is within some =
    let most = mul-le-mul_left k within in
    let parts = mul-add k gone_rows stays in
    let more : suc k * gone_rows ≡ k * gone_rows + gone_rows = grind arith in
    omega (arith, before, then_is, most, parts, more, some)

some_rows : (tables : Tables) (rows : ℕ → List Row) → IsOrderly tables rows → (list : List (ℕ × Placed)) →
    ((t : ℕ × Placed) → Contains list t → finite.get tables t.0 ≡ Some t.1) → IsSome list
    → 1 ≤ sum_by (λ (t : ℕ × Placed). length (rows t.0)) list
some_rows tables rows o [] live some = absurd (no_list some.is)
  where
    no_list : [] ≡ some.head ∷ some.tail → ⊥
    no_list e = cc
some_rows tables rows o (t ∷ list) live some =
    let one = sum_by-cons (λ (x : ℕ × Placed). length (rows x.0)) t list in
    let here = o.some t.0 t.1 (live t (has_first t list)) in
    omega (arith, one, here)

module _ (tables after : Tables) (rows later : ℕ → List Row) (level : ℕ) (edit : Edit) (beyond : Beyond tables level)
    (o : IsOrderly tables rows)
    (e : IsEditOf tables (choice_at tables level) (input_rows rows (choice_at tables level))
    (added_rows later edit.adds) edit) (installed : IsInstalled tables after rows later edit) where
  abbrev from : List (ℕ × Placed)
  from = going level tables

  abbrev met : List (ℕ × Placed)
  met = meeting (range_of_all from) (level + 1) tables

  abbrev len : ℕ × Placed → ℕ
  len t = length (rows t.0)

  abbrev outs : List Row
  outs = joined (added_rows later edit.adds)

  b : Between tables edit after
  b = between tables edit after installed.is

  closed : IsClosed tables rows (choice_at tables level)
  closed = closed_at tables rows level beyond o

  -- what is written is no more than what was read
  within : length outs ≤ sum_by len from + sum_by len met
  within =
      let most = no_more outs (input_rows rows (choice_at tables level)) e.written.ascend
      (out_read tables after rows later (choice_at tables level) edit o closed e b installed.stay) in
      let read = length-flat_map (λ (place : Place). rows place.number) (map place_of (from ++ met)) in
      let mapped = sum_mapped (λ (place : Place). length (rows place.number)) place_of (from ++ met) in
      let split = sum_by-append len from met in
      omega (arith, most, read, mapped, split)

  written_len : length outs ≡ sum_by (λ (add : Add). length (later add.table.number)) edit.adds
  written_len = length-flat_map (λ (r : List Row). r) (added_rows later edit.adds) ∙ sum_mapped (λ (r : List Row). length r)
      (λ (add : Add). later add.table.number) edit.adds

  before : total (rows_below rows) b.mid +
      (suc (last_level - (level + 1)) * sum_by len from + (last_level - (level + 1)) * sum_by len met)
      ≡ row_weight tables rows
  before =
      let less = total_dropped rows edit.drops tables b.mid b.dropped_is in
      let drops = ap (sum_by (at_place rows)) e.drops ∙ sum_mapped (at_place rows) place_of (from ++ met) in
      let split = sum_by-append (λ (t : ℕ × Placed). at_place rows (place_of t)) from met in
      let below = beyond.below in
      let deeper : last_level - level ≡ suc (last_level - (level + 1)) = omega (arith, below) in
      let goes = sum_times (suc (last_level - (level + 1))) (λ (t : ℕ × Placed). at_place rows (place_of t)) len from
      (λ t c. ap (λ k. k * length (rows t.0)) (ap (λ l. last_level - l) (goes_at tables level t c).1 ∙ deeper)) in
      let stays = sum_times (last_level - (level + 1)) (λ (t : ℕ × Placed). at_place rows (place_of t)) len met
      (λ t c. ap (λ l. (last_level - l) * length (rows t.0)) (met_level tables level t c)) in
      omega (arith, less, drops, split, goes, stays)

  afterwards : row_weight after later ≡ total (rows_below rows) b.mid + (last_level - (level + 1)) * length outs
  afterwards =
      let gains = total_added (rows_below later) edit.adds b.mid after b.added_is in
      let comes = sum_times (last_level - (level + 1)) (λ (add : Add). rows_below later (add.table.number, placed_of add))
      (λ (add : Add). length (later add.table.number)) edit.adds
      (λ add c. ap (λ l. (last_level - l) * length (later add.table.number))
      (at_output (level + 1) (λ (x : Add). later x.table.number) edit.adds e.adds add c)) in
      let same = sum_same (rows_below later) (rows_below rows) (finite.entries b.mid)
      (λ t c. ap (λ (r : List Row). (last_level - t.1.level) * length r)
      (stay_rows tables after rows later (choice_at tables level) edit o closed e b installed.stay t.0 t.1
      (entry_stands b.mid t c))) in
      let size = ap (λ n. (last_level - (level + 1)) * n) written_len in
      omega (arith, gains, comes, same, size)

  lower : row_weight after later < row_weight tables rows
  lower =
      falls (last_level - (level + 1)) (row_weight tables rows) (total (rows_below rows) b.mid) (row_weight after later)
      (sum_by len from) (sum_by len met) (length outs) before afterwards within
      (some_rows tables rows o from (λ t c. (goes_at tables level t c).0) (some_go tables level beyond.is))

pub rows_fall : (tables after : Tables) (rows later : ℕ → List Row) (choice : Choice) (edit : Edit)
    → picked tables ≡ Some choice → IsOrderly tables rows
    → IsEditOf tables choice (input_rows rows choice) (added_rows later edit.adds) edit
    → IsInstalled tables after rows later edit
    → row_weight after later < row_weight tables rows
rows_fall tables after rows later choice edit is o e installed =
    let c = chosen_of tables choice is in
    lower tables after rows later c.level edit c.beyond o
    (subst (λ (x : Choice). IsEditOf tables x (input_rows rows x) (added_rows later edit.adds) edit) (sym c.is) e) installed
