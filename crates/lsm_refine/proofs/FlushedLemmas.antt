-- With the frozen rows in a table, the parts of a store's folder have the same batches, and are lawful.
use Rattle.std.specs.Prelude.{◌≡◌, ◌≢◌, ◌⊎◌, ℕ, ◌+◌, ◌<◌, ◌≤◌, Bool, true, false, ◌==◌, cond, nat_eq, nat_lt, List, [], ◌∷◌, ◌++◌, take, drop, length, All, Contains, Option, Some, None}
use Rattle.std.specs.List.{flat_map, filter, AllByRecursion, IsDistinct}
use Rattle.std.specs.Ordering.{nat_cmp, eq_by_cmp}
use Rattle.std.specs.Cmp.{nat_cmp_total}
use Rattle.std.specs.FinMap as finmap
use Rattle.std.proofs.Common.{inl, inr, refl, sym, ap, subst, ◌∙◌, arith, append_assoc}
use Rattle.std.proofs.lemmas.Bool.Decides.{nat_tests}
use Rattle.std.proofs.lemmas.List.{map-append, drop-drop}
use Rattle.std.proofs.Math.Seq.{take-add, take-append_seam, drop-append_seam}
use Rattle.std.proofs.lemmas.List.Elements.{All-nil, All-cons, All-head, All-tail, All-append, All-weaker, All-contains, All-filter}
use Rattle.std.proofs.lemmas.List.Sorted.{All-permutation, IsPermutation-map, IsPermutation-sym}
use Rattle.std.proofs.lemmas.Map.Keys.{IsDistinct-IsPermutation}
use Rattle.lsm_rows.specs.declared.operations.Op.{Op}
use Rattle.lsm_rows.specs.declared.rows.Row.{Row}
use Rattle.lsm_rows.specs.Replay.{Contents, replayed, sequence_after}
use Rattle.lsm_rows.specs.Rows.{row_of, batch_rows, rows_of}
use Rattle.lsm_rows.specs.Contents.{contents_of, newest, newer, AllBefore}
use Rattle.lsm_rows.proofs.NewestRows.{newest_of, newest-append, newest_is, contents_by_newest, not_below, tied}
use Rattle.lsm_rows.proofs.ReplayedRows.{before_batch, contents_replayed, sequence-is}
use Rattle.lsm_rows.proofs.Replaying.{sequence_next, sequence_both, replayed_both}
use Rattle.lsm_version.specs.declared.edits.Edit.{Edit}
use Rattle.lsm_version.specs.declared.tables.Placed.{Placed}
use Rattle.lsm_version.specs.declared.tables.TableInfo.{TableInfo}
use Rattle.lsm_version.specs.Levels.{Tables, IsLeveled, overlap}
use Rattle.lsm_folder.specs.Manifests.{tables_after, last_after}
use Rattle.lsm_folder.specs.Needed.{IsAsListed, sequences}
use Rattle.lsm_folder.specs.Parts.{AreLawful, rows_of_tables}
use Rattle.lsm_model.specs.declared.states.State.{State}
use Rattle.lsm_model.proofs.RunLemmas.{sequence_rises}
use Rattle.lsm_refine.specs.Parts.{Parts, AreRowsOf, batches_in, first_logged, first_in_last}
use Rattle.lsm_refine.specs.Tied.{Tied}
use Rattle.lsm_refine.specs.Flushed.{AreFlushed, HasKeys, IsLastOf, AddTable, at_top, rows_with, flushed}
use Rattle.lsm_version.proofs.TableMaps.{same_number}
use Rattle.lsm_refine.proofs.AddedLemmas.{IsAmong, inserted_among}
use Rattle.lsm_refine.proofs.TiedLemmas.{tables_before, logged_many}

-- ---- parts of lists

pub all_left : {X : Type 0} (P : X → Type 0) (xs ys : List X) → All P (xs ++ ys) → All P xs
all_left P [] ys each = All-nil P
all_left P (x ∷ xs) ys each = All-cons P x xs (All-head P x (xs ++ ys) each) (all_left P xs ys (All-tail P x (xs ++ ys) each))

pub all_right : {X : Type 0} (P : X → Type 0) (xs ys : List X) → All P (xs ++ ys) → All P ys
all_right P [] ys each = each
all_right P (x ∷ xs) ys each = all_right P xs ys (All-tail P x (xs ++ ys) each)

-- ---- the last sequence of the rows of batches

batch_up_to : (first last : ℕ) (ops : List Op) → first ≤ last + 1
    → All (λ (row : Row). row.sequence ≤ last) (batch_rows first ops) → first + length ops ≤ last + 1
batch_up_to first last [] low each = omega (arith, low)
batch_up_to first last (op ∷ ops) low each =
    let here = All-head (λ (row : Row). row.sequence ≤ last) (row_of first op) (batch_rows (first + 1) ops) each in
    let rest = batch_up_to (first + 1) last ops (omega (arith, here, sequence-is first op))
    (All-tail (λ (row : Row). row.sequence ≤ last) (row_of first op) (batch_rows (first + 1) ops) each) in
    omega (arith, rest)

rows_up_to : (first last : ℕ) (batches : List (List Op)) → first ≤ last + 1
    → All (λ (row : Row). row.sequence ≤ last) (rows_of first batches) → sequence_after first batches ≤ last + 1
rows_up_to first last [] low each = low
rows_up_to first last (ops ∷ batches) low each =
    rows_up_to (first + length ops) last batches
    (batch_up_to first last ops low
    (all_left (λ (row : Row). row.sequence ≤ last) (batch_rows first ops) (rows_of (first + length ops) batches) each))
    (all_right (λ (row : Row). row.sequence ≤ last) (batch_rows first ops) (rows_of (first + length ops) batches) each)

-- ---- the newest row of a key, where some rows are newer than all others

older_stays : (a b : Row) → a.sequence < b.sequence → newer a (Some b) ≡ b
older_stays a b less = let is : nat_lt a.sequence b.sequence
    ≡ true = grind (arith, nat_tests) in ap (λ (t : Bool). cond t b a) is

newer_stays : (a b : Row) → a.sequence < b.sequence → newer b (Some a) ≡ b
newer_stays a b less = ap (λ (t : Bool). cond t a b) (not_below a.sequence b.sequence less)

newer_below : (a b : Row) (least : ℕ) → a.sequence < least → b.sequence < least → (newer a (Some b)).sequence < least
newer_below a b least one two = by (nat_lt a.sequence b.sequence)
  where
    by : (t : Bool) → (cond t b a).sequence < least
    by true = two
    by false = one

none_behind : (o : Option Row) → newest_of o None ≡ o
none_behind None = refl
none_behind (Some row) = refl

moved_back : (least : ℕ) (a n b : Option Row) → ((r : Row) → a ≡ Some r → r.sequence < least)
    → ((r : Row) → b ≡ Some r → r.sequence < least)
    → ((r : Row) → n ≡ Some r → least ≤ r.sequence) → newest_of a (newest_of n b) ≡ newest_of (newest_of a b) n
moved_back least a None b low_a low_b high = sym (none_behind (newest_of a b))
moved_back least a (Some n) None low_a low_b high = ap (λ (o : Option Row). newest_of o (Some n)) (sym (none_behind a))
moved_back least None (Some n) (Some b) low_a low_b high =
    let less : b.sequence < n.sequence = omega (arith, low_b b refl, high n refl) in
    ap Some (newer_stays b n less) ∙ sym (ap Some (older_stays b n less))
moved_back least (Some a) (Some n) (Some b) low_a low_b high =
    let over_b : b.sequence < n.sequence = omega (arith, low_b b refl, high n refl) in
    let over_a : a.sequence < n.sequence = omega (arith, low_a a refl, high n refl) in
    let over_both : (newer a (Some b)).sequence < n.sequence =
    omega (arith, newer_below a b least (low_a a refl) (low_b b refl), high n refl) in
    ap (λ (r : Row). Some (newer a (Some r))) (newer_stays b n over_b)
    ∙ ap Some (older_stays a n over_a)
    ∙ sym (ap Some (older_stays (newer a (Some b)) n over_both))

module _ (least : ℕ) (A N B : List Row) (low : AllBefore least (A ++ B))
    (high : All (λ (row : Row). least ≤ row.sequence) N) where
  low_of : (rows : List Row) → AllBefore least rows → (key : List ℕ) (row : Row) → newest key rows ≡ Some row
      → row.sequence < least
  low_of rows each key row is = All-contains (λ (r : Row). r.sequence < least) rows row each (newest_is key rows row is).among

  newest_moved : (key : List ℕ) → newest key (A ++ (N ++ B)) ≡ newest key ((A ++ B) ++ N)
  newest_moved key =
      newest-append A (N ++ B) key
      ∙ ap (λ (o : Option Row). newest_of (newest key A) o) (newest-append N B key)
      ∙ moved_back least (newest key A) (newest key N) (newest key B)
      (low_of A (all_left (λ (r : Row). r.sequence < least) A B low) key)
      (low_of B (all_right (λ (r : Row). r.sequence < least) A B low) key)
      (λ row is. All-contains (λ (r : Row). least ≤ r.sequence) N row high (newest_is key N row is).among)
      ∙ ap (λ (o : Option Row). newest_of o (newest key N)) (sym (newest-append A B key))
      ∙ sym (newest-append (A ++ B) N key)

-- ---- distinct sequences

abbrev pub IsNot : ℕ → ℕ → Type 0
IsNot x y = nat_eq x y ≡ false

pub each_left : (x : ℕ) (xs ys : List ℕ) → AllByRecursion (IsNot x) (xs ++ ys) → AllByRecursion (IsNot x) xs
each_left x [] ys each = tt
each_left x (y ∷ xs) ys each = (each.0, each_left x xs ys each.1)

each_right : (x : ℕ) (xs ys : List ℕ) → AllByRecursion (IsNot x) (xs ++ ys) → AllByRecursion (IsNot x) ys
each_right x [] ys each = each
each_right x (y ∷ xs) ys each = each_right x xs ys each.1

each_both : (x : ℕ) (xs ys : List ℕ) → AllByRecursion (IsNot x) xs → AllByRecursion (IsNot x) ys
    → AllByRecursion (IsNot x) (xs ++ ys)
each_both x [] ys one two = two
each_both x (y ∷ xs) ys one two = (one.0, each_both x xs ys one.1 two)

above : (x least : ℕ) (rows : List Row) → x < least → All (λ (row : Row). least ≤ row.sequence) rows
    → AllByRecursion (IsNot x) (sequences rows)
above x least [] less each = tt
above x least (row ∷ rows) less each =
    let here = All-head (λ (r : Row). least ≤ r.sequence) row rows each in
    let over : x < row.sequence = omega (arith, here, less) in
    (grind (arith, nat_tests), above x least rows less (All-tail (λ (r : Row). least ≤ r.sequence) row rows each))

below : (x least : ℕ) (rows : List Row) → least ≤ x → AllBefore least rows → AllByRecursion (IsNot x) (sequences rows)
below x least [] less each = tt
below x least (row ∷ rows) less each =
    let here = All-head (λ (r : Row). r.sequence < least) row rows each in
    let over : row.sequence < x = omega (arith, here, less) in
    (grind (arith, nat_tests), below x least rows less (All-tail (λ (r : Row). r.sequence < least) row rows each))

apart_behind : (least : ℕ) (N B : List Row) → AllBefore least B → All (λ (row : Row). least ≤ row.sequence) N
    → IsDistinct nat_eq (sequences N) → IsDistinct nat_eq (sequences B) → IsDistinct nat_eq (sequences N ++ sequences B)
unfolding IsDistinct
apart_behind least [] B low high one two = two
apart_behind least (n ∷ N) B low high one two = (
  each_both n.sequence (sequences N) (sequences B) one.0
      (below n.sequence least B (All-head (λ (r : Row). least ≤ r.sequence) n N high) low),
  apart_behind least N B low (All-tail (λ (r : Row). least ≤ r.sequence) n N high) one.1 two,
)

apart_between : (least : ℕ) (A N B : List Row) → AllBefore least (A ++ B) → All (λ (row : Row). least ≤ row.sequence) N
    → IsDistinct nat_eq (sequences A ++ sequences B) → IsDistinct nat_eq (sequences N)
    → IsDistinct nat_eq (sequences A ++ (sequences N ++ sequences B))
unfolding IsDistinct
apart_between least [] N B low high others new = apart_behind least N B low high new others
apart_between least (a ∷ A) N B low high others new = (
  each_both a.sequence (sequences A) (sequences N ++ sequences B) (each_left a.sequence (sequences A) (sequences B) others.0)
      (each_both a.sequence (sequences N) (sequences B)
      (above a.sequence least N (All-head (λ (r : Row). r.sequence < least) a (A ++ B) low) high)
      (each_right a.sequence (sequences A) (sequences B) others.0)),
  apart_between least A N B (All-tail (λ (r : Row). r.sequence < least) a (A ++ B) low) high others.1 new,
)

some_apart : (x : ℕ) (which : Row → Bool) (rows : List Row) → AllByRecursion (IsNot x) (sequences rows)
    → AllByRecursion (IsNot x) (sequences (filter which rows))
some_apart x which [] each = tt
some_apart x which (row ∷ rows) each = by (which row) (some_apart x which rows each.1)
  where
    by : (b : Bool) → AllByRecursion (IsNot x) (sequences (filter which rows))
        → AllByRecursion (IsNot x) (sequences (cond b (row ∷ filter which rows) (filter which rows)))
    by true rest = (each.0, rest)
    by false rest = rest

-- some of rows with distinct sequences have distinct ones
some_distinct : (which : Row → Bool) (rows : List Row) → IsDistinct nat_eq (sequences rows)
    → IsDistinct nat_eq (sequences (filter which rows))
unfolding IsDistinct
some_distinct which [] each = tt
some_distinct which (row ∷ rows) each = by (which row) (some_distinct which rows each.1)
  where
    by : (b : Bool) → IsDistinct nat_eq (sequences (filter which rows))
        → IsDistinct nat_eq (sequences (cond b (row ∷ filter which rows) (filter which rows)))
    by true rest = (some_apart row.sequence which rows each.0, rest)
    by false rest = rest

-- ---- rows of batches rise

batch_from : (first : ℕ) (ops : List Op) (rest : List Row) → All (λ (row : Row). first + length ops ≤ row.sequence) rest
    → All (λ (row : Row). first ≤ row.sequence) (batch_rows first ops ++ rest)
batch_from first [] rest each =
    All-weaker (λ (row : Row). first + 0 ≤ row.sequence) (λ (row : Row). first ≤ row.sequence)
    (λ row is. omega (arith, is)) rest each
batch_from first (op ∷ ops) rest each =
    let more : List Row = batch_rows (first + 1) ops ++ rest in
    All-cons (λ (row : Row). first ≤ row.sequence) (row_of first op) more (omega (arith, sequence-is first op))
    (All-weaker (λ (row : Row). first + 1 ≤ row.sequence) (λ (row : Row). first ≤ row.sequence)
    (λ row is. omega (arith, is)) more
    (batch_from (first + 1) ops rest (All-weaker (λ (row : Row). first + length (op ∷ ops) ≤ row.sequence)
    (λ (row : Row). first + 1 + length ops ≤ row.sequence) (λ row is. omega (arith, is)) rest each)))

rows_from : (first : ℕ) (batches : List (List Op)) → All (λ (row : Row). first ≤ row.sequence) (rows_of first batches)
rows_from first [] = All-nil (λ (row : Row). first ≤ row.sequence)
rows_from first (ops ∷ batches) = batch_from first ops (rows_of (first + length ops) batches)
    (rows_from (first + length ops) batches)

batch_distinct : (first : ℕ) (ops : List Op) (rest : List Row) → All (λ (row : Row). first + length ops ≤ row.sequence) rest
    → IsDistinct nat_eq (sequences rest) → IsDistinct nat_eq (sequences (batch_rows first ops ++ rest))
unfolding IsDistinct
batch_distinct first [] rest each apart = apart
batch_distinct first (op ∷ ops) rest each apart =
    let later : All (λ (row : Row). first + 1 + length ops ≤ row.sequence) rest =
    All-weaker (λ (row : Row). first + length (op ∷ ops) ≤ row.sequence) (λ (row : Row). first + 1 + length ops ≤ row.sequence)
    (λ row is. omega (arith, is)) rest each in (
      above (row_of first op).sequence (first + 1) (batch_rows (first + 1) ops ++ rest) (omega (arith, sequence-is first op))
          (batch_from (first + 1) ops rest later),
      batch_distinct (first + 1) ops rest later apart,
    )

rows_distinct : (first : ℕ) (batches : List (List Op)) → IsDistinct nat_eq (sequences (rows_of first batches))
unfolding IsDistinct
rows_distinct first [] = tt
rows_distinct first (ops ∷ batches) =
    batch_distinct first ops (rows_of (first + length ops) batches) (rows_from (first + length ops) batches)
    (rows_distinct (first + length ops) batches)

rows_below : (first : ℕ) (batches : List (List Op))
    → All (λ (row : Row). row.sequence < sequence_after first batches) (rows_of first batches)
rows_below first [] = All-nil (λ (row : Row). row.sequence < first)
rows_below first (ops ∷ batches) =
    let end : ℕ = sequence_after (first + length ops) batches in
    All-append (λ (row : Row). row.sequence < end) (batch_rows first ops) (rows_of (first + length ops) batches)
    (All-weaker (λ (row : Row). row.sequence < first + length ops) (λ (row : Row). row.sequence < end)
    (λ row is. omega (arith, is, sequence_rises (first + length ops) batches)) (batch_rows first ops)
    (before_batch [] first ops (All-nil (λ (row : Row). row.sequence < first)))) (rows_below (first + length ops) batches)

nat_eq_flips : (x y : ℕ) → nat_eq x y ≡ nat_eq y x
nat_eq_flips x y = grind (arith, nat_tests)

-- ---- rows of tables, with those of one more

same_is : (k n : ℕ) → k ≡ n → (k == n) ≡ true
same_is k n same = grind (arith, nat_tests)

other_is : (k n : ℕ) → k ≢ n → (k == n) ≡ false
other_is k n other = grind (arith, nat_tests)

tied_other : (q k : ℕ) → q ≢ k → eq_by_cmp nat_cmp q k ≡ false
tied_other q k other = grind (arith, nat_tests)

pub tied_same : (q k : ℕ) → q ≡ k → eq_by_cmp nat_cmp q k ≡ true
tied_same q k same = grind (arith, nat_tests)

not_first : (q : ℕ) (e : ℕ × Placed) (es : List (ℕ × Placed)) → finmap.find nat_cmp q (e ∷ es) ≡ None
    → (q ≢ e.0) × (finmap.find nat_cmp q es ≡ None)
not_first q e es none = by (eq_by_cmp nat_cmp q e.0) refl
  where
    by : (b : Bool) → eq_by_cmp nat_cmp q e.0 ≡ b → (q ≢ e.0) × (finmap.find nat_cmp q es ≡ None)
    by true is =
        let clash : Some e.1 ≡ None = ap (λ (b : Bool). cond b (Some e.1) (finmap.find nat_cmp q es)) (sym is) ∙ none in
        absurd (cc)
    by false is = (
      λ same. let clash : true ≡ false = sym (tied_same q e.0 same) ∙ is in cc,
      ap (λ (b : Bool). cond b (Some e.1) (finmap.find nat_cmp q es)) (sym is) ∙ none,
    )

none_left : (q : ℕ) (xs ys : List (ℕ × Placed)) → finmap.find nat_cmp q (xs ++ ys) ≡ None → finmap.find nat_cmp q xs ≡ None
none_left q [] ys none = refl
none_left q (x ∷ xs) ys none =
    let apart = not_first q x (xs ++ ys) none in
    ap (λ (b : Bool). cond b (Some x.1) (finmap.find nat_cmp q xs)) (tied_other q x.0 apart.0) ∙ none_left q xs ys apart.1

none_right : (q : ℕ) (xs ys : List (ℕ × Placed)) → finmap.find nat_cmp q (xs ++ ys) ≡ None → finmap.find nat_cmp q ys ≡ None
none_right q [] ys none = none
none_right q (x ∷ xs) ys none = none_right q xs ys (not_first q x (xs ++ ys) none).1

module _ (n : ℕ) (new : List Row) (rows : ℕ → List Row) where
  pub rows_here : rows_with n new rows n ≡ new
  rows_here = ap (λ (b : Bool). cond b new (rows n)) (same_is n n refl)

  pub rows_there : (k : ℕ) → k ≢ n → rows_with n new rows k ≡ rows k
  rows_there k other = ap (λ (b : Bool). cond b new (rows k)) (other_is k n other)

  same_rows : (es : List (ℕ × Placed)) → finmap.find nat_cmp n es ≡ None
      → flat_map (λ (table : ℕ × Placed). rows_with n new rows table.0) es ≡ flat_map (λ (table : ℕ × Placed). rows table.0) es
  same_rows [] none = refl
  same_rows (e ∷ es) none =
      let apart = not_first n e es none in
      ap (λ (l : List Row). l ++ flat_map (λ (table : ℕ × Placed). rows_with n new rows table.0) es)
      (rows_there e.0 (λ same. apart.0 (sym same)))
      ∙ ap (λ (l : List Row). rows e.0 ++ l) (same_rows es apart.1)

flat-append : (f : ℕ × Placed → List Row) (xs ys : List (ℕ × Placed)) → flat_map f (xs ++ ys) ≡ flat_map f xs ++ flat_map f ys
flat-append f [] ys = refl
flat-append f (x ∷ xs) ys = ap (λ (l : List Row). f x ++ l) (flat-append f xs ys)
    ∙ sym (append_assoc (f x) (flat_map f xs) (flat_map f ys))

-- where there is a row, some key has a newest one
no_rows : (rows : List Row) (row : Row) → Contains rows row → ((key : List ℕ) → newest key [] ≡ newest key rows) → ⊥
no_rows [] row among same = All-contains (λ (r : Row). ⊥) [] row (All-nil (λ (r : Row). ⊥)) among
no_rows (r ∷ rows) row among same =
    let clash : None ≡ Some (newer r (newest r.key rows)) =
    same r.key ∙ ap (λ (b : Bool). cond b (Some (newer r (newest r.key rows))) (newest r.key rows)) (tied r.key r.key refl) in
    cc

both_bounds : (low high : ℕ) (rows : List Row) → All (λ (row : Row). low ≤ row.sequence) rows
    → All (λ (row : Row). row.sequence ≤ high) rows
    → All (λ (row : Row). (low ≤ row.sequence) × (row.sequence ≤ high)) rows
both_bounds low high [] from most = All-nil (λ (row : Row). (low ≤ row.sequence) × (row.sequence ≤ high))
both_bounds low high (r ∷ rows) from most =
    All-cons (λ (row : Row). (low ≤ row.sequence) × (row.sequence ≤ high)) r rows (
      All-head (λ (row : Row). low ≤ row.sequence) r rows from,
      All-head (λ (row : Row). row.sequence ≤ high) r rows most,
    ) (both_bounds low high rows (All-tail (λ (row : Row). low ≤ row.sequence) r rows from)
    (All-tail (λ (row : Row). row.sequence ≤ high) r rows most))

some_same : (a b : Placed) → Some a ≡ Some b → a ≡ b
some_same a b same = cc

-- the greatest sequence of the rows of batches is the last one of these
pub last_of_rows : (before last : ℕ) (batches : List (List Op)) (frozen : List Row) → AreRowsOf (before + 1) batches frozen
    → IsLastOf last frozen → last ≡ sequence_after before batches
last_of_rows before last batches frozen are greatest =
    let from : All (λ (row : Row). before + 1 ≤ row.sequence) frozen =
    All-permutation (λ (row : Row). before + 1 ≤ row.sequence) (rows_of (before + 1) batches) frozen are.same
    (rows_from (before + 1) batches) in
    let low = All-contains (λ (row : Row). before + 1 ≤ row.sequence) frozen greatest.row from greatest.among in
    let up = rows_up_to (before + 1) last batches (omega (arith, low, greatest.is))
    (All-permutation (λ (row : Row). row.sequence ≤ last) frozen (rows_of (before + 1) batches)
    (IsPermutation-sym (rows_of (before + 1) batches) frozen are.same) greatest.most) in
    let most = All-contains (λ (row : Row). row.sequence < sequence_after (before + 1) batches) frozen greatest.row
    (All-permutation (λ (row : Row). row.sequence < sequence_after (before + 1) batches) (rows_of (before + 1) batches) frozen
    are.same (rows_below (before + 1) batches)) greatest.among in
    omega (arith, sequence_next before batches, up, most, greatest.is)

-- ---- the frozen rows are in a table

module _ (parts : Parts) (lawful : AreLawful parts.edits parts.rows) (frozen : List Row)
    (frozen_are : AreRowsOf (first_logged parts) (batches_in parts.older) frozen) (info : TableInfo) (new : List Row)
    (picked : AreFlushed frozen new) (keys : HasKeys info new)
    (fresh : finmap.get (tables_after parts.edits) info.number ≡ None) (log last : ℕ) (greatest : IsLastOf last frozen)
    (edits : List Edit) (add : AddTable parts.edits info log last edits) where
  abbrev n : ℕ
  n = info.number

  abbrev tables : Tables
  tables = tables_after parts.edits

  abbrev older : List (List Op)
  older = batches_in parts.older

  abbrev first : ℕ
  first = first_logged parts

  abbrev with : ℕ → List Row
  with = rows_with n new parts.rows

  abbrev old_rows : List Row
  old_rows = rows_of_tables tables parts.rows

  -- ---- the new rows

  frozen_from : All (λ (row : Row). first ≤ row.sequence) frozen
  frozen_from = All-permutation (λ (row : Row). first ≤ row.sequence) (rows_of first older) frozen frozen_are.same
      (rows_from first older)

  new_from : All (λ (row : Row). first ≤ row.sequence) new
  new_from = subst (All (λ (row : Row). first ≤ row.sequence)) (sym picked.are)
      (All-filter picked.which (λ (row : Row). first ≤ row.sequence) frozen frozen_from)

  new_most : All (λ (row : Row). row.sequence ≤ last) new
  new_most = subst (All (λ (row : Row). row.sequence ≤ last)) (sym picked.are)
      (All-filter picked.which (λ (row : Row). row.sequence ≤ last) frozen greatest.most)

  new_distinct : IsDistinct nat_eq (sequences new)
  new_distinct = subst (λ (rows : List Row). IsDistinct nat_eq (sequences rows)) (sym picked.are)
      (some_distinct picked.which frozen
      (IsDistinct-IsPermutation nat_eq nat_eq_flips (sequences (rows_of first older)) (sequences frozen)
      (IsPermutation-map (λ (row : Row). row.sequence) (rows_of first older) frozen frozen_are.same)
      (rows_distinct first older)))

  low : first ≤ last
  low = omega
      (arith, All-contains (λ (row : Row). first ≤ row.sequence) frozen greatest.row frozen_from greatest.among, greatest.is)

  -- the greatest sequence of the frozen rows is the last one of the older logs
  pub last_is : last ≡ sequence_after (last_after parts.edits) (batches_in parts.older)
  last_is = last_of_rows (last_after parts.edits) last older frozen frozen_are greatest

  -- ---- where the table stands among the others

  among : IsAmong (info.number, at_top info) (finmap.entries (tables_after parts.edits))
      (finmap.entries (finmap.insert (tables_after parts.edits) info.number (at_top info)))
  among = inserted_among tables n (at_top info) fresh

  abbrev rows_in : List (ℕ × Placed) → List Row
  rows_in es = flat_map (λ (table : ℕ × Placed). parts.rows table.0) es

  old_are : old_rows ≡ rows_in among.before ++ rows_in among.behind
  old_are = ap rows_in among.others_are ∙ flat-append (λ (table : ℕ × Placed). parts.rows table.0) among.before among.behind

  not_there : finmap.find nat_cmp n (among.before ++ among.behind) ≡ None
  not_there = ap (finmap.find nat_cmp n) (sym among.others_are) ∙ sym (finmap.get-entries tables n) ∙ fresh

  rows_are : rows_of_tables (tables_after edits) with ≡ rows_in among.before ++ (new ++ rows_in among.behind)
  rows_are =
      ap (λ (t : Tables). rows_of_tables t with) add.tables
      ∙ ap (λ (es : List (ℕ × Placed)). flat_map (λ (table : ℕ × Placed). with table.0) es) among.all_are
      ∙ flat-append (λ (table : ℕ × Placed). with table.0) among.before ((n, at_top info) ∷ among.behind)
      ∙ ap (λ (l : List Row). l ++ (with n ++ flat_map (λ (table : ℕ × Placed). with table.0) among.behind))
      (same_rows n new parts.rows among.before (none_left n among.before among.behind not_there))
      ∙ ap (λ (l : List Row). rows_in among.before ++ (l ++ flat_map (λ (table : ℕ × Placed). with table.0) among.behind))
      (rows_here n new parts.rows)
      ∙ ap (λ (l : List Row). rows_in among.before ++ (new ++ l))
      (same_rows n new parts.rows among.behind (none_right n among.before among.behind not_there))

  old_before : AllBefore first (rows_in among.before ++ rows_in among.behind)
  old_before = subst (AllBefore first) old_are (tables_before parts lawful)

  -- the new tables show what the old ones did with the older logs
  pub newest_same : (key : List ℕ)
      → newest key (rows_of_tables (tables_after edits) (rows_with info.number new parts.rows))
      ≡ newest key (rows_of_tables (tables_after parts.edits) parts.rows ++ rows_of (first_logged parts) (batches_in parts.older))
  newest_same key =
      ap (newest key) rows_are
      ∙ newest_moved first (rows_in among.before) new (rows_in among.behind) old_before new_from key
      ∙ ap (λ (l : List Row). newest key (l ++ new)) (sym old_are)
      ∙ newest-append old_rows new key
      ∙ ap (λ (o : Option Row). newest_of (newest key old_rows) o) (picked.newest_is key ∙ frozen_are.newest_is key)
      ∙ sym (newest-append old_rows (rows_of first older) key)

  -- ---- the new version is lawful

  pub get_is : (k : ℕ) (placed : Placed) → finmap.get (tables_after edits) k ≡ Some placed
      → ((k ≡ n) × (at_top info ≡ placed)) ⊎ ((k ≢ n) × (finmap.get tables k ≡ Some placed))
  get_is k placed is =
      by (eq_by_cmp nat_cmp k n) refl (sym (finmap.get-insert nat_cmp_total tables n (at_top info) k)
      ∙ ap (λ (t : Tables). finmap.get t k) (sym add.tables) ∙ is)
    where
      by : (b : Bool) → eq_by_cmp nat_cmp k n ≡ b
          → cond (eq_by_cmp nat_cmp k n) (Some (at_top info)) (finmap.get tables k) ≡ Some placed
          → ((k ≡ n) × (at_top info ≡ placed)) ⊎ ((k ≢ n) × (finmap.get tables k ≡ Some placed))
      by true same is = inl (
        same_number k n same,
        some_same (at_top info) placed (ap (λ (b : Bool). cond b (Some (at_top info)) (finmap.get tables k)) (sym same) ∙ is),
      )
      by false differs is = inr (
        λ same. let clash : true ≡ false = sym (tied_same k n same) ∙ differs in cc,
        ap (λ (b : Bool). cond b (Some (at_top info)) (finmap.get tables k)) (sym differs) ∙ is,
      )

  abbrev IsOlder : List Row → List Row → Type 0
  IsOlder upper deeper = All (λ (row : Row). All (λ (other : Row). other.key ≡ row.key
      → other.sequence ≤ row.sequence) deeper) upper

  -- every table of before is older than the new one
  new_newer : (m : ℕ) (b : Placed) → finmap.get tables m ≡ Some b → IsOlder new (parts.rows m)
  new_newer m b at =
      let listed = (lawful.listed m b at).sequences in
      All-weaker (λ (row : Row). first ≤ row.sequence)
      (λ (row : Row). All (λ (other : Row). other.key ≡ row.key → other.sequence ≤ row.sequence) (parts.rows m))
      (λ row from. All-weaker (λ (other : Row). (1 ≤ other.sequence) × (other.sequence ≤ last_after parts.edits))
      (λ (other : Row). other.key ≡ row.key → other.sequence ≤ row.sequence) (λ other is same. omega (arith, is.1, from))
      (parts.rows m) listed) new new_from

  leveled : IsLeveled (tables_after edits) (rows_with info.number new parts.rows)
  leveled = record {
    apart = λ j k a b at_j at_k differ deep same. apart_by j k a b (get_is j a at_j) (get_is k b at_k) differ deep same;
    older = λ j k a b at_j at_k deeper. older_by j k a b (get_is j a at_j) (get_is k b at_k) deeper;
  }
    where
      apart_by : (j k : ℕ) (a b : Placed) → ((j ≡ n) × (at_top info ≡ a)) ⊎ ((j ≢ n) × (finmap.get tables j ≡ Some a))
          → ((k ≡ n) × (at_top info ≡ b)) ⊎ ((k ≢ n) × (finmap.get tables k ≡ Some b))
          → j ≢ k → 1 ≤ a.level → a.level ≡ b.level → overlap a.info b.info ≡ false
      apart_by j k a b (inl here) other differ deep same =
          absurd (omega (arith, deep, ap (λ (p : Placed). p.level) here.1))
      apart_by j k a b (inr old) (inl here) differ deep same =
          absurd (omega (arith, deep, same, ap (λ (p : Placed). p.level) here.1))
      apart_by j k a b (inr old) (inr other) differ deep same = lawful.leveled.apart j k a b old.1 other.1 differ deep same

      older_by : (j k : ℕ) (a b : Placed) → ((j ≡ n) × (at_top info ≡ a)) ⊎ ((j ≢ n) × (finmap.get tables j ≡ Some a))
          → ((k ≡ n) × (at_top info ≡ b)) ⊎ ((k ≢ n) × (finmap.get tables k ≡ Some b))
          → a.level < b.level → IsOlder (with j) (with k)
      older_by j k a b one (inl here) deeper = absurd (omega (arith, deeper, ap (λ (p : Placed). p.level) here.1))
      older_by j k a b (inl here) (inr old) deeper =
          subst (λ (l : List Row). IsOlder l (with k)) (sym (ap with here.0 ∙ rows_here n new parts.rows))
          (subst (λ (l : List Row). IsOlder new l) (sym (rows_there n new parts.rows k old.0)) (new_newer k b old.1))
      older_by j k a b (inr old) (inr other) deeper =
          subst (λ (l : List Row). IsOlder l (with k)) (sym (rows_there n new parts.rows j old.0))
          (subst (λ (l : List Row). IsOlder (parts.rows j) l) (sym (rows_there n new parts.rows k other.0))
          (lawful.leveled.older j k a b old.1 other.1 deeper))

  -- ---- each table is as listed

  new_listed : (found : List Row) → new ≡ found → IsAsListed info new last
  new_listed [] is =
      absurd (no_rows frozen greatest.row greatest.among (λ key. ap (newest key) (sym is) ∙ picked.newest_is key))
  new_listed (row ∷ more) is = record {
    first = row;
    more = more;
    rows_are = is;
    smallest = keys.smallest row more is;
    largest = keys.largest;
    sequences = both_bounds 1 last new
        (All-weaker (λ (r : Row). first ≤ r.sequence) (λ (r : Row). 1 ≤ r.sequence)
        (λ r from. omega (arith, from)) new new_from) new_most;
  }

  older_last : last_after parts.edits ≤ last
  older_last = omega (arith, low)

  listed_with : (k : ℕ) (placed : Placed) → finmap.get (tables_after edits) k ≡ Some placed
      → IsAsListed placed.info (rows_with info.number new parts.rows k) (last_after edits)
  listed_with k placed at =
      subst (IsAsListed placed.info (with k)) (sym add.last_is) (by (get_is k placed at))
    where
      by : ((k ≡ n) × (at_top info ≡ placed)) ⊎ ((k ≢ n) × (finmap.get tables k ≡ Some placed))
          → IsAsListed placed.info (with k) last
      by (inl here) =
          subst (λ (p : Placed). IsAsListed p.info (with k) last) here.1
          (subst (λ (l : List Row). IsAsListed info l last) (sym (ap with here.0 ∙ rows_here n new parts.rows))
          (new_listed new refl))
      by (inr old) =
          let was = lawful.listed k placed old.1 in
          subst (λ (l : List Row). IsAsListed placed.info l last) (sym (rows_there n new parts.rows k old.0)) (record {
            first = was.first;
            more = was.more;
            rows_are = was.rows_are;
            smallest = was.smallest;
            largest = was.largest;
            sequences = All-weaker (λ (row : Row). (1 ≤ row.sequence) × (row.sequence ≤ last_after parts.edits))
                (λ (row : Row). (1 ≤ row.sequence) × (row.sequence ≤ last)) (λ row is. (is.0, omega (arith, is.1, older_last)))
                (parts.rows k) was.sequences;
          })

  distinct_with : IsDistinct nat_eq (sequences (rows_of_tables (tables_after edits) (rows_with info.number new parts.rows)))
  distinct_with =
      let A : List Row = rows_in among.before in
      let B : List Row = rows_in among.behind in
      let apart : IsDistinct nat_eq (sequences A ++ sequences B) =
      subst (IsDistinct nat_eq) (ap sequences old_are ∙ map-append (λ (row : Row). row.sequence) A B) lawful.distinct in
      subst (IsDistinct nat_eq) (sym (ap sequences rows_are ∙ map-append (λ (row : Row). row.sequence) A (new ++ B)
      ∙ ap (λ (l : List ℕ). sequences A ++ l) (map-append (λ (row : Row). row.sequence) new B)))
      (apart_between first A new B old_before new_from apart new_distinct)

  -- the edits and the rows are lawful
  pub lawful_with : AreLawful edits (rows_with info.number new parts.rows)
  lawful_with = record { leveled = leveled; listed = listed_with; distinct = distinct_with }

  -- ---- the batches are the same

  abbrev after : Parts
  after = flushed edits info.number new parts

  -- the last log's sequences are where they were
  pub first_same : first_in_last (flushed edits info.number new parts) ≡ first_in_last parts
  first_same =
      ap (λ (k : ℕ). k + 1) (add.last_is ∙ last_is) ∙ sym (sequence_next (last_after parts.edits) older)

  module _ (s : State) (tied : Tied parts s) where
    abbrev more : ℕ
    more = tied.flushed + length older

    front_is : take tied.flushed s.accepted ++ older ≡ take more s.accepted
    front_is =
        ap (λ (l : List (List Op)). take tied.flushed s.accepted ++ l)
        (sym (take-append_seam older parts.last.batches) ∙ ap (λ (l : List (List Op)). take (length older) l) tied.above)
        ∙ sym (take-add tied.flushed (length older) s.accepted)

    rest_is : parts.last.batches ≡ drop more s.accepted
    rest_is =
        sym (drop-append_seam older parts.last.batches)
        ∙ ap (λ (l : List (List Op)). drop (length older) l) tied.above
        ∙ drop-drop (length older) tied.flushed s.accepted

    contents_are : contents_of (rows_of_tables (tables_after edits) with) ≡ replayed s.opening (take more s.accepted)
    contents_are =
        contents_by_newest (rows_of_tables (tables_after edits) with) (old_rows ++ rows_of first older) newest_same
        ∙ contents_replayed old_rows first older (tables_before parts lawful)
        ∙ ap (λ (m : Contents). replayed m older) tied.below
        ∙ replayed_both s.opening (take tied.flushed s.accepted) older
        ∙ ap (replayed s.opening) front_is

    -- the tables stand for the batches of the older logs too
    pub tied_with : Tied (flushed edits info.number new parts) s
    tied_with = record {
      flushed = more;
      within = omega (arith, logged_many parts s tied);
      below = contents_are;
      last = add.last_is ∙ last_is ∙ ap (λ (k : ℕ). sequence_after k older) tied.last
          ∙ sequence_both s.began (take tied.flushed s.accepted) older ∙ ap (sequence_after s.began) front_is;
      above = rest_is;
      durable = omega (arith, tied.durable);
    }
