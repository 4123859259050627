-- What rows that are kept by their keys are as one list.
use Rattle.std.proofs.Common.{◌≡◌, ℕ, ◌^◌, ◌<◌, Bool, true, false, cond, nat_lt, List, [], ◌∷◌, refl, ap, ◌∙◌, arith}
use Rattle.std.specs.Prelude.{Option, Some, None, All, Vec, slice_get}
use Rattle.std.specs.List.{AllByRecursion}
use Rattle.std.specs.List.Sorted.{IsStrictlySortedBy}
use Rattle.std.specs.Map.{keys_of, lookup}
use Rattle.std.specs.Ordering.{eq_by_cmp, is_eq, nat_cmp, ordering_then}
use Rattle.std.specs.declared.cmp.Ordering.{Ordering}
use Rattle.std.specs.declared.cmp.Ordering.TheVariants.{Less, Equal}
use Rattle.std.specs.Cmp.Lexicographic.{nat_list_cmp_total}
use Rattle.std.proofs.lemmas.Cmp.{tied_itself}
use Rattle.std.proofs.lemmas.Bool.Decides.{nat_tests}
use Rattle.std.proofs.lemmas.List.Elements.{All-nil, All-append, All-head, All-tail, All-weaker, All-contains, All-from_recursion}
use Rattle.std.proofs.lemmas.Map.Keys.{sorted_head, sorted_tail}
use Rattle.lsm_rows.specs.declared.rows.Row.{Row}
use Rattle.lsm_rows.specs.Replay.{key_cmp}
use Rattle.lsm_rows.specs.Contents.{newer, newest}
use Rattle.lsm_rows.proofs.NewestRows.{same_key, newest_of, newest-append, newest_is, not_below, tied}
use Rattle.lsm_memtable.specs.Order.{row_cmp, AreInOrder}
use Rattle.lsm_memtable.specs.Kept.{rows_in, AreVersions, AreKept}
use Rattle.lsm_memtable.proofs.Sorting.{sorted_nil, sorted_cons, sorted-append, both, weaker}

pub below_by : (a b : ℕ) → nat_cmp a b ≡ Less → a < b
below_by a b less = grind (arith, nat_tests)

-- of rows with smaller sequences none is newer
pub keeps_newer : (row : Row) (o : Option Row) → ((q : Row) → o ≡ Some q → q.sequence < row.sequence) → newer row o ≡ row
keeps_newer row None less = refl
keeps_newer row (Some q) less = ap (λ t. cond t q row) (not_below q.sequence row.sequence (less q refl))

first_newest : (key : List ℕ) (v : Row) (vs : List Row) → v.key ≡ key → All (λ row. row.sequence < v.sequence) vs → newest key (v ∷ vs) ≡ Some v
first_newest key v vs is below =
    ap (λ t. cond t (Some (newer v (newest key vs))) (newest key vs)) (tied key v.key is)
    ∙ ap Some (keeps_newer v (newest key vs) (λ q found. All-contains (λ row. row.sequence < v.sequence) vs q below (newest_is key vs q found).among))

-- the sequences behind the first are smaller
pub older_below : (v : Row) (vs : List Row) → IsStrictlySortedBy (λ a b. nat_cmp b.sequence a.sequence) (v ∷ vs) → All (λ row. row.sequence < v.sequence) vs
older_below v vs sorted =
    All-from_recursion (λ row. row.sequence < v.sequence) vs
    (weaker (λ row. nat_cmp row.sequence v.sequence ≡ Less) (λ row. row.sequence < v.sequence) (λ row less. below_by row.sequence v.sequence less) vs (sorted_head (λ a b. nat_cmp b.sequence a.sequence) v vs sorted))

-- the newest of one key's rows is the first
pub head_newest : (key : List ℕ) (rows : List Row) → AreVersions key rows → newest key rows ≡ slice_get rows 0
head_newest key [] are = absurd (omega (arith, are.some))
head_newest key (v ∷ vs) are = first_newest key v vs (All-head (λ row. row.key ≡ key) v vs are.of_key) (older_below v vs are.newest_first)

-- rows of another key
pub other_none : (key k : List ℕ) (rows : List Row) → eq_by_cmp key_cmp key k ≡ false → All (λ row. row.key ≡ k) rows → newest key rows ≡ None
other_none key k [] apart of_key = refl
other_none key k (r ∷ rows) apart of_key =
    ap (λ t. cond t (Some (newer r (newest key rows))) (newest key rows)) (ap (λ q. eq_by_cmp key_cmp key q) (All-head (λ row. row.key ≡ k) r rows of_key) ∙ apart)
    ∙ other_none key k rows apart (All-tail (λ row. row.key ≡ k) r rows of_key)

abbrev pub Each : {Z : Type 0} → List (Vec ℕ Z × List Row) → Type 0
Each es = All (λ e. AreVersions e.0.items e.1) es

abbrev pub Ascend : {Z : Type 0} → List (Vec ℕ Z × List Row) → Type 0
Ascend es = IsStrictlySortedBy (λ a b. key_cmp a.items b.items) (keys_of es)

pub each_head : {Z : Type 0} (e : Vec ℕ Z × List Row) (es : List (Vec ℕ Z × List Row)) → Each (e ∷ es) → AreVersions e.0.items e.1
each_head e es each = All-head (λ d. AreVersions d.0.items d.1) e es each

pub each_tail : {Z : Type 0} (e : Vec ℕ Z × List Row) (es : List (Vec ℕ Z × List Row)) → Each (e ∷ es) → Each es
each_tail e es each = All-tail (λ d. AreVersions d.0.items d.1) e es each

none_past : {Z : Type 0} (key : List ℕ) (es : List (Vec ℕ Z × List Row)) → AllByRecursion (λ (k : Vec ℕ Z). eq_by_cmp key_cmp key k.items ≡ false) (keys_of es) → Each es → newest key (rows_in es) ≡ None
none_past key [] apart each = refl
none_past key (e ∷ es) apart each =
    newest-append e.1 (rows_in es) key
    ∙ (λ i. newest_of (other_none key e.0.items e.1 apart.0 (each_head e es each).of_key i) (none_past key es apart.1 (each_tail e es each) i))

-- the first of the rows that a key has
abbrev pub first_of : Option (List Row) → Option Row
first_of None = None
first_of (Some rows) = slice_get rows 0

none_behind : (o : Option Row) → newest_of o None ≡ o
none_behind None = refl
none_behind (Some row) = refl

-- a key's newest row is the first of those that it has
pub rows_newest : {Z : Type 0} (key : List ℕ) (es : List (Vec ℕ Z × List Row)) → Ascend es → Each es → newest key (rows_in es) ≡ first_of (lookup (λ k. is_eq (key_cmp key k.items)) es)
rows_newest key [] ascend each = refl
rows_newest {Z} key (e ∷ es) ascend each =
    newest-append e.1 (rows_in es) key
    ∙ by_test (eq_by_cmp key_cmp key e.0.items) refl (rows_newest key es (sorted_tail (λ (a : Vec ℕ Z) (b : Vec ℕ Z). key_cmp a.items b.items) e.0 (keys_of es) ascend) (each_tail e es each))
  where
    by_test : (t : Bool) → eq_by_cmp key_cmp key e.0.items ≡ t → newest key (rows_in es) ≡ first_of (lookup (λ k. is_eq (key_cmp key k.items)) es)
        → newest_of (newest key e.1) (newest key (rows_in es)) ≡ first_of (cond t (Some e.1) (lookup (λ k. is_eq (key_cmp key k.items)) es))
    by_test true same rest =
        let is : key ≡ e.0.items = same_key key e.0.items same in
        let apart : AllByRecursion (λ (k : Vec ℕ Z). eq_by_cmp key_cmp key k.items ≡ false) (keys_of es) =
        weaker (λ (k : Vec ℕ Z). key_cmp e.0.items k.items ≡ Less) (λ (k : Vec ℕ Z). eq_by_cmp key_cmp key k.items ≡ false) (λ k less. ap (λ q. is_eq (key_cmp q k.items)) is ∙ ap is_eq less) (keys_of es)
        (sorted_head (λ (a : Vec ℕ Z) (b : Vec ℕ Z). key_cmp a.items b.items) e.0 (keys_of es) ascend) in
        (λ i. newest_of ((ap (λ q. newest q e.1) is ∙ head_newest e.0.items e.1 (each_head e es each)) i) (none_past key es apart (each_tail e es each) i)) ∙ none_behind (slice_get e.1 0)
    by_test false same rest = (λ i. newest_of (other_none key e.0.items e.1 same (each_head e es each).of_key i) (rest i))

-- all rows of later keys come later
later_keys : {Z : Type 0} (k : List ℕ) (es : List (Vec ℕ Z × List Row)) → AllByRecursion (λ (q : Vec ℕ Z). key_cmp k q.items ≡ Less) (keys_of es) → Each es → All (λ (y : Row). key_cmp k y.key ≡ Less) (rows_in es)
later_keys k [] later each = All-nil (λ (y : Row). key_cmp k y.key ≡ Less)
later_keys k (e ∷ es) later each =
    All-append (λ (y : Row). key_cmp k y.key ≡ Less) e.1 (rows_in es)
    (All-weaker (λ (y : Row). y.key ≡ e.0.items) (λ (y : Row). key_cmp k y.key ≡ Less) (λ y is. ap (λ q. key_cmp k q) is ∙ later.0) e.1 (each_head e es each).of_key)
    (later_keys k es later.1 (each_tail e es each))

versions_ascend : (k : List ℕ) (rows : List Row) → All (λ row. row.key ≡ k) rows → IsStrictlySortedBy (λ a b. nat_cmp b.sequence a.sequence) rows → IsStrictlySortedBy row_cmp rows
versions_ascend k [] of_key sorted = sorted_nil row_cmp
versions_ascend k (v ∷ vs) of_key sorted =
    sorted_cons row_cmp v vs
    (both (λ (y : Row). nat_cmp y.sequence v.sequence ≡ Less) (λ (y : Row). y.key ≡ k) (λ (y : Row). row_cmp v y ≡ Less)
    (λ y less is. ap (λ o. ordering_then o (nat_cmp y.sequence v.sequence)) (same_of v y (All-head (λ row. row.key ≡ k) v vs of_key) is) ∙ less) vs
    (sorted_head (λ a b. nat_cmp b.sequence a.sequence) v vs sorted) (All-tail (λ row. row.key ≡ k) v vs of_key))
    (versions_ascend k vs (All-tail (λ row. row.key ≡ k) v vs of_key) (sorted_tail (λ a b. nat_cmp b.sequence a.sequence) v vs sorted))
  where
    same_of : (x y : Row) → x.key ≡ k → y.key ≡ k → key_cmp x.key y.key ≡ Equal
    same_of x y x_is y_is = (λ i. key_cmp (x_is i) (y_is i)) ∙ tied_itself nat_list_cmp_total k

rows_ascend : {Z : Type 0} (es : List (Vec ℕ Z × List Row)) → Ascend es → Each es → IsStrictlySortedBy row_cmp (rows_in es)
rows_ascend [] ascend each = sorted_nil row_cmp
rows_ascend {Z} (e ∷ es) ascend each =
    let are : AreVersions e.0.items e.1 = each_head e es each in
    let c : Vec ℕ Z → Vec ℕ Z → Ordering = λ (a : Vec ℕ Z) (b : Vec ℕ Z). key_cmp a.items b.items in
    sorted-append row_cmp e.1 (rows_in es) (versions_ascend e.0.items e.1 are.of_key are.newest_first) (rows_ascend es (sorted_tail c e.0 (keys_of es) ascend) (each_tail e es each))
    (All-weaker (λ (x : Row). x.key ≡ e.0.items) (λ (x : Row). All (λ (y : Row). row_cmp x y ≡ Less) (rows_in es))
    (λ x is. All-weaker (λ (y : Row). key_cmp e.0.items y.key ≡ Less) (λ (y : Row). row_cmp x y ≡ Less)
    (λ y less. ap (λ o. ordering_then o (nat_cmp y.sequence x.sequence)) (ap (λ q. key_cmp q y.key) is ∙ less)) (rows_in es) (later_keys e.0.items es (sorted_head c e.0 (keys_of es) ascend) (each_tail e es each)))
    e.1 are.of_key)

rows_below : {Z : Type 0} (es : List (Vec ℕ Z × List Row)) → Each es → All (λ row. row.sequence < 2 ^ 56) (rows_in es)
rows_below [] each = All-nil (λ (row : Row). row.sequence < 2 ^ 56)
rows_below (e ∷ es) each = All-append (λ row. row.sequence < 2 ^ 56) e.1 (rows_in es) (each_head e es each).below (rows_below es (each_tail e es each))

-- the rows are in order
pub kept_order : {Z : Type 0} (es : List (Vec ℕ Z × List Row)) → AreKept es → AreInOrder (rows_in es)
kept_order es kept = record { ascend = rows_ascend es kept.ascend kept.each; below = rows_below es kept.each }
