-- The first row of each key, which is its newest.
use Prim.Native.Nat.{zero, suc}
use Rattle.std.proofs.Common.{◌≡◌, ℕ, ◌+◌, ◌<◌, ◌≤◌, Bool, true, false, cond, List, [], ◌∷◌, ◌++◌, length, take, drop, get_or, refl, sym, ap, ◌∙◌, subst, arith}
use Rattle.std.specs.Prelude.{Some, None, All, Vec, slice_get, nat_eq, ◌&&◌}
use Rattle.std.specs.List.{filter, AllByRecursion}
use Rattle.std.specs.Map.{keys_of, lookup}
use Rattle.std.specs.Ordering.{is_eq, is_le, ordering_reverse}
use Rattle.std.specs.declared.cmp.Ordering.TheVariants.{Less, Greater}
use Rattle.std.specs.declared.ops.Bound.TheVariants.{Included, Unbounded}
use Rattle.std.specs.BTreeMap.Range.{entries_between}
use Rattle.std.specs.Cmp.Lexicographic.{nat_list_cmp_total}
use Rattle.std.proofs.lemmas.Cmp.{tied_itself}
use Rattle.std.proofs.lemmas.Bool.Decides.{nat_tests}
use Rattle.std.proofs.lemmas.List.Elements.{All-nil, All-cons, All-head, All-tail, All-get_or, All-filter, filter-append}
use Rattle.std.proofs.lemmas.Map.Keys.{sorted_head, sorted_tail}
use Rattle.lsm_rows.specs.declared.rows.Row.{Row}
use Rattle.lsm_rows.specs.Replay.{key_cmp}
use Rattle.lsm_rows.specs.Contents.{newest}
use Rattle.lsm_memtable.specs.Newest.{has_sequence, is_newest, newest_each}
use Rattle.lsm_memtable.specs.Kept.{rows_in, heads, AreVersions, AreKept}
use Rattle.lsm_memtable.proofs.Sorting.{filter_none}
use Rattle.lsm_memtable.proofs.KeptRows.{Each, Ascend, each_head, each_tail, first_of, rows_newest, older_below}
use Rattle.lsm_memtable.proofs.KeyRanges.{keys_cmp}
use Rattle.lsm_rows.proofs.NewestRows.{tied}

same_eq : (m : ℕ) → nat_eq m m ≡ true
same_eq m = grind (arith, nat_tests)

other_eq : (a b : ℕ) → a < b → nat_eq b a ≡ false
other_eq a b less = grind (arith, nat_tests)

-- of one key's rows the first alone is the newest
first_kept : (all : List Row) (key : List ℕ) (rows : List Row) → AreVersions key rows → newest key all ≡ slice_get rows 0 → filter (is_newest all) rows ≡ take 1 rows
first_kept all key [] are found = absurd (omega (arith, are.some))
first_kept all key (v ∷ vs) are found =
    let is : (row : Row) → row.key ≡ key → is_newest all row ≡ nat_eq v.sequence row.sequence = λ row same. ap (has_sequence row.sequence) (ap (λ k. newest k all) same ∙ found) in
    ap (λ t. cond t (v ∷ filter (is_newest all) vs) (filter (is_newest all) vs)) (is v (All-head (λ row. row.key ≡ key) v vs are.of_key) ∙ same_eq v.sequence)
    ∙ ap (λ l. v ∷ l)
    (filter_none (is_newest all) vs (λ k d less. is (get_or vs k d) (All-get_or (λ row. row.key ≡ key) vs k d less (All-tail (λ row. row.key ≡ key) v vs are.of_key))
    ∙ other_eq (get_or vs k d).sequence v.sequence (All-get_or (λ row. row.sequence < v.sequence) vs k d less (older_below v vs are.newest_first))))

heads_kept : {Z : Type 0} (p : Row → Bool) (es : List (Vec ℕ Z × List Row)) → All (λ e. filter p e.1 ≡ take 1 e.1) es → filter p (rows_in es) ≡ heads es
heads_kept p [] each = refl
heads_kept p (e ∷ es) each =
    filter-append p e.1 (rows_in es) ∙ (λ i. All-head (λ d. filter p d.1 ≡ take 1 d.1) e es each i ++ heads_kept p es (All-tail (λ d. filter p d.1 ≡ take 1 d.1) e es each) i)

-- what is found at each key
found_each : {Z : Type 0} (es : List (Vec ℕ Z × List Row)) → Ascend es → All (λ e. lookup (λ k. is_eq (key_cmp e.0.items k.items)) es ≡ Some e.1) es
found_each [] ascend = All-nil (λ e. None ≡ Some e.1)
found_each {Z} (e ∷ es) ascend =
    All-cons (λ d. lookup (λ k. is_eq (key_cmp d.0.items k.items)) (e ∷ es) ≡ Some d.1) e es
    (ap (λ t. cond t (Some e.1) (lookup (λ k. is_eq (key_cmp e.0.items k.items)) es)) (tied e.0.items e.0.items refl))
    (λ k d less. ap (λ t. cond t (Some e.1) (lookup (λ q. is_eq (key_cmp (get_or es k d).0.items q.items)) es))
    (ap is_eq (past e.0.items (get_or es k d).0.items (later k d less))) ∙ found_each es (sorted_tail keys_cmp e.0 (keys_of es) ascend) k d less)
  where
    past : (a b : List ℕ) → key_cmp a b ≡ Less → key_cmp b a ≡ Greater
    past a b less = nat_list_cmp_total.antisymm b a ∙ ap ordering_reverse less

    later_in : (ds : List (Vec ℕ Z × List Row)) → AllByRecursion (λ (q : Vec ℕ Z). keys_cmp e.0 q ≡ Less) (keys_of ds) → (k : ℕ) (d : Vec ℕ Z × List Row) → k < length ds → keys_cmp e.0 (get_or ds k d).0 ≡ Less
    later_in [] all k d less = absurd (omega (arith, less))
    later_in (x ∷ ds) all zero d less = all.0
    later_in (x ∷ ds) all (suc k) d less = later_in ds all.1 k d (omega (arith, less))

    later : (k : ℕ) (d : Vec ℕ Z × List Row) → k < length es → keys_cmp e.0 (get_or es k d).0 ≡ Less
    later = later_in es (sorted_head keys_cmp e.0 (keys_of es) ascend)

-- the newest rows of all keys
pub heads_newest : {Z : Type 0} (es : List (Vec ℕ Z × List Row)) → AreKept es → newest_each (rows_in es) ≡ heads es
unfolding newest_each
heads_newest {Z} es kept =
    heads_kept (is_newest (rows_in es)) es (λ k d less.
    let e : Vec ℕ Z × List Row = get_or es k d in
    let are : AreVersions e.0.items e.1 = All-get_or (λ b. AreVersions b.0.items b.1) es k d less kept.each in
    first_kept (rows_in es) e.0.items e.1 are (rows_newest e.0.items es kept.ascend kept.each ∙ ap first_of (found_each es kept.ascend k d less)))

-- a key's first row stands before those of the keys behind it
pub heads-cons : {Z : Type 0} (e : Vec ℕ Z × List Row) (es : List (Vec ℕ Z × List Row)) → AreVersions e.0.items e.1 → (v : Row) × (heads (e ∷ es) ≡ v ∷ heads es) × (slice_get e.1 0 ≡ Some v) × (v.key ≡ e.0.items)
heads-cons {Z} e es are = by_rows e.1 are
  where
    by_rows : (rows : List Row) → AreVersions e.0.items rows → (v : Row) × (take 1 rows ++ heads es ≡ v ∷ heads es) × (slice_get rows 0 ≡ Some v) × (v.key ≡ e.0.items)
    by_rows [] are = absurd (omega (arith, are.some))
    by_rows (v ∷ vs) are = (v, refl, refl, All-head (λ row. row.key ≡ e.0.items) v vs are.of_key)

-- what is dropped of a list, seen from what is left
pub drop_first : {X : Type 0} (n : ℕ) (xs ys : List X) (x : X) → x ∷ ys ≡ drop n xs → (n < length xs) × ((d : X) → get_or xs n d ≡ x) × (ys ≡ drop (n + 1) xs)
drop_first zero [] ys x is = cc
drop_first (suc n) [] ys x is = cc
drop_first zero (z ∷ xs) ys x is = (omega arith, λ d. let same : z ≡ x = cc in same, let same : ys ≡ xs = cc in same)
drop_first (suc n) (z ∷ xs) ys x is =
    let rest = drop_first n xs ys x is in let next : suc (n + 1) ≡ suc n + 1 = omega arith in (omega (arith, rest.0), rest.1, rest.2 ∙ ap (λ m. drop m (z ∷ xs)) next)

pub drop_none : {X : Type 0} (n : ℕ) (xs : List X) → [] ≡ drop n xs → length xs ≤ n
drop_none zero [] is = omega arith
drop_none (suc n) [] is = omega arith
drop_none zero (z ∷ xs) is = cc
drop_none (suc n) (z ∷ xs) is = omega (arith, drop_none n xs is)

later_heads : {Z : Type 0} (k : List ℕ) (es : List (Vec ℕ Z × List Row)) → AllByRecursion (λ (q : Vec ℕ Z). key_cmp k q.items ≡ Less) (keys_of es) → Each es → All (λ (y : Row). key_cmp k y.key ≡ Less) (heads es)
later_heads k [] later each = All-nil (λ (y : Row). key_cmp k y.key ≡ Less)
later_heads {Z} k (e ∷ es) later each =
    let h = heads-cons e es (each_head e es each) in
    subst (All (λ (y : Row). key_cmp k y.key ≡ Less)) (sym h.1) (All-cons (λ (y : Row). key_cmp k y.key ≡ Less) h.0 (heads es) (ap (key_cmp k) h.3 ∙ later.0) (later_heads k es later.1 (each_tail e es each)))

-- the keys from a key on
all_from : {Z : Type 0} (key : Vec ℕ Z) (k : List ℕ) (es : List (Vec ℕ Z × List Row)) → key.items ≡ k → AllByRecursion (λ (q : Vec ℕ Z). key_cmp k q.items ≡ Less) (keys_of es) → entries_between keys_cmp (Included key) Unbounded es ≡ es
all_from key k [] is later = refl
all_from {Z} key k (e ∷ es) is later =
    ap (λ o. cond (is_le o && true) (e ∷ entries_between keys_cmp (Included key) Unbounded es) (entries_between keys_cmp (Included key) Unbounded es)) (ap (λ q. key_cmp q e.0.items) is ∙ later.0)
    ∙ ap (λ l. e ∷ l) (all_from key k es is later.1)

-- from the key of the row at a place on, the first rows are those from this place on
pub heads_from : {Z : Type 0} (n : ℕ) (es : List (Vec ℕ Z × List Row)) (key : Vec ℕ Z) (d : Row) → Ascend es → Each es → n < length (heads es) → (get_or (heads es) n d).key ≡ key.items
    → heads (entries_between keys_cmp (Included key) Unbounded es) ≡ drop n (heads es)
heads_from n [] key d ascend each less is = absurd (omega (arith, less))
heads_from {Z} zero (e ∷ es) key d ascend each less is =
    let h = heads-cons e es (each_head e es each) in
    let same : key.items ≡ e.0.items = sym is ∙ ap (λ (l : List Row). (get_or l 0 d).key) h.1 ∙ h.3 in
    ap heads
    (ap (λ o. cond (is_le o && true) (e ∷ entries_between keys_cmp (Included key) Unbounded es) (entries_between keys_cmp (Included key) Unbounded es)) (ap (λ q. key_cmp q e.0.items) same ∙ tied_itself nat_list_cmp_total e.0.items)
    ∙ ap (λ l. e ∷ l) (all_from key e.0.items es same (sorted_head keys_cmp e.0 (keys_of es) ascend)))
heads_from {Z} (suc n) (e ∷ es) key d ascend each less is =
    let h = heads-cons e es (each_head e es each) in
    let later : All (λ (y : Row). key_cmp e.0.items y.key ≡ Less) (heads es) = later_heads e.0.items es (sorted_head keys_cmp e.0 (keys_of es) ascend) (each_tail e es each) in
    let within : n < length (heads es) = omega (arith, less, ap (length {A = Row}) h.1) in
    let at : (get_or (heads es) n d).key ≡ key.items = sym (ap (λ (l : List Row). (get_or l (suc n) d).key) h.1) ∙ is in
    let past : key_cmp key.items e.0.items ≡ Greater =
    nat_list_cmp_total.antisymm key.items e.0.items ∙ ap ordering_reverse (ap (key_cmp e.0.items) (sym at) ∙ All-get_or (λ (y : Row). key_cmp e.0.items y.key ≡ Less) (heads es) n d within later) in
    ap heads (ap (λ o. cond (is_le o && true) (e ∷ entries_between keys_cmp (Included key) Unbounded es) (entries_between keys_cmp (Included key) Unbounded es)) past)
    ∙ heads_from n es key d (sorted_tail keys_cmp e.0 (keys_of es) ascend) (each_tail e es each) within at ∙ ap (drop (suc n)) (sym h.1)

-- the key at a bound is one that the map has, so each of its entries is
pub each_between : {Z : Type 0} (p : Vec ℕ Z × List Row → Bool) (es : List (Vec ℕ Z × List Row)) → Each es → Each (filter p es)
each_between p es each = All-filter p (λ e. AreVersions e.0.items e.1) es each
