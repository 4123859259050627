-- A row that comes among the rows of its key.
use Rattle.std.proofs.Common.{◌≡◌, ℕ, ◌^◌, ◌<◌, Bool, true, false, cond, List, [], ◌∷◌, ◌++◌, refl, sym, ap, ◌∙◌, subst, arith, append_assoc}
use Rattle.std.specs.Prelude.{Some, None, Result, Ok, Err, OnErr, All, Vec}
use Rattle.std.specs.Map.{lookup, set_value}
use Rattle.std.specs.BTreeMap.{insert_entry}
use Rattle.std.specs.Ordering.{is_eq, nat_cmp, match_ordering}
use Rattle.std.specs.declared.cmp.Ordering.{Ordering}
use Rattle.std.specs.declared.cmp.Ordering.TheVariants.{Less, Equal, Greater}
use Rattle.std.proofs.lemmas.Bool.Decides.{nat_tests}
use Rattle.std.proofs.lemmas.List.Elements.{All-nil, All-cons, All-head, All-tail, All-weaker, recursion_from_All}
use Rattle.std.proofs.lemmas.Map.Steps.{set_value_same}
use Rattle.lsm_rows.specs.declared.rows.Row.{Row}
use Rattle.lsm_rows.specs.Replay.{key_cmp}
use Rattle.lsm_rows.specs.Contents.{AllBefore}
use Rattle.lsm_rows.proofs.NewestRows.{same_key}
use Rattle.lsm_memtable.specs.Joining.{IsPut}
use Rattle.lsm_memtable.specs.Kept.{rows_in, AreVersions, AreKept}
use Rattle.lsm_memtable.proofs.Sorting.{sorted_nil, sorted_cons}
use Rattle.lsm_memtable.proofs.KeptRows.{Each, Ascend, each_head, each_tail}
use Rattle.lsm_memtable.proofs.KeyRanges.{keys_cmp}
use Rattle.lsm_table.proofs.OrderedBlocks.{all-back}

pub all_left : {X : Type 0} (P : X → Type 0) (xs ys : List X) → All P (xs ++ ys) → All P xs
all_left P [] ys all = All-nil P
all_left P (x ∷ xs) ys all = All-cons P x xs (All-head P x (xs ++ ys) all) (all_left P xs ys (All-tail P x (xs ++ ys) all))

less_by : (a b : ℕ) → a < b → nat_cmp a b ≡ Less
less_by a b less = grind (arith, nat_tests)

-- one row more in front
versions_push : (key : List ℕ) (row : Row) (rows : List Row) → row.key ≡ key → AreVersions key rows → AllBefore row.sequence rows → row.sequence < 2 ^ 56 → AreVersions key (row ∷ rows)
versions_push key row rows is are past below = record {
  some = omega arith;
  of_key = All-cons (λ r. r.key ≡ key) row rows is are.of_key;
  newest_first =
      sorted_cons (λ a b. nat_cmp b.sequence a.sequence) row rows
      (recursion_from_All (λ r. nat_cmp r.sequence row.sequence ≡ Less) rows
      (All-weaker (λ r. r.sequence < row.sequence) (λ r. nat_cmp r.sequence row.sequence ≡ Less) (λ r less. less_by r.sequence row.sequence less) rows past))
      are.newest_first;
  below = All-cons (λ r. r.sequence < 2 ^ 56) row rows below are.below;
}

pub versions_one : (key : List ℕ) (row : Row) → row.key ≡ key → row.sequence < 2 ^ 56 → AreVersions key (row ∷ [])
versions_one key row is below = record {
  some = omega arith;
  of_key = All-cons (λ r. r.key ≡ key) row [] is (All-nil (λ r. r.key ≡ key));
  newest_first = sorted_cons (λ a b. nat_cmp b.sequence a.sequence) row [] tt (sorted_nil (λ (a : Row) (b : Row). nat_cmp b.sequence a.sequence));
  below = All-cons (λ r. r.sequence < 2 ^ 56) row [] below (All-nil (λ r. r.sequence < 2 ^ 56));
}

abbrev pub at_key : {Z : Type 0} → List ℕ → Vec ℕ Z → Bool
at_key key k = is_eq (key_cmp key k.items)

same_rows : (a b : List Row) → Some a ≡ Some b → a ≡ b
same_rows a b is = cc

-- to a key that has rows
each_set : {Z : Type 0} (row : Row) (rows : List Row) (es : List (Vec ℕ Z × List Row)) → lookup (at_key row.key) es ≡ Some rows → Each es → AllBefore row.sequence (rows_in es)
    → row.sequence < 2 ^ 56 → Each (set_value (at_key row.key) es (row ∷ rows))
each_set row rows [] found each past below = each
each_set {Z} row rows (e ∷ es) found each past below =
    by_test (at_key row.key e.0) refl found (λ rest. each_set row rows es rest (each_tail e es each) (all-back (λ r. r.sequence < row.sequence) e.1 (rows_in es) past) below)
  where
    by_test : (t : Bool) → at_key row.key e.0 ≡ t → cond t (Some e.1) (lookup (at_key row.key) es) ≡ Some rows
        → (lookup (at_key row.key) es ≡ Some rows → Each (set_value (at_key row.key) es (row ∷ rows)))
        → Each (cond t ((e.0, row ∷ rows) ∷ es) (e ∷ set_value (at_key row.key) es (row ∷ rows)))
    by_test true same found rest =
        let are : AreVersions e.0.items rows = subst (AreVersions e.0.items) (same_rows e.1 rows found) (each_head e es each) in
        let before : AllBefore row.sequence rows = subst (AllBefore row.sequence) (same_rows e.1 rows found) (all_left (λ r. r.sequence < row.sequence) e.1 (rows_in es) past) in
        All-cons (λ (d : Vec ℕ Z × List Row). AreVersions d.0.items d.1) (e.0, row ∷ rows) es (versions_push e.0.items row rows (same_key row.key e.0.items same) are before below) (each_tail e es each)
    by_test false same found rest = All-cons (λ (d : Vec ℕ Z × List Row). AreVersions d.0.items d.1) e (set_value (at_key row.key) es (row ∷ rows)) (each_head e es each) (rest found)

put_behind : (before : List Row) (old : List Row) (row : Row) (new : List Row) → IsPut old row new → IsPut (before ++ old) row (before ++ new)
put_behind before old row new put = record {
  front = before ++ put.front;
  back = put.back;
  before = ap (λ l. before ++ l) put.before ∙ sym (append_assoc before put.front put.back);
  after = ap (λ l. before ++ l) put.after ∙ sym (append_assoc before put.front (row ∷ put.back));
}

put_set : {Z : Type 0} (row : Row) (rows : List Row) (es : List (Vec ℕ Z × List Row)) → lookup (at_key row.key) es ≡ Some rows → IsPut (rows_in es) row (rows_in (set_value (at_key row.key) es (row ∷ rows)))
put_set row rows [] found = cc
put_set {Z} row rows (e ∷ es) found = by_test (at_key row.key e.0) refl found (λ rest. put_set row rows es rest)
  where
    by_test : (t : Bool) → at_key row.key e.0 ≡ t → cond t (Some e.1) (lookup (at_key row.key) es) ≡ Some rows
        → (lookup (at_key row.key) es ≡ Some rows → IsPut (rows_in es) row (rows_in (set_value (at_key row.key) es (row ∷ rows))))
        → IsPut (rows_in (e ∷ es)) row (rows_in (cond t ((e.0, row ∷ rows) ∷ es) (e ∷ set_value (at_key row.key) es (row ∷ rows))))
    by_test true same found rest = record {
      front = [];
      back = rows ++ rows_in es;
      before = ap (λ l. l ++ rows_in es) (same_rows e.1 rows found);
      after = refl;
    }
    by_test false same found rest = put_behind e.1 (rows_in es) row (rows_in (set_value (at_key row.key) es (row ∷ rows))) (rest found)

-- a new key
each_insert : {Z : Type 0} (key : Vec ℕ Z) (row : Row) (es : List (Vec ℕ Z × List Row)) → lookup (at_key key.items) es ≡ None → Each es → AreVersions key.items (row ∷ []) → Each (insert_entry keys_cmp es key (row ∷ []))
each_insert {Z} key row [] none each are = All-cons (λ (d : Vec ℕ Z × List Row). AreVersions d.0.items d.1) (key, row ∷ []) [] are each
each_insert {Z} key row (e ∷ es) none each are = by_order (keys_cmp key e.0) refl none (λ rest. each_insert key row es rest (each_tail e es each) are)
  where
    by_order : (o : Ordering) → keys_cmp key e.0 ≡ o → cond (is_eq o) (Some e.1) (lookup (at_key key.items) es) ≡ None
        → (lookup (at_key key.items) es ≡ None → Each (insert_entry keys_cmp es key (row ∷ [])))
        → Each (match_ordering o ((key, row ∷ []) ∷ e ∷ es) ((e.0, row ∷ []) ∷ es) (e ∷ insert_entry keys_cmp es key (row ∷ [])))
    by_order Less same none rest = All-cons (λ (d : Vec ℕ Z × List Row). AreVersions d.0.items d.1) (key, row ∷ []) (e ∷ es) are each
    by_order Equal same none rest = cc
    by_order Greater same none rest = All-cons (λ (d : Vec ℕ Z × List Row). AreVersions d.0.items d.1) e (insert_entry keys_cmp es key (row ∷ [])) (each_head e es each) (rest none)

put_insert : {Z : Type 0} (key : Vec ℕ Z) (row : Row) (es : List (Vec ℕ Z × List Row)) → lookup (at_key key.items) es ≡ None → IsPut (rows_in es) row (rows_in (insert_entry keys_cmp es key (row ∷ [])))
put_insert key row [] none = record { front = []; back = []; before = refl; after = refl }
put_insert {Z} key row (e ∷ es) none = by_order (keys_cmp key e.0) refl none (λ rest. put_insert key row es rest)
  where
    by_order : (o : Ordering) → keys_cmp key e.0 ≡ o → cond (is_eq o) (Some e.1) (lookup (at_key key.items) es) ≡ None
        → (lookup (at_key key.items) es ≡ None → IsPut (rows_in es) row (rows_in (insert_entry keys_cmp es key (row ∷ []))))
        → IsPut (rows_in (e ∷ es)) row (rows_in (match_ordering o ((key, row ∷ []) ∷ e ∷ es) ((e.0, row ∷ []) ∷ es) (e ∷ insert_entry keys_cmp es key (row ∷ []))))
    by_order Less same none rest = record { front = []; back = rows_in (e ∷ es); before = refl; after = refl }
    by_order Equal same none rest = cc
    by_order Greater same none rest = put_behind e.1 (rows_in es) row (rows_in (insert_entry keys_cmp es key (row ∷ []))) (rest none)

-- what a map is after a row has come to a key that has rows
pub known_kept : {Z : Type 0} (row : Row) (rows written : List Row) (es new : List (Vec ℕ Z × List Row)) → Some rows ≡ lookup (at_key row.key) es → written ≡ row ∷ rows → new ≡ set_value (at_key row.key) es written
    → Ascend new → AreKept es → AllBefore row.sequence (rows_in es) → row.sequence < 2 ^ 56 → AreKept new
known_kept row rows written es new found written_is new_is ascend kept past below = record {
  ascend = ascend;
  each = subst Each (sym (new_is ∙ ap (set_value (at_key row.key) es) written_is)) (each_set row rows es (sym found) kept.each past below);
}

pub known_put : {Z : Type 0} (row : Row) (rows written : List Row) (es new : List (Vec ℕ Z × List Row)) → Some rows ≡ lookup (at_key row.key) es → written ≡ row ∷ rows → new ≡ set_value (at_key row.key) es written
    → IsPut (rows_in es) row (rows_in new)
known_put row rows written es new found written_is new_is =
    subst (λ ds. IsPut (rows_in es) row (rows_in ds)) (sym (new_is ∙ ap (set_value (at_key row.key) es) written_is)) (put_set row rows es (sym found))

-- nothing was written
pub known_same : {Z : Type 0} (row : Row) (rows written : List Row) (es new : List (Vec ℕ Z × List Row)) → Some rows ≡ lookup (at_key row.key) es → written ≡ rows → new ≡ set_value (at_key row.key) es written → new ≡ es
known_same row rows written es new found written_is new_is = new_is ∙ ap (set_value (at_key row.key) es) written_is ∙ set_value_same (at_key row.key) es rows (sym found)

pub new_kept : {Z : Type 0} (key : Vec ℕ Z) (row : Row) (rows : List Row) (es new : List (Vec ℕ Z × List Row)) → key.items ≡ row.key → rows ≡ row ∷ [] → lookup (at_key row.key) es ≡ None → new ≡ insert_entry keys_cmp es key rows
    → Ascend new → AreKept es → row.sequence < 2 ^ 56 → AreKept new
new_kept key row rows es new is one none new_is ascend kept below = record {
  ascend = ascend;
  each =
      subst Each (sym (new_is ∙ ap (insert_entry keys_cmp es key) one))
      (each_insert key row es (subst (λ q. lookup (at_key q) es ≡ None) (sym is) none) kept.each (versions_one key.items row (sym is) below));
}

pub new_put : {Z : Type 0} (key : Vec ℕ Z) (row : Row) (rows : List Row) (es new : List (Vec ℕ Z × List Row)) → key.items ≡ row.key → rows ≡ row ∷ [] → lookup (at_key row.key) es ≡ None → new ≡ insert_entry keys_cmp es key rows
    → IsPut (rows_in es) row (rows_in new)
new_put key row rows es new is one none new_is =
    subst (λ ds. IsPut (rows_in es) row (rows_in ds)) (sym (new_is ∙ ap (insert_entry keys_cmp es key) one)) (put_insert key row es (subst (λ q. lookup (at_key q) es ≡ None) (sym is) none))

-- what holds anyway holds of an error
pub always_err : {T E P : Type 0} (r : Result T E) → P → OnErr r P
always_err (Ok x) p = tt
always_err (Err e) p = p
