-- Reading a table on, run by run: behind a run come the rows that follow it.
use Prim.Native.Nat.{zero, suc}
use Rattle.std.specs.Prelude.{◌≡◌, ℕ, Bool, true, false, cond, List, [], ◌∷◌, ◌++◌, map, take, drop, filter, Contains, Option, Some, None}
use Rattle.std.proofs.Common.{refl, sym, ap, ◌∙◌, take-append-drop}
use Rattle.std.specs.List.{AllByRecursion}
use Rattle.std.specs.List.Sorted.{IsStrictlySortedBy}
use Rattle.std.specs.Ordering.{is_lt, nat_cmp, ordering_reverse}
use Rattle.std.specs.declared.cmp.Ordering.TheVariants.{Less}
use Rattle.lsm_rows.specs.declared.rows.Row.{Row}
use Rattle.lsm_rows.specs.InternalKeys.{internal_cmp, internal_total, trailer, user_key}
use Rattle.lsm_rows.specs.Replay.{key_cmp}
use Rattle.lsm_block.specs.Runs.{comes_after, rows_after}
use Rattle.lsm_block.specs.TableText.{row_entry}
use Rattle.lsm_block.proofs.Sought.{is_less, less_is}
use Rattle.lsm_table.proofs.AfterKeys.{not_after}
use Rattle.lsm_table.proofs.BehindRows.{then_less, user-is}
use Rattle.lsm_compact.specs.Reading.{read_to}
use Rattle.lsm_compact.proofs.Ascending.{Ascend, first_below, rest_ascends}
use Rattle.lsm_compact.proofs.Keys.{untrue}
use Rattle.lsm_compact.proofs.Members.{has_first, has_later, from_filter}

-- the internal key of a row
abbrev key_of : Row → List ℕ
key_of row = (row_entry row).key

-- ---- lists that are filtered

-- what a weaker test has left out a stronger one leaves out too
filter_twice : (p q : Row → Bool) → ((x : Row) → p x ≡ true → q x ≡ true) → (xs : List Row)
    → filter p (filter q xs) ≡ filter p xs
filter_twice p q both [] = refl
filter_twice p q both (x ∷ xs) = by_tests (p x) (q x) refl refl (filter_twice p q both xs)
  where
    by_tests : (a b : Bool) → p x ≡ a → q x ≡ b → filter p (filter q xs) ≡ filter p xs
        → filter p (cond (q x) (x ∷ filter q xs) (filter q xs)) ≡ cond (p x) (x ∷ filter p xs) (filter p xs)
    by_tests true true a_is b_is more =
        ap (λ (b : Bool). filter p (cond b (x ∷ filter q xs) (filter q xs))) b_is
        ∙ ap (λ (b : Bool). cond b (x ∷ filter p (filter q xs)) (filter p (filter q xs))) a_is
        ∙ ap (λ (l : List Row). x ∷ l) more ∙ ap (λ (b : Bool). cond b (x ∷ filter p xs) (filter p xs)) (sym a_is)
    by_tests true false a_is b_is more = absurd (untrue (sym b_is ∙ both x a_is))
    by_tests false true a_is b_is more =
        ap (λ (b : Bool). filter p (cond b (x ∷ filter q xs) (filter q xs))) b_is
        ∙ ap (λ (b : Bool). cond b (x ∷ filter p (filter q xs)) (filter p (filter q xs))) a_is
        ∙ more ∙ ap (λ (b : Bool). cond b (x ∷ filter p xs) (filter p xs)) (sym a_is)
    by_tests false false a_is b_is more =
        ap (λ (b : Bool). filter p (cond b (x ∷ filter q xs) (filter q xs))) b_is
        ∙ more ∙ ap (λ (b : Bool). cond b (x ∷ filter p xs) (filter p xs)) (sym a_is)

filter_all : (p : Row → Bool) (xs : List Row) → ((x : Row) → Contains xs x → p x ≡ true) → filter p xs ≡ xs
filter_all p [] all = refl
filter_all p (x ∷ xs) all =
    ap (λ (b : Bool). cond b (x ∷ filter p xs) (filter p xs)) (all x (has_first x xs))
    ∙ ap (λ (l : List Row). x ∷ l) (filter_all p xs (λ y has. all y (has_later x xs y has)))

above_each : (key : List ℕ) (rows : List Row) → ((row : Row) → Contains rows row → key_cmp key row.key ≡ Less)
    → AllByRecursion (λ k. key_cmp key k ≡ Less) (map (λ (row : Row). row.key) rows)
above_each key [] each = tt
above_each key (row ∷ rows) each =
    (each row (has_first row rows), above_each key rows (λ other has. each other (has_later row rows other has)))

ascend_cons : (row : Row) (rows : List Row) → ((other : Row) → Contains rows other → key_cmp row.key other.key ≡ Less)
    → Ascend rows → Ascend (row ∷ rows)
unfolding IsStrictlySortedBy
ascend_cons row rows each ascend = (above_each row.key rows each, ascend)

pub filter_ascends : (p : Row → Bool) (rows : List Row) → Ascend rows → Ascend (filter p rows)
filter_ascends p [] ascend = ascend
filter_ascends p (row ∷ rows) ascend = by_test (p row) (filter_ascends p rows (rest_ascends row rows ascend))
  where
    by_test : (b : Bool) → Ascend (filter p rows) → Ascend (cond b (row ∷ filter p rows) (filter p rows))
    by_test true more = ascend_cons row (filter p rows)
        (λ other has. first_below row rows ascend other (from_filter p rows other has).0) more
    by_test false more = more

-- ---- what comes after a key

-- rows of ascending user keys are in the order of internal keys
key_less : (a b : Row) → key_cmp a.key b.key ≡ Less → internal_cmp (key_of a) (key_of b) ≡ Less
unfolding internal_cmp
key_less a b less =
    then_less (key_cmp (user_key (key_of a)) (user_key (key_of b))) (nat_cmp (trailer (key_of b)) (trailer (key_of a)))
    ((λ i. key_cmp (user-is a i) (user-is b i)) ∙ less)

-- no key comes after itself
not_itself : (key : List ℕ) → comes_after (Some key) key ≡ false
not_itself key = by_test (is_lt (internal_cmp key key)) refl
  where
    by_test : (b : Bool) → is_lt (internal_cmp key key) ≡ b → is_lt (internal_cmp key key) ≡ false
    by_test true is = absurd (let less = is_less (internal_cmp key key) is in
        untrue (sym (ap is_lt (internal_total.antisymm key key ∙ ap ordering_reverse less)) ∙ is))
    by_test false is = is

after_then : (after : Option (List ℕ)) (a b : List ℕ) → comes_after after a ≡ true → comes_after (Some a) b ≡ true
    → comes_after after b ≡ true
after_then None a b first second = refl
after_then (Some key) a b first second = less_is (internal_cmp key b)
    (internal_total.trans key a b (is_less (internal_cmp key a) first) (is_less (internal_cmp a b) second))

-- no row comes after the end of a run that begins with it
not_back : (count : ℕ) (row : Row) (rows : List Row) → Ascend (row ∷ rows)
    → comes_after (read_to (Some (key_of row)) (take count rows)) (key_of row) ≡ false
unfolding read_to
not_back zero row [] ascend = not_itself (key_of row)
not_back zero row (next ∷ rows) ascend = not_itself (key_of row)
not_back (suc count) row [] ascend = not_itself (key_of row)
not_back (suc count) row (next ∷ rows) ascend =
    not_after (read_to (Some (key_of next)) (take count rows)) (key_of row) (key_of next)
    (key_less row next (first_below row (next ∷ rows) ascend next (has_first next rows)))
    (not_back count next rows (rest_ascends row (next ∷ rows) ascend))

-- what comes after the end of a run comes after what was read before it
further : (count : ℕ) (after : Option (List ℕ)) (rows : List Row) (key : List ℕ) → Ascend rows
    → ((row : Row) → Contains rows row → comes_after after (key_of row) ≡ true)
    → comes_after (read_to after (take count rows)) key ≡ true → comes_after after key ≡ true
unfolding read_to
further zero after [] key ascend each is = is
further zero after (row ∷ rows) key ascend each is = is
further (suc count) after [] key ascend each is = is
further (suc count) after (row ∷ rows) key ascend each is =
    after_then after (key_of row) key (each row (has_first row rows))
    (further count (Some (key_of row)) rows key (rest_ascends row rows ascend)
    (λ other has. less_is (internal_cmp (key_of row) (key_of other)) (key_less row other
    (first_below row rows ascend other has))) is)

-- ---- a run

-- of rows that come after a key those behind a run of the first of them
after_run : (count : ℕ) (after : Option (List ℕ)) (rows : List Row) → Ascend rows
    → ((row : Row) → Contains rows row → comes_after after (key_of row) ≡ true)
    → rows_after (read_to after (take count rows)) rows ≡ drop count rows
unfolding read_to rows_after
after_run zero after [] ascend each = refl
after_run zero after (row ∷ rows) ascend each =
    filter_all (λ (r : Row). comes_after after (row_entry r).key) (row ∷ rows) each
after_run (suc count) after [] ascend each = refl
after_run (suc count) after (row ∷ rows) ascend each =
    ap (λ (b : Bool). cond b (row ∷ rest) rest) (not_back count row rows ascend)
    ∙ after_run count (Some (key_of row)) rows (rest_ascends row rows ascend)
    (λ other has. less_is (internal_cmp (key_of row) (key_of other)) (key_less row other
    (first_below row rows ascend other has)))
  where
    rest : List Row
    rest = filter (λ (r : Row). comes_after (read_to (Some (key_of row)) (take count rows)) (row_entry r).key) rows

module _ (count : ℕ) (after : Option (List ℕ)) (rows : List Row) (ascend : Ascend rows) where
  each_after : (row : Row) → Contains (rows_after after rows) row → comes_after after (key_of row) ≡ true
  unfolding rows_after
  each_after row has = (from_filter (λ (r : Row). comes_after after (row_entry r).key) rows row has).1

  after_ascends : Ascend (rows_after after rows)
  unfolding rows_after
  after_ascends = filter_ascends (λ (r : Row). comes_after after (row_entry r).key) rows ascend

  after_twice : rows_after (read_to after (take count (rows_after after rows))) (rows_after after rows)
      ≡ rows_after (read_to after (take count (rows_after after rows))) rows
  unfolding rows_after
  after_twice = filter_twice
      (λ (r : Row). comes_after (read_to after (take count (rows_after after rows))) (row_entry r).key)
      (λ (r : Row). comes_after after (row_entry r).key)
      (λ r is. further count after (rows_after after rows) (row_entry r).key after_ascends each_after is) rows

  -- what a table's rows are after a run
  pub behind_run : rows_after (read_to after (take count (rows_after after rows))) rows ≡ drop count (rows_after after rows)
  behind_run = sym after_twice ∙ after_run count after (rows_after after rows) after_ascends each_after

  -- a run, and then what is unread behind it, is what was unread before it
  pub run_and_rest : (run : List Row) (now : Option (List ℕ)) → run ≡ take count (rows_after after rows)
      → now ≡ read_to after run → run ++ rows_after now rows ≡ rows_after after rows
  run_and_rest run now is now_is =
      (λ i. is i ++ rows_after ((now_is ∙ ap (read_to after) is) i) rows)
      ∙ ap (λ (l : List Row). take count (rows_after after rows) ++ l) behind_run
      ∙ take-append-drop count (rows_after after rows)

none_dropped : (count : ℕ) (xs : List Row) → take (suc count) xs ≡ [] → xs ≡ []
none_dropped count [] none = refl
none_dropped count (x ∷ xs) none = absurd (let clash : ⊥ = cc in clash)

-- where a run has no row, none is unread behind it
pub none_behind : (count : ℕ) (after now : Option (List ℕ)) (rows run : List Row)
    → run ≡ take (suc count) (rows_after after rows) → now ≡ read_to after run → run ≡ [] → rows_after now rows ≡ []
unfolding read_to
none_behind count after now rows run is now_is none =
    ap (λ (k : Option (List ℕ)). rows_after k rows) (now_is ∙ ap (read_to after) none)
    ∙ none_dropped count (rows_after after rows) (sym is ∙ none)
