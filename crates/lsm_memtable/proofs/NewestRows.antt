-- The newest row of each key.
use Rattle.std.proofs.Common.{◌≡◌, ℕ, ◌^◌, ◌<◌, ◌≤◌, Bool, true, false, cond, nat_lt, List, [], ◌∷◌, length, refl, sym, ap, ◌∙◌, subst, arith}
use Rattle.std.specs.Prelude.{Option, Some, None, All, map, nat_eq}
use Rattle.std.specs.List.{filter, AllByRecursion}
use Rattle.std.specs.List.Sorted.{IsStrictlySortedBy}
use Rattle.std.specs.Ordering.{eq_by_cmp, is_eq, nat_cmp, ordering_then}
use Rattle.std.specs.declared.cmp.Ordering.{Ordering}
use Rattle.std.specs.declared.cmp.Ordering.TheVariants.{Less, Equal, Greater}
use Rattle.std.proofs.lemmas.Bool.Decides.{nat_tests}
use Rattle.std.proofs.lemmas.List.Elements.{All-head, All-tail, All-contains, All-filter}
use Rattle.std.proofs.lemmas.Map.Keys.{sorted_head, sorted_tail}
use Rattle.lsm_rows.specs.declared.rows.Row.{Row}
use Rattle.lsm_rows.specs.Replay.{key_cmp}
use Rattle.lsm_rows.specs.Contents.{newer, newest, IsNewest}
use Rattle.lsm_rows.proofs.NewestRows.{same_key, newest_is, tied, above_from}
use Rattle.lsm_block.specs.TableText.{AreTableRows}
use Rattle.lsm_memtable.specs.Newest.{has_sequence, is_newest, newest_each}
use Rattle.lsm_memtable.specs.Order.{row_cmp, AreInOrder}
use Rattle.lsm_memtable.proofs.Sorting.{sorted_nil, sorted_cons}

each-is : (rows : List Row) → newest_each rows ≡ filter (is_newest rows) rows
unfolding newest_each
each-is rows = refl

-- a key without rows
pub none_kept : (key : List ℕ) (p : Row → Bool) (rows : List Row) → newest key rows ≡ None → newest key (filter p rows) ≡ None
none_kept key p [] none = refl
none_kept key p (r ∷ rows) none = by_key (eq_by_cmp key_cmp key r.key) refl none (λ rest. none_kept key p rows rest)
  where
    by_key : (t : Bool) → eq_by_cmp key_cmp key r.key ≡ t → cond t (Some (newer r (newest key rows))) (newest key rows) ≡ None → (newest key rows ≡ None → newest key (filter p rows) ≡ None)
        → newest key (cond (p r) (r ∷ filter p rows) (filter p rows)) ≡ None
    by_key true same none rest = cc
    by_key false other none rest =
        elim (p r) as (λ b. newest key (cond b (r ∷ filter p rows) (filter p rows)) ≡ None) [
          | true ↦ ap (λ t. cond t (Some (newer r (newest key (filter p rows)))) (newest key (filter p rows))) other ∙ rest none
          | false ↦ rest none
        ]

-- a row, if it has this sequence
abbrev if_newest : ℕ → Option Row → Option Row
if_newest n None = None
if_newest n (Some row) = cond (nat_eq n row.sequence) (Some row) None

same_number : (a b : ℕ) → nat_eq a b ≡ true → a ≡ b
same_number a b is = grind (arith, nat_tests)

other_number : (a b : ℕ) → a < b → nat_eq b a ≡ false
other_number a b less = grind (arith, nat_tests)

less_of : (a b : ℕ) → a ≤ b → nat_eq b a ≡ false → a < b
less_of a b most is = grind (arith, nat_tests)

not_less : (a b : ℕ) → b ≤ a → nat_lt a b ≡ false
not_less a b past = grind (arith, nat_tests)

AtMost : List ℕ → ℕ → Row → Type 0
AtMost key n row = row.key ≡ key → row.sequence ≤ n

at_most : (key : List ℕ) (n : ℕ) (row : Row) → AtMost key n row → row.key ≡ key → row.sequence ≤ n
unfolding AtMost
at_most key n row most is = most is

of_newest : (key : List ℕ) (n : ℕ) (rows : List Row) (q : Row) → All (AtMost key n) rows → newest key rows ≡ Some q → q.sequence ≤ n
of_newest key n rows q most found = let is = newest_is key rows q found in at_most key n q (All-contains (AtMost key n) rows q most is.among) is.of_key

-- at a row of the key that is as new as any
keeps_first : (r : Row) (n : ℕ) (o : Option Row) → n ≡ r.sequence → ((q : Row) → o ≡ Some q → q.sequence ≤ n) → Some (newer r (if_newest n o)) ≡ if_newest n (Some (newer r o))
keeps_first r n None is most = sym (ap (λ t. cond t (Some r) None) (ap (λ m. nat_eq m r.sequence) is ∙ same_eq r.sequence))
  where
    same_eq : (m : ℕ) → nat_eq m m ≡ true
    same_eq m = grind (arith, nat_tests)
keeps_first r n (Some q) is most =
    let old : nat_lt r.sequence q.sequence ≡ false = not_less r.sequence q.sequence (let h = most q refl in omega (arith, h, is)) in
    by_test (nat_eq n q.sequence) old ∙ sym (ap (λ t. cond (nat_eq n (cond t q r).sequence) (Some (cond t q r)) None) old ∙ ap (λ t. cond t (Some r) None) (ap (λ m. nat_eq m r.sequence) is ∙ same_eq r.sequence))
  where
    same_eq : (m : ℕ) → nat_eq m m ≡ true
    same_eq m = grind (arith, nat_tests)

    by_test : (b : Bool) → nat_lt r.sequence q.sequence ≡ false → Some (newer r (cond b (Some q) None)) ≡ Some r
    by_test true old = ap (λ t. Some (cond t q r)) old
    by_test false old = refl

-- at an older row of the key
leaves_older : (r : Row) (n : ℕ) (o : Option Row) → r.sequence < n → if_newest n o ≡ if_newest n (Some (newer r o))
leaves_older r n None less = sym (ap (λ t. cond t (Some r) None) (other_number r.sequence n less))
leaves_older r n (Some q) less = by_test (nat_lt r.sequence q.sequence) refl
  where
    by_test : (b : Bool) → nat_lt r.sequence q.sequence ≡ b → if_newest n (Some q) ≡ if_newest n (Some (cond b q r))
    by_test true newer_q = refl
    by_test false older_q =
        ap (λ t. cond t (Some q) None) (other_number q.sequence n (let h = above_from r.sequence q.sequence older_q in omega (arith, h, less))) ∙ sym (ap (λ t. cond t (Some r) None) (other_number r.sequence n less))

kept_newest : (key : List ℕ) (best : Row) (p : Row → Bool) → ((row : Row) → key ≡ row.key → p row ≡ nat_eq best.sequence row.sequence) → (rows : List Row) → All (AtMost key best.sequence) rows
    → newest key (filter p rows) ≡ if_newest best.sequence (newest key rows)
kept_newest key best p says [] most = refl
kept_newest key best p says (r ∷ rows) most =
    by_key (eq_by_cmp key_cmp key r.key) refl (kept_newest key best p says rows (All-tail (AtMost key best.sequence) r rows most))
  where
    by_key : (t : Bool) → eq_by_cmp key_cmp key r.key ≡ t → newest key (filter p rows) ≡ if_newest best.sequence (newest key rows)
        → newest key (cond (p r) (r ∷ filter p rows) (filter p rows)) ≡ if_newest best.sequence (cond t (Some (newer r (newest key rows))) (newest key rows))
    by_key false other rest =
        elim (p r) as (λ b. newest key (cond b (r ∷ filter p rows) (filter p rows)) ≡ if_newest best.sequence (newest key rows)) [
          | true ↦ ap (λ t. cond t (Some (newer r (newest key (filter p rows)))) (newest key (filter p rows))) other ∙ rest
          | false ↦ rest
        ]
    by_key true same rest =
        let is : key ≡ r.key = same_key key r.key same in
        ap (λ b. newest key (cond b (r ∷ filter p rows) (filter p rows))) (says r is) ∙ by_sequence (nat_eq best.sequence r.sequence) refl
      where
        by_sequence : (b : Bool) → nat_eq best.sequence r.sequence ≡ b → newest key (cond b (r ∷ filter p rows) (filter p rows)) ≡ if_newest best.sequence (Some (newer r (newest key rows)))
        by_sequence true at =
            ap (λ t. cond t (Some (newer r (newest key (filter p rows)))) (newest key (filter p rows))) same ∙ ap (λ o. Some (newer r o)) rest
            ∙ keeps_first r best.sequence (newest key rows) (same_number best.sequence r.sequence at) (λ q found. of_newest key best.sequence rows q (All-tail (AtMost key best.sequence) r rows most) found)
        by_sequence false at =
            rest ∙ leaves_older r best.sequence (newest key rows) (less_of r.sequence best.sequence (at_most key best.sequence r (All-head (AtMost key best.sequence) r rows most) (sym (same_key key r.key same))) at)

as_most : (key : List ℕ) (rows : List Row) (row : Row) → IsNewest key rows row → All (AtMost key row.sequence) rows
unfolding AtMost
as_most key rows row is = is.greatest

-- a key's newest row stays its newest
pub newest_stays : (rows : List Row) (key : List ℕ) → newest key (newest_each rows) ≡ newest key rows
newest_stays rows key = ap (newest key) (each-is rows) ∙ by_newest (newest key rows) refl
  where
    by_newest : (o : Option Row) → newest key rows ≡ o → newest key (filter (is_newest rows) rows) ≡ o
    by_newest None none = none_kept key (is_newest rows) rows none
    by_newest (Some best) found =
        kept_newest key best (is_newest rows) (λ row is. ap (has_sequence row.sequence) (ap (λ k. newest k rows) (sym is) ∙ found)) rows (as_most key rows best (newest_is key rows best found))
        ∙ ap (if_newest best.sequence) found ∙ ap (λ t. cond t (Some best) None) (same_eq best.sequence)
      where
        same_eq : (m : ℕ) → nat_eq m m ≡ true
        same_eq m = grind (arith, nat_tests)

-- two rows of one key that are both its newest have one sequence
one_sequence : (rows : List Row) (a b : Row) → is_newest rows a ≡ true → is_newest rows b ≡ true → a.key ≡ b.key → a.sequence ≡ b.sequence
one_sequence rows a b a_is b_is same = by_newest (newest a.key rows) a_is (ap (λ k. has_sequence b.sequence (newest k rows)) same ∙ b_is)
  where
    by_newest : (o : Option Row) → has_sequence a.sequence o ≡ true → has_sequence b.sequence o ≡ true → a.sequence ≡ b.sequence
    by_newest None a_has b_has = cc
    by_newest (Some q) a_has b_has = sym (same_number q.sequence a.sequence a_has) ∙ same_number q.sequence b.sequence b_has

below_by : (a b : ℕ) → nat_cmp a b ≡ Less → a < b
below_by a b less = grind (arith, nat_tests)

keys_ascend : (all : List Row) (rows : List Row) → IsStrictlySortedBy row_cmp rows → IsStrictlySortedBy key_cmp (map (λ row. row.key) (filter (is_newest all) rows))
keys_ascend all [] sorted = sorted_nil key_cmp
keys_ascend all (r ∷ rows) sorted = by_test (is_newest all r) refl (keys_ascend all rows (sorted_tail row_cmp r rows sorted))
  where
    later : is_newest all r ≡ true → (rest : List Row) → AllByRecursion (λ y. row_cmp r y ≡ Less) rest → AllByRecursion (λ k. key_cmp r.key k ≡ Less) (map (λ row. row.key) (filter (is_newest all) rest))
    later new [] less = tt
    later new (y ∷ rest) less = by_y (is_newest all y) refl (later new rest less.1)
      where
        by_order : is_newest all y ≡ true → (o : Ordering) → key_cmp r.key y.key ≡ o → ordering_then o (nat_cmp y.sequence r.sequence) ≡ Less → o ≡ Less
        by_order new_y Less same is = refl
        by_order new_y Equal same is =
            let h : y.sequence < r.sequence = below_by y.sequence r.sequence is in
            let e : r.sequence ≡ y.sequence = one_sequence all r y new new_y (same_key r.key y.key (ap is_eq same)) in
            absurd (omega (arith, h, e))
        by_order new_y Greater same is = cc

        by_y : (t : Bool) → is_newest all y ≡ t → AllByRecursion (λ k. key_cmp r.key k ≡ Less) (map (λ row. row.key) (filter (is_newest all) rest))
            → AllByRecursion (λ k. key_cmp r.key k ≡ Less) (map (λ row. row.key) (cond t (y ∷ filter (is_newest all) rest) (filter (is_newest all) rest)))
        by_y true new_y tail = (by_order new_y (key_cmp r.key y.key) refl less.0, tail)
        by_y false old_y tail = tail

    by_test : (t : Bool) → is_newest all r ≡ t → IsStrictlySortedBy key_cmp (map (λ row. row.key) (filter (is_newest all) rows))
        → IsStrictlySortedBy key_cmp (map (λ row. row.key) (cond t (r ∷ filter (is_newest all) rows) (filter (is_newest all) rows)))
    by_test true new rest = sorted_cons key_cmp r.key (map (λ row. row.key) (filter (is_newest all) rows)) (later new rows (sorted_head row_cmp r rows sorted)) rest
    by_test false old rest = rest

-- they are a table's rows
pub newest_table : (rows : List Row) → AreInOrder rows → 1 ≤ length (newest_each rows) → AreTableRows (newest_each rows)
newest_table rows order some = record {
  some = some;
  ascend = subst (λ l. IsStrictlySortedBy key_cmp (map (λ row. row.key) l)) (sym (each-is rows)) (keys_ascend rows rows order.ascend);
  sequences = subst (λ l. All (λ row. row.sequence < 2 ^ 56) l) (sym (each-is rows)) (All-filter (is_newest rows) (λ row. row.sequence < 2 ^ 56) rows order.below);
}

-- where there is a row, a row is the newest
pub some_newest : (rows : List Row) → 1 ≤ length rows → 1 ≤ length (newest_each rows)
some_newest [] some = absurd (omega (arith, some))
some_newest (r ∷ rows) some = by_each (newest_each (r ∷ rows)) (newest_stays (r ∷ rows) r.key ∙ ap (λ t. cond t (Some (newer r (newest r.key rows))) (newest r.key rows)) (tied r.key r.key refl))
  where
    by_each : (each : List Row) → newest r.key each ≡ Some (newer r (newest r.key rows)) → 1 ≤ length each
    by_each [] found = cc
    by_each (e ∷ each) found = omega arith

pub newest_rows_are_a_table : (rows : List Row) → AreInOrder rows → 1 ≤ length rows → AreTableRows (newest_each rows)
newest_rows_are_a_table rows order some = newest_table rows order (some_newest rows some)
