-- The contents of rows have at each key the value of its newest row.
use Rattle.std.proofs.Common.{◌≡◌, ℕ, ◌<◌, ◌≤◌, Bool, true, false, cond, nat_lt, List, [], ◌∷◌, ◌++◌, refl, sym, ◌∙◌, ap, subst, arith, ⊎_elim}
use Rattle.std.specs.Prelude.{◌||◌, Option, Some, None, All}
use Rattle.std.proofs.lemmas.Bool.Decides.{nat_tests}
use Rattle.std.specs.Ordering.{eq_by_cmp, is_eq}
use Rattle.std.specs.declared.cmp.Ordering.{Ordering}
use Rattle.std.specs.declared.cmp.Ordering.TheVariants.{Less, Equal, Greater}
use Rattle.std.specs.Cmp.Lexicographic.{nat_list_cmp_total}
use Rattle.std.proofs.lemmas.Cmp.{tied_itself}
use Rattle.std.proofs.lemmas.List.Elements.{All-nil, All-cons, All-weaker, Contains-get_or, Contains-append_right}
use Rattle.std.specs.List.{list_any}
use Rattle.std.specs.FinMap as map
use Rattle.lsm_rows.specs.declared.rows.Row.{Row}
use Rattle.lsm_rows.specs.Replay.{Contents, key_cmp}
use Rattle.lsm_rows.specs.Contents.{newer, newest, value_of, with_entry, entries_among, contents_of, KeepsKey, IsNewest}

-- keys that compare as equal are equal
pub equal_of : (r : Ordering) → is_eq r ≡ true → r ≡ Equal
equal_of Less e = cc
equal_of Equal e = refl
equal_of Greater e = cc

pub same_key : (k q : List ℕ) → eq_by_cmp key_cmp k q ≡ true → k ≡ q
same_key k q e = map.slice_cmp-IsAntisymmetric map.nat_cmp-IsAntisymmetric k q (equal_of (key_cmp k q) e)

-- contents with the same value at each key are the same
pub same_contents : (a b : Contents) → ((k : List ℕ) → map.get a k ≡ map.get b k) → a ≡ b
same_contents a b same = map.same_map nat_list_cmp_total (map.slice_cmp-IsAntisymmetric map.nat_cmp-IsAntisymmetric) a b same

abbrev or_else : {A : Type 0} → Option A → Option A → Option A
or_else None o = o
or_else (Some x) o = Some x

find_with : (k rk : List ℕ) (o : Option (List ℕ)) (es : List (List ℕ × List ℕ))
    → map.find key_cmp k (with_entry rk o es) ≡ cond (eq_by_cmp key_cmp k rk) (or_else o (map.find key_cmp k es)) (map.find key_cmp k es)
find_with k rk None es = elim (eq_by_cmp key_cmp k rk) as (λ b. map.find key_cmp k es ≡ cond b (map.find key_cmp k es) (map.find key_cmp k es)) [ true ↦ refl | false ↦ refl ]
find_with k rk (Some v) es = refl

kept : (x : Option (List ℕ)) (any : Bool) → or_else x (cond any x None) ≡ x
kept None true = refl
kept None false = refl
kept (Some v) any = refl

-- whether a row has the key
abbrev has_key : List ℕ → List Row → Bool
has_key k rows = list_any (λ row. eq_by_cmp key_cmp k row.key) rows

find_entries : (all rows : List Row) (k : List ℕ) → map.find key_cmp k (entries_among all rows) ≡ cond (has_key k rows) (value_of (newest k all)) None
find_entries all [] k = refl
find_entries all (r ∷ rows) k =
    let rest = find_entries all rows k in
    find_with k r.key (value_of (newest r.key all)) (entries_among all rows)
    ∙ ap (λ o. cond (eq_by_cmp key_cmp k r.key) (or_else (value_of (newest r.key all)) o) o) rest
    ∙ elim (eq_by_cmp key_cmp k r.key) as (λ b. eq_by_cmp key_cmp k r.key ≡ b
    → cond b (or_else (value_of (newest r.key all)) (cond (has_key k rows) (value_of (newest k all)) None)) (cond (has_key k rows) (value_of (newest k all)) None)
    ≡ cond (b || has_key k rows) (value_of (newest k all)) None) [
      | true ↦ λ e. ap (λ q. or_else (value_of (newest q all)) (cond (has_key k rows) (value_of (newest k all)) None)) (sym (same_key k r.key e)) ∙ kept (value_of (newest k all)) (has_key k rows)
      | false ↦ λ e. refl
    ] refl

none_newest : (rows : List Row) (k : List ℕ) → has_key k rows ≡ false → newest k rows ≡ None
none_newest [] k e = refl
none_newest (r ∷ rows) k e =
    elim (eq_by_cmp key_cmp k r.key) as (λ b. (b || has_key k rows) ≡ false → cond b (Some (newer r (newest k rows))) (newest k rows) ≡ None) [
      | true ↦ λ f. cc
      | false ↦ λ f. none_newest rows k f
    ] e

-- what the contents have at a key
pub get_contents : (rows : List Row) (k : List ℕ) → map.get (contents_of rows) k ≡ value_of (newest k rows)
unfolding contents_of
get_contents rows k =
    map.get-from_entries nat_list_cmp_total (entries_among rows rows) k ∙ find_entries rows rows k
    ∙ elim (has_key k rows) as (λ b. has_key k rows ≡ b → cond b (value_of (newest k rows)) None ≡ value_of (newest k rows)) [
      | true ↦ λ e. refl
      | false ↦ λ e. sym (ap value_of (none_newest rows k e))
    ] refl

-- rows with the same newest row of each key have the same contents
pub contents_by_newest : (rows others : List Row) → ((k : List ℕ) → newest k rows ≡ newest k others) → contents_of rows ≡ contents_of others
contents_by_newest rows others same =
    same_contents (contents_of rows) (contents_of others) (λ k. get_contents rows k ∙ ap value_of (same k) ∙ sym (get_contents others k))

-- the newest row of rows that stand before others
abbrev pub newest_of : Option Row → Option Row → Option Row
newest_of None o = o
newest_of (Some row) o = Some (newer row o)

chain : (a b c : ℕ) → nat_lt a b ≡ true → nat_lt b c ≡ true → nat_lt a c ≡ true
chain a b c x y = grind (arith, nat_tests)

chain_not : (a b c : ℕ) → nat_lt a b ≡ false → nat_lt b c ≡ false → nat_lt a c ≡ false
chain_not a b c x y = grind (arith, nat_tests)

pub not_below : (a b : ℕ) → a < b → nat_lt b a ≡ false
not_below a b h = grind (arith, nat_tests)

newer_three : (x q p : Row) (a b c : Bool) → nat_lt q.sequence p.sequence ≡ a → nat_lt x.sequence q.sequence ≡ b → nat_lt x.sequence p.sequence ≡ c
    → cond (nat_lt x.sequence (cond a p q).sequence) (cond a p q) x ≡ cond (nat_lt (cond b q x).sequence p.sequence) p (cond b q x)
newer_three x q p true true true qp xq xp = ap (λ t. cond t p x) xp ∙ sym (ap (λ t. cond t p q) qp)
newer_three x q p true true false qp xq xp = let clash : true ≡ false = sym (chain x.sequence q.sequence p.sequence xq qp) ∙ xp in cc
newer_three x q p true false c qp xq xp = refl
newer_three x q p false true c qp xq xp = ap (λ t. cond t q x) xq ∙ sym (ap (λ t. cond t p q) qp)
newer_three x q p false false true qp xq xp = let clash : true ≡ false = sym xp ∙ chain_not x.sequence q.sequence p.sequence xq qp in cc
newer_three x q p false false false qp xq xp = ap (λ t. cond t q x) xq ∙ sym (ap (λ t. cond t p x) xp)

newer_newer : (x q : Row) (b : Option Row) → newer x (Some (newer q b)) ≡ newer (newer x (Some q)) b
newer_newer x q None = refl
newer_newer x q (Some p) = newer_three x q p (nat_lt q.sequence p.sequence) (nat_lt x.sequence q.sequence) (nat_lt x.sequence p.sequence) refl refl refl

newer_best : (x : Row) (a b : Option Row) → newer x (newest_of a b) ≡ newer (newer x a) b
newer_best x None b = refl
newer_best x (Some q) b = newer_newer x q b

pub newest-append : (xs ys : List Row) (k : List ℕ) → newest k (xs ++ ys) ≡ newest_of (newest k xs) (newest k ys)
newest-append [] ys k = refl
newest-append (x ∷ xs) ys k =
    ap (λ o. cond (eq_by_cmp key_cmp k x.key) (Some (newer x o)) o) (newest-append xs ys k)
    ∙ elim (eq_by_cmp key_cmp k x.key) as (λ t. cond t (Some (newer x (newest_of (newest k xs) (newest k ys)))) (newest_of (newest k xs) (newest k ys))
    ≡ newest_of (cond t (Some (newer x (newest k xs))) (newest k xs)) (newest k ys)) [
      | true ↦ ap Some (newer_best x (newest k xs) (newest k ys))
      | false ↦ refl
    ]

dropped : (a : Option Row) (r : Row) → r.value ≡ None → ((q : Row) → a ≡ Some q → r.sequence < q.sequence) → value_of (newest_of a None) ≡ value_of (newest_of a (Some r))
dropped None r none newer_q = sym none
dropped (Some q) r none newer_q = sym (ap (λ t. value_of (Some (cond t r q))) (not_below r.sequence q.sequence (newer_q q refl)))

kept_at : (others inputs outputs : List Row) (k : List ℕ) → KeepsKey others inputs outputs k → value_of (newest k (others ++ outputs)) ≡ value_of (newest k (others ++ inputs))
kept_at others inputs outputs k keeps =
    ap value_of (newest-append others outputs k)
    ∙ ⊎_elim
    (λ same. ap (λ o. value_of (newest_of (newest k others) o)) same)
    (λ gone. ap (λ o. value_of (newest_of (newest k others) o)) gone.0 ∙ dropped (newest k others) gone.1 gone.3 gone.4 ∙ sym (ap (λ o. value_of (newest_of (newest k others) o)) gone.2))
    keeps
    ∙ sym (ap value_of (newest-append others inputs k))

pub contents_kept : (others inputs outputs : List Row) → ((k : List ℕ) → KeepsKey others inputs outputs k) → contents_of (others ++ outputs) ≡ contents_of (others ++ inputs)
contents_kept others inputs outputs keeps =
    same_contents (contents_of (others ++ outputs)) (contents_of (others ++ inputs)) (λ k.
    get_contents (others ++ outputs) k ∙ kept_at others inputs outputs k (keeps k) ∙ sym (get_contents (others ++ inputs) k))

-- a key compares as equal with itself
pub tied : (k q : List ℕ) → q ≡ k → eq_by_cmp key_cmp k q ≡ true
tied k q same = ap (λ (l : List ℕ). is_eq (key_cmp k l)) same ∙ ap is_eq (tied_itself nat_list_cmp_total k)

-- a key without a newest row has no row
no_row : (k : List ℕ) (rows : List Row) → newest k rows ≡ None → All (λ other. other.key ≡ k → ⊥) rows
no_row k [] none = All-nil (λ other. other.key ≡ k → ⊥)
no_row k (r ∷ rows) none = by_same (eq_by_cmp key_cmp k r.key) refl none (λ rest. no_row k rows rest)
  where
    by_same : (b : Bool) → eq_by_cmp key_cmp k r.key ≡ b → cond b (Some (newer r (newest k rows))) (newest k rows) ≡ None
        → (newest k rows ≡ None → All (λ other. other.key ≡ k → ⊥) rows) → All (λ other. other.key ≡ k → ⊥) (r ∷ rows)
    by_same true is found rest = cc
    by_same false is found rest = All-cons (λ other. other.key ≡ k → ⊥) r rows (λ same. let clash : true ≡ false = sym (tied k r.key same) ∙ is in cc) (rest found)

below_from : (a b : ℕ) → nat_lt a b ≡ true → a ≤ b
below_from a b e = grind (arith, nat_tests)

pub above_from : (a b : ℕ) → nat_lt a b ≡ false → b ≤ a
above_from a b e = grind (arith, nat_tests)

-- a key's newest row is one of its rows, and none of them has a greater sequence
pub AtMost : List ℕ → ℕ → Row → Type 0
AtMost k sequence other = other.key ≡ k → other.sequence ≤ sequence

first_is : (k : List ℕ) (r : Row) (rows : List Row) → eq_by_cmp key_cmp k r.key ≡ true → All (AtMost k r.sequence) rows → IsNewest k (r ∷ rows) r
unfolding AtMost
first_is k r rows is others = record {
  among = Contains-get_or (r ∷ rows) 0 r (omega arith);
  of_key = sym (same_key k r.key is);
  greatest = All-cons (λ other. other.key ≡ k → other.sequence ≤ r.sequence) r rows (λ _. omega arith) others;
}

later_is : (k : List ℕ) (r : Row) (rows : List Row) (row : Row) → AtMost k row.sequence r → IsNewest k rows row → IsNewest k (r ∷ rows) row
unfolding AtMost
later_is k r rows row here rest = record {
  among = Contains-append_right (r ∷ []) rows row rest.among;
  of_key = rest.of_key;
  greatest = All-cons (λ other. other.key ≡ k → other.sequence ≤ row.sequence) r rows here rest.greatest;
}

pub newest_is : (k : List ℕ) (rows : List Row) (row : Row) → newest k rows ≡ Some row → IsNewest k rows row
unfolding AtMost
newest_is k [] row found = cc
newest_is k (r ∷ rows) row found = by_same (eq_by_cmp key_cmp k r.key) refl (newest k rows) refl found (λ q is. newest_is k rows q is)
  where
    by_same : (b : Bool) → eq_by_cmp key_cmp k r.key ≡ b → (o : Option Row) → newest k rows ≡ o → cond b (Some (newer r o)) o ≡ Some row
        → ((q : Row) → newest k rows ≡ Some q → IsNewest k rows q) → IsNewest k (r ∷ rows) row
    by_same true is None none found more =
        let same : r ≡ row = cc in
        subst (λ (x : Row). IsNewest k (r ∷ rows) x) same
        (first_is k r rows is (All-weaker (λ other. other.key ≡ k → ⊥) (λ other. other.key ≡ k → other.sequence ≤ r.sequence) (λ other never same_key_as. absurd (never same_key_as)) rows (no_row k rows none)))
    by_same true is (Some q) some found more = by_order (nat_lt r.sequence q.sequence) refl found (more q some)
      where
        by_order : (b : Bool) → nat_lt r.sequence q.sequence ≡ b → Some (cond b q r) ≡ Some row → IsNewest k rows q → IsNewest k (r ∷ rows) row
        by_order true less found rest =
            let same : q ≡ row = cc in
            subst (λ (x : Row). IsNewest k (r ∷ rows) x) same (later_is k r rows q (λ _. below_from r.sequence q.sequence less) rest)
        by_order false not_less found rest =
            let same : r ≡ row = cc in
            let above : q.sequence ≤ r.sequence = above_from r.sequence q.sequence not_less in
            subst (λ (x : Row). IsNewest k (r ∷ rows) x) same
            (first_is k r rows is (All-weaker (λ other. other.key ≡ k → other.sequence ≤ q.sequence) (λ other. other.key ≡ k → other.sequence ≤ r.sequence) (λ other most same_key_as. let below : other.sequence ≤ q.sequence = most same_key_as in omega arith) rows rest.greatest))
    by_same false is o some found more =
        later_is k r rows row (λ same. let clash : true ≡ false = sym (tied k r.key same) ∙ is in cc) (more row (some ∙ found))
