-- A key's newest row: where no row has the key, with one row more, and among the same rows in
-- another order.
use Rattle.std.proofs.Common.{◌≡◌, ◌≢◌, ℕ, ◌≤◌, Bool, true, false, cond, nat_lt, List, [], ◌∷◌, ◌++◌, refl, sym, ap, ◌∙◌, arith}
use Rattle.std.specs.Prelude.{Option, Some, None, All, Contains, filter, not, ◌&&◌, IsPermutation}
use Rattle.std.specs.List.Sorted.{IsStable, ties}
use Rattle.std.proofs.lemmas.Bool.Decides.{nat_tests}
use Rattle.std.proofs.lemmas.List.Elements.{All-nil, All-cons, All-contains}
use Rattle.std.proofs.lemmas.List.Sorted.{Contains-permutation, IsPermutation-sym}
use Rattle.std.specs.Ordering.{nat_cmp, eq_by_cmp, is_eq, is_lt, ordering_then, ordering_reverse}
use Rattle.std.specs.declared.cmp.Ordering.{Ordering}
use Rattle.std.specs.declared.cmp.Ordering.TheVariants.{Less, Equal, Greater}
use Rattle.lsm_rows.specs.declared.rows.Row.{Row}
use Rattle.lsm_rows.specs.Contents.{newer, newest, contents_of, IsNewest}
use Rattle.lsm_rows.specs.Replay.{key_cmp}
use Rattle.lsm_rows.proofs.NewestRows.{newest_is, newest_of, newest-append, same_key, tied, contents_by_newest, above_from}
use Rattle.lsm_merge.specs.Order.{row_cmp, row_total}

some_is : {X : Type 0} (x y : X) → Some x ≡ Some y → x ≡ y
some_is x y is = cc

not_none : {X : Type 0} (x : X) → Some x ≡ None → ⊥
not_none x is = cc

-- ---- no row of a key

pub no_row : (key : List ℕ) (rows : List Row) → newest key rows ≡ None → All (λ (row : Row). row.key ≢ key) rows
no_row key [] none = All-nil (λ (row : Row). row.key ≢ key)
no_row key (row ∷ rows) none = by (eq_by_cmp key_cmp key row.key) refl none (no_row key rows)
  where
    by : (b : Bool) → eq_by_cmp key_cmp key row.key ≡ b → cond b (Some (newer row (newest key rows))) (newest key rows) ≡ None
        → (newest key rows ≡ None → All (λ (other : Row). other.key ≢ key) rows)
        → All (λ (other : Row). other.key ≢ key) (row ∷ rows)
    by true is found rest = absurd (not_none (newer row (newest key rows)) found)
    by false is found rest =
        All-cons (λ (other : Row). other.key ≢ key) row rows
        (λ same. let clash : true ≡ false = sym (tied key row.key same) ∙ is in cc) (rest found)

pub none_newest : (key : List ℕ) (rows : List Row) → All (λ (row : Row). row.key ≢ key) rows → newest key rows ≡ None
none_newest key rows others = by (newest key rows) refl
  where
    by : (found : Option Row) → newest key rows ≡ found → found ≡ None
    by None is = refl
    by (Some row) is =
        let it = newest_is key rows row is in
        absurd (All-contains (λ (other : Row). other.key ≢ key) rows row others it.among it.of_key)

-- ---- one row more

-- at another key nothing changes
pub newest_apart : (rows : List Row) (row : Row) (q : List ℕ) → eq_by_cmp key_cmp q row.key ≡ false
    → newest q (rows ++ row ∷ []) ≡ newest q rows
newest_apart rows row q is =
    newest-append rows (row ∷ []) q
    ∙ ap (λ (t : Bool). newest_of (newest q rows) (cond t (Some (newer row None)) None)) is
    ∙ by (newest q rows)
  where
    by : (o : Option Row) → newest_of o None ≡ o
    by None = refl
    by (Some p) = refl

-- at its own key the newer of it and the newest before it
newest_here : (rows : List Row) (row : Row) → newest row.key (rows ++ row ∷ []) ≡ newest_of (newest row.key rows) (Some row)
newest_here rows row =
    newest-append rows (row ∷ []) row.key
    ∙ ap (λ (t : Bool). newest_of (newest row.key rows) (cond t (Some (newer row None)) None)) (tied row.key row.key refl)

-- the first row of a key is its newest
pub newest_first : (rows : List Row) (row : Row) → All (λ (other : Row). other.key ≢ row.key) rows
    → newest row.key (rows ++ row ∷ []) ≡ Some row
newest_first rows row others =
    newest_here rows row ∙ ap (λ (o : Option Row). newest_of o (Some row)) (none_newest row.key rows others)

not_lower : (a b : ℕ) → b ≤ a → nat_lt a b ≡ false
not_lower a b more = grind (arith, nat_tests)

-- a row behind one of its key with no smaller sequence isn't
pub newest_stays : (rows : List Row) (row before : Row) → Contains rows before → before.key ≡ row.key
    → row.sequence ≤ before.sequence → newest row.key (rows ++ row ∷ []) ≡ newest row.key rows
newest_stays rows row before among same more = newest_here rows row ∙ by (newest row.key rows) refl
  where
    by : (o : Option Row) → newest row.key rows ≡ o → newest_of o (Some row) ≡ o
    by None none = absurd (All-contains (λ (other : Row). other.key ≢ row.key) rows before (no_row row.key rows none) among same)
    by (Some p) found =
        let most = All-contains (λ (other : Row). other.key ≡ row.key → other.sequence ≤ p.sequence) rows before
        (newest_is row.key rows p found).greatest among same in
        ap (λ (t : Bool). Some (cond t row p)) (not_lower p.sequence row.sequence (omega (arith, more, most)))

-- ---- the same rows in another order

abbrev pub comes_before : Row → Row → Bool
comes_before a b = is_lt (row_cmp a b)

-- the rows of one key and one sequence
abbrev alike : List ℕ → ℕ → Row → Bool
alike key sequence row = ties comes_before (record { key = key; sequence = sequence; value = None }) row

abbrev first_of : List Row → Option Row
first_of [] = None
first_of (row ∷ rows) = Some row

-- a row is alike to itself, and none of another key or another sequence is
equal_by : (a b : Row) (o p : Ordering) → row_cmp a b ≡ o → row_cmp b a ≡ p → o ≡ ordering_reverse p
    → ties comes_before a b ≡ is_eq o
equal_by a b Less Greater is back turned = ap (λ (r : Ordering). not (is_lt r) && not (comes_before b a)) is
equal_by a b Equal Equal is back turned =
    ap (λ (r : Ordering). not (is_lt r) && not (comes_before b a)) is ∙ ap (λ (r : Ordering). true && not (is_lt r)) back
equal_by a b Greater Less is back turned =
    ap (λ (r : Ordering). not (is_lt r) && not (comes_before b a)) is ∙ ap (λ (r : Ordering). true && not (is_lt r)) back
equal_by a b Less Less is back turned = absurd (cc)
equal_by a b Less Equal is back turned = absurd (cc)
equal_by a b Equal Less is back turned = absurd (cc)
equal_by a b Equal Greater is back turned = absurd (cc)
equal_by a b Greater Equal is back turned = absurd (cc)
equal_by a b Greater Greater is back turned = absurd (cc)

ties_are : (a b : Row) → ties comes_before a b ≡ is_eq (row_cmp a b)
ties_are a b = equal_by a b (row_cmp a b) (row_cmp b a) refl refl (row_total.antisymm a b)

alike_itself : (row : Row) → alike row.key row.sequence row ≡ true
alike_itself row =
    ties_are (record { key = row.key; sequence = row.sequence; value = None }) row
    ∙ by (key_cmp row.key row.key) (tied row.key row.key refl)
  where
    same : is_eq (nat_cmp row.sequence row.sequence) ≡ true
    same = grind (arith, nat_tests)

    by : (o : Ordering) → is_eq o ≡ true → is_eq (ordering_then o (nat_cmp row.sequence row.sequence)) ≡ true
    by Less is = absurd (cc)
    by Equal is = same
    by Greater is = absurd (cc)

apart_keys : (key : List ℕ) (n : ℕ) (row : Row) → eq_by_cmp key_cmp key row.key ≡ false → alike key n row ≡ false
apart_keys key n row other =
    ties_are (record { key = key; sequence = n; value = None }) row ∙ by (key_cmp key row.key) other
  where
    by : (o : Ordering) → is_eq o ≡ false → is_eq (ordering_then o (nat_cmp row.sequence n)) ≡ false
    by Less is = refl
    by Equal is = absurd (cc)
    by Greater is = refl

differ : (a b : ℕ) → nat_lt a b ≡ true → is_eq (nat_cmp a b) ≡ false
differ a b less = grind (arith, nat_tests)

apart_sequences : (key : List ℕ) (n : ℕ) (row : Row) → nat_lt row.sequence n ≡ true → alike key n row ≡ false
apart_sequences key n row less =
    ties_are (record { key = key; sequence = n; value = None }) row ∙ by (key_cmp key row.key)
  where
    by : (o : Ordering) → is_eq (ordering_then o (nat_cmp row.sequence n)) ≡ false
    by Less = refl
    by Equal = differ row.sequence n less
    by Greater = refl

-- a key's newest row is the first of those that are alike to it
first_alike : (key : List ℕ) (rows : List Row) (row : Row) → newest key rows ≡ Some row
    → first_of (filter (alike key row.sequence) rows) ≡ Some row
first_alike key [] row found = cc
first_alike key (r ∷ rows) row found = by (eq_by_cmp key_cmp key r.key) refl found (first_alike key rows row)
  where
    skipped : alike key row.sequence r ≡ false → first_of (filter (alike key row.sequence) rows) ≡ Some row
        → first_of (filter (alike key row.sequence) (r ∷ rows)) ≡ Some row
    skipped apart rest =
        ap (λ (t : Bool). first_of (cond t (r ∷ filter (alike key row.sequence) rows) (filter (alike key row.sequence) rows)))
        apart ∙ rest

    here : eq_by_cmp key_cmp key r.key ≡ true → r ≡ row → first_of (filter (alike key row.sequence) (r ∷ rows)) ≡ Some row
    here is same =
        ap (λ (t : Bool). first_of (cond t (r ∷ filter (alike key row.sequence) rows) (filter (alike key row.sequence) rows)))
        (ap (λ (k : List ℕ). alike k row.sequence r) (same_key key r.key is)
        ∙ ap (λ (x : Row). alike r.key x.sequence r) (sym same) ∙ alike_itself r)
        ∙ ap Some same

    by : (b : Bool) → eq_by_cmp key_cmp key r.key ≡ b
        → cond b (Some (newer r (newest key rows))) (newest key rows) ≡ Some row
        → (newest key rows ≡ Some row → first_of (filter (alike key row.sequence) rows) ≡ Some row)
        → first_of (filter (alike key row.sequence) (r ∷ rows)) ≡ Some row
    by false is found rest = skipped (apart_keys key row.sequence r is) (rest found)
    by true is found rest = among (newest key rows) refl found
      where
        among : (o : Option Row) → newest key rows ≡ o → Some (newer r o) ≡ Some row
            → first_of (filter (alike key row.sequence) (r ∷ rows)) ≡ Some row
        among None none first = here is (some_is r row first)
        among (Some q) some first = ordered (nat_lt r.sequence q.sequence) refl first
          where
            ordered : (t : Bool) → nat_lt r.sequence q.sequence ≡ t → Some (cond t q r) ≡ Some row
                → first_of (filter (alike key row.sequence) (r ∷ rows)) ≡ Some row
            ordered true less first =
                let same : q ≡ row = some_is q row first in
                skipped (apart_sequences key row.sequence r (ap (λ (x : Row). nat_lt r.sequence x.sequence) (sym same) ∙ less))
                (rest (some ∙ first))
            ordered false more first = here is (some_is r row first)

module _ (rows others : List Row) (same : IsPermutation rows others) (stable : IsStable row_cmp rows others) where
  among_others : (row : Row) → Contains rows row → Contains others row
  among_others row has = Contains-permutation rows others row same has

  among_rows : (row : Row) → Contains others row → Contains rows row
  among_rows row has = Contains-permutation others rows row (IsPermutation-sym rows others same) has

  -- each key has the same newest row
  newest_same : (key : List ℕ) → newest key rows ≡ newest key others
  newest_same key = by (newest key rows) refl (newest key others) refl
    where
      by : (a : Option Row) → newest key rows ≡ a → (b : Option Row) → newest key others ≡ b → a ≡ b
      by None none None gone = refl
      by None none (Some b) found =
          let it = newest_is key others b found in
          absurd (All-contains (λ (other : Row). other.key ≢ key) rows b (no_row key rows none) (among_rows b it.among) it.of_key)
      by (Some a) found None gone =
          let it = newest_is key rows a found in
          absurd (All-contains (λ (other : Row). other.key ≢ key) others a (no_row key others gone) (among_others a it.among)
          it.of_key)
      by (Some a) found (Some b) there =
          let here = newest_is key rows a found in
          let behind = newest_is key others b there in
          let up : b.sequence ≤ a.sequence = All-contains (λ (other : Row). other.key ≡ key → other.sequence ≤ a.sequence) rows b
          here.greatest (among_rows b behind.among) behind.of_key in
          let down : a.sequence ≤ b.sequence = All-contains (λ (other : Row). other.key ≡ key → other.sequence ≤ b.sequence)
          others a behind.greatest (among_others a here.among) here.of_key in
          let equal : a.sequence ≡ b.sequence = omega (arith, up, down) in
          sym (first_alike key rows a found)
          ∙ ap first_of (sym (stable (record { key = key; sequence = a.sequence; value = None })))
          ∙ ap (λ (n : ℕ). first_of (filter (alike key n) others)) equal
          ∙ first_alike key others b there

  -- so they stand for the same contents
  pub contents_same : contents_of rows ≡ contents_of others
  contents_same = contents_by_newest rows others newest_same
