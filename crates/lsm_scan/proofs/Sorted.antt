-- The contents of sorted rows, row by row.
use Rattle.std.proofs.Common.{◌≡◌, ◌≢◌, ◌⊎◌, ℕ, ◌+◌, ◌-◌, ◌<◌, ◌≤◌, Bool, true, false, cond, List, [], ◌∷◌, ◌++◌, get_or, take, length, refl, sym, ap, subst, ◌∙◌, arith, inl, inr, ⊎_elim}
use Rattle.std.specs.Prelude.{Option, Some, None, All, Contains, slice_get, not, nat_eq, Result, Ok, Err, OnOk, IfOk, IsPermutation}
use Rattle.std.specs.Cmp.Lexicographic.{pointwise, same_text, other_text, nat_list_cmp_total}
use Rattle.std.specs.List.Sorted.{IsSorted, IsStable}
use Rattle.std.proofs.lemmas.List.{take_more, length-take, get_or-take}
use Rattle.std.proofs.lemmas.List.Elements.{All-nil, All-weaker, All-contains_itself, Contains-get_or}
use Rattle.std.proofs.lemmas.List.Sorted.{ranks_by, sorted_far}
use Rattle.std.proofs.lemmas.Option.{get_or_from_slice_get, slice_get-get_or}
use Rattle.std.specs.Ordering.{eq_by_cmp}
use Rattle.std.specs.FinMap as finmap
use Rattle.std.specs.declared.cmp.Ordering.TheVariants.{Less}
use Rattle.lsm_rows.specs.declared.rows.Row.{Row}
use Rattle.lsm_rows.specs.Contents.{newest, value_of, contents_of}
use Rattle.lsm_rows.specs.Replay.{Contents, key_cmp}
use Rattle.lsm_rows.proofs.NewestRows.{get_contents, same_contents, same_key}
use Rattle.lsm_merge.specs.Order.{row_cmp, row_total, IsFrom}
use Rattle.lsm_merge.proofs.Orders.{from_not_less, from_trans, from_other, from_later, from_of_key, not_less_itself}
use Rattle.lsm_scan.specs.Firsts.{AreNeighbours, IsFirstOfKey, IsNotFirst}
use Rattle.lsm_scan.proofs.Newest.{comes_before, none_newest, newest_apart, newest_first, newest_stays, contents_same}

-- ---- the pairs with one row more

module _ (rows : List Row) (row : Row) where
  abbrev more : List Row
  more = rows ++ row ∷ []

  at_key : (q : List ℕ) → eq_by_cmp key_cmp q row.key ≡ true → (o : Option Row) → newest row.key more ≡ o
      → finmap.get (contents_of more) q ≡ value_of o
  at_key q is o found =
      get_contents more q ∙ ap (λ (k : List ℕ). value_of (newest k more)) (same_key q row.key is) ∙ ap value_of found

  elsewhere : (q : List ℕ) → eq_by_cmp key_cmp q row.key ≡ false
      → finmap.get (contents_of more) q ≡ finmap.get (contents_of rows) q
  elsewhere q other = get_contents more q ∙ ap value_of (newest_apart rows row q other) ∙ sym (get_contents rows q)

  -- a row that counts sets its key's value
  pub pair_set : (value : List ℕ) → row.value ≡ Some value → newest row.key more ≡ Some row
      → finmap.insert (contents_of rows) row.key value ≡ contents_of more
  pair_set value is first =
      same_contents (finmap.insert (contents_of rows) row.key value) (contents_of more)
      (λ q. finmap.get-insert nat_list_cmp_total (contents_of rows) row.key value q ∙ by q (eq_by_cmp key_cmp q row.key) refl)
    where
      by : (q : List ℕ) (b : Bool) → eq_by_cmp key_cmp q row.key ≡ b
          → cond b (Some value) (finmap.get (contents_of rows) q) ≡ finmap.get (contents_of more) q
      by q true e = sym is ∙ sym (at_key q e (Some row) first)
      by q false e = sym (elsewhere q e)

  -- where its key has the same value as before nothing changes
  stay : value_of (newest row.key rows) ≡ value_of (newest row.key more) → contents_of rows ≡ contents_of more
  stay same =
      same_contents (contents_of rows) (contents_of more) (λ q. by q (eq_by_cmp key_cmp q row.key) refl)
    where
      by : (q : List ℕ) (b : Bool) → eq_by_cmp key_cmp q row.key ≡ b
          → finmap.get (contents_of rows) q ≡ finmap.get (contents_of more) q
      by q true e =
          get_contents rows q ∙ ap (λ (k : List ℕ). value_of (newest k rows)) (same_key q row.key e) ∙ same
          ∙ sym (at_key q e (newest row.key more) refl)
      by q false e = sym (elsewhere q e)

  pub pair_none : row.value ≡ None → newest row.key rows ≡ None → newest row.key more ≡ Some row
      → contents_of rows ≡ contents_of more
  pair_none is none first = stay (ap value_of none ∙ sym is ∙ sym (ap value_of first))

  pub pair_older : newest row.key more ≡ newest row.key rows → contents_of rows ≡ contents_of more
  pair_older same = stay (sym (ap value_of same))

-- ---- sorted rows

module _ (rows : List Row) (sorted : IsSorted row_cmp rows) where
  -- no row comes before one that stands before it
  in_order : (i j : ℕ) (d : Row) → i ≤ j → j < length rows → IsFrom (get_or rows i d) (get_or rows j d)
  in_order i j d before there =
      from_not_less (get_or rows i d) (get_or rows j d)
      (sorted_far comes_before (ranks_by row_total (λ (row : Row). row)) rows sorted i j d before there)

  before_less : (a b c : Row) → IsFrom a b → key_cmp b.key c.key ≡ Less → key_cmp a.key c.key ≡ Less
  unfolding IsFrom
  before_less a b c from less =
      ⊎_elim (λ lower. nat_list_cmp_total.trans a.key b.key c.key lower less)
      (λ same. ap (λ (k : List ℕ). key_cmp k c.key) (sym same.0) ∙ less) from

  module _ (place : ℕ) (there : place < length rows) (row : Row) (is : row ≡ get_or rows place row) where
    abbrev front : List Row
    front = take place rows

    next_is : take (place + 1) rows ≡ front ++ row ∷ []
    next_is = take_more rows place row there ∙ ap (λ (x : Row). front ++ x ∷ []) (sym is)

    same_row : (other : Row) → slice_get rows place ≡ Some other → other ≡ row
    same_row other found = sym (get_or_from_slice_get rows place other row found) ∙ sym is

    -- the row before it, and how the two are ordered
    module _ (two : AreNeighbours rows place) where
      at_before : (d : Row) → get_or rows two.at d ≡ two.before
      at_before d = get_or_from_slice_get rows two.at two.before d two.first

      from_before : IsFrom two.before row
      from_before =
          subst (λ (x : Row). IsFrom x row) (at_before row)
          (subst (λ (x : Row). IsFrom (get_or rows two.at row) x) (sym is)
          (in_order two.at place row (omega (arith, two.place_is)) there))

      row_is : two.row ≡ row
      row_is = same_row two.row two.second

      other_before : two.before.key ≢ two.row.key → (other : Row) → Contains front other → other.key ≢ row.key
      other_before differ other has same =
          let short : length front ≤ place = omega (arith, length-take place rows) in
          let k : ℕ = has.0 in
          let below : k < place = omega (arith, has.1, short) in
          let here : get_or rows k other ≡ other = sym (get_or-take place rows k other below) ∙ has.2 in
          let ahead : IsFrom other two.before =
          subst (λ (x : Row). IsFrom x two.before) here
          (subst (λ (x : Row). IsFrom (get_or rows k other) x) (at_before other)
          (in_order k two.at other (omega (arith, below, two.place_is)) (omega (arith, two.place_is, there)))) in
          let less = from_other two.before row from_before (λ equal. differ (sym equal ∙ ap (λ (x : Row). x.key) (sym row_is))) in
          not_less_itself row.key (ap (λ (key : List ℕ). key_cmp key row.key) (sym same) ∙ before_less other two.before row ahead less)

      among_front : Contains front two.before
      among_front =
          let long : two.at < length front = omega (arith, length-take place rows, two.place_is, there) in
          subst (Contains front) (get_or-take place rows two.at row (omega (arith, two.place_is)) ∙ at_before row)
          (Contains-get_or front two.at row long)

      -- it has the row's key, and no smaller sequence
      older : two.before.key ≡ two.row.key → newest row.key (front ++ row ∷ []) ≡ newest row.key front
      older same =
          let key_is : two.before.key ≡ row.key = same ∙ ap (λ (x : Row). x.key) row_is in
          newest_stays front row two.before among_front key_is (from_of_key two.before row from_before (sym key_is))

    others : IsFirstOfKey rows place → All (λ (other : Row). other.key ≢ row.key) front
    others first =
        ⊎_elim
        (λ none. subst (λ (n : ℕ). All (λ (other : Row). other.key ≢ row.key) (take n rows)) (sym none)
        (All-nil (λ (other : Row). other.key ≢ row.key)))
        (λ second. All-weaker (Contains front) (λ (other : Row). other.key ≢ row.key) (other_before second.0 second.1) front
        (All-contains_itself front))
        first

    pub first_put : (value : List ℕ) (old new : Contents) → IsFirstOfKey rows place → row.value ≡ Some value
        → old ≡ contents_of front → new ≡ finmap.insert old row.key value → new ≡ contents_of (take (place + 1) rows)
    first_put value old new first put before set =
        set ∙ ap (λ (m : Contents). finmap.insert m row.key value) before
        ∙ pair_set front row value put (newest_first front row (others first)) ∙ ap contents_of (sym next_is)

    pub first_deleted : (old : Contents) → IsFirstOfKey rows place → row.value ≡ None → old ≡ contents_of front
        → old ≡ contents_of (take (place + 1) rows)
    first_deleted old first deleted before =
        before
        ∙ pair_none front row deleted (none_newest row.key front (others first)) (newest_first front row (others first))
        ∙ ap contents_of (sym next_is)

    pub not_first : (old : Contents) → IsNotFirst rows place → old ≡ contents_of front → old ≡ contents_of (take (place + 1) rows)
    not_first old second before = before ∙ pair_older front row (older second.0 second.1) ∙ ap contents_of (sym next_is)

-- ---- whether two keys differ

turned : (a b : Bool) → a ≡ not b → b ≡ not a
turned true true is = absurd (cc)
turned true false is = refl
turned false true is = refl
turned false false is = absurd (cc)

module _ (a b : List ℕ) (r : Bool) (test : r ≡ not (pointwise nat_eq a b)) where
  keys_differ : r ≡ true → a ≢ b
  keys_differ is = other_text a b (sym (turned r (pointwise nat_eq a b) test ∙ ap not is))

  keys_agree : r ≡ false → a ≡ b
  keys_agree is = same_text a b (sym (turned r (pointwise nat_eq a b) test ∙ ap not is))

-- ---- two rows one behind the other

module _ (rows : List Row) (place : ℕ) (some : 1 ≤ place) (there : place < length rows) (before row : Row)
    (first : before ≡ get_or rows (place - 1) before) (second : row ≡ get_or rows place row) where
  neighbours : AreNeighbours rows place
  neighbours = record {
    before = before;
    row = row;
    at = place - 1;
    place_is = omega (arith, some);
    first = slice_get-get_or rows (place - 1) before (omega (arith, there)) ∙ ap Some (sym first);
    second = slice_get-get_or rows place row there ∙ ap Some (sym second);
  }

  module _ (r : Bool) (test : r ≡ not (pointwise nat_eq before.key row.key)) where
    pub is_first : r ≡ true → IsFirstOfKey rows place
    unfolding neighbours
    is_first is = inr (neighbours, keys_differ before.key row.key r test is)

    pub is_second : r ≡ false → IsNotFirst rows place
    unfolding neighbours
    is_second is = (neighbours, keys_agree before.key row.key r test is)

-- ---- the exits of one row

module _ (rows : List Row) (sorted : IsSorted row_cmp rows) (place : ℕ) (there : place < length rows) (row : Row)
    (is : row ≡ get_or rows place row) (old : Contents) (before : old ≡ contents_of (take place rows)) where
  pub put_ends : {E : Type 0} (value : List ℕ) (new : Contents) (r : Result (Unit {0}) E) → IsFirstOfKey rows place
      → row.value ≡ Some value → OnOk r (new ≡ finmap.insert old row.key value) → OnOk r (new ≡ contents_of (take (place + 1) rows))
  put_ends value new (Ok done) first put set = first_put rows sorted place there row is value old new first put before set
  put_ends value new (Err e) first put set = tt

-- what was put, under the names that the row has
pub put_same : {E : Type 0} (old new : Contents) (key key_text value value_text : List ℕ) (r : Result (Unit {0}) E) → key_text ≡ key
    → value_text ≡ value → OnOk r (new ≡ finmap.insert old key_text value_text) → OnOk r (new ≡ finmap.insert old key value)
put_same old new key key_text value value_text (Ok done) key_is value_is set =
    set ∙ ap (λ (k : List ℕ). finmap.insert old k value_text) key_is ∙ ap (λ (v : List ℕ). finmap.insert old key v) value_is
put_same old new key key_text value value_text (Err e) key_is value_is set = tt

pub not_first_ends : (rows : List Row) → IsSorted row_cmp rows → (place : ℕ) → place < length rows → (old : Contents)
    → IsNotFirst rows place → old ≡ contents_of (take place rows) → old ≡ contents_of (take (place + 1) rows)
not_first_ends rows sorted place there old second before =
    let row : Row = second.0.row in
    not_first rows sorted place there row (sym (get_or_from_slice_get rows place row row second.0.second)) old second before

-- no rows stand for no pairs
pub no_pairs : finmap.empty {R = key_cmp} ≡ contents_of []
no_pairs = same_contents finmap.empty (contents_of []) (λ q. finmap.get-empty key_cmp q ∙ sym (get_contents [] q))

-- sorted rows stand for what the rows stood for before
pub pairs_end : {E : Type 0} (rows sorted text : List Row) (r : Result Contents E) → IsPermutation rows sorted
    → IsStable row_cmp rows sorted → text ≡ sorted → IfOk r (λ pairs. pairs ≡ contents_of text)
    → IfOk r (λ pairs. pairs ≡ contents_of rows)
pairs_end rows sorted text (Ok pairs) same stable is found =
    found ∙ ap contents_of is ∙ sym (contents_same rows sorted same stable)
pairs_end rows sorted text (Err e) same stable is found = tt
