-- A table's range of user keys has those of all its rows.
use Rattle.std.specs.Prelude.{◌≡◌, ◌≢◌, ℕ, true, false, ◌&&◌, List, [], ◌∷◌, get_or, map, All}
use Rattle.std.proofs.Common.{refl, sym, ap, subst, ◌∙◌}
use Rattle.std.proofs.lemmas.Cmp.{tied_itself, nat_list_cmp_total, upto}
use Rattle.std.proofs.lemmas.List.Elements.{All-nil, All-cons, All-weaker}
use Rattle.std.specs.List.{AllByRecursion}
use Rattle.std.specs.List.Sorted.{IsStrictlySortedBy}
use Rattle.std.specs.Ordering.{is_le, is_gt}
use Rattle.std.specs.declared.cmp.Ordering.{Ordering}
use Rattle.std.specs.declared.cmp.Ordering.TheVariants.{Less, Equal, Greater}
use Rattle.lsm_rows.specs.declared.rows.Row.{Row}
use Rattle.lsm_rows.specs.InternalKeys.{user_key, internal_key}
use Rattle.lsm_rows.specs.Replay.{key_cmp}
use Rattle.lsm_rows.proofs.InternalOrder.{user_key_of}
use Rattle.lsm_block.specs.Parts.{last_from, last_key}
use Rattle.lsm_block.specs.TableText.{row_entry, AreTableRows}
use Rattle.lsm_version.specs.declared.tables.TableInfo.{TableInfo}
use Rattle.lsm_folder.specs.Needed.{IsAsListed}
use Rattle.lsm_core.specs.Searching.{may_have}

abbrev keys_in : List Row → List (List ℕ)
keys_in rows = map (λ (row : Row). row.key) rows

abbrev IsUpTo : List ℕ → List ℕ → Type 0
IsUpTo a b = is_gt (key_cmp a b) ≡ false

at_most : (o : Ordering) → is_gt o ≡ false → is_le o ≡ true
at_most Less is = refl
at_most Equal is = refl
at_most Greater is = cc

up_to_itself : (key : List ℕ) → IsUpTo key key
up_to_itself key = ap is_gt (tied_itself nat_list_cmp_total key)

-- ---- the last key

-- the user key of the last row, behind one with this key
last_of : List ℕ → List Row → List ℕ
last_of before [] = before
last_of before (row ∷ rows) = last_of row.key rows

entry_key : (row : Row) → user_key (row_entry row).key ≡ row.key
unfolding internal_key
entry_key row = user_key_of row.key _

last_user : (before : List ℕ) (rows : List Row) → user_key (last_from before (map row_entry rows)) ≡ last_of (user_key
    before) rows
unfolding last_of
last_user before [] = refl
last_user before (row ∷ rows) =
    last_user (row_entry row).key rows ∙ ap (λ (key : List ℕ). last_of key rows) (entry_key row)

-- each key is at most the last one's
before_last : (before : List ℕ) (rows : List Row) → AllByRecursion (λ (key : List ℕ). key_cmp before key ≡ Less) (keys_in rows)
    → IsStrictlySortedBy key_cmp (keys_in rows) → IsUpTo before (last_of before rows)
unfolding last_of IsStrictlySortedBy
before_last before [] past sorted = up_to_itself before
before_last before (row ∷ rows) past sorted =
    upto nat_list_cmp_total before row.key (last_of row.key rows) (ap is_gt past.0) (before_last row.key rows sorted.0 sorted.1)

all_to_last : (before : List ℕ) (rows : List Row) → IsStrictlySortedBy key_cmp (keys_in rows)
    → All (λ (row : Row). IsUpTo row.key (last_of before rows)) rows
unfolding last_of IsStrictlySortedBy
all_to_last before [] sorted = All-nil (λ (row : Row). IsUpTo row.key before)
all_to_last before (row ∷ rows) sorted =
    All-cons (λ (other : Row). IsUpTo other.key (last_of row.key rows)) row rows (before_last row.key rows sorted.0 sorted.1)
    (all_to_last row.key rows sorted.1)

-- and at least the first one's
past_first : (key : List ℕ) (rows : List Row) → AllByRecursion (λ (other : List ℕ). key_cmp key other ≡ Less) (keys_in rows)
    → All (λ (row : Row). IsUpTo key row.key) rows
past_first key [] past = All-nil (λ (row : Row). IsUpTo key row.key)
past_first key (row ∷ rows) past =
    All-cons (λ (other : Row). IsUpTo key other.key) row rows (ap is_gt past.0) (past_first key rows past.1)

-- ---- the range

module _ (info : TableInfo) (rows : List Row) (last : ℕ) (listed : IsAsListed info rows last) (are : AreTableRows rows) where
  abbrev first : Row
  first = listed.first

  sorted : IsStrictlySortedBy key_cmp (keys_in (first ∷ listed.more))
  sorted = subst (λ (l : List Row). IsStrictlySortedBy key_cmp (keys_in l)) listed.rows_are are.ascend

  from_first : All (λ (row : Row). IsUpTo first.key row.key) (first ∷ listed.more)
  unfolding IsStrictlySortedBy
  from_first = All-cons (λ (row : Row). IsUpTo first.key row.key) first listed.more (up_to_itself first.key)
      (past_first first.key listed.more sorted.0)

  smallest_is : user_key info.smallest ≡ first.key
  smallest_is = ap user_key listed.smallest ∙ entry_key first

  largest_is : user_key info.largest ≡ last_of (user_key []) rows
  unfolding last_key
  largest_is = ap user_key listed.largest ∙ last_user [] rows

  both : (row : Row) → IsUpTo first.key row.key → IsUpTo row.key (last_of (user_key []) rows) → may_have row.key info ≡ true
  unfolding may_have
  both row low high =
      (λ i. is_le (key_cmp (smallest_is i) row.key) && is_le (key_cmp row.key (largest_is i)))
      ∙ (λ i. at_most (key_cmp first.key row.key) low i && at_most (key_cmp row.key (last_of (user_key []) rows)) high i)

  pub all_in_range : All (λ (row : Row). may_have row.key info ≡ true) rows
  all_in_range k d below = both (get_or rows k d)
      (subst (λ (l : List Row). All (λ (row : Row). IsUpTo first.key row.key) l) (sym listed.rows_are) from_first k d below)
      (all_to_last (user_key []) rows are.ascend k d below)

  -- so a table whose range doesn't have the key has no row of it
  pub none_outside : (key : List ℕ) → may_have key info ≡ false → All (λ (row : Row). row.key ≢ key) rows
  none_outside key outside =
      All-weaker (λ (row : Row). may_have row.key info ≡ true) (λ (row : Row). row.key ≢ key)
      (λ row within same. let clash : true ≡ false = sym within ∙ ap (λ (k : List ℕ). may_have k info) same ∙ outside in cc)
      rows all_in_range
