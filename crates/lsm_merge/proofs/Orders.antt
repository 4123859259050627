-- Rows that don't come before another.
use Rattle.std.proofs.Common.{◌≡◌, ℕ, ◌<◌, ◌≤◌, false, List, ◌∷◌, refl, sym, ap, ◌∙◌, arith, inl, inr, ⊎_elim}
use Rattle.std.specs.Prelude.{◌⊎◌, All}
use Rattle.std.proofs.lemmas.Bool.Decides.{nat_tests}
use Rattle.std.specs.Ordering.{nat_cmp, ordering_then, ordering_reverse, is_lt, is_eq}
use Rattle.std.specs.declared.cmp.Ordering.{Ordering}
use Rattle.std.specs.declared.cmp.Ordering.TheVariants.{Less, Equal, Greater}
use Rattle.std.specs.List.Sorted.{IsStrictlySortedBy}
use Rattle.std.specs.Cmp.Lexicographic.{nat_list_cmp_total}
use Rattle.std.specs.BinaryHeap.{IsUpperBound}
use Rattle.std.proofs.lemmas.List.Elements.{All-from_recursion, All-contains, All-weaker}
use Rattle.lsm_rows.specs.declared.rows.Row.{Row}
use Rattle.lsm_rows.specs.Replay.{key_cmp}
use Rattle.lsm_rows.proofs.NewestRows.{same_key}
use Rattle.lsm_merge.specs.declared.heads.Head.{Head}
use Rattle.lsm_merge.specs.Order.{row_cmp, IsFrom}
use Rattle.lsm_merge.specs.Held.{AreFrom}
use Rattle.lsm_merge.proofs.Lists.{first_is_less}

less_numbers : (a b : ℕ) → nat_cmp a b ≡ Less → a < b
less_numbers a b less = grind (arith, nat_tests)

not_less_numbers : (a b : ℕ) → is_lt (nat_cmp a b) ≡ false → b ≤ a
not_less_numbers a b not_less = grind (arith, nat_tests)

-- a row that isn't less than the first
pub from_not_less : (first row : Row) → is_lt (row_cmp row first) ≡ false → IsFrom first row
unfolding IsFrom
from_not_less first row not_less = by_keys (key_cmp row.key first.key) refl not_less
  where
    by_keys : (o : Ordering) → key_cmp row.key first.key ≡ o
        → is_lt (ordering_then o (nat_cmp first.sequence row.sequence)) ≡ false
        → (key_cmp first.key row.key ≡ Less) ⊎ ((row.key ≡ first.key) × (row.sequence ≤ first.sequence))
    by_keys Less keys not = cc
    by_keys Equal keys not = inr (same_key row.key first.key (ap is_eq keys), not_less_numbers first.sequence row.sequence not)
    by_keys Greater keys not = inl (nat_list_cmp_total.antisymm first.key row.key ∙ ap ordering_reverse keys)

-- a row that the first is less than
pub from_less : (first row : Row) → row_cmp first row ≡ Less → IsFrom first row
unfolding IsFrom
from_less first row less = by_keys (key_cmp first.key row.key) refl less
  where
    by_keys : (o : Ordering) → key_cmp first.key row.key ≡ o → ordering_then o (nat_cmp row.sequence first.sequence) ≡ Less
        → (key_cmp first.key row.key ≡ Less) ⊎ ((row.key ≡ first.key) × (row.sequence ≤ first.sequence))
    by_keys Less keys is = inl keys
    by_keys Equal keys is =
        let below : row.sequence < first.sequence = less_numbers row.sequence first.sequence is in
        inr (sym (same_key first.key row.key (ap is_eq keys)), omega (arith, below))
    by_keys Greater keys is = cc

pub from_itself : (row : Row) → IsFrom row row
unfolding IsFrom
from_itself row = inr (refl, omega arith)

pub less_is_from : (first row : Row) → key_cmp first.key row.key ≡ Less → IsFrom first row
unfolding IsFrom
less_is_from first row less = inl less

pub from_trans : (a b c : Row) → IsFrom a b → IsFrom b c → IsFrom a c
unfolding IsFrom
from_trans a b c first second =
    ⊎_elim
    (λ less. ⊎_elim (λ later. inl (nat_list_cmp_total.trans a.key b.key c.key less later))
    (λ same. inl (ap (key_cmp a.key) same.0 ∙ less)) second)
    (λ same. ⊎_elim (λ later. inl (ap (λ key. key_cmp key c.key) (sym same.0) ∙ later))
    (λ older. inr (older.0 ∙ same.0, omega (arith, same.1, older.1))) second)
    first

-- a row of another user key comes behind
pub from_other : (a b : Row) → IsFrom a b → ¬ (b.key ≡ a.key) → key_cmp a.key b.key ≡ Less
unfolding IsFrom
from_other a b from other = ⊎_elim (λ less. less) (λ same. absurd (other same.0)) from

-- behind a row of a later user key all are of later ones
pub from_later : (key : List ℕ) (a b : Row) → key_cmp key a.key ≡ Less → IsFrom a b → key_cmp key b.key ≡ Less
unfolding IsFrom
from_later key a b less from = ⊎_elim (λ later. nat_list_cmp_total.trans key a.key b.key less later)
    (λ same. ap (key_cmp key) same.0 ∙ less) from

-- no key is less than itself
pub not_less_itself : (key : List ℕ) → key_cmp key key ≡ Less → ⊥
not_less_itself key less = reversed (key_cmp key key) (nat_list_cmp_total.antisymm key key) less
  where
    reversed : (o : Ordering) → o ≡ ordering_reverse o → o ≡ Less → ⊥
    reversed Less same is = cc
    reversed Equal same is = cc
    reversed Greater same is = cc

pub from_of_key : (a b : Row) → IsFrom a b → b.key ≡ a.key → b.sequence ≤ a.sequence
unfolding IsFrom
from_of_key a b from same = ⊎_elim (λ less. absurd (not_less_itself a.key (ap (key_cmp a.key) (sym same) ∙ less)))
    (λ is. is.1) from

-- the rows behind the first of a sorted list
pub rest_from : (row : Row) (rows : List Row) → IsStrictlySortedBy row_cmp (row ∷ rows) → All (IsFrom row) rows
rest_from row rows sorted = All-weaker (λ other. row_cmp row other ≡ Less) (IsFrom row)
    (λ other less. from_less row other less) rows (first_is_less row_cmp row rows sorted)

-- the held rows below the top of their heap
pub from_bound : (top : Head) (heads : List Head) → IsUpperBound (λ a b. row_cmp b.row a.row) top heads → AreFrom top.row heads
unfolding AreFrom
from_bound top heads bound = λ head has.
    from_not_less top.row head.row (All-contains (λ (other : Head). is_lt (row_cmp other.row top.row) ≡ false) heads
    head (All-from_recursion (λ (other : Head). is_lt (row_cmp other.row top.row) ≡ false) heads bound) has)
