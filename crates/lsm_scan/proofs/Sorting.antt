-- A sort by a closure that compares rows.
use Rattle.std.proofs.Common.{◌≡◌, List, Bool, is_lt, ap}
use Rattle.std.specs.Cmp.{IsStrictWeakOrder}
use Rattle.std.specs.List.Sorted.{IsSorted, IsSortedBy, IsStable, IsStableBy}
use Rattle.std.specs.Fn.{Called, ComparesAs}
use Rattle.std.specs.declared.cmp.Ordering.{Ordering}
use Rattle.std.proofs.lemmas.Fn.{always_returns_same}
use Rattle.std.proofs.lemmas.List.Sorted.{ranks_by}
use denote.Ref.{Bor}
use denote.Param.Members.{Mut}
use Rattle.lsm_rows.specs.declared.rows.Row.{Row}
use Rattle.lsm_merge.specs.Order.{row_cmp, row_total}
use Rattle.lsm_scan.proofs.Newest.{comes_before}

module _ {F : Type 0} {g : Mut F (Bor Row × (Bor Row × Unit {0})) Ordering} {f : F}
    (compares : (a : Bor Row × (Bor Row × Unit {0})) (r : Ordering) (f' : F) → Called g f a r f'
    → (r ≡ row_cmp a.0.now a.1.0.now) × (f' ≡ f)) where
  always : ComparesAs g comes_before f
  always = always_returns_same g (λ a r. is_lt r ≡ comes_before a.0.now a.1.0.now) f
      (λ a r f' k. (ap is_lt (compares a r f' k).0, (compares a r f' k).1))

  -- success sorts by the order of rows
  pub sorted_by : (xs : List Row)
      → ((lt : Row → Row → Bool) → IsStrictWeakOrder lt → ComparesAs g lt f → IsSortedBy lt xs) → IsSorted row_cmp xs
  sorted_by xs up = up comes_before (ranks_by row_total (λ (row : Row). row)) always

  -- and rows that tie keep their order
  pub stable_by : (xs ys : List Row)
      → ((lt : Row → Row → Bool) → IsStrictWeakOrder lt → ComparesAs g lt f → IsStableBy lt xs ys) → IsStable row_cmp xs ys
  stable_by xs ys keeps = keeps comes_before (ranks_by row_total (λ (row : Row). row)) always
