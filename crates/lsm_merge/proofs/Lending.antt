-- A new merge, and one whose source was lent.
use Rattle.std.proofs.Common.{inl, inr, ⊎_elim, ◌≡◌, ℕ, ◌<◌, ◌^◌, Bool, List, [], length, sym, ap, ◌∙◌, subst, arith}
use Rattle.std.specs.Prelude.{Contains, Some, None, slice_get}
use Rattle.std.specs.List.Sorted.{IsStrictlySortedBy}
use Rattle.lsm_rows.specs.declared.rows.Row.{Row}
use Rattle.lsm_merge.specs.Order.{row_cmp}
use Rattle.lsm_merge.specs.Merging.{Merging, IsLeft, IsInSource, IsReady, with_source}
use Rattle.lsm_merge.specs.Runs.{IsToCome, IsMerged}
use Rattle.lsm_merge.proofs.Lists.{some_same, set_here, set_cases, unset_cases, none_in_nil}

-- a new merge is ready
pub new_ready : {S : Type 0} (left : S → List Row) (ended : S → Bool) (sources : List S) → length sources < 2 ^ 32
    → ((place : ℕ) (source : S) → slice_get sources place ≡ Some source → IsStrictlySortedBy row_cmp (left source))
    → IsReady left ended (record { found = None; heads = []; asked = 0; sources = sources })
new_ready left ended sources few sorted = record {
  few = few;
  within = omega arith;
  places = λ head has. absurd (none_in_nil head has);
  sorted = sorted;
  past = λ head source has is. absurd (none_in_nil head has);
  met = λ place source below is. absurd (omega (arith, below));
  first = λ row is. cc;
}

module _ {S : Type 0} (left : S → List Row) (m : Merging S) (place : ℕ) (old new : S)
    (at : slice_get m.sources place ≡ Some old)
    (same : left new ≡ left old) where
  lent_was : (row : Row) → IsInSource left (with_source m place new).sources row → IsInSource left m.sources row
  unfolding IsInSource
  lent_was row (q, source, is, has) =
      ⊎_elim
      (λ here. (
        place,
        old,
        at,
        subst (λ (l : List Row). Contains l row) same
            (subst (λ (s : S). Contains (left s) row) here.1 has),
      ))
      (λ there. (q, source, there, has))
      (set_cases m.sources place new q source is)

  lent_now : (row : Row) → IsInSource left m.sources row → IsInSource left (with_source m place new).sources row
  unfolding IsInSource
  lent_now row (q, source, is, has) =
      ⊎_elim
      (λ here.
      let it : source ≡ old = some_same source old (sym is ∙ ap (slice_get m.sources) here ∙ at) in
      let has_old : Contains (left old) row = subst (λ (s : S). Contains (left s) row) it has in
      (place, new, set_here m.sources place old new at, subst (λ (l : List Row). Contains l row) (sym same) has_old))
      (λ there. (q, source, there, has))
      (unset_cases m.sources place new q source is)

  left_was : (row : Row) → IsLeft left (with_source m place new) row → IsLeft left m row
  unfolding IsLeft
  left_was row is = ⊎_elim (λ found. inl found)
      (λ more. ⊎_elim (λ held. inr (inl held)) (λ source. inr (inr (lent_was row source))) more) is

  left_now : (row : Row) → IsLeft left m row → IsLeft left (with_source m place new) row
  unfolding IsLeft
  left_now row is = ⊎_elim (λ found. inl found)
      (λ more. ⊎_elim (λ held. inr (inl held)) (λ source. inr (inr (lent_now row source))) more) is

  -- a source that has the same rows left leaves a run as it is
  pub lent_stays : (inputs given : List Row) → IsMerged left inputs given m → IsMerged left inputs given
      (with_source m place new)
  unfolding IsToCome
  lent_stays inputs given run = record {
    ascend = run.ascend;
    newest = run.newest;
    among = λ row is. run.among row (left_was row is);
    later = λ row other has is. run.later row other has (left_was other is);
    all = λ row is. ⊎_elim (λ key. inl key) (λ come. inr (come.0, left_now come.0 come.1, come.2, come.3)) (run.all row is);
  }
