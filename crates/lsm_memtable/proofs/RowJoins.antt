-- One row comes among the others.
use Rattle.std.proofs.Common.{◌≡◌, ℕ, ◌+◌, ◌*◌, ◌^◌, ◌<◌, ◌≤◌, List, [], ◌∷◌, ◌++◌, length, refl, sym, ap, ◌∙◌, subst, arith}
use Rattle.std.specs.Prelude.{All}
use Rattle.std.specs.List.{sum_by}
use Rattle.std.specs.List.Sorted.{IsPermutation}
use Rattle.std.proofs.lemmas.List.Elements.{All-nil, All-cons, All-append, All-weaker}
use Rattle.std.proofs.lemmas.List.Sorted.{IsPermutation-push_more, IsPermutation-refl, length_permutation, sum_by-IsPermutation}
use Rattle.std.proofs.lemmas.List.Sums.{sum_by-cons}
use Rattle.lsm_rows.specs.declared.rows.Row.{Row}
use Rattle.lsm_rows.specs.Contents.{newest, AllBefore}
use Rattle.lsm_rows.proofs.NewestRows.{newest_of, newest-append}
use Rattle.lsm_memtable.specs.Sizes.{row_bytes, room_of}
use Rattle.lsm_memtable.specs.Order.{AreInOrder}
use Rattle.lsm_memtable.specs.Joining.{IsPut, IsGrown, AreJoined}
use Rattle.lsm_memtable.specs.Memory.{IsMemory}
use Rattle.lsm_memtable.specs.RowLimits.{RowInLimits, RowsInLimits}
use Rattle.lsm_memtable.proofs.Joins.{grown_none, grown_more, put_perm, put_newest, room-is}
use Rattle.lsm_memtable.proofs.Pushes.{all_left}
use Rattle.lsm_table.proofs.OrderedBlocks.{all-back}

-- no rows were joined by none
pub joined_none : (rows : List Row) → rows ≡ [] → AreInOrder rows → AreJoined [] [] rows
joined_none rows none order = record {
  same = subst (λ (l : List Row). IsPermutation [] l) (sym none) (IsPermutation-refl []);
  order = order;
  newest = λ key. ap (newest key) none;
}

-- rows that come before one sequence come before a later one
pub before_later : (first later : ℕ) (rows : List Row) → first ≤ later → AllBefore first rows → AllBefore later rows
before_later first later rows least all =
    All-weaker (λ (row : Row). row.sequence < first) (λ (row : Row). row.sequence < later) (λ row less. omega (arith, less, least)) rows all

module _ (old new : List Row) (row : Row) (put : IsPut old row new) where
  -- a later row, behind those that were joined
  pub joined_put : (more : List Row) → AreJoined [] more old → AllBefore row.sequence old → AreInOrder new
      → AreJoined [] (more ++ row ∷ []) new
  joined_put more was past order =
      let before : AllBefore row.sequence (put.front ++ put.back) = subst (AllBefore row.sequence) put.before past in
      record {
        same = IsPermutation-push_more more old new row was.same (put_perm old row new put);
        order = order;
        newest = λ key. ap (newest key) put.after
            ∙ put_newest key put.front put.back row (all_left (λ r. r.sequence < row.sequence) put.front put.back before)
            (all-back (λ r. r.sequence < row.sequence) put.front put.back before)
            ∙ ap (λ l. newest key (l ++ row ∷ [])) (sym put.before) ∙ newest-append old (row ∷ []) key
            ∙ ap (λ o. newest_of o (newest key (row ∷ []))) (was.newest key) ∙ sym (newest-append more (row ∷ []) key);
      }

  pub past_put : AllBefore row.sequence old → AllBefore (row.sequence + 1) new
  past_put past =
      let same : row.sequence ≡ row.sequence + 0 = omega arith in
      let ends : row.sequence + 1 ≡ row.sequence + length (row ∷ []) = refl in
      subst (λ (n : ℕ). AllBefore n new) (sym ends)
      (grown_more row.sequence old [] old new row (grown_none row.sequence old past) put same).before

  pub limits_put : RowInLimits row → RowsInLimits old → RowsInLimits new
  limits_put fits are =
      let both : All RowInLimits (put.front ++ put.back) = subst (All RowInLimits) put.before are in
      subst (All RowInLimits) (sym put.after)
      (All-append RowInLimits put.front (row ∷ put.back) (all_left RowInLimits put.front put.back both)
      (All-cons RowInLimits row put.back fits (all-back RowInLimits put.front put.back both)))

  -- the sizes with it
  pub memory_put : (count bytes more_count more_bytes : ℕ) → IsMemory old count bytes → AreInOrder new → more_count ≡ count + 1
      → more_bytes ≡ bytes + row_bytes row → more_bytes + 100 * more_count + 4 < 2 ^ 29 → IsMemory new more_count more_bytes
  memory_put count bytes more_count more_bytes was order count_is bytes_is room =
      let perm : IsPermutation (row ∷ old) new = put_perm old row new put in
      let many : more_count ≡ length new = omega (arith, count_is, was.count_is, length_permutation (row ∷ old) new perm) in
      let sum : more_bytes ≡ sum_by row_bytes new =
      omega (arith, bytes_is, was.bytes_is, sum_by-IsPermutation row_bytes (row ∷ old) new perm, sum_by-cons row_bytes row old) in
      record { order = order; count_is = many; bytes_is = sum; room = omega (arith, room-is new, many, sum, room) }
