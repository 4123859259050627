-- Batches replayed one after another, and the sequences that they take.
use Rattle.std.specs.Prelude.{◌≡◌, ℕ, ◌+◌, ◌<◌, ◌≤◌, List, [], ◌∷◌, ◌++◌, length, drop, get_or}
use Rattle.std.proofs.Common.{refl, sym, ap, ◌∙◌, arith}
use Rattle.std.specs.List.{fold}
use Rattle.lsm_rows.specs.declared.operations.Op.{Op}
use Rattle.lsm_rows.specs.Replay.{Contents, applied, replayed, sequence_after}
use Rattle.lsm_rows.proofs.Lists.{drop_here, drop_end}

-- a later first sequence makes the last one as much later
pub sequence_next : (first : ℕ) (batches : List (List Op)) → sequence_after (first + 1) batches ≡ sequence_after first batches + 1
sequence_next first [] = refl
sequence_next first (ops ∷ batches) =
    let moved : first + 1 + length ops ≡ first + length ops + 1 = omega arith in
    ap (λ (n : ℕ). sequence_after n batches) moved ∙ sequence_next (first + length ops) batches

-- the sequences of two lists, one after the other
pub sequence_both : (first : ℕ) (one two : List (List Op)) → sequence_after (sequence_after first one) two ≡ sequence_after first (one ++ two)
sequence_both first [] two = refl
sequence_both first (ops ∷ one) two = sequence_both (first + length ops) one two

-- the replay of two lists, one after the other
pub replayed_both : (m : Contents) (one two : List (List Op)) → replayed (replayed m one) two ≡ replayed m (one ++ two)
replayed_both m [] two = refl
replayed_both m (ops ∷ one) two = replayed_both (fold applied m ops) one two

module _ (batches : List (List Op)) (whole now : Contents) (i : ℕ) (before : replayed now (drop i batches) ≡ whole) where
  -- one more batch is replayed
  pub one_more : (batch : List Op) (next : Contents) → i < length batches → batch ≡ get_or batches i batch
      → next ≡ fold applied now batch → replayed next (drop (i + 1) batches) ≡ whole
  one_more batch next there is applies =
      ap (λ (m : Contents). replayed m (drop (i + 1) batches)) applies
      ∙ ap (replayed now) (sym (drop_here batches i batch there is))
      ∙ before

  -- all of them are
  pub all_done : length batches ≤ i → now ≡ whole
  all_done all = ap (replayed now) (sym (drop_end batches i all)) ∙ before
