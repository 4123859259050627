-- The rows of batches, added one after another.
use Rattle.std.specs.Prelude.{◌≡◌, ℕ, ◌+◌, ◌^◌, ◌<◌, ◌≤◌, List, [], ◌∷◌, ◌++◌, length, drop, get_or}
use Rattle.std.proofs.Common.{refl, sym, ap, ◌∙◌, arith, append_assoc, append-nil}
use Rattle.lsm_rows.specs.declared.operations.Op.{Op}
use Rattle.lsm_rows.specs.declared.rows.Row.{Row}
use Rattle.lsm_rows.specs.Replay.{sequence_after}
use Rattle.lsm_rows.specs.Rows.{row_of, batch_rows, rows_of}
use Rattle.lsm_rows.proofs.Lists.{drop_here, drop_end}

-- ---- one batch

module _ (start : ℕ) (ops : List Op) (before : List Row) where
  -- the rows of the first operations, so many, were added
  pub record HasPushed (i last : ℕ) (now : List Row) : Type 0 where
    pub within : i ≤ length ops
    pub counted : last ≡ start + i
    pub rows : now ++ batch_rows (last + 1) (drop i ops) ≡ before ++ batch_rows (start + 1) ops

  pub push_begun : HasPushed 0 start before
  push_begun = record { within = omega arith; counted = omega arith; rows = refl }

  module _ (i last : ℕ) (now : List Row) (so_far : HasPushed i last now) where
    pub push_more : (op : Op) (next : ℕ) (after : List Row) → i < length ops → op ≡ get_or ops i op → next ≡ last + 1 → after ≡ now ++ row_of next op ∷ [] → HasPushed (i + 1) next after
    push_more op next after there is step made = record {
      within = omega (arith, there);
      counted = omega (arith, step, so_far.counted);
      rows =
          ap (λ (l : List Row). l ++ batch_rows (next + 1) (drop (i + 1) ops)) made
          ∙ append_assoc now (row_of next op ∷ []) (batch_rows (next + 1) (drop (i + 1) ops))
          ∙ ap (λ (n : ℕ). now ++ batch_rows n (op ∷ drop (i + 1) ops)) step
          ∙ ap (λ (l : List Op). now ++ batch_rows (last + 1) l) (sym (drop_here ops i op there is))
          ∙ so_far.rows;
    }

    pub push_last : length ops ≤ i → last ≡ start + length ops
    push_last all = omega (arith, all, so_far.within, so_far.counted)

    pub push_done : length ops ≤ i → now ≡ before ++ batch_rows (start + 1) ops
    push_done all =
        sym (append-nil now)
        ∙ ap (λ (l : List Op). now ++ batch_rows (last + 1) l) (sym (drop_end ops i all))
        ∙ so_far.rows

-- ---- batches

pub later_than : (start : ℕ) (batches : List (List Op)) → start ≤ sequence_after start batches
later_than start [] = omega arith
later_than start (ops ∷ batches) = omega (arith, later_than (start + length ops) batches)

module _ (start : ℕ) (batches : List (List Op)) (before : List Row) where
  -- the rows of the first batches, so many, were added
  pub record HasPushedAll (i last : ℕ) (now : List Row) : Type 0 where
    pub rest : sequence_after last (drop i batches) ≡ sequence_after start batches
    pub rows : now ++ rows_of (last + 1) (drop i batches) ≡ before ++ rows_of (start + 1) batches

  pub all_begun : HasPushedAll 0 start before
  all_begun = record { rest = refl; rows = refl }

  module _ (i last : ℕ) (now : List Row) (so_far : HasPushedAll i last now) where
    module _ (ops : List Op) (there : i < length batches) (is : ops ≡ get_or batches i ops) where
      -- the next batch's sequences fit, where those of all do
      pub next_fits : sequence_after start batches < 2 ^ 64 → last + length ops < 2 ^ 64
      next_fits fits =
          let all : sequence_after (last + length ops) (drop (i + 1) batches) ≡ sequence_after start batches = ap (sequence_after last) (sym (drop_here batches i ops there is)) ∙ so_far.rest in
          omega (arith, fits, all, later_than (last + length ops) (drop (i + 1) batches))

      pub all_more : (next : ℕ) (after : List Row) → next ≡ last + length ops → after ≡ now ++ batch_rows (last + 1) ops → HasPushedAll (i + 1) next after
      all_more next after step made =
          let moved : next + 1 ≡ last + 1 + length ops = omega (arith, step) in
          record {
            rest = ap (λ (n : ℕ). sequence_after n (drop (i + 1) batches)) step ∙ ap (sequence_after last) (sym (drop_here batches i ops there is)) ∙ so_far.rest;
            rows =
                ap (λ (l : List Row). l ++ rows_of (next + 1) (drop (i + 1) batches)) made
                ∙ append_assoc now (batch_rows (last + 1) ops) (rows_of (next + 1) (drop (i + 1) batches))
                ∙ ap (λ (n : ℕ). now ++ (batch_rows (last + 1) ops ++ rows_of n (drop (i + 1) batches))) moved
                ∙ ap (λ (l : List (List Op)). now ++ rows_of (last + 1) l) (sym (drop_here batches i ops there is))
                ∙ so_far.rows;
          }

    pub all_done : length batches ≤ i → now ≡ before ++ rows_of (start + 1) batches
    all_done all =
        sym (append-nil now)
        ∙ ap (λ (l : List (List Op)). now ++ rows_of (last + 1) l) (sym (drop_end batches i all))
        ∙ so_far.rows

-- ---- the rows of two lists of batches

pub rows_both : (first : ℕ) (one two : List (List Op)) → rows_of first (one ++ two) ≡ rows_of first one ++ rows_of (sequence_after first one) two
rows_both first [] two = refl
rows_both first (ops ∷ one) two =
    ap (λ (rows : List Row). batch_rows first ops ++ rows) (rows_both (first + length ops) one two)
    ∙ sym (append_assoc (batch_rows first ops) (rows_of (first + length ops) one) (rows_of (sequence_after (first + length ops) one) two))
