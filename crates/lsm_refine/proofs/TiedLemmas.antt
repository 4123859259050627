-- Logs cut anywhere from the synced batches on stand for a front of the accepted batches that has the durable ones.
use Rattle.std.specs.Prelude.{◌≡◌, ℕ, ◌+◌, ◌-◌, ◌<◌, ◌≤◌, List, [], ◌∷◌, ◌++◌, map, take, drop, length, T, Some}
use Rattle.std.proofs.Common.{sym, ap, ◌∙◌, arith, append_assoc}
use Rattle.std.proofs.lemmas.List.{append-nil, length-append, length-drop}
use Rattle.std.proofs.lemmas.List.Elements.{All-nil, All-append, All-weaker}
use Rattle.std.proofs.Math.Seq.{take-add, take-append-add}
use Rattle.std.specs.List.{flat_map}
use Rattle.std.specs.Ordering.{nat_cmp}
use Rattle.std.specs.FinMap as finmap
use Rattle.std.specs.FinMap.Entries.{below_all, is_sorted}
use Rattle.lsm_rows.specs.declared.operations.Op.{Op}
use Rattle.lsm_rows.specs.declared.rows.Row.{Row}
use Rattle.lsm_rows.specs.Replay.{Contents, replayed, sequence_after}
use Rattle.lsm_rows.specs.Contents.{AllBefore, contents_of}
use Rattle.lsm_rows.proofs.ReplayedRows.{contents_replayed}
use Rattle.lsm_version.specs.declared.tables.Placed.{Placed}
use Rattle.lsm_folder.specs.Manifests.{tables_after, last_after}
use Rattle.lsm_folder.specs.Needed.{IsAsListed}
use Rattle.lsm_folder.specs.Parts.{AreLawful, rows_of_tables, all_of, rows_of_all}
use Rattle.lsm_folder.proofs.LiveLemmas.{all_below}
use Rattle.lsm_folder.proofs.AssembledLemmas.{found_first, found_later}
use Rattle.lsm_model.specs.declared.states.State.{State}
use Rattle.lsm_refine.specs.Parts.{LogPart, Parts, batches_in, first_logged}
use Rattle.lsm_refine.specs.Tied.{Tied}
use Rattle.lsm_refine.specs.Fronts.{batches_with, ShowsFirst}
use Rattle.lsm_rows.proofs.Replaying.{sequence_both, replayed_both}

-- ---- rows of tables are older than those of logs

rows_before : (last : ℕ) (rows : ℕ → List Row) (es : List (ℕ × Placed)) → T (is_sorted nat_cmp es)
    → ((number : ℕ) (placed : Placed) → finmap.find nat_cmp number es ≡ Some placed → IsAsListed placed.info (rows number) last)
    → AllBefore (last + 1) (flat_map (λ (table : ℕ × Placed). rows table.0) es)
rows_before last rows [] sorted each = All-nil (λ (row : Row). row.sequence < last + 1)
rows_before last rows (e ∷ es) sorted each =
    let parts = all_below (below_all nat_cmp e.0 es) (is_sorted nat_cmp es) sorted in
    let here = each e.0 e.1 (found_first e es) in
    All-append (λ (row : Row). row.sequence < last + 1) (rows e.0) (flat_map (λ (table : ℕ × Placed). rows table.0) es)
    (All-weaker (λ (row : Row). (1 ≤ row.sequence) × (row.sequence ≤ last)) (λ (row : Row). row.sequence < last + 1)
    (λ row fits. omega (arith, fits.1)) (rows e.0) here.sequences)
    (rows_before last rows es parts.1 (λ number placed is. each number placed (found_later e es number placed parts.0 is)))

pub tables_before : (parts : Parts) → AreLawful parts.edits parts.rows
    → AllBefore (first_logged parts) (rows_of_tables (tables_after parts.edits) parts.rows)
tables_before parts are =
    rows_before (last_after parts.edits) parts.rows (finmap.entries (tables_after parts.edits))
    (finmap.entries_sorted (tables_after parts.edits))
    (λ number placed is. are.listed number placed (finmap.get-entries (tables_after parts.edits) number ∙ is))

-- ---- batches of several lists

pub all_with : (older : List LogPart) (batches : List (List Op))
    → all_of (map (λ (log : LogPart). log.batches) older ++ batches ∷ []) ≡ batches_in older ++ batches
all_with [] batches = append-nil batches
all_with (log ∷ logs) batches = ap (λ (l : List (List Op)). log.batches ++ l) (all_with logs batches) ∙ sym
    (append_assoc log.batches (batches_in logs) batches)

-- how many batches there are, in tables, in older logs and in the last one
pub logged_many : (parts : Parts) (s : State) (tied : Tied parts s)
    → tied.flushed + (length (batches_in parts.older) + length parts.last.batches) ≡ length s.accepted
logged_many parts s tied =
    let many : length (batches_in parts.older) + length parts.last.batches ≡ length s.accepted - tied.flushed =
    sym (length-append (batches_in parts.older) parts.last.batches) ∙ ap
    (λ (l : List (List Op)). length l) tied.above ∙ length-drop tied.flushed s.accepted in
    omega (arith, many, tied.within)

-- ---- the law

module _ (parts : Parts) (s : State) (are : AreLawful parts.edits parts.rows) (tied : Tied parts s) (kept : ℕ) where
  abbrev older : ℕ
  older = length (batches_in parts.older)

  abbrev some : List (List Op)
  some = take kept parts.last.batches

  -- what stands in logs is a front of what no table has
  some_is : all_of (batches_with parts some) ≡ take (older + kept) (drop tied.flushed s.accepted)
  some_is =
      all_with parts.older some
      ∙ sym (take-append-add (batches_in parts.older) parts.last.batches kept)
      ∙ ap (λ (l : List (List Op)). take (older + kept) l) tied.above

  front_is : take tied.flushed s.accepted ++ all_of (batches_with parts some) ≡ take (tied.flushed + (older + kept)) s.accepted
  front_is =
      ap (λ (l : List (List Op)). take tied.flushed s.accepted ++ l) some_is
      ∙ sym (take-add tied.flushed (older + kept) s.accepted)

  contents_are : contents_of (rows_of_all parts.edits parts.rows (batches_with parts some))
      ≡ replayed s.opening (take (tied.flushed + (older + kept)) s.accepted)
  contents_are =
      contents_replayed (rows_of_tables (tables_after parts.edits) parts.rows) (first_logged parts)
      (all_of (batches_with parts some)) (tables_before parts are)
      ∙ ap (λ (m : Contents). replayed m (all_of (batches_with parts some))) tied.below
      ∙ replayed_both s.opening (take tied.flushed s.accepted) (all_of (batches_with parts some))
      ∙ ap (replayed s.opening) front_is

  sequence_is : sequence_after (last_after parts.edits) (all_of (batches_with parts some))
      ≡ sequence_after s.began (take (tied.flushed + (older + kept)) s.accepted)
  sequence_is =
      ap (λ (n : ℕ). sequence_after n (all_of (batches_with parts some))) tied.last
      ∙ sequence_both s.began (take tied.flushed s.accepted) (all_of (batches_with parts some))
      ∙ ap (sequence_after s.began) front_is

  pub tied_reads : parts.synced ≤ kept → ShowsFirst parts s kept (tied.flushed + (older + kept))
  tied_reads enough = record { contents = contents_are; sequence = sequence_is; durable = omega (arith, tied.durable, enough) }
