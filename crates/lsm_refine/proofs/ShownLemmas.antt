-- What readings of a good store go through shows its accepted batches.
use Rattle.std.specs.Prelude.{◌≡◌, ℕ, ◌+◌, ◌-◌, ◌<◌, ◌≤◌, nat_eq, List, [], ◌∷◌, ◌++◌, take, drop, length, All, Option, Some, None}
use Rattle.std.proofs.Common.{refl, sym, ap, subst, ◌∙◌, arith, append_assoc}
use Rattle.std.proofs.lemmas.List.{length-append, take-append-drop}
use Rattle.std.proofs.lemmas.List.Elements.{All-nil, All-cons, All-append, All-weaker}
use Rattle.std.proofs.lemmas.List.Sorted.{All-permutation}
use Rattle.std.proofs.Math.Seq.{drop-append_seam, take-append_seam}
use Rattle.std.specs.List.{IsDistinct}
use Rattle.std.specs.FinMap as finmap
use Rattle.lsm_rows.specs.declared.operations.Op.{Op}
use Rattle.lsm_rows.specs.declared.rows.Row.{Row}
use Rattle.lsm_rows.specs.Replay.{Contents, replayed, sequence_after}
use Rattle.lsm_rows.specs.Rows.{row_of, batch_rows, rows_of}
use Rattle.lsm_rows.specs.Contents.{contents_of, newest}
use Rattle.lsm_rows.proofs.NewestRows.{newest_of, newest-append, contents_by_newest}
use Rattle.lsm_rows.proofs.ReplayedRows.{contents_replayed, sequence-is}
use Rattle.lsm_disk.specs.State as disk
use Rattle.lsm_disk.specs.State.{state_of}
use Rattle.lsm_disk.specs.declared.calls.Halt.{Halt}
use Rattle.lsm_version.specs.Levels.{Tables, IsLeveled}
use Rattle.lsm_version.specs.Orders.{AreLevels}
use Rattle.lsm_folder.specs.Manifests.{tables_after, last_after}
use Rattle.lsm_folder.specs.Needed.{IsAsListed, sequences}
use Rattle.lsm_folder.specs.Parts.{rows_of_tables}
use Rattle.lsm_folder.proofs.LevelLemmas.{versions_have_seven_levels}
use Rattle.lsm_model.specs.declared.states.State.{State}
use Rattle.lsm_model.specs.States.{contents_now, active_batches}
use Rattle.lsm_refine.specs.Kept.{Shown}
use Rattle.lsm_refine.specs.Parts.{Parts, AreRowsOf, batches_in, logged, first_logged, first_in_last}
use Rattle.lsm_refine.specs.Good.{AreInOrder, ShowsAccepted, IsRunning, IsInMode, Good, rows_kept, first_active}
use Rattle.lsm_refine.proofs.TiedLemmas.{tables_before}
use Rattle.lsm_rows.proofs.Replaying.{sequence_next, sequence_both, replayed_both}
use Rattle.lsm_model.proofs.RunLemmas.{sequence_rises}

-- ---- rows of two lists of batches

pub rows_both : (first : ℕ) (one two : List (List Op)) → rows_of first (one ++ two)
    ≡ rows_of first one ++ rows_of (sequence_after first one) two
rows_both first [] two = refl
rows_both first (ops ∷ one) two =
    ap (λ (rows : List Row). batch_rows first ops ++ rows) (rows_both (first + length ops) one two)
    ∙ sym (append_assoc (batch_rows first ops) (rows_of (first + length ops) one) (rows_of (sequence_after (first + length ops) one) two))

-- ---- the sequences of rows

abbrev pub IsWithin : ℕ → ℕ → Row → Type 0
IsWithin low high row = (low ≤ row.sequence) × (row.sequence < high)

batch_within : (first : ℕ) (ops : List Op) → All (IsWithin first (first + length ops)) (batch_rows first ops)
batch_within first [] = All-nil (IsWithin first (first + 0))
batch_within first (op ∷ ops) =
    All-cons (IsWithin first (first + length (op ∷ ops))) (row_of first op) (batch_rows (first + 1) ops)
    (omega (arith, sequence-is first op), omega (arith, sequence-is first op))
    (All-weaker (IsWithin (first + 1) (first + 1 + length ops)) (IsWithin first (first + length (op ∷ ops)))
    (λ row is. (omega (arith, is.0), omega (arith, is.1))) (batch_rows (first + 1) ops) (batch_within (first + 1) ops))

pub rows_within : (first : ℕ) (batches : List (List Op)) → All (IsWithin first (sequence_after first batches)) (rows_of first batches)
rows_within first [] = All-nil (IsWithin first first)
rows_within first (ops ∷ batches) =
    let next : ℕ = first + length ops in
    let end : ℕ = sequence_after next batches in
    All-append (IsWithin first end) (batch_rows first ops) (rows_of next batches)
    (All-weaker (IsWithin first next) (IsWithin first end) (λ row is. (is.0, omega (arith, is.1, sequence_rises next batches)))
    (batch_rows first ops) (batch_within first ops))
    (All-weaker (IsWithin next end) (IsWithin first end) (λ row is. (omega (arith, is.0), is.1)) (rows_of next batches)
    (rows_within next batches))

-- ---- a running store

module _ (d : disk.State) (v : Shown) (s : State) (is : IsRunning d v s) where
  abbrev parts : Parts
  parts = is.parts

  abbrev older : List (List Op)
  older = batches_in parts.older

  abbrev table_rows : List Row
  table_rows = rows_of_tables (tables_after parts.edits) parts.rows

  -- the newest row of a key in memory is its newest among those of the logged batches
  in_memory : (key : List ℕ) → newest key (v.kept.frozen ++ v.kept.active) ≡ newest key (rows_of (first_logged parts) (logged parts))
  in_memory key =
      newest-append v.kept.frozen v.kept.active key
      ∙ ap (λ (o : Option Row). newest_of o (newest key v.kept.active)) (is.sane.logs.frozen.newest_is key)
      ∙ ap (λ (o : Option Row). newest_of (newest key (rows_of (first_logged parts) older)) o) (is.sane.logs.active.newest_is key)
      ∙ sym (newest-append (rows_of (first_logged parts) older) (rows_of (first_in_last parts) parts.last.batches) key)
      ∙ ap (newest key) (sym (rows_both (first_logged parts) older parts.last.batches))

  all_rows : (key : List ℕ) → newest key (table_rows ++ (v.kept.frozen ++ v.kept.active))
      ≡ newest key (table_rows ++ rows_of (first_logged parts) (logged parts))
  all_rows key =
      newest-append table_rows (v.kept.frozen ++ v.kept.active) key
      ∙ ap (λ (o : Option Row). newest_of (newest key table_rows) o) (in_memory key)
      ∙ sym (newest-append table_rows (rows_of (first_logged parts) (logged parts)) key)

  pub running_shown : contents_of (rows_kept v.kept parts.rows) ≡ contents_now s
  running_shown =
      ap (λ (tables : Tables). contents_of (rows_of_tables tables parts.rows ++ (v.kept.frozen ++ v.kept.active))) is.sane.edits.version
      ∙ contents_by_newest (table_rows ++ (v.kept.frozen ++ v.kept.active))
      (table_rows ++ rows_of (first_logged parts) (logged parts)) all_rows
      ∙ contents_replayed table_rows (first_logged parts) (logged parts) (tables_before parts is.sane.lawful)
      ∙ ap (λ (m : Contents). replayed m (logged parts)) is.tied.below
      ∙ replayed_both s.opening (take is.tied.flushed s.accepted) (logged parts)
      ∙ ap (λ (l : List (List Op)). replayed s.opening (take is.tied.flushed s.accepted ++ l)) is.tied.above
      ∙ ap (replayed s.opening) (take-append-drop is.tied.flushed s.accepted)

  -- the batches in front of those of the last log
  abbrev front : List (List Op)
  front = take is.tied.flushed s.accepted ++ older

  accepted_is : front ++ parts.last.batches ≡ s.accepted
  accepted_is =
      append_assoc (take is.tied.flushed s.accepted) older parts.last.batches
      ∙ ap (λ (l : List (List Op)). take is.tied.flushed s.accepted ++ l) is.tied.above
      ∙ take-append-drop is.tied.flushed s.accepted

  front_many : length s.accepted - s.active ≡ length front
  front_many =
      let many : length s.accepted ≡ length front + length parts.last.batches =
      ap (λ (l : List (List Op)). length l) (sym accepted_is) ∙ length-append front parts.last.batches in
      omega (arith, many, is.works.active)

  active_are : active_batches s ≡ parts.last.batches
  active_are =
      ap (λ (n : ℕ). drop n s.accepted) front_many
      ∙ ap (λ (l : List (List Op)). drop (length front) l) (sym accepted_is)
      ∙ drop-append_seam front parts.last.batches

  front_is : take (length s.accepted - s.active) s.accepted ≡ front
  front_is =
      ap (λ (n : ℕ). take n s.accepted) front_many
      ∙ ap (λ (l : List (List Op)). take (length front) l) (sym accepted_is)
      ∙ take-append_seam front parts.last.batches

  first_is : first_in_last parts ≡ first_active s
  first_is =
      sequence_next (last_after parts.edits) older
      ∙ ap (λ (n : ℕ). sequence_after n older + 1) is.tied.last
      ∙ ap (λ (n : ℕ). n + 1) (sequence_both s.began (take is.tied.flushed s.accepted) older)
      ∙ ap (λ (l : List (List Op)). sequence_after s.began l + 1) (sym front_is)

  pub running_active : AreRowsOf (first_active s) (active_batches s) v.kept.active
  running_active =
      subst (λ (n : ℕ). AreRowsOf n (active_batches s) v.kept.active) first_is
      (subst (λ (l : List (List Op)). AreRowsOf (first_in_last parts) l v.kept.active) (sym active_are) is.sane.logs.active)

  last_is : v.kept.last + 1 ≡ first_logged parts
  last_is = ap (λ (n : ℕ). n + 1) is.sane.edits.last

  frozen_within : All (IsWithin (first_logged parts) (first_in_last parts)) v.kept.frozen
  frozen_within =
      All-permutation (IsWithin (first_logged parts) (first_in_last parts))
      (rows_of (first_logged parts) older) v.kept.frozen is.sane.logs.frozen.same
      (rows_within (first_logged parts) older)

  pub running_order : AreInOrder v.kept parts.rows (first_active s)
  running_order = record {
    levels = subst AreLevels (sym is.sane.edits.version) (versions_have_seven_levels parts.edits is.sane.edits.are);
    leveled = subst (λ (tables : Tables). IsLeveled tables parts.rows) (sym is.sane.edits.version) is.sane.lawful.leveled;
    listed = λ number placed found.
        subst (λ (last : ℕ). IsAsListed placed.info (parts.rows number) last) (sym is.sane.edits.last)
        (is.sane.lawful.listed number placed (ap (λ (tables : Tables). finmap.get tables number) (sym is.sane.edits.version) ∙ found));
    distinct = subst (λ (tables : Tables). IsDistinct nat_eq (sequences (rows_of_tables tables parts.rows))) (sym is.sane.edits.version)
        is.sane.lawful.distinct;
    frozen =
        All-weaker (IsWithin (first_logged parts) (first_in_last parts))
        (λ (row : Row). (v.kept.last < row.sequence) × (row.sequence < first_active s))
        (λ row within. (omega (arith, last_is, within.0), omega (arith, first_is, within.1))) v.kept.frozen frozen_within;
    last = omega (arith, last_is, first_is, sequence_rises (first_logged parts) older);
  }

  pub running_shows : ShowsAccepted d v s
  running_shows = record {
    rows = parts.rows;
    tables = is.sane.tables;
    order = running_order;
    shown = running_shown;
    active = running_active;
  }

-- ---- in each mode

shows_by : (d : disk.State) (v : Shown) (s : State) (halt : Option Halt) → IsInMode halt d v s → ShowsAccepted d v s
shows_by d v s None is = running_shows d v s is
shows_by d v s (Some first) is = is.reads

pub good_shows : (v : Shown) (s : State) (good : Good v s) → ShowsAccepted (state_of good.story) v s
good_shows v s good = shows_by (state_of good.story) v s v.halt good.mode
