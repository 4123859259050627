-- Writes and syncs of the log, at each exit: the store's answer is a step of the abstract store, and the store is good
-- behind it.
use Rattle.std.specs.Prelude.{◌≡◌, ◌⊎◌, ℕ, ◌+◌, ◌-◌, ◌^◌, ◌<◌, ◌≤◌, Bool, true, false, nat_lt, List, [], ◌∷◌, ◌++◌, length, Option, Some, None, option_map, Result, Ok, Err}
use Rattle.std.specs.List.Sorted.{IsPermutation}
use Rattle.std.proofs.Common.{refl, sym, ap, subst, ◌∙◌, arith}
use Rattle.std.proofs.lemmas.Bool.Decides.{nat_tests}
use Rattle.lsm_io.specs.Causes.{Rose}
use Rattle.lsm_rows.specs.declared.operations.Op.{Op}
use Rattle.lsm_rows.specs.declared.rows.Row.{Row}
use Rattle.lsm_rows.specs.Rows.{batch_rows}
use Rattle.lsm_rows.specs.Contents.{newest}
use Rattle.lsm_disk.specs.State.{Seen, state_of}
use Rattle.lsm_disk.specs.Kept.{InFile}
use Rattle.lsm_disk.specs.Goes.{Went}
use Rattle.lsm_disk.specs.Answers.{Makes}
use Rattle.lsm_disk.specs.declared.calls.Halt.{Halt}
use Rattle.lsm_disk.specs.declared.calls.DiskRefusal.{DiskRefusal}
use Rattle.lsm_wal.specs.Batches.{IsLogged, record_behind}
use Rattle.lsm_wal.specs.Standing.{HoldsFront, IsLeft}
use Rattle.lsm_model.specs.declared.errors.StoreError.{StoreError}
use Rattle.lsm_model.specs.declared.errors.StoreError.TheVariants as error
use Rattle.lsm_model.specs.declared.events.Event.{Event}
use Rattle.lsm_model.specs.declared.events.Event.TheVariants as event
use Rattle.lsm_model.specs.declared.replies.Reply.{Reply}
use Rattle.lsm_model.specs.declared.replies.Reply.TheVariants as reply
use Rattle.lsm_model.specs.declared.states.State.{State}
use Rattle.lsm_model.specs.Answers.{Done, Failed, Wanting, Refused}
use Rattle.lsm_model.specs.Causes.{first_of, refused_if, halted, sequence_full}
use Rattle.lsm_model.specs.Halting.{IsMet, sync_calls, write_calls}
use Rattle.lsm_model.specs.Moves.{Becomes, Halts, HaltsSettling}
use Rattle.lsm_model.specs.States.{last_of}
use Rattle.lsm_model.specs.Steps.{Step}
use Rattle.lsm_model.specs.Writes.{with_batch, doubting, all_durable, IsLogged as IsStepLogged, Writes, SyncsLog}
use Rattle.lsm_refine.specs.Kept.{Shown}
use Rattle.lsm_refine.specs.Good.{IsRunning, Good, IsUnchanged, with_counts}
use Rattle.lsm_refine.specs.Beside.{last_path, last_batches}
use Rattle.lsm_refine.specs.Grown.{next_batch, grown_shown, grown_state, synced_shown, synced_state, halted_shown, halted_state}
use Rattle.lsm_refine.proofs.GrownLemmas.{record_some, append_went, grown_good, torn_good}
use Rattle.lsm_refine.proofs.SyncedLemmas.{syncing, sync_good, sync_halts}
use Rattle.lsm_refine.proofs.UnchangedLemmas.{unchanged_good}
use Rattle.lsm_refine.proofs.WritingLemmas.{durable_few}

-- the event is answered so by a step from the state, and the store is good for the state behind it
abbrev pub Steps : State → Event → Reply → Shown → Type 0
Steps s e r w = (t : State) × Step s e r t × Good w t

write_step : (s t : State) (ops : List Op) (sync : Bool) (r : Result ℕ StoreError) → Writes s ops sync r t
    → Step s (event.Write ops sync) (reply.Write r) t
unfolding Step
write_step s t ops sync r step = step

sync_step : (s t : State) (r : Result (Unit {0}) StoreError) → SyncsLog s r t → Step s event.SyncLog (reply.SyncLog r) t
unfolding Step
sync_step s t r step = step

-- ---- what the store knows

known_halted : (s : State) (ops : List Op) (first : Halt) → s.halt ≡ Some first
    → first_of (halted s ∷ sequence_full (length ops) s ∷ []) ≡ Some (error.Halted first)
known_halted s ops first is = ap (λ (h : Option Halt). first_of (option_map error.Halted h ∷ sequence_full (length ops) s ∷ [])) is

test_true : (n : ℕ) → 2 ^ 56 ≤ n → nat_lt (2 ^ 56 - 1) n ≡ true
test_true n large = grind (arith, nat_tests)

test_false : (n : ℕ) → n < 2 ^ 56 → nat_lt (2 ^ 56 - 1) n ≡ false
test_false n small = grind (arith, nat_tests)

module _ (s : State) (ops : List Op) (none : s.halt ≡ None) where
  known_by : (b : Bool) → nat_lt (2 ^ 56 - 1) (last_of s + length ops) ≡ b
      → first_of (halted s ∷ sequence_full (length ops) s ∷ [])
      ≡ first_of (None ∷ refused_if b (error.SequenceFull (last_of s) (length ops)) ∷ [])
  known_by b is =
      ap (λ (h : Option Halt). first_of (option_map error.Halted h ∷ sequence_full (length ops) s ∷ [])) none
      ∙ ap (λ (test : Bool). first_of (None ∷ refused_if test (error.SequenceFull (last_of s) (length ops)) ∷ [])) is

  known_full : 2 ^ 56 ≤ last_of s + length ops → first_of (halted s ∷ sequence_full (length ops) s ∷ [])
      ≡ Some (error.SequenceFull (last_of s) (length ops))
  known_full full = known_by true (test_true (last_of s + length ops) full)

  known_none : last_of s + length ops < 2 ^ 56 → first_of (halted s ∷ sequence_full (length ops) s ∷ []) ≡ None
  known_none small = known_by false (test_false (last_of s + length ops) small)

module _ (v : Shown) (s : State) (good : Good v s) where
  not_halted : v.halt ≡ None → s.halt ≡ None
  not_halted none = sym good.kept.halt ∙ none

  -- ---- exits before the disk is called

  pub write_halted : (ops : List Op) (sync : Bool) (first : Halt) → v.halt ≡ Some first
      → Steps s (event.Write ops sync) (reply.Write (Err (error.Halted first))) v
  write_halted ops sync first is = (
    s,
    write_step s s ops sync (Err (error.Halted first))
        (Refused (error.Halted first) refl (known_halted s ops first (sym good.kept.halt ∙ is)) refl),
    good,
  )

  pub write_full : (ops : List Op) (sync : Bool) → v.halt ≡ None → 2 ^ 56 ≤ v.kept.sequence + length ops
      → Steps s (event.Write ops sync) (reply.Write (Err (error.SequenceFull v.kept.sequence (length ops)))) v
  write_full ops sync none full =
      subst (λ (n : ℕ). Steps s (event.Write ops sync) (reply.Write (Err (error.SequenceFull n (length ops)))) v) (sym good.kept.sequence) (
        s,
        write_step s s ops sync (Err (error.SequenceFull (last_of s) (length ops)))
            (Refused (error.SequenceFull (last_of s) (length ops)) refl
            (known_full s ops (not_halted none) (omega (arith, full, good.kept.sequence))) refl),
        good,
      )

  -- memory was wanting, and nothing has changed but the disk's counts
  pub write_wanting : (ops : List Op) (sync : Bool) (w : Shown) → v.halt ≡ None → v.kept.sequence + length ops < 2 ^ 56
      → IsUnchanged good.story v w → w.halt ≡ v.halt
      → v.disk.faults ≤ w.disk.faults → v.disk.refusals ≤ w.disk.refusals
      → Steps s (event.Write ops sync) (reply.Write (Err error.NoMemory)) w
  write_wanting ops sync w none small same halt faults refusals = (
    with_counts w.disk s,
    write_step s (with_counts w.disk s) ops sync (Err error.NoMemory)
        (Wanting refl (known_none s ops (not_halted none) (omega (arith, small, good.kept.sequence)))
        (record {
          rest = refl;
          faults = omega (arith, good.counts.faults, faults);
          refusals = omega (arith, good.counts.refusals, refusals);
        })),
    unchanged_good v w s good same halt,
  )

  pub sync_log_halted : (first : Halt) → v.halt ≡ Some first → Steps s event.SyncLog (reply.SyncLog (Err (error.Halted first))) v
  sync_log_halted first is = (
    s,
    sync_step s s (Err (error.Halted first)) (Refused (error.Halted first) refl
        (ap (option_map error.Halted) (sym good.kept.halt ∙ is)) refl),
    good,
  )

  module _ (run : IsRunning (state_of good.story) v s) (none : v.halt ≡ None) (seen : Seen)
      (faults : v.disk.faults ≤ seen.faults) (refusals : v.disk.refusals ≤ seen.refusals) where
    -- ---- behind an append

    module _ (ops : List Op) (sync : Bool) (logged : IsLogged (next_batch v.kept ops)) where
      small : last_of s + length ops < 2 ^ 56
      small = omega (arith, logged.last, good.kept.sequence)

      -- Ok
      pub write_ok : {T : Type 0} (value : T) (rows : List Row) (len : ℕ)
          → IsPermutation (v.kept.active ++ batch_rows (v.kept.sequence + 1) ops) rows
          → ((key : List ℕ) → newest key rows ≡ newest key (v.kept.active ++ batch_rows (v.kept.sequence + 1) ops))
          → len ≡ v.kept.log_len + length (record_behind (last_batches run.parts) (next_batch v.kept ops))
          → Went good.story seen.told (InFile run.sane.logs.last.id)
          (HoldsFront (last_path v.dir run.parts) (last_batches run.parts ++ next_batch v.kept ops ∷ []) run.parts.synced)
          (IsLeft (last_path v.dir run.parts) (last_batches run.parts) (next_batch v.kept ops) run.parts.synced sync (Ok value))
          → Steps s (event.Write ops sync) (reply.Write (Ok (v.kept.sequence + length ops))) (grown_shown seen ops rows len v)
      write_ok value rows len same newest_is long went =
          let gone = append_went v s good run ops logged sync (Ok value) seen.told went in
          let t : State = grown_state seen ops sync len s in
          let becomes : Becomes (record (with_batch ops sync s) { active_len = t.active_len }) t =
          record {
            rest = refl;
            faults = omega (arith, good.counts.faults, faults);
            refusals = omega (arith, good.counts.refusals, refusals);
          } in
          let logs : IsStepLogged ops sync s t = record {
            longer = omega
                (arith, long, record_some v s good run ops logged, run.works.active_len);
            rest = becomes;
          } in (
            t,
            write_step s t ops sync (Ok (v.kept.sequence + length ops))
                (Done (v.kept.sequence + length ops) refl (known_none s ops (not_halted none) small)
                (ap (λ (n : ℕ). n + length ops) good.kept.sequence, logs)),
            grown_good v s good run ops logged seen sync rows len same newest_is long gone.story gone.tells none gone.now.1.0 gone.now.0,
          )

      -- a fault of the disk
      pub write_fault : (T : Type 0) (r : DiskRefusal) → IsMet s.own r.at write_calls → Rose v.disk.faults seen.faults
          → Went good.story seen.told (InFile run.sane.logs.last.id)
          (HoldsFront (last_path v.dir run.parts) (last_batches run.parts ++ next_batch v.kept ops ∷ []) run.parts.synced)
          (IsLeft {T = T} (last_path v.dir run.parts) (last_batches run.parts) (next_batch v.kept ops) run.parts.synced sync (Err r))
          → Steps s (event.Write ops sync) (reply.Write (Err error.DiskFault)) (halted_shown seen r.at v)
      write_fault T r met rose went =
          let gone = append_went v s good run ops logged {T = T} sync (Err r) seen.told went in
          let t : State = halted_state seen r.at (Some ops) s in
          let halts : Halts write_calls (doubting ops s) t = record {
            first = r.at;
            among = met;
            rose = subst (λ (n : ℕ). Rose n seen.faults) good.counts.faults rose;
            rest = record {
              rest = refl;
              faults = omega (arith, good.counts.faults, faults);
              refusals = omega (arith, good.counts.refusals, refusals);
            };
          } in (
            t,
            write_step s t ops sync (Err error.DiskFault) (Failed refl (known_none s ops (not_halted none) small) halts),
            torn_good v s good run ops logged seen r.at gone.story gone.tells gone.now.1.0 gone.now.0.0,
          )

    -- ---- behind a sync

    known : halted s ≡ None
    known = ap (option_map error.Halted) (not_halted none)

    pub sync_log_ok : Makes v.disk.told (syncing v s good run) seen.told
        → Steps s event.SyncLog (reply.SyncLog (Ok tt)) (synced_shown seen v)
    sync_log_ok makes =
        let t : State = synced_state seen (length s.accepted) s in
        let becomes : Becomes (all_durable s) t = record {
          rest = refl;
          faults = omega (arith, good.counts.faults, faults);
          refusals = omega (arith, good.counts.refusals, refusals);
        } in
        (t, sync_step s t (Ok tt) (Done tt refl known becomes), sync_good v s good run seen makes none)

    pub sync_log_fault : (at : Halt) → IsMet s.own at sync_calls → Rose v.disk.faults seen.faults
        → (seen.told ≡ v.disk.told) ⊎ Makes v.disk.told (syncing v s good run) seen.told
        → Steps s event.SyncLog (reply.SyncLog (Err error.DiskFault)) (halted_shown seen at v)
    sync_log_fault at met rose left =
        let t : State = halted_state seen at s.doubtful s in
        let halts : HaltsSettling sync_calls s t = record {
          settled = s;
          before = record {
            rest = record { rest = refl; faults = omega arith; refusals = omega arith };
            durable = omega arith;
            within = durable_few v s good run;
          };
          halts = record {
            first = at;
            among = met;
            rose = subst (λ (n : ℕ). Rose n seen.faults) good.counts.faults rose;
            rest = record {
              rest = refl;
              faults = omega (arith, good.counts.faults, faults);
              refusals = omega (arith, good.counts.refusals, refusals);
            };
          };
        } in
        (t, sync_step s t (Err error.DiskFault) (Failed refl known halts), sync_halts v s good run seen at left)
