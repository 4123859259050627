-- What a store knows against an event refuses it.
use Rattle.std.specs.Prelude.{◌≡◌, ◌⊎◌, ℕ, not, is_some, List, [], ◌∷◌, Option, Some, None, Result, Err}
use Rattle.std.proofs.Common.{refl, sym, ap, ◌∙◌, inl, inr}
use Rattle.lsm_model.specs.declared.errors.StoreError.{StoreError}
use Rattle.lsm_model.specs.declared.errors.StoreError.TheVariants as error
use Rattle.lsm_model.specs.declared.cuts.FlushRule.{FlushRule}
use Rattle.lsm_model.specs.declared.events.Event.{Event}
use Rattle.lsm_model.specs.declared.events.Event.TheVariants as event
use Rattle.lsm_model.specs.declared.replies.Reply.{Reply}
use Rattle.lsm_model.specs.declared.replies.Flushed.{Flushed}
use Rattle.lsm_model.specs.declared.replies.Stepped.{Stepped}
use Rattle.lsm_model.specs.declared.replies.JobStart.{JobStart}
use Rattle.lsm_model.specs.declared.states.State.{State}
use Rattle.lsm_model.specs.declared.states.Pin.{Pin}
use Rattle.lsm_model.specs.declared.states.Holder.{Holder}
use Rattle.lsm_model.specs.States.{built_by}
use Rattle.lsm_model.specs.Causes.{first_of, halted, no_job, is_job, refused_if}
use Rattle.lsm_model.specs.Answers.{Answers, Done, Failed, Wanting, Refused, AnswersFlushing, Usual, No_number, No_place}
use Rattle.lsm_model.specs.Steps as Steps
use Rattle.lsm_model.specs.Steps.{Given, Step}
use Rattle.lsm_model.specs.Refusals.{known_refusal, refused, refusal_in, Unchanged}
use Rattle.lsm_model.specs.Pins.{unpinned}
use Rattle.lsm_model.specs.Upkeep as upkeep
use Rattle.lsm_model.specs.Checkpoints as checkpoints
use Rattle.lsm_model.proofs.RefusalLemmas.{none_some}

-- a test that refuses doesn't pass
never_none : {A : Type 0} {o : Option A} {x : A} → o ≡ Some x → o ≡ None → ⊥
never_none is none = none_some (sym none ∙ is)

module _ (s t : State) (refusal : StoreError) where
  answers_known : {A : Type 0} {known : Option StoreError} {Does : A → Type 0} {fails wants stays : Type 0} {result : Result A StoreError}
      → Answers known Does fails wants stays result → known ≡ Some refusal → (refused (Some result) ≡ Some refusal) × stays
  answers_known {A = A} a is_known = elim a [
    | Done x is known d ↦ absurd (never_none is_known known)
    | Failed is known f ↦ absurd (never_none is_known known)
    | Wanting is known w ↦ absurd (never_none is_known known)
    | Refused other is known w ↦ (ap (λ (r : Result A StoreError). refused (Some r)) is ∙ sym known ∙ is_known, w)
  ]

  flushing_known : {A : Type 0} {known : Option StoreError} {by : FlushRule} {Does : A → Type 0} {result : Result A StoreError}
      → AnswersFlushing known by s Does result t → known ≡ Some refusal → (refused (Some result) ≡ Some refusal) × (t ≡ s)
  flushing_known a is_known = elim a [
    | Usual b ↦ answers_known b is_known
    | No_number next is known l ↦ absurd (never_none is_known known)
    | No_place live adding is known l ↦ absurd (never_none is_known known)
  ]

  flush_known : (result : Result Flushed StoreError) → upkeep.StepsFlush s result t → halted s ≡ Some refusal → (refused (Some result) ≡ Some refusal) × (t ≡ s)
  flush_known result a is_known = elim a [
    | upkeep.Usual b ↦ answers_known b is_known
    | upkeep.No_number next is known some w d ↦ absurd (never_none is_known known)
    | upkeep.No_place live adding is known some w d ↦ absurd (never_none is_known known)
  ]

  compaction_known : (rows : ℕ) (result : Result Stepped StoreError) → upkeep.StepsCompaction s rows result t → halted s ≡ Some refusal → (refused (Some result) ≡ Some refusal) × (t ≡ s)
  compaction_known rows result a is_known = elim a [
    | upkeep.Usual b ↦ answers_known b is_known
    | upkeep.No_number next is known some w d ↦ absurd (never_none is_known known)
    | upkeep.No_place live adding is known some w ↦ absurd (never_none is_known known)
  ]

  begin_known : (dir : List ℕ) (size : ℕ) (result : Result JobStart StoreError) → checkpoints.BeginsCheckpoint s dir size result t
      → checkpoints.begin_refusal s dir ≡ Some refusal → (refused (Some result) ≡ Some refusal) × (t ≡ s)
  begin_known dir size result a is_known = elim a [
    | checkpoints.Refused other is known w ↦ (ap (λ (r : Result JobStart StoreError). refused (Some r)) is ∙ sym known ∙ is_known, w)
    | checkpoints.Failed is known f ↦ absurd (never_none is_known known)
    | checkpoints.Exists is known taken b ↦ absurd (never_none is_known known)
    | checkpoints.Cut known free b ↦ absurd (never_none is_known known)
    | checkpoints.Given_up known free g ↦ absurd (never_none is_known known)
  ]

  -- a job's pin passes the test of jobs
  job_known : (number : ℕ) (pin : Pin) (dir : List ℕ) (left : ℕ) → checkpoints.IsJob s number pin dir left → no_job number s ≡ None
  job_known number pin dir left job =
      ap (λ (o : Option Pin). refused_if (not (is_job o)) (error.NoSuchPin number)) job.found
      ∙ ap (λ (h : Holder). refused_if (not (is_some (built_by h))) (error.NoSuchPin number)) job.holder

  two_none : (first second : Option StoreError) → first ≡ None → second ≡ None → first_of (first ∷ second ∷ []) ≡ None
  two_none first second one two = ap (λ (o : Option StoreError). first_of (o ∷ second ∷ [])) one ∙ ap (λ (o : Option StoreError). first_of (o ∷ [])) two

  two_next : (first second : Option StoreError) → first ≡ None → first_of (first ∷ second ∷ []) ≡ first_of (second ∷ [])
  two_next first second one = ap (λ (o : Option StoreError). first_of (o ∷ second ∷ [])) one

  finish_known : (pin : ℕ) (result : Result ℕ StoreError) → checkpoints.FinishesCheckpoint s pin result t
      → first_of (no_job pin s ∷ halted s ∷ []) ≡ Some refusal → (refused (Some result) ≡ Some refusal) × ((t ≡ s) ⊎ (t ≡ unpinned pin s))
  finish_known pin result a is_known =
      let refuses : (other : StoreError) → result ≡ Err other → Some other ≡ Some refusal → refused (Some result) ≡ Some refusal = λ other is same. ap (λ (r : Result ℕ StoreError). refused (Some r)) is ∙ same in
      let none : no_job pin s ≡ None → halted s ≡ None → (refused (Some result) ≡ Some refusal) × ((t ≡ s) ⊎ (t ≡ unpinned pin s)) = λ one two. absurd (never_none is_known (two_none (no_job pin s) (halted s) one two)) in
      elim a [
        | checkpoints.No_job other is known w ↦ (refuses other is (sym (ap (λ (o : Option StoreError). first_of (o ∷ halted s ∷ [])) known) ∙ is_known), inl w)
        | checkpoints.Halted other is job halt w ↦ (refuses other is (sym (two_next (no_job pin s) (halted s) job ∙ ap (λ (o : Option StoreError). first_of (o ∷ [])) halt) ∙ is_known), inr w)
        | checkpoints.Done sequence is known d ↦ none (job_known pin d.pin d.dir d.left d.job) known
        | checkpoints.Failed is known f ↦ none (job_known pin f.pin f.dir f.left f.job) known
        | checkpoints.Wanting is job known w ↦ none job known
        | checkpoints.Taken dir is known w ↦ none (job_known pin w.pin dir w.left w.job) known
      ]

-- ---- every event

given_known : (s t : State) (e : Event) (refusal : StoreError) {A : Type 0} (o : Option (Result A StoreError)) {P : Result A StoreError → Type 0} {Left : Type 0}
    → Given o P → ((result : Result A StoreError) → P result → (refused (Some result) ≡ Some refusal) × Left) → (refused o ≡ Some refusal) × Left
given_known s t e refusal None h k = absurd h
given_known s t e refusal (Some result) h k = k result h

-- the event is answered that refusal, and nothing changes
pub known_refuses : (s t : State) (e : Event) (r : Reply) (refusal : StoreError) → Step s e r t → known_refusal e s ≡ Some refusal → (refusal_in e r ≡ Some refusal) × Unchanged e s t
unfolding Step
known_refuses s t (event.Write ops sync) r refusal h known = given_known s t (event.Write ops sync) refusal (Steps.to_write r) h (λ result a. answers_known s t refusal a known)
known_refuses s t event.SyncLog r refusal h known = given_known s t event.SyncLog refusal (Steps.to_sync_log r) h (λ result a. answers_known s t refusal a known)
known_refuses s t (event.Get key) r refusal h known = absurd (none_some known)
known_refuses s t event.Scan r refusal h known = absurd (none_some known)
known_refuses s t event.Last r refusal h known = absurd (none_some known)
known_refuses s t event.WantsFreeze r refusal h known = absurd (none_some known)
known_refuses s t (event.Show dir) r refusal h known = absurd (none_some known)
known_refuses s t event.Freeze r refusal h known = given_known s t event.Freeze refusal (Steps.to_freeze r) h (λ result a. answers_known s t refusal a known)
known_refuses s t event.FlushStep r refusal h known = given_known s t event.FlushStep refusal (Steps.to_flush_step r) h (λ result a. flush_known s t refusal result a known)
known_refuses s t (event.CompactBegin which) r refusal h known = given_known s t (event.CompactBegin which) refusal (Steps.to_compact_begin r) h (λ result a. answers_known s t refusal a known)
known_refuses s t (event.CompactStep rows) r refusal h known = given_known s t (event.CompactStep rows) refusal (Steps.to_compact_step r) h (λ result a. compaction_known s t refusal rows result a known)
known_refuses s t event.DeleteStep r refusal h known = given_known s t event.DeleteStep refusal (Steps.to_delete_step r) h (λ result a. answers_known s t refusal a known)
known_refuses s t (event.Cut rule) r refusal h known = given_known s t (event.Cut rule) refusal (Steps.to_cut r) h (λ result a. flushing_known s t refusal a known)
known_refuses s t (event.LiveFiles flush) r refusal h known = given_known s t (event.LiveFiles flush) refusal (Steps.to_live_files r) h (λ result a. flushing_known s t refusal a known)
known_refuses s t (event.Unpin pin) r refusal h known = given_known s t (event.Unpin pin) refusal (Steps.to_unpin r) h (λ result a. answers_known s t refusal a known)
known_refuses s t event.Disable r refusal h known = given_known s t event.Disable refusal (Steps.to_disable r) h (λ result a. answers_known s t refusal a known)
known_refuses s t event.Enable r refusal h known = given_known s t event.Enable refusal (Steps.to_enable r) h (λ result a. answers_known s t refusal a known)
known_refuses s t (event.CheckpointBegin dir size) r refusal h known = given_known s t (event.CheckpointBegin dir size) refusal (Steps.to_checkpoint_begin r) h (λ result a. begin_known s t refusal dir size result a known)
known_refuses s t (event.CheckpointStep pin) r refusal h known = given_known s t (event.CheckpointStep pin) refusal (Steps.to_checkpoint_step r) h (λ result a. answers_known s t refusal a known)
known_refuses s t (event.CheckpointFinish pin) r refusal h known = given_known s t (event.CheckpointFinish pin) refusal (Steps.to_checkpoint_finish r) h (λ result a. finish_known s t refusal pin result a known)
known_refuses s t (event.CheckpointStop pin) r refusal h known = given_known s t (event.CheckpointStop pin) refusal (Steps.to_checkpoint_stop r) h (λ result a. answers_known s t refusal a known)
known_refuses s t (event.ShowPin pin) r refusal h known = given_known s t (event.ShowPin pin) refusal (Steps.to_show_pin r) h (λ result a. answers_known s t refusal a known)
known_refuses s t (event.ReadPinned pin name) r refusal h known = given_known s t (event.ReadPinned pin name) refusal (Steps.to_read_pinned r) h (λ result a. answers_known s t refusal a known)

-- what isn't refused the store knew nothing against
by_known : (s t : State) (e : Event) (r : Reply) → Step s e r t → refusal_in e r ≡ None → (o : Option StoreError) → known_refusal e s ≡ o → o ≡ None
by_known s t e r step passes None is = refl
by_known s t e r step passes (Some refusal) is = absurd (never_none (known_refuses s t e r refusal step is).0 passes)

pub known_passes : (s t : State) (e : Event) (r : Reply) → Step s e r t → refusal_in e r ≡ None → known_refusal e s ≡ None
known_passes s t e r step passes = by_known s t e r step passes (known_refusal e s) refl
