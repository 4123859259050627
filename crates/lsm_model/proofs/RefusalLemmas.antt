-- Why each event's step is a refusal.
use Rattle.std.specs.Prelude.{◌≡◌, ℕ, ◌+◌, ◌≤◌, Bool, true, false, List, [], ◌∷◌, Option, Some, None, Result, Ok, Err}
use Rattle.std.specs.Str.{bytes_eq}
use Rattle.std.proofs.Common.{refl, sym, ap, subst, ◌∙◌, inl, inr, arith}
use Rattle.lsm_io.specs.Causes.{Rose}
use Rattle.lsm_model.specs.declared.errors.StoreError.{StoreError}
use Rattle.lsm_model.specs.declared.errors.StoreError.TheVariants as error
use Rattle.lsm_model.specs.declared.states.State.{State}
use Rattle.lsm_model.specs.declared.cuts.FlushRule.{FlushRule}
use Rattle.lsm_model.specs.declared.events.Event.{Event}
use Rattle.lsm_model.specs.declared.events.Event.TheVariants as event
use Rattle.lsm_model.specs.declared.replies.Reply.{Reply}
use Rattle.lsm_model.specs.declared.replies.Flushed.{Flushed}
use Rattle.lsm_model.specs.declared.replies.Stepped.{Stepped}
use Rattle.lsm_model.specs.declared.replies.JobStart.{JobStart}
use Rattle.lsm_model.specs.declared.replies.Shown.{Shown}
use Rattle.lsm_model.specs.Causes.{first_of, halted, no_job}
use Rattle.lsm_model.specs.Halting.{Aimed}
use Rattle.lsm_model.specs.Moves.{HaltsSettling, Fails}
use Rattle.lsm_model.specs.Answers.{Answers, Done, Failed, Wanting, Refused, MayFlush, does_flush, rule_draws, FailsFlushing, AnswersFlushing, Usual, No_number, No_place}
use Rattle.lsm_model.specs.Steps as Steps
use Rattle.lsm_model.specs.Steps.{Given, Step}
use Rattle.lsm_model.specs.Refusals.{refused, refusal_in, most_draws, MayAdd, MayAddOne, HasCause, Known, Disk_failed, Memory_wanting, Numbers_full, Tables_full, Name_taken, Reads_so}
use Rattle.lsm_model.specs.Reads as reads
use Rattle.lsm_model.specs.Upkeep as upkeep
use Rattle.lsm_model.specs.Checkpoints as checkpoints

-- a count that has risen since later has risen since earlier
pub rose_from : (a b c : ℕ) → a ≤ b → Rose b c → Rose a c
rose_from a b c le rose = grind (arith, le, rose)

-- ---- faults rose

module _ {s t : State} where
  fails_rose : {calls : List Aimed} → Fails calls s t → Rose s.faults t.faults
  fails_rose f = elim f [ inl r ↦ r.rose | inr h ↦ h.rose ]

  settling_rose : {calls : List Aimed} → HaltsSettling calls s t → Rose s.faults t.faults
  settling_rose h = rose_from s.faults h.settled.faults t.faults h.before.rest.faults h.halts.rose

flush_faults : (s t : State) (flushes : Bool) → MayFlush flushes s t → s.faults ≤ t.faults
flush_faults s t true m = m.rest.rest.faults
flush_faults s t false m = m.faults

flushing_rose : (s t : State) (by : FlushRule) → FailsFlushing by s t → Rose s.faults t.faults
flushing_rose s t by f = rose_from s.faults f.flushed.faults t.faults f.before.rest.rest.faults f.halts.rose

-- ---- what refuses

pub none_some : {A : Type 0} {x : A} → None ≡ Some x → ⊥
none_some e = absurd (cc)

pub same_some : {A : Type 0} {x y : A} → Some x ≡ Some y → x ≡ y
same_some e = cc

-- a result that is so refuses by what it is
module _ {A : Type 0} {result : Result A StoreError} {refusal : StoreError} (refuses : refused (Some result) ≡ Some refusal) where
  never_ok : (x : A) → result ≡ Ok x → ⊥
  never_ok x is = none_some (ap (λ (r : Result A StoreError). refused (Some r)) (sym is) ∙ refuses)

  refusal_is : (e : StoreError) → result ≡ Err e → refusal ≡ e
  refusal_is e is = same_some (sym refuses ∙ ap (λ (r : Result A StoreError). refused (Some r)) is)

module _ (s t : State) (e : Event) (refusal : StoreError) {A : Type 0} {result : Result A StoreError} (refuses : refused (Some result) ≡ Some refusal) where
  answers_cause : {known : Option StoreError} {Does : A → Type 0} {fails wants stays : Type 0} → Answers known Does fails wants stays result
      → (known ≡ Some refusal → HasCause s e refusal t) → (fails → Rose s.faults t.faults) → HasCause s e refusal t
  answers_cause a knows rose = elim a [
    | Done x is known d ↦ absurd (never_ok refuses x is)
    | Failed is known f ↦ Disk_failed (refusal_is refuses error.DiskFault is) (rose f)
    | Wanting is known w ↦ Memory_wanting (refusal_is refuses error.NoMemory is)
    | Refused other is known w ↦ knows (known ∙ ap (λ (x : StoreError). Some x) (sym (refusal_is refuses other is)))
  ]

  -- the event draws what the rule draws, and adds what it adds
  flushing_cause : {known : Option StoreError} {by : FlushRule} {Does : A → Type 0} → AnswersFlushing known by s Does result t
      → (known ≡ Some refusal → HasCause s e refusal t) → most_draws e s ≡ rule_draws by s
      → ((live adding : ℕ) → MayAddOne by s live adding → MayAdd e s live adding) → HasCause s e refusal t
  flushing_cause {by = by} a knows draws adds = elim a [
    | Usual b ↦ answers_cause b knows (flushing_rose s t by)
    | No_number next is known l ↦ let less = l.drawn in Numbers_full next (refusal_is refuses (error.NumbersFull next) is) l.full (omega (arith, less, draws))
    | No_place live adding is known l ↦
        Tables_full live adding (refusal_is refuses (error.TablesFull live adding) is) l.full (adds live adding (l.older, l.added, l.adding_is))
  ]

-- ---- each event

module _ (s t : State) (refusal : StoreError) where
  flush_cause : (result : Result Flushed StoreError) → upkeep.StepsFlush s result t → refused (Some result) ≡ Some refusal → HasCause s event.FlushStep refusal t
  flush_cause result a refuses = elim a [
    | upkeep.Usual b ↦ answers_cause s t event.FlushStep refusal refuses b (λ k. Known k) (λ f. settling_rose f.1)
    | upkeep.No_number next is known some w d ↦ Numbers_full next (refusal_is refuses (error.NumbersFull next) is) w.full w.drawn
    | upkeep.No_place live adding is known some w d ↦
        Tables_full live adding (refusal_is refuses (error.TablesFull live adding) is) w.full (w.live_is, w.adding_is)
  ]

  merging_rose : (rows : ℕ) → upkeep.FailsMerging rows s t → Rose s.faults t.faults
  merging_rose rows f = elim f [ inl h ↦ settling_rose h | inr h ↦ rose_from s.faults h.merged.faults t.faults h.before.rest.rest.faults h.fails.rose ]

  -- the outputs are those that were begun before, and one for each number that the step drew
  few_outputs : (rows live adding : ℕ) → upkeep.LacksRoom rows live adding s t → adding ≤ s.outputs + rows
  few_outputs rows live adding l = omega (arith, l.outputs, l.before.each, l.before.few)

  compaction_cause : (rows : ℕ) (result : Result Stepped StoreError) → upkeep.StepsCompaction s rows result t → refused (Some result) ≡ Some refusal → HasCause s (event.CompactStep rows) refusal t
  compaction_cause rows result a refuses = elim a [
    | upkeep.Usual b ↦ answers_cause s t (event.CompactStep rows) refusal refuses b (λ k. Known k) (λ f. merging_rose rows f.1)
    | upkeep.No_number next is known some w d ↦ Numbers_full next (refusal_is refuses (error.NumbersFull next) is) w.full w.drawn
    | upkeep.No_place live adding is known some w ↦
        Tables_full live adding (refusal_is refuses (error.TablesFull live adding) is) w.full (w.stay, few_outputs rows live adding w)
  ]

  show_cause : (dir : List ℕ) (result : Result Shown StoreError) → reads.Shows s dir result t → refused (Some result) ≡ Some refusal → HasCause s (event.Show dir) refusal t
  show_cause dir (Ok shown) a refuses = absurd (none_some refuses)
  show_cause dir (Err other) a refuses = elim a [
    | reads.As_it_reads r b ↦ Reads_so dir refl (subst (λ (x : StoreError). reads.ReadsAs s dir (bytes_eq s.own dir) (Err x)) (same_some refuses) r)
    | reads.Failed is f ↦ Disk_failed (refusal_is refuses error.DiskFault is) f.rose
    | reads.Wanting is b ↦ Memory_wanting (refusal_is refuses error.NoMemory is)
  ]

  gives_up_cause : (dir : List ℕ) (size : ℕ) (by : FlushRule) (result : Result JobStart StoreError) → checkpoints.GivesUp s dir by result t → refused (Some result) ≡ Some refusal → HasCause s (event.CheckpointBegin dir size) refusal t
  gives_up_cause dir size by result g refuses = elim g.why [
    | inl f ↦ Disk_failed (refusal_is refuses error.DiskFault f.0) (rose_from s.faults g.cut.faults t.faults (flush_faults s g.cut (does_flush by s) g.before) (fails_rose f.1))
    | inr w ↦ Memory_wanting (refusal_is refuses error.NoMemory w.0)
  ]

  begin_cause : (dir : List ℕ) (size : ℕ) (result : Result JobStart StoreError) → checkpoints.BeginsCheckpoint s dir size result t → refused (Some result) ≡ Some refusal → HasCause s (event.CheckpointBegin dir size) refusal t
  begin_cause dir size result a refuses = elim a [
    | checkpoints.Refused other is known w ↦ Known (known ∙ ap (λ (x : StoreError). Some x) (sym (refusal_is refuses other is)))
    | checkpoints.Failed is known f ↦ Disk_failed (refusal_is refuses error.DiskFault is) f.rose
    | checkpoints.Exists is known taken b ↦ Name_taken dir (refusal_is refuses (error.CheckpointExists dir) is) taken
    | checkpoints.Cut known free b ↦ flushing_cause s t (event.CheckpointBegin dir size) refusal refuses b (λ k. absurd (none_some k)) refl (λ live adding h. h)
    | checkpoints.Given_up known free g ↦ gives_up_cause dir size (checkpoints.size_rule size) result g refuses
  ]

  -- behind a test that passes the next one tells
  next_refusal : (first second : Option StoreError) → first ≡ None → second ≡ Some refusal → first_of (first ∷ second ∷ []) ≡ Some refusal
  next_refusal first second passes is = ap (λ (o : Option StoreError). first_of (o ∷ second ∷ [])) passes ∙ ap (λ (o : Option StoreError). first_of (o ∷ [])) is

  finish_rose : (pin : ℕ) → checkpoints.FailsFinishing s pin t → Rose s.faults t.faults
  finish_rose pin f = elim f.fails [ inl g ↦ fails_rose g | inr g ↦ g.1.rose ]

  finish_cause : (pin : ℕ) (result : Result ℕ StoreError) → checkpoints.FinishesCheckpoint s pin result t → refused (Some result) ≡ Some refusal → HasCause s (event.CheckpointFinish pin) refusal t
  finish_cause pin result a refuses =
      let known_as : (other : StoreError) → result ≡ Err other → Some other ≡ Some refusal = λ other is. ap (λ (x : StoreError). Some x) (sym (refusal_is refuses other is)) in
      elim a [
        | checkpoints.No_job other is known w ↦ Known (ap (λ (o : Option StoreError). first_of (o ∷ halted s ∷ [])) (known ∙ known_as other is))
        | checkpoints.Halted other is job halt w ↦ Known (next_refusal (no_job pin s) (halted s) job (halt ∙ known_as other is))
        | checkpoints.Done sequence is known d ↦ absurd (never_ok refuses sequence is)
        | checkpoints.Failed is known f ↦ Disk_failed (refusal_is refuses error.DiskFault is) (finish_rose pin f)
        | checkpoints.Wanting is job known w ↦ Memory_wanting (refusal_is refuses error.NoMemory is)
        | checkpoints.Taken dir is known w ↦ Name_taken dir (refusal_is refuses (error.CheckpointExists dir) is) w.taken
      ]

-- ---- every event

given_cause : (s t : State) (e : Event) (refusal : StoreError) {A : Type 0} (o : Option (Result A StoreError)) {P : Result A StoreError → Type 0}
    → Given o P → refused o ≡ Some refusal → ((result : Result A StoreError) → P result → refused (Some result) ≡ Some refusal → HasCause s e refusal t) → HasCause s e refusal t
given_cause s t e refusal None h refuses k = absurd h
given_cause s t e refusal (Some result) h refuses k = k result h refuses

-- each refusal has its cause
pub has_cause : (s t : State) (e : Event) (r : Reply) (refusal : StoreError) → Step s e r t → refusal_in e r ≡ Some refusal → HasCause s e refusal t
unfolding Step
has_cause s t (event.Write ops sync) r refusal h refuses = given_cause s t (event.Write ops sync) refusal (Steps.to_write r) h refuses (λ result a n. answers_cause s t (event.Write ops sync) refusal n a (λ k. Known k) (λ f. f.rose))
has_cause s t event.SyncLog r refusal h refuses = given_cause s t event.SyncLog refusal (Steps.to_sync_log r) h refuses (λ result a n. answers_cause s t event.SyncLog refusal n a (λ k. Known k) (λ f. settling_rose f))
has_cause s t (event.Get key) r refusal h refuses = given_cause s t (event.Get key) refusal (Steps.to_get r) h refuses (λ result a n. answers_cause s t (event.Get key) refusal n a (λ k. Known k) (λ f. f.rose))
has_cause s t event.Scan r refusal h refuses = given_cause s t event.Scan refusal (Steps.to_scan r) h refuses (λ result a n. answers_cause s t event.Scan refusal n a (λ k. Known k) (λ f. f.rose))
has_cause s t event.Last r refusal h refuses = absurd (none_some refuses)
has_cause s t event.WantsFreeze r refusal h refuses = absurd (none_some refuses)
has_cause s t event.Freeze r refusal h refuses = given_cause s t event.Freeze refusal (Steps.to_freeze r) h refuses (λ result a n. answers_cause s t event.Freeze refusal n a (λ k. Known k) (λ f. settling_rose f))
has_cause s t event.FlushStep r refusal h refuses = given_cause s t event.FlushStep refusal (Steps.to_flush_step r) h refuses (flush_cause s t refusal)
has_cause s t (event.CompactBegin which) r refusal h refuses = given_cause s t (event.CompactBegin which) refusal (Steps.to_compact_begin r) h refuses (λ result a n. answers_cause s t (event.CompactBegin which) refusal n a (λ k. Known k) (λ f. absurd f))
has_cause s t (event.CompactStep rows) r refusal h refuses = given_cause s t (event.CompactStep rows) refusal (Steps.to_compact_step r) h refuses (compaction_cause s t refusal rows)
has_cause s t event.DeleteStep r refusal h refuses = given_cause s t event.DeleteStep refusal (Steps.to_delete_step r) h refuses (λ result a n. answers_cause s t event.DeleteStep refusal n a (λ k. Known k) (λ f. settling_rose f.1))
has_cause s t (event.Cut rule) r refusal h refuses = given_cause s t (event.Cut rule) refusal (Steps.to_cut r) h refuses (λ result a n. flushing_cause s t (event.Cut rule) refusal n a (λ k. Known k) refl (λ live adding h. h))
has_cause s t (event.LiveFiles flush) r refusal h refuses = given_cause s t (event.LiveFiles flush) refusal (Steps.to_live_files r) h refuses (λ result a n. flushing_cause s t (event.LiveFiles flush) refusal n a (λ k. Known k) refl (λ live adding h. h))
has_cause s t (event.Unpin pin) r refusal h refuses = given_cause s t (event.Unpin pin) refusal (Steps.to_unpin r) h refuses (λ result a n. answers_cause s t (event.Unpin pin) refusal n a (λ k. Known k) (λ f. absurd f))
has_cause s t event.Disable r refusal h refuses = given_cause s t event.Disable refusal (Steps.to_disable r) h refuses (λ result a n. answers_cause s t event.Disable refusal n a (λ k. Known k) (λ f. absurd f))
has_cause s t event.Enable r refusal h refuses = given_cause s t event.Enable refusal (Steps.to_enable r) h refuses (λ result a n. answers_cause s t event.Enable refusal n a (λ k. Known k) (λ f. absurd f))
has_cause s t (event.CheckpointBegin dir size) r refusal h refuses = given_cause s t (event.CheckpointBegin dir size) refusal (Steps.to_checkpoint_begin r) h refuses (begin_cause s t refusal dir size)
has_cause s t (event.CheckpointStep pin) r refusal h refuses = given_cause s t (event.CheckpointStep pin) refusal (Steps.to_checkpoint_step r) h refuses (λ result a n. answers_cause s t (event.CheckpointStep pin) refusal n a (λ k. Known k) (λ f. fails_rose f.fails))
has_cause s t (event.CheckpointFinish pin) r refusal h refuses = given_cause s t (event.CheckpointFinish pin) refusal (Steps.to_checkpoint_finish r) h refuses (finish_cause s t refusal pin)
has_cause s t (event.CheckpointStop pin) r refusal h refuses = given_cause s t (event.CheckpointStop pin) refusal (Steps.to_checkpoint_stop r) h refuses (λ result a n. answers_cause s t (event.CheckpointStop pin) refusal n a (λ k. Known k) (λ f. absurd f))
has_cause s t (event.Show dir) r refusal h refuses = given_cause s t (event.Show dir) refusal (Steps.to_show r) h refuses (show_cause s t refusal dir)
has_cause s t (event.ShowPin pin) r refusal h refuses = given_cause s t (event.ShowPin pin) refusal (Steps.to_show_pin r) h refuses (λ result a n. answers_cause s t (event.ShowPin pin) refusal n a (λ k. Known k) (λ f. f.rose))
has_cause s t (event.ReadPinned pin name) r refusal h refuses = given_cause s t (event.ReadPinned pin name) refusal (Steps.to_read_pinned r) h refuses (λ result a n. answers_cause s t (event.ReadPinned pin name) refusal n a (λ k. Known k) (λ f. f.rose))
