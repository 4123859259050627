-- How many batches are durable, over steps, runs, crashes, closings and openings.
use Rattle.std.specs.Prelude.{◌≡◌, ℕ, ◌≤◌, Bool, true, false, List, [], ◌∷◌, length, Option, Some, None, Result}
use Rattle.std.proofs.Common.{refl, ap, inl, inr, arith}
use Rattle.std.proofs.lemmas.List.{length-append}
use Rattle.lsm_rows.specs.declared.operations.Op.{Op}
use Rattle.lsm_model.specs.declared.errors.StoreError.{StoreError}
use Rattle.lsm_model.specs.declared.cuts.FlushRule.{FlushRule}
use Rattle.lsm_model.specs.declared.events.Event.{Event}
use Rattle.lsm_model.specs.declared.events.Event.TheVariants as event
use Rattle.lsm_model.specs.declared.events.Which.{Which}
use Rattle.lsm_model.specs.declared.replies.Reply.{Reply}
use Rattle.lsm_model.specs.declared.replies.Flushed.{Flushed}
use Rattle.lsm_model.specs.declared.replies.Flushed.TheVariants as flush
use Rattle.lsm_model.specs.declared.replies.Begun.{Begun}
use Rattle.lsm_model.specs.declared.replies.Begun.TheVariants as begun
use Rattle.lsm_model.specs.declared.replies.Stepped.{Stepped}
use Rattle.lsm_model.specs.declared.replies.Stepped.TheVariants as merge
use Rattle.lsm_model.specs.declared.replies.Deleted.{Deleted}
use Rattle.lsm_model.specs.declared.replies.Deleted.TheVariants as delete
use Rattle.lsm_model.specs.declared.replies.JobStart.{JobStart}
use Rattle.lsm_model.specs.declared.replies.Shown.{Shown}
use Rattle.lsm_model.specs.declared.states.State.{State}
use Rattle.lsm_model.specs.Halting.{Aimed}
use Rattle.lsm_model.specs.Moves.{Becomes, Settles, Draws, Flushes, Halts, HaltsSettling, FailsToRead, Fails}
use Rattle.lsm_model.specs.Answers.{Answers, Done, Failed, Wanting, Refused, MayFlush, does_flush, FailsFlushing, AnswersFlushing, Usual, No_number, No_place}
use Rattle.lsm_model.specs.Steps as Steps
use Rattle.lsm_model.specs.Steps.{Given, Step, Made, Asked, Began, Filed, Appended, Sealed, Finished, Closed_file, Closed_tables, Makes, Run}
use Rattle.lsm_model.proofs.RestoreLemmas.{Alike, begins, fills, finishes}
use Rattle.lsm_disk.specs.declared.calls.DiskCall.TheVariants as disk
use Rattle.lsm_model.specs.Writes as writes
use Rattle.lsm_model.specs.Reads as reads
use Rattle.lsm_model.specs.Upkeep as upkeep
use Rattle.lsm_model.specs.Pins as pins
use Rattle.lsm_model.specs.Checkpoints as checkpoints

-- The count of durable batches stays within the accepted ones, and doesn't fall.
abbrev pub Keeps : State → State → Type 0
Keeps s t = s.durable ≤ length s.accepted → (s.durable ≤ t.durable) × (t.durable ≤ length t.accepted)

pub keeps_trans : (s m t : State) → Keeps s m → Keeps m t → Keeps s t
keeps_trans s m t first second within =
    let a = first within in
    let b = second a.1 in
    (omega (arith, a.0, b.0), b.1)

-- where both stay the count keeps
pub keeps_as : (s t : State) → t.durable ≡ s.durable → t.accepted ≡ s.accepted → Keeps s t
keeps_as s t count same within =
    let long : length t.accepted ≡ length s.accepted = ap (λ (l : List (List Op)). length l) same in
    (omega (arith, count), omega (arith, count, long, within))

pub keeps_same : (s t : State) → t ≡ s → Keeps s t
keeps_same s t is = keeps_as s t (ap (λ (q : State). q.durable) is) (ap (λ (q : State). q.accepted) is)

-- ---- how a state goes on

module _ {s t : State} where
  pub becomes : Becomes s t → Keeps s t
  becomes b = keeps_as s t (ap (λ (q : State). q.durable) b.rest) (ap (λ (q : State). q.accepted) b.rest)

  settles : Settles s t → Keeps s t
  settles d within = (d.durable, d.within)

  pub reading : FailsToRead s t → Keeps s t
  reading f = becomes f.rest

module _ {s t : State} where
  flushes : Flushes s t → Keeps s t
  flushes f = settles f.rest

  halts : {calls : List Aimed} → Halts calls s t → Keeps s t
  halts h = becomes h.rest

  draws : {most : ℕ} → Draws most s t → Keeps s t
  draws d = settles d.rest

  merges : {most : ℕ} → upkeep.Merges most s t → Keeps s t
  merges d = settles d.rest

module _ {s t : State} where
  fails : {calls : List Aimed} → Fails calls s t → Keeps s t
  fails {calls = calls} f = elim f [ inl r ↦ reading r | inr h ↦ halts {calls = calls} h ]

  pub halts_settling : {calls : List Aimed} → HaltsSettling calls s t → Keeps s t
  halts_settling {calls = calls} h = keeps_trans s h.settled t (settles h.before) (halts {calls = calls} h.halts)

may_flush : (s t : State) (flushing : Bool) → MayFlush flushing s t → Keeps s t
may_flush s t true m = flushes m
may_flush s t false m = becomes m

cuts_at : (s t : State) (flushing : Bool) → pins.CutsAt flushing s t → Keeps s t
cuts_at s t true m = flushes m.rest
cuts_at s t false m = becomes m

flushing_fails : (s t : State) (by : FlushRule) → FailsFlushing by s t → Keeps s t
flushing_fails s t by f = keeps_trans s f.flushed t (flushes f.before) (halts f.halts)

-- ---- answers

module _ (s t : State) where
  answers : {A : Type 0} {known : Option StoreError} {Does : A → Type 0} {fails wants stays : Type 0} {result : Result A StoreError}
      → Answers known Does fails wants stays result
      → ((x : A) → Does x → Keeps s t) → (fails → Keeps s t) → (wants → Keeps s t) → (stays → Keeps s t) → Keeps s t
  answers a does failed wanted stayed = elim a [
    | Done x is known d ↦ does x d
    | Failed is known f ↦ failed f
    | Wanting is known w ↦ wanted w
    | Refused e is known h ↦ stayed h
  ]

  flushing : {A : Type 0} {known : Option StoreError} {by : FlushRule} {Does : A → Type 0} {result : Result A StoreError}
      → AnswersFlushing known by s Does result t → ((x : A) → Does x → Keeps s t) → Keeps s t
  flushing {by = by} a does = elim a [
    | Usual b ↦ answers b does (flushing_fails s t by) (may_flush s t (does_flush by s)) (keeps_same s t)
    | No_number next is known l ↦ may_flush s t (does_flush by s) l.rest
    | No_place live adding is known l ↦ may_flush s t (does_flush by s) l.rest
  ]

  never : ⊥ → Keeps s t
  never h = absurd h

  given : {A : Type 0} (o : Option A) {P : A → Type 0} → Given o P → ((x : A) → P x → Keeps s t) → Keeps s t
  given None h k = absurd h
  given (Some x) h k = k x h

-- ---- each event

-- one batch more, durable or not
batch_more : (ops : List Op) (sync : Bool) (s : State) → Keeps s (writes.with_batch ops sync s)
batch_more ops true s within = let long = length-append s.accepted (ops ∷ []) in (omega (arith, within), omega (arith, long))
batch_more ops false s within = let long = length-append s.accepted (ops ∷ []) in (omega arith, omega (arith, long, within))

logged : {s t : State} (ops : List Op) (sync : Bool) → writes.IsLogged ops sync s t → Keeps (writes.with_batch ops sync s) t
logged {s = s} {t = t} ops sync d = keeps_as (writes.with_batch ops sync s) t (ap (λ (q : State). q.durable) d.rest.rest) (ap (λ (q : State). q.accepted) d.rest.rest)

all_more : (s : State) → Keeps s (writes.all_durable s)
all_more s within = (within, omega arith)

module _ (s t : State) where
  writes_keep : (ops : List Op) (sync : Bool) (result : Result ℕ StoreError) → writes.Writes s ops sync result t → Keeps s t
  writes_keep ops sync result a =
      answers s t a (λ x d. keeps_trans s (writes.with_batch ops sync s) t (batch_more ops sync s) (logged ops sync d.1)) (λ f. halts f) becomes (keeps_same s t)

  sync_keeps : (result : Result (Unit {0}) StoreError) → writes.SyncsLog s result t → Keeps s t
  sync_keeps result a =
      answers s t a (λ x d. keeps_trans s (writes.all_durable s) t (all_more s) (becomes d)) (λ f. halts_settling f) (never s t) (keeps_same s t)

  show_keeps : (dir : List ℕ) (result : Result Shown StoreError) → reads.Shows s dir result t → Keeps s t
  show_keeps dir result a = elim a [ reads.As_it_reads r b ↦ becomes b | reads.Failed is f ↦ reading f | reads.Wanting is b ↦ becomes b ]

  froze : (can frozen : Bool) → upkeep.FreezesAs s t can frozen → Keeps s t
  froze can true d = settles d.1
  froze can false d = keeps_same s t d.1

  flushed : (did : Flushed) → upkeep.FlushesAs s t did → Keeps s t
  flushed flush.NoJob d = keeps_same s t d.1
  flushed flush.More d = draws d.1
  flushed flush.Installed d = flushes d.1.rest

  flush_keeps : (result : Result Flushed StoreError) → upkeep.StepsFlush s result t → Keeps s t
  flush_keeps result a = elim a [
    | upkeep.Usual b ↦ answers s t b flushed (λ f. halts_settling f.1) draws (keeps_same s t)
    | upkeep.No_number next is known some w d ↦ draws d
    | upkeep.No_place live adding is known some w d ↦ draws d
  ]

  began : (which : Which) (did : Begun) → upkeep.BeginsAs s which t did → Keeps s t
  began which (begun.UnderWay inputs) d = keeps_same s t d.1
  began which begun.Nothing d = keeps_same s t d.2
  began which begun.Started d = keeps_as s t (ap (λ (q : State). q.durable) d.2.rest) (ap (λ (q : State). q.accepted) d.2.rest)

  merged : (rows : ℕ) (did : Stepped) → upkeep.MergesAs rows s t did → Keeps s t
  merged rows merge.NoJob d = keeps_same s t d.1
  merged rows merge.More d = merges d.1
  merged rows merge.Installed d = keeps_trans s d.1.merged t (merges d.1.before) (settles d.1.rest)

  merging_fails : (rows : ℕ) → upkeep.FailsMerging rows s t → Keeps s t
  merging_fails rows f = elim f [ inl h ↦ halts_settling h | inr h ↦ keeps_trans s h.merged t (merges h.before) (reading h.fails) ]

  compact_keeps : (rows : ℕ) (result : Result Stepped StoreError) → upkeep.StepsCompaction s rows result t → Keeps s t
  compact_keeps rows result a = elim a [
    | upkeep.Usual b ↦ answers s t b (merged rows) (λ f. merging_fails rows f.1) merges (keeps_same s t)
    | upkeep.No_number next is known some w d ↦ merges d
    | upkeep.No_place live adding is known some w ↦ keeps_trans s w.merged t (merges w.before) (becomes w.rest)
  ]

  deleted : (did : Deleted) → upkeep.DeletesAs s t did → Keeps s t
  deleted (delete.Disabled count) d = keeps_same s t d.2
  deleted (delete.Removed name) d = settles d.1
  deleted delete.Nothing d = settles d.1

  -- a change of pins, folders or counts alone
  changes : (changed : State) → changed.durable ≡ s.durable → changed.accepted ≡ s.accepted → t ≡ changed → Keeps s t
  changes changed count same is = keeps_trans s changed t (keeps_as s changed count same) (keeps_same changed t is)

  begin_keeps : (dir : List ℕ) (size : ℕ) (result : Result JobStart StoreError) → checkpoints.BeginsCheckpoint s dir size result t → Keeps s t
  begin_keeps dir size result a = elim a [
    | checkpoints.Refused e is known w ↦ keeps_same s t w
    | checkpoints.Failed is known f ↦ reading f
    | checkpoints.Exists is known taken b ↦ becomes b
    | checkpoints.Cut known free c ↦ flushing s t c (λ start d. keeps_trans s d.at t (cuts_at s d.at (does_flush (checkpoints.size_rule size) s) d.flushed) (becomes d.rest))
    | checkpoints.Given_up known free g ↦ keeps_trans s g.cut t (may_flush s g.cut (does_flush (checkpoints.size_rule size) s) g.before) (elim g.why [ inl f ↦ fails f.1 | inr w ↦ becomes w.1 ])
  ]

  finish_keeps : (pin : ℕ) (result : Result ℕ StoreError) → checkpoints.FinishesCheckpoint s pin result t → Keeps s t
  finish_keeps pin result a = elim a [
    | checkpoints.No_job e is known w ↦ keeps_same s t w
    | checkpoints.Halted e is known halt w ↦ changes (pins.unpinned pin s) refl refl w
    | checkpoints.Done sequence is known d ↦ becomes d.rest
    | checkpoints.Failed is known f ↦ elim f.fails [ inl g ↦ fails g | inr g ↦ halts g.1 ]
    | checkpoints.Wanting is known halt w ↦ becomes w
    | checkpoints.Taken dir is known w ↦ becomes w.rest
  ]

-- ---- every event

pub step_keeps : (s t : State) (e : Event) (r : Reply) → Step s e r t → Keeps s t
unfolding Step
step_keeps s t (event.Write ops sync) r h = given s t (Steps.to_write r) h (writes_keep s t ops sync)
step_keeps s t event.SyncLog r h = given s t (Steps.to_sync_log r) h (sync_keeps s t)
step_keeps s t (event.Get key) r h = given s t (Steps.to_get r) h (λ result a. answers s t a (λ x d. becomes d.1) reading becomes (never s t))
step_keeps s t event.Scan r h = given s t (Steps.to_scan r) h (λ result a. answers s t a (λ x d. becomes d.1) reading becomes (never s t))
step_keeps s t event.Last r h = given s t (Steps.to_last r) h (λ last d. keeps_same s t d.1)
step_keeps s t event.WantsFreeze r h = given s t (Steps.to_wants_freeze r) h (λ wants d. keeps_same s t d.1)
step_keeps s t event.Freeze r h = given s t (Steps.to_freeze r) h (λ result a. answers s t a (froze s t (upkeep.can_freeze s)) (λ f. halts_settling f) becomes (keeps_same s t))
step_keeps s t event.FlushStep r h = given s t (Steps.to_flush_step r) h (flush_keeps s t)
step_keeps s t (event.CompactBegin which) r h = given s t (Steps.to_compact_begin r) h (λ result a. answers s t a (began s t which) (never s t) (keeps_same s t) (keeps_same s t))
step_keeps s t (event.CompactStep rows) r h = given s t (Steps.to_compact_step r) h (compact_keeps s t rows)
step_keeps s t event.DeleteStep r h = given s t (Steps.to_delete_step r) h (λ result a. answers s t a (deleted s t) (λ f. halts_settling f.1) (never s t) (keeps_same s t))
step_keeps s t (event.Cut rule) r h = given s t (Steps.to_cut r) h (λ result a. flushing s t a (λ cut d. keeps_trans s d.at t (cuts_at s d.at (does_flush rule s) d.flushed) (becomes d.rest)))
step_keeps s t (event.LiveFiles flush) r h = given s t (Steps.to_live_files r) h (λ result a. flushing s t a (λ live d. cuts_at s t (does_flush (pins.flush_rule flush) s) d.flushed))
step_keeps s t (event.Unpin pin) r h = given s t (Steps.to_unpin r) h (λ result a. answers s t a (λ x d. changes s t (pins.unpinned pin s) refl refl d) (never s t) (never s t) (keeps_same s t))
step_keeps s t event.Disable r h = given s t (Steps.to_disable r) h (λ result a. answers s t a (λ count d. changes s t (record s { disables = count }) refl refl d.1) (never s t) (never s t) (keeps_same s t))
step_keeps s t event.Enable r h = given s t (Steps.to_enable r) h (λ result a. answers s t a (λ count d. changes s t (record s { disables = count }) refl refl d.1) (never s t) (never s t) (keeps_same s t))
step_keeps s t (event.CheckpointBegin dir size) r h = given s t (Steps.to_checkpoint_begin r) h (begin_keeps s t dir size)
step_keeps s t (event.CheckpointStep pin) r h = given s t (Steps.to_checkpoint_step r) h (λ result a. answers s t a (λ more d. becomes d.rest) (λ f. fails f.fails) becomes (keeps_same s t))
step_keeps s t (event.CheckpointFinish pin) r h = given s t (Steps.to_checkpoint_finish r) h (finish_keeps s t pin)
step_keeps s t (event.CheckpointStop pin) r h = given s t (Steps.to_checkpoint_stop r) h (λ result a. answers s t a (λ x d. changes s t (pins.unpinned pin s) refl refl d) (never s t) (never s t) (keeps_same s t))
step_keeps s t (event.Show dir) r h = given s t (Steps.to_show r) h (show_keeps s t dir)
step_keeps s t (event.ShowPin pin) r h = given s t (Steps.to_show_pin r) h (λ result a. answers s t a (λ x d. becomes d.1) reading becomes (keeps_same s t))
step_keeps s t (event.ReadPinned pin name) r h = given s t (Steps.to_read_pinned r) h (λ result a. answers s t a (λ x d. becomes d.1) reading becomes (keeps_same s t))

-- where the batches and the pins are the same
alike_keeps : (s t : State) → Alike s t → Keeps s t
alike_keeps s t same = keeps_as s t same.0 same.1

pub made_keeps : (s t : State) (made : Made) → Makes s made t → Keeps s t
made_keeps s t (Asked e r) h = step_keeps s t e r h
made_keeps s t (Began dir result) h = alike_keeps s t (begins s t dir result h)
made_keeps s t (Filed name result) h = alike_keeps s t (fills s t disk.Create result h)
made_keeps s t (Appended bytes result) h = alike_keeps s t (fills s t disk.Append result h)
made_keeps s t (Sealed result) h = alike_keeps s t (fills s t disk.Sync result h)
made_keeps s t (Finished current result) h = alike_keeps s t (finishes s t result h)
made_keeps s t Closed_file h = becomes h
made_keeps s t Closed_tables h = becomes h

pub run_keeps : (s t : State) (steps : List Made) → Run s steps t → Keeps s t
run_keeps s t [] run = keeps_same s t run
run_keeps s t (x ∷ steps) run = keeps_trans s run.0 t (made_keeps s run.0 x run.1) (run_keeps run.0 t steps run.2)
