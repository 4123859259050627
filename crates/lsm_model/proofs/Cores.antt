-- What each event's step moves of a state's core.
use Rattle.std.specs.Prelude.{◌≡◌, ℕ, ◌+◌, Bool, true, false, List, [], ◌∷◌, ◌++◌, length, Option, Some, None, Result}
use Rattle.std.proofs.Common.{refl, sym, ap, subst, ◌∙◌, inl, inr}
use Rattle.lsm_names.specs.declared.file_names.FileName.{FileName}
use Rattle.lsm_rows.specs.declared.operations.Op.{Op}
use Rattle.lsm_rows.specs.Replay.{Contents}
use Rattle.lsm_model.specs.Causes.{halted}
use Rattle.lsm_model.specs.declared.errors.StoreError.{StoreError}
use Rattle.lsm_model.specs.declared.cuts.FlushRule.{FlushRule}
use Rattle.lsm_model.specs.declared.cuts.Cut.{Cut}
use Rattle.lsm_model.specs.declared.cuts.LiveFiles.{LiveFiles}
use Rattle.lsm_model.specs.declared.events.Event.{Event}
use Rattle.lsm_model.specs.declared.events.Event.TheVariants as event
use Rattle.lsm_model.specs.declared.events.Which.{Which}
use Rattle.lsm_model.specs.declared.replies.Reply.{Reply}
use Rattle.lsm_model.specs.declared.replies.Flushed.{Flushed}
use Rattle.lsm_model.specs.declared.replies.Flushed.TheVariants as flush
use Rattle.lsm_model.specs.declared.replies.Begun.{Begun}
use Rattle.lsm_model.specs.declared.replies.Begun.TheVariants as begun
use Rattle.lsm_model.specs.declared.replies.Stepped.{Stepped}
use Rattle.lsm_model.specs.declared.replies.Stepped.TheVariants as merge
use Rattle.lsm_model.specs.declared.replies.Deleted.{Deleted}
use Rattle.lsm_model.specs.declared.replies.Deleted.TheVariants as delete
use Rattle.lsm_model.specs.declared.replies.JobStart.{JobStart}
use Rattle.lsm_model.specs.declared.replies.Shown.{Shown}
use Rattle.lsm_model.specs.declared.states.State.{State}
use Rattle.lsm_model.specs.declared.states.PinnedFile.{PinnedFile}
use Rattle.lsm_model.specs.declared.states.Holder.{Holder}
use Rattle.lsm_model.specs.declared.states.Holder.TheVariants.{Caller, Checkpoint}
use Rattle.lsm_model.specs.States.{built_by}
use Rattle.lsm_model.specs.Halting.{Aimed}
use Rattle.lsm_model.specs.Moves.{Becomes, Settles, Draws, Flushes, Halts, HaltsSettling, FailsToRead, Fails}
use Rattle.lsm_model.specs.Answers.{Answers, Done, Failed, Wanting, Refused, MayFlush, does_flush, FailsFlushing, AnswersFlushing, Usual, No_number, No_place}
use Rattle.lsm_model.specs.Steps as Steps
use Rattle.lsm_model.specs.Steps.{Given, Step, to_write}
use Rattle.lsm_model.specs.Runs.{Core, core, Moves, Same, Wrote, Pinned, Spent, Unpinned, Stepped as Progressed, Published, Counted, where_ok, added_by}
use Rattle.lsm_model.specs.Writes as writes
use Rattle.lsm_model.specs.Reads as reads
use Rattle.lsm_model.specs.Upkeep as upkeep
use Rattle.lsm_model.specs.Pins as pins
use Rattle.lsm_model.specs.Checkpoints as checkpoints

-- ---- where a state goes on without a change of its core

module _ {s t : State} where
  pub becomes_same : Becomes s t → core t ≡ core s
  becomes_same b = ap core b.rest

  pub settles_same : Settles s t → core t ≡ core s
  settles_same d = ap core d.rest.rest

  pub flushes_same : Flushes s t → core t ≡ core s
  flushes_same f = ap core f.rest.rest.rest

  pub halts_same : {calls : List Aimed} → Halts calls s t → core t ≡ core s
  halts_same h = ap core h.rest.rest

  pub reading_same : FailsToRead s t → core t ≡ core s
  reading_same f = ap core f.rest.rest

  pub fails_same : {calls : List Aimed} → Fails calls s t → core t ≡ core s
  fails_same {calls = calls} f = elim f [ inl r ↦ reading_same r | inr h ↦ halts_same {calls = calls} h ]

  pub draws_same : {most : ℕ} → Draws most s t → core t ≡ core s
  draws_same d = ap core d.rest.rest.rest

  pub merges_same : {most : ℕ} → upkeep.Merges most s t → core t ≡ core s
  merges_same d = ap core d.rest.rest.rest

module _ {s t : State} where
  pub halts_settling_same : {calls : List Aimed} → HaltsSettling calls s t → core t ≡ core s
  halts_settling_same {calls = calls} h = halts_same {calls = calls} h.halts ∙ settles_same h.before

pub may_flush_same : (s t : State) (flushes : Bool) → MayFlush flushes s t → core t ≡ core s
may_flush_same s t true m = flushes_same m
may_flush_same s t false m = becomes_same m

pub cuts_at_same : (s t : State) (flushes : Bool) → pins.CutsAt flushes s t → core t ≡ core s
cuts_at_same s t true m = flushes_same m.rest
cuts_at_same s t false m = becomes_same m

pub flushing_fails_same : (s t : State) (by : FlushRule) → FailsFlushing by s t → core t ≡ core s
flushing_fails_same s t by f = halts_same f.halts ∙ flushes_same f.before

-- ---- answers

module _ (s t : State) where
  -- the core stays where each answer leaves it
  pub answers_same : {A : Type 0} {known : Option StoreError} {Does : A → Type 0} {fails wants stays : Type 0} {result : Result A StoreError}
      → Answers known Does fails wants stays result
      → ((x : A) → Does x → core t ≡ core s) → (fails → core t ≡ core s) → (wants → core t ≡ core s) → (stays → core t ≡ core s) → core t ≡ core s
  answers_same a does fails wants stays = elim a [
    | Done x is known d ↦ does x d
    | Failed is known f ↦ fails f
    | Wanting is known w ↦ wants w
    | Refused e is known h ↦ stays h
  ]

  pub stays_same : t ≡ s → core t ≡ core s
  stays_same e = ap core e

  nothing_same : ⊥ → core t ≡ core s
  nothing_same h = absurd h

  pub given_same : {A : Type 0} (o : Option A) {P : A → Type 0} → Given o P → ((x : A) → P x → core t ≡ core s) → Moves (core s) (core t) []
  given_same None h k = absurd h
  given_same (Some x) h k = Same refl (k x h)

-- ---- events that leave the core

module _ (s t : State) where
  sync_log_same : (result : Result (Unit {0}) StoreError) → writes.SyncsLog s result t → core t ≡ core s
  sync_log_same result a = answers_same s t a (λ x d. becomes_same d) (λ f. halts_settling_same f) (nothing_same s t) (stays_same s t)

  get_same : (key : List ℕ) (result : Result (Option (List ℕ)) StoreError) → reads.Gets s key result t → core t ≡ core s
  get_same key result a = answers_same s t a (λ x d. becomes_same d.1) reading_same becomes_same (nothing_same s t)

  scan_same : (result : Result Contents StoreError) → reads.Scans s result t → core t ≡ core s
  scan_same result a = answers_same s t a (λ x d. becomes_same d.1) reading_same becomes_same (nothing_same s t)

  show_same : (dir : List ℕ) (result : Result Shown StoreError) → reads.Shows s dir result t → core t ≡ core s
  show_same dir result a = elim a [ reads.As_it_reads r b ↦ becomes_same b | reads.Failed is f ↦ reading_same f | reads.Wanting is b ↦ becomes_same b ]

  show_pin_same : (pin : ℕ) (result : Result Shown StoreError) → reads.ShowsPin s pin result t → core t ≡ core s
  show_pin_same pin result a = answers_same s t a (λ x d. becomes_same d.1) reading_same becomes_same (stays_same s t)

  read_pinned_same : (pin : ℕ) (name : FileName) (result : Result (List ℕ) StoreError) → reads.ReadsPinned s pin name result t → core t ≡ core s
  read_pinned_same pin name result a = answers_same s t a (λ x d. becomes_same d.1) reading_same becomes_same (stays_same s t)

  froze : (can frozen : Bool) → upkeep.FreezesAs s t can frozen → core t ≡ core s
  froze can true d = settles_same d.1
  froze can false d = stays_same s t d.1

  freeze_same : (result : Result Bool StoreError) → upkeep.Freezes s result t → core t ≡ core s
  freeze_same result a = answers_same s t a (froze (upkeep.can_freeze s)) (λ f. halts_settling_same f) becomes_same (stays_same s t)

  flushed : (did : Flushed) → upkeep.FlushesAs s t did → core t ≡ core s
  flushed flush.NoJob d = stays_same s t d.1
  flushed flush.More d = draws_same d.1
  flushed flush.Installed d = flushes_same d.1.rest

  flush_same : (result : Result Flushed StoreError) → upkeep.StepsFlush s result t → core t ≡ core s
  flush_same result a = elim a [
    | upkeep.Usual b ↦ answers_same s t b flushed (λ f. halts_settling_same f.1) draws_same (stays_same s t)
    | upkeep.No_number next is known some w d ↦ draws_same d
    | upkeep.No_place live adding is known some w d ↦ draws_same d
  ]

  compaction_began : (which : Which) (began : Begun) → upkeep.BeginsAs s which t began → core t ≡ core s
  compaction_began which (begun.UnderWay inputs) d = stays_same s t d.1
  compaction_began which begun.Nothing d = stays_same s t d.2
  compaction_began which begun.Started d = ap core d.2.rest

  compact_begin_same : (which : Which) (result : Result Begun StoreError) → upkeep.BeginsCompaction s which result t → core t ≡ core s
  compact_begin_same which result a = answers_same s t a (compaction_began which) (nothing_same s t) (stays_same s t) (stays_same s t)

  merged : (rows : ℕ) (did : Stepped) → upkeep.MergesAs rows s t did → core t ≡ core s
  merged rows merge.NoJob d = stays_same s t d.1
  merged rows merge.More d = merges_same d.1
  merged rows merge.Installed d = ap core d.1.rest.rest.rest ∙ merges_same d.1.before

  merging_fails : (rows : ℕ) → upkeep.FailsMerging rows s t → core t ≡ core s
  merging_fails rows f = elim f [ inl h ↦ halts_settling_same h | inr h ↦ reading_same h.fails ∙ merges_same h.before ]

  compact_step_same : (rows : ℕ) (result : Result Stepped StoreError) → upkeep.StepsCompaction s rows result t → core t ≡ core s
  compact_step_same rows result a = elim a [
    | upkeep.Usual b ↦ answers_same s t b (merged rows) (λ f. merging_fails rows f.1) merges_same (stays_same s t)
    | upkeep.No_number next is known some w d ↦ merges_same d
    | upkeep.No_place live adding is known some w ↦ becomes_same w.rest ∙ merges_same w.before
  ]

  deleted : (did : Deleted) → upkeep.DeletesAs s t did → core t ≡ core s
  deleted (delete.Disabled count) d = stays_same s t d.2
  deleted (delete.Removed name) d = settles_same d.1
  deleted delete.Nothing d = settles_same d.1

  delete_same : (result : Result Deleted StoreError) → upkeep.Deletes s result t → core t ≡ core s
  delete_same result a = answers_same s t a deleted (λ f. halts_settling_same f.1) (nothing_same s t) (stays_same s t)

  -- where nothing but rows is moved, the core stays
  flushing_same : {A : Type 0} {known : Option StoreError} {by : FlushRule} {Does : A → Type 0} {result : Result A StoreError}
      → AnswersFlushing known by s Does result t → ((x : A) → Does x → Moves (core s) (core t) []) → Moves (core s) (core t) []
  flushing_same {by = by} a does = elim a [
    | Usual b ↦ elim b [
      | Done x is known d ↦ does x d
      | Failed is known f ↦ Same refl (flushing_fails_same s t by f)
      | Wanting is known w ↦ Same refl (may_flush_same s t (does_flush by s) w)
      | Refused e is known h ↦ Same refl (stays_same s t h)
    ]
    | No_number next is known l ↦ Same refl (may_flush_same s t (does_flush by s) l.rest)
    | No_place live adding is known l ↦ Same refl (may_flush_same s t (does_flush by s) l.rest)
  ]

-- ---- events that move it

-- a core with one pin more
abbrev pub with_new_pin : Holder → ℕ → List PinnedFile → Core → Core
with_new_pin holder manifest files s = record s {
  pins = s.pins ++ (record { number = s.greatest_pin + 1; batches = length s.accepted; manifest = manifest; files = files; holder = holder }) ∷ [];
  greatest_pin = s.greatest_pin + 1;
}

module _ (s t : State) where
  write_moves : (ops : List Op) (sync : Bool) (o : Option (Result ℕ StoreError)) → Given o (λ result. writes.Writes s ops sync result t) → Moves (core s) (core t) (where_ok ops o)
  write_moves ops sync None h = absurd h
  write_moves ops sync (Some result) h =
      let P : Result ℕ StoreError → Type 0 = λ r. Moves (core s) (core t) (where_ok ops (Some r)) in
      elim h [
        | Done last is known d ↦ subst P (sym is) (Wrote ops refl (becomes_same d.1.rest))
        | Failed is known f ↦ subst P (sym is) (Same refl (halts_same f))
        | Wanting is known w ↦ subst P (sym is) (Same refl (becomes_same w))
        | Refused e is known w ↦ subst P (sym is) (Same refl (stays_same s t w))
      ]

  cut_moves : (by : FlushRule) (o : Option (Result Cut StoreError)) → Given o (λ result. pins.Cuts s by result t) → Moves (core s) (core t) []
  cut_moves by None h = absurd h
  cut_moves by (Some result) h = flushing_same s t h (λ (cut : Cut) (c : pins.IsCut s by cut t). Pinned Caller cut.manifest c.files refl (becomes_same c.rest ∙ ap (with_new_pin Caller cut.manifest c.files) (cuts_at_same s c.at (does_flush by s) c.flushed)))

  live_moves : (by : FlushRule) (o : Option (Result LiveFiles StoreError))
      → Given o (λ result. AnswersFlushing (halted s) by s (λ (live : LiveFiles). pins.AreLiveFiles s by live t) result t) → Moves (core s) (core t) []
  live_moves by None h = absurd h
  live_moves by (Some result) h = flushing_same s t h (λ (live : LiveFiles) (l : pins.AreLiveFiles s by live t). Same refl (cuts_at_same s t (does_flush by s) l.flushed))

  unpin_moves : (pin : ℕ) (o : Option (Result (Unit {0}) StoreError)) → Given o (λ result. pins.Unpins s pin result t) → Moves (core s) (core t) []
  unpin_moves pin None h = absurd h
  unpin_moves pin (Some result) h =
      elim h [ Done x is known d ↦ Unpinned pin refl (ap core d) | Failed is known f ↦ absurd f | Wanting is known w ↦ absurd w | Refused e is known w ↦ Same refl (stays_same s t w) ]

  stop_moves : (pin : ℕ) (o : Option (Result (Unit {0}) StoreError)) → Given o (λ result. checkpoints.StopsCheckpoint s pin result t) → Moves (core s) (core t) []
  stop_moves pin None h = absurd h
  stop_moves pin (Some result) h =
      elim h [ Done x is known d ↦ Unpinned pin refl (ap core d) | Failed is known f ↦ absurd f | Wanting is known w ↦ absurd w | Refused e is known w ↦ Same refl (stays_same s t w) ]

  disable_moves : (o : Option (Result ℕ StoreError)) → Given o (λ result. pins.Disables s result t) → Moves (core s) (core t) []
  disable_moves None h = absurd h
  disable_moves (Some result) h =
      elim h [ Done x is known d ↦ Counted x refl (ap core d.1) | Failed is known f ↦ absurd f | Wanting is known w ↦ absurd w | Refused e is known w ↦ Same refl (stays_same s t w) ]

  enable_moves : (o : Option (Result ℕ StoreError)) → Given o (λ result. pins.Enables s result t) → Moves (core s) (core t) []
  enable_moves None h = absurd h
  enable_moves (Some result) h =
      elim h [ Done x is known d ↦ Counted x refl (ap core d.1) | Failed is known f ↦ absurd f | Wanting is known w ↦ absurd w | Refused e is known w ↦ Same refl (stays_same s t w) ]

  given_up_moves : (dir : List ℕ) (by : FlushRule) (result : Result JobStart StoreError) → checkpoints.GivesUp s dir by result t → Moves (core s) (core t) []
  given_up_moves dir by result g =
      let spent : core (checkpoints.with_pin_spent g.cut) ≡ core (checkpoints.with_pin_spent s) = ap (λ (m : Core). record m { greatest_pin = m.greatest_pin + 1 }) (may_flush_same s g.cut (does_flush by s) g.before) in
      elim g.why [ inl f ↦ Spent refl (fails_same f.1 ∙ spent) | inr w ↦ Spent refl (becomes_same w.1 ∙ spent) ]

  checkpoint_begin_moves : (dir : List ℕ) (size : ℕ) (o : Option (Result JobStart StoreError)) → Given o (λ result. checkpoints.BeginsCheckpoint s dir size result t) → Moves (core s) (core t) []
  checkpoint_begin_moves dir size None h = absurd h
  checkpoint_begin_moves dir size (Some result) h = elim h [
    | checkpoints.Refused e is known w ↦ Same refl (stays_same s t w)
    | checkpoints.Failed is known f ↦ Same refl (reading_same f)
    | checkpoints.Exists is known taken b ↦ Same refl (becomes_same b)
    | checkpoints.Cut known free a ↦ flushing_same s t a (λ (start : JobStart) (c : checkpoints.IsBegun s dir (checkpoints.size_rule size) start t).
        Pinned (Checkpoint dir (length c.files)) c.manifest c.files refl
        (becomes_same c.rest ∙ ap (with_new_pin (Checkpoint dir (length c.files)) c.manifest c.files) (cuts_at_same s c.at (does_flush (checkpoints.size_rule size) s) c.flushed)))
    | checkpoints.Given_up known free g ↦ given_up_moves dir (checkpoints.size_rule size) result g
  ]

  checkpoint_step_moves : (pin : ℕ) (o : Option (Result Bool StoreError)) → Given o (λ result. checkpoints.StepsCheckpoint s pin result t) → Moves (core s) (core t) []
  checkpoint_step_moves pin None h = absurd h
  checkpoint_step_moves pin (Some result) h = elim h [
    | Done more is known d ↦ Progressed pin d.pin (Checkpoint d.dir d.now) refl d.job.found (ap built_by (sym d.job.holder)) (becomes_same d.rest)
    | Failed is known f ↦ Same refl (fails_same f.fails)
    | Wanting is known w ↦ Same refl (becomes_same w)
    | Refused e is known w ↦ Same refl (stays_same s t w)
  ]

  checkpoint_finish_moves : (pin : ℕ) (o : Option (Result ℕ StoreError)) → Given o (λ result. checkpoints.FinishesCheckpoint s pin result t) → Moves (core s) (core t) []
  checkpoint_finish_moves pin None h = absurd h
  checkpoint_finish_moves pin (Some result) h = elim h [
    | checkpoints.No_job e is known w ↦ Same refl (stays_same s t w)
    | checkpoints.Halted e is known halt w ↦ Unpinned pin refl (ap core w)
    | checkpoints.Done sequence is known d ↦ Published d.pin.number (checkpoints.checkpoint_folder s d.pin d.dir true) refl (becomes_same d.rest)
    | checkpoints.Failed is known f ↦ elim f.fails [
      | inl g ↦ Unpinned pin refl (fails_same g)
      | inr g ↦ Published f.pin.number (checkpoints.checkpoint_folder s f.pin f.dir false) refl (halts_same g.1)
    ]
    | checkpoints.Wanting is known halt w ↦ Unpinned pin refl (becomes_same w)
    | checkpoints.Taken dir is known w ↦ Unpinned pin refl (becomes_same w.rest)
  ]

-- ---- every event

-- a step moves the core by its batch, and else as `Moves` says
pub moved : (s t : State) (e : Event) (r : Reply) → Step s e r t → Moves (core s) (core t) (added_by e r)
unfolding Step
moved s t (event.Write ops sync) r h = write_moves s t ops sync (Steps.to_write r) h
moved s t event.SyncLog r h = given_same s t (Steps.to_sync_log r) h (sync_log_same s t)
moved s t (event.Get key) r h = given_same s t (Steps.to_get r) h (get_same s t key)
moved s t event.Scan r h = given_same s t (Steps.to_scan r) h (scan_same s t)
moved s t event.Last r h = given_same s t (Steps.to_last r) h (λ last d. stays_same s t d.1)
moved s t event.WantsFreeze r h = given_same s t (Steps.to_wants_freeze r) h (λ wants d. stays_same s t d.1)
moved s t event.Freeze r h = given_same s t (Steps.to_freeze r) h (freeze_same s t)
moved s t event.FlushStep r h = given_same s t (Steps.to_flush_step r) h (flush_same s t)
moved s t (event.CompactBegin which) r h = given_same s t (Steps.to_compact_begin r) h (compact_begin_same s t which)
moved s t (event.CompactStep rows) r h = given_same s t (Steps.to_compact_step r) h (compact_step_same s t rows)
moved s t event.DeleteStep r h = given_same s t (Steps.to_delete_step r) h (delete_same s t)
moved s t (event.Cut rule) r h = cut_moves s t rule (Steps.to_cut r) h
moved s t (event.LiveFiles flush) r h = live_moves s t (pins.flush_rule flush) (Steps.to_live_files r) h
moved s t (event.Unpin pin) r h = unpin_moves s t pin (Steps.to_unpin r) h
moved s t event.Disable r h = disable_moves s t (Steps.to_disable r) h
moved s t event.Enable r h = enable_moves s t (Steps.to_enable r) h
moved s t (event.CheckpointBegin dir size) r h = checkpoint_begin_moves s t dir size (Steps.to_checkpoint_begin r) h
moved s t (event.CheckpointStep pin) r h = checkpoint_step_moves s t pin (Steps.to_checkpoint_step r) h
moved s t (event.CheckpointFinish pin) r h = checkpoint_finish_moves s t pin (Steps.to_checkpoint_finish r) h
moved s t (event.CheckpointStop pin) r h = stop_moves s t pin (Steps.to_checkpoint_stop r) h
moved s t (event.Show dir) r h = given_same s t (Steps.to_show r) h (show_same s t dir)
moved s t (event.ShowPin pin) r h = given_same s t (Steps.to_show_pin r) h (show_pin_same s t pin)
moved s t (event.ReadPinned pin name) r h = given_same s t (Steps.to_read_pinned r) h (read_pinned_same s t pin name)
