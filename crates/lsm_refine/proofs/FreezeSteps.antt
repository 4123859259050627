-- A freeze, at each exit: the store's answer is a step of the abstract store, and the store is good behind it.
use Rattle.std.specs.Prelude.{◌≡◌, ◌≢◌, ◌⊎◌, ℕ, ◌-◌, ◌^◌, ◌<◌, ◌≤◌, Bool, true, false, not, ◌&&◌, ◌==◌, nat_le, List, [], ◌∷◌, length, All, Option, Some, None, option_map, Result, Ok, Err}
use Rattle.std.proofs.Common.{inl, refl, sym, ap, subst, ◌∙◌, arith}
use Rattle.std.proofs.lemmas.Bool.Decides.{nat_tests}
use Rattle.lsm_io.specs.Causes.{Rose}
use Rattle.lsm_names.specs.FileNames.{IsFileName}
use Rattle.lsm_names.specs.declared.file_names.FileName.TheVariants.{Log}
use Rattle.lsm_rows.specs.declared.operations.Op.{Op}
use Rattle.lsm_rows.specs.Rows.{rows_of}
use Rattle.lsm_disk.specs.State as disk
use Rattle.lsm_disk.specs.State.{Seen, Story, Created, Names_synced, state_of, after}
use Rattle.lsm_disk.specs.Images.{Tree, IsImage}
use Rattle.lsm_disk.specs.Kept.{Making}
use Rattle.lsm_disk.specs.Goes.{Went}
use Rattle.lsm_disk.specs.Answers.{Makes}
use Rattle.lsm_disk.specs.Tree.{IsLawful}
use Rattle.lsm_disk.specs.Dest.{path_in}
use Rattle.lsm_disk.specs.declared.calls.Halt.{Halt}
use Rattle.lsm_disk.specs.declared.calls.DiskRefusal.{DiskRefusal}
use Rattle.lsm_disk.proofs.Lawful.{lawful_synced}
use Rattle.lsm_disk.proofs.Runs.{went_start, went_ok, went_then, went_weaker, went_wider}
use Rattle.lsm_wal.specs.Making.{MayHaveNew, IsMade}
use Rattle.lsm_model.specs.declared.errors.StoreError.{StoreError}
use Rattle.lsm_model.specs.declared.errors.StoreError.TheVariants as error
use Rattle.lsm_model.specs.declared.events.Event.TheVariants as event
use Rattle.lsm_model.specs.declared.replies.Reply.TheVariants as reply
use Rattle.lsm_model.specs.declared.states.State.{State}
use Rattle.lsm_model.specs.Answers.{Done, Failed, Wanting, Refused}
use Rattle.lsm_model.specs.Causes.{first_of, refused_if, halted}
use Rattle.lsm_model.specs.Halting.{IsMet, freeze_calls}
use Rattle.lsm_model.specs.Moves.{Settles, HaltsSettling}
use Rattle.lsm_model.specs.Steps.{Step}
use Rattle.lsm_model.specs.Upkeep.{can_freeze, no_number_for_log, with_frozen, Freezes}
use Rattle.lsm_refine.specs.Kept.{Shown}
use Rattle.lsm_refine.specs.Parts.{Parts, batches_in, first_logged, first_in_last}
use Rattle.lsm_refine.specs.Good.{IsRunning, Good, IsUnchanged, with_counts}
use Rattle.lsm_refine.specs.Moments.{ReadsAsCrashed, ImagesShow}
use Rattle.lsm_refine.specs.Beside.{WritesAt, HasLast}
use Rattle.lsm_refine.specs.Grown.{IsDrawn, synced_shown, synced_state, frozen_shown, frozen_state, halted_shown, halted_state}
use Rattle.lsm_refine.proofs.FrozenLemmas.{no_older, later, frozen_good}
use Rattle.lsm_refine.proofs.NewLogLemmas.{before_reads, making_shows, making_halts}
use Rattle.lsm_refine.proofs.RolledLemmas.{none_logged, none_of, of_none}
use Rattle.lsm_refine.proofs.SyncedLemmas.{all_sure, syncing, log_synced, sync_writes, sync_last, synced_good, sync_halts, image_reads}
use Rattle.lsm_refine.proofs.BesideLemmas.{writes_none}
use Rattle.lsm_refine.proofs.UnchangedLemmas.{unchanged_good}
use Rattle.lsm_refine.proofs.WriteSteps.{Steps}
use Rattle.lsm_refine.proofs.WritingLemmas.{durable_few}

freeze_step : (s t : State) (r : Result Bool StoreError) → Freezes s r t → Step s event.Freeze (reply.Freeze r) t
unfolding Step
freeze_step s t r step = step

some_length : {A : Type 0} (xs : List A) → xs ≢ [] → length xs ≢ 0
some_length [] other same = other refl
some_length (x ∷ xs) other same = omega (arith, same)

no_length : {A : Type 0} (xs : List A) → length xs ≡ 0 → xs ≡ []
no_length [] same = refl
no_length (x ∷ xs) same = absurd (omega (arith, same))

test_can : (a f : ℕ) → a ≢ 0 → f ≡ 0 → (not (a == 0) && f == 0) ≡ true
test_can a f some none = grind (arith, nat_tests)

test_no_rows : (a f : ℕ) → a ≡ 0 → (not (a == 0) && f == 0) ≡ false
test_no_rows a f none = grind (arith, nat_tests)

test_some_frozen : (a f : ℕ) → f ≢ 0 → (not (a == 0) && f == 0) ≡ false
test_some_frozen a f some = grind (arith, nat_tests)

test_end : (n : ℕ) → 2 ^ 56 - 1 ≤ n → nat_le (2 ^ 56 - 1) n ≡ true
test_end n large = grind (arith, nat_tests)

test_left : (n : ℕ) → n < 2 ^ 56 - 1 → nat_le (2 ^ 56 - 1) n ≡ false
test_left n small = grind (arith, nat_tests)

-- ---- what the store knows

pub freeze_halted : (v : Shown) (s : State) (good : Good v s) (first : Halt) → v.halt ≡ Some first
    → Steps s event.Freeze (reply.Freeze (Err (error.Halted first))) v
freeze_halted v s good first is = (
  s,
  freeze_step s s (Err (error.Halted first)) (Refused (error.Halted first) refl
      (ap (λ (h : Option Halt). first_of (option_map error.Halted h ∷ no_number_for_log (can_freeze s) s ∷ []))
      (sym good.kept.halt ∙ is)) refl),
  good,
)

module _ (v : Shown) (s : State) (good : Good v s) (run : IsRunning (state_of good.story) v s) (none : v.halt ≡ None) where
  abbrev parts : Parts
  parts = run.parts

  can : v.kept.active ≢ [] → v.kept.frozen ≡ [] → can_freeze s ≡ true
  can some is =
      let last : parts.last.batches ≢ [] = λ same. some (of_none
      (rows_of (first_in_last parts) parts.last.batches) v.kept.active run.sane.logs.active.same
      (ap (rows_of (first_in_last parts)) same)) in
      test_can s.active s.frozen (λ same. some_length parts.last.batches last (sym run.works.active ∙ same))
      (run.works.frozen ∙ ap (λ (l : List (List Op)). length l) (no_older (state_of good.story) v s run is))

  cannot_active : v.kept.active ≡ [] → can_freeze s ≡ false
  cannot_active is =
      let no_last : parts.last.batches ≡ [] =
      none_logged (first_in_last parts) parts.last.batches run.sane.logs.last.each
      (none_of (rows_of (first_in_last parts) parts.last.batches) v.kept.active run.sane.logs.active.same is) in
      test_no_rows s.active s.frozen (run.works.active ∙ ap (λ (l : List (List Op)). length l) no_last)

  cannot_frozen : v.kept.frozen ≢ [] → can_freeze s ≡ false
  cannot_frozen some = test_some_frozen s.active s.frozen (λ same. some
      (of_none (rows_of (first_logged parts) (batches_in parts.older)) v.kept.frozen run.sane.logs.frozen.same
      (ap (rows_of (first_logged parts)) (no_length (batches_in parts.older) (sym run.works.frozen ∙ same)))))

  known_by : (b : Bool) → can_freeze s ≡ b → first_of (halted s ∷ no_number_for_log (can_freeze s) s ∷ [])
      ≡ first_of (None ∷ no_number_for_log b s ∷ [])
  known_by b is =
      ap (λ (h : Option Halt). first_of (option_map error.Halted h ∷ no_number_for_log (can_freeze s) s ∷ [])) (sym good.kept.halt ∙ none)
      ∙ ap (λ (c : Bool). first_of (None ∷ no_number_for_log c s ∷ [])) is

  known_none : can_freeze s ≡ true → v.kept.next < 2 ^ 56 - 1 → first_of (halted s ∷ no_number_for_log (can_freeze s) s ∷ []) ≡ None
  known_none is small = known_by true is ∙ ap (λ (b : Bool). first_of (None ∷ refused_if b (error.NumbersFull s.next) ∷ []))
      (test_left s.next (omega (arith, small, run.works.next)))

  -- ---- exits before the disk is called

  idle : can_freeze s ≡ false → Steps s event.Freeze (reply.Freeze (Ok false)) v
  idle is = (s, freeze_step s s (Ok false) (Done false refl (known_by false is) (is, refl)), good)

  -- there are no active rows, or some are frozen
  pub freeze_nothing : v.kept.active ≡ [] → Steps s event.Freeze (reply.Freeze (Ok false)) v
  freeze_nothing is = idle (cannot_active is)

  pub freeze_no_room : v.kept.frozen ≢ [] → Steps s event.Freeze (reply.Freeze (Ok false)) v
  freeze_no_room some = idle (cannot_frozen some)

  module _ (some : v.kept.active ≢ []) (no_frozen : v.kept.frozen ≡ []) where
    -- no number is left
    pub freeze_full : 2 ^ 56 - 1 ≤ v.kept.next → Steps s event.Freeze (reply.Freeze (Err (error.NumbersFull v.kept.next))) v
    freeze_full full =
        subst (λ (n : ℕ). Steps s event.Freeze (reply.Freeze (Err (error.NumbersFull n))) v) run.works.next (
          s,
          freeze_step s s (Err (error.NumbersFull s.next))
              (Refused (error.NumbersFull s.next) refl (known_by true (can some no_frozen)
              ∙ ap (λ (b : Bool). first_of (None ∷ refused_if b (error.NumbersFull s.next) ∷ []))
              (test_end s.next (omega (arith, full, run.works.next)))) refl),
          good,
        )

    module _ (small : v.kept.next < 2 ^ 56 - 1) where
      -- memory was wanting, and nothing has changed but the disk's counts
      pub freeze_wanting : (w : Shown) → IsUnchanged good.story v w → w.halt ≡ v.halt → v.disk.faults ≤ w.disk.faults
          → v.disk.refusals ≤ w.disk.refusals
          → Steps s event.Freeze (reply.Freeze (Err error.NoMemory)) w
      freeze_wanting w same halt faults refusals = (
        with_counts w.disk s,
        freeze_step s (with_counts w.disk s) (Err error.NoMemory)
            (Wanting refl (known_none (can some no_frozen) small)
            (record {
              rest = refl;
              faults = omega (arith, good.counts.faults, faults);
              refusals = omega (arith, good.counts.refusals, refusals);
            })),
        unchanged_good v w s good same halt,
      )

      -- ---- behind the disk calls

      module _ (seen : Seen) (faults : v.disk.faults ≤ seen.faults) (refusals : v.disk.refusals ≤ seen.refusals) where
        becomes_failed : (at : Halt) → IsMet s.own at freeze_calls → Rose v.disk.faults seen.faults
            → HaltsSettling freeze_calls s (halted_state seen at s.doubtful s)
        becomes_failed at met rose = record {
          settled = s;
          before = record {
            rest = record { rest = refl; faults = omega arith; refusals = omega arith };
            durable = omega arith;
            within = durable_few v s good run;
          };
          halts = record {
            first = at;
            among = met;
            rose = subst (λ (n : ℕ). Rose n seen.faults) good.counts.faults rose;
            rest = record {
              rest = refl;
              faults = omega (arith, good.counts.faults, faults);
              refusals = omega (arith, good.counts.refusals, refusals);
            };
          };
        }

        failed : (at : Halt) → IsMet s.own at freeze_calls → Rose v.disk.faults seen.faults
            → Good (halted_shown seen at v) (halted_state seen at s.doubtful s)
            → Steps s event.Freeze (reply.Freeze (Err error.DiskFault)) (halted_shown seen at v)
        failed at met rose is = (
          halted_state seen at s.doubtful s,
          freeze_step s (halted_state seen at s.doubtful s) (Err error.DiskFault)
              (Failed refl (known_none (can some no_frozen) small) (becomes_failed at met rose)),
          is,
        )

        -- the sync of the old log failed
        pub freeze_sync_fault : (at : Halt) → IsMet s.own at freeze_calls → Rose v.disk.faults seen.faults
            → (seen.told ≡ v.disk.told) ⊎ Makes v.disk.told (syncing v s good run) seen.told
            → Steps s event.Freeze (reply.Freeze (Err error.DiskFault)) (halted_shown seen at v)
        freeze_sync_fault at met rose left = failed at met rose (sync_halts v s good run seen at left)

        module _ (lawful : IsLawful (state_of good.story)) (fits : IsFileName (Log v.kept.next))
            (drawn : All (IsDrawn v.kept.next) v.kept.known) where
          lawful_x : IsLawful (log_synced v s good run)
          lawful_x = lawful_synced (state_of good.story) _ lawful

          -- the new log's making failed
          pub freeze_create_fault : (T : Type 0) (story : Story) (r : DiskRefusal) → IsMet s.own r.at freeze_calls
              → Rose v.disk.faults seen.faults → seen.told ≡ Some story
              → IsMade {T = T} (log_synced v s good run) (path_in v.dir (Log v.kept.next)) (Err r) (state_of story)
              → Steps s event.Freeze (reply.Freeze (Err error.DiskFault)) (halted_shown seen r.at v)
          freeze_create_fault T story r met rose told made =
              failed r.at met rose (making_halts v s good run (log_synced v s good run) (sync_writes v s good run)
              (sync_last v s good run) lawful_x fits drawn no_frozen seen r.at T story r told made)

          -- memory was wanting for it: the old log is synced
          pub freeze_create_wanting : (story : Story) → seen.told ≡ Some story → state_of story ≡ log_synced v s good run
              → Steps s event.Freeze (reply.Freeze (Err error.NoMemory)) (synced_shown seen v)
          freeze_create_wanting story told at =
              let t : State = synced_state seen s.durable s in (
                t,
                freeze_step s t (Err error.NoMemory) (Wanting refl (known_none (can some no_frozen) small)
                    (record {
                      rest = refl;
                      faults = omega (arith, good.counts.faults, faults);
                      refusals = omega (arith, good.counts.refusals, refusals);
                    })),
                synced_good v s good run seen s.durable story told none
                    (subst (WritesAt v.dir (Log run.parts.last.number) (state_of good.story)) (sym at)
                    (sync_writes v s good run)) (length run.parts.last.batches)
                    (subst (λ (y : disk.State). HasLast y v.dir run.parts (length run.parts.last.batches)) (sym at)
                    (sync_last v s good run))
                    (omega (arith, durable_few v s good run, all_sure v s good run)) (durable_few v s good run),
              )

          -- Ok
          pub freeze_ok : (story : Story) → seen.told ≡ Some story
              → state_of story ≡ after (after (log_synced v s good run) (Created (path_in v.dir (Log v.kept.next)))) Names_synced
              → Steps s event.Freeze (reply.Freeze (Ok true)) (frozen_shown seen v)
          freeze_ok story told at =
              let t : State = frozen_state seen s in
              let settles : Settles (with_frozen s) t = record {
                rest = record {
                  rest = refl;
                  faults = omega (arith, good.counts.faults, faults);
                  refusals = omega (arith, good.counts.refusals, refusals);
                };
                durable = durable_few v s good run;
                within = omega arith;
              } in (
                t,
                freeze_step s t (Ok true) (Done true refl (known_none (can some no_frozen) small) (can some no_frozen, settles)),
                frozen_good v s good run (log_synced v s good run) (sync_writes v s good run)
                    (sync_last v s good run) lawful_x fits drawn no_frozen seen story told none at,
              )

-- ---- images

module _ (v : Shown) (s : State) (good : Good v s) (run : IsRunning (state_of good.story) v s) (no_frozen : v.kept.frozen ≡ [])
    (lawful : IsLawful (state_of good.story)) (fits : IsFileName (Log v.kept.next)) (drawn : All (IsDrawn v.kept.next) v.kept.known) where
  at_start : (x : disk.State) → x ≡ state_of good.story → (t : Tree) → IsImage x t → ReadsAsCrashed s t
  at_start x is t i =
      image_reads v s good run (state_of good.story) (writes_none v.dir (Log run.parts.last.number)
      (state_of good.story)) run.parts.synced run.sane.logs.last run.tied.durable t
      (subst (λ (y : disk.State). IsImage y t) is i)

  at_sync : (x : disk.State) → x ≡ log_synced v s good run → (t : Tree) → IsImage x t → ReadsAsCrashed s t
  at_sync x is t i =
      before_reads v s good run (log_synced v s good run) (sync_writes v s good run) (sync_last v s good run)
      (lawful_synced (state_of good.story) _ lawful) fits drawn no_frozen t
      (subst (λ (y : disk.State). IsImage y t) is i)

  -- each image of the sync of the old log and of the making of the new one reads as a crash leaves the state before
  pub freeze_shows : (mid told : Option Story) (J : Story → disk.State → Type 0) (later : State)
      → Makes v.disk.told (syncing v s good run) mid
      → ((story : Story) → mid ≡ Some story → Went story told (Making (path_in v.dir (Log v.kept.next)))
      (MayHaveNew (state_of story) (path_in v.dir (Log v.kept.next))) (J story))
      → ImagesShow good.story told s later
  freeze_shows mid told J later makes made =
      went_wider (λ c. Unit {0}) (λ c. Unit {0}) (λ x t. ReadsAsCrashed s t)
      (λ x t. ReadsAsCrashed s t ⊎ ReadsAsCrashed later t) (λ c is. tt) (λ x t is. inl is)
      (went_then synced (λ story tells at. went_weaker (J story) (λ x. Unit {0}) (λ x is. tt)
      (making_shows v s good run (log_synced v s good run) (sync_writes v s good run) (sync_last v s good run)
      (lawful_synced (state_of good.story) _ lawful) fits drawn no_frozen
      story told (J story) at (made story tells))))
    where
      synced : Went good.story mid (λ c. Unit {0}) (λ x t. ReadsAsCrashed s t) (λ x. x ≡ log_synced v s good run)
      synced = went_ok (λ x. x ≡ state_of good.story) (λ x. x ≡ log_synced v s good run) (syncing v s good run) makes
          (λ x at. tt) (λ x at. ap (λ (y : disk.State). after y (syncing v s good run y)) at)
          (λ x at. record { each = at_sync x at }) (went_start (λ x. x ≡ state_of good.story) good.told refl
          (λ x at. record { each = at_start x at }))
