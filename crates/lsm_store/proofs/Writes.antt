-- A write, at each exit.
use Rattle.std.specs.Prelude.{◌≡◌, ◌≢◌, ◌⊎◌, ℕ, ◌+◌, ◌^◌, ◌%◌, ◌<◌, ◌≤◌, Bool, List, [], ◌∷◌, ◌++◌, length, Option, Some, None, Result, Ok, Err, IfSome}
use Rattle.std.proofs.Common.{⊎_elim, inl, inr, refl, sym, ap, subst, ◌∙◌, arith}
use Rattle.lsm_io.specs.Causes.{Rose}
use Rattle.lsm_names.specs.declared.file_names.FileName.TheVariants.{Log}
use Rattle.lsm_rows.specs.declared.operations.Op.{Op}
use Rattle.lsm_rows.specs.declared.rows.Row.{Row}
use Rattle.lsm_rows.specs.BatchText.{batch_text}
use Rattle.lsm_rows.specs.Limits.{InLimits}
use Rattle.lsm_rows.specs.Rows.{batch_rows}
use Rattle.lsm_frame.specs.Frames.{record_text}
use Rattle.lsm_disk.specs.State.{Seen, Story, state_of}
use Rattle.lsm_disk.specs.Refusals.{no_file}
use Rattle.lsm_disk.specs.Kept.{InFile}
use Rattle.lsm_disk.specs.Goes.{Went}
use Rattle.lsm_disk.specs.Dest.{path_in}
use Rattle.lsm_disk.specs.Answers.{RefusesBy, HasRisen, HasDiskCause}
use Rattle.lsm_disk.specs.declared.calls.DiskCall.{DiskCall}
use Rattle.lsm_disk.specs.declared.calls.DiskCall.TheVariants as call
use Rattle.lsm_disk.specs.declared.calls.DiskError.{DiskError}
use Rattle.lsm_disk.specs.declared.calls.DiskError.TheVariants as why
use Rattle.lsm_disk.specs.declared.calls.DiskRefusal.{DiskRefusal}
use Rattle.lsm_disk.specs.declared.calls.Halt.{Halt}
use Rattle.lsm_disk.proofs.Runs.{went_wider}
use Rattle.lsm_wal.specs.Shown as wal
use Rattle.lsm_wal.specs.Batches.{Logged, IsLogged, wal_text, record_behind}
use Rattle.lsm_wal.specs.Standing.{IsWal, HoldsFront, IsLeft}
use Rattle.lsm_wal.specs.Answered.{IsRefusedAt, AnswersAt, AnswersBoth}
use Rattle.lsm_memtable.specs.Joining.{AreJoined}
use Rattle.lsm_model.specs.declared.events.Event.TheVariants as event
use Rattle.lsm_model.specs.declared.replies.Reply.TheVariants as reply
use Rattle.lsm_model.specs.declared.errors.StoreError.{StoreError}
use Rattle.lsm_model.specs.declared.errors.StoreError.TheVariants as error
use Rattle.lsm_model.specs.declared.states.State.{State}
use Rattle.lsm_model.specs.Halting.{IsMet, write_calls}
use Rattle.lsm_model.specs.Writes.{doubting}
use Rattle.lsm_refine.specs.Kept.{Shown}
use Rattle.lsm_refine.specs.Good.{IsRunning, Good}
use Rattle.lsm_refine.specs.Beside.{last_path, last_batches}
use Rattle.lsm_refine.specs.Grown.{next_batch}
use Rattle.lsm_refine.specs.Moments.{ReadsAsCrashed, ImagesShow}
use Rattle.lsm_refine.proofs.GrownLemmas.{append_shows}
use Rattle.lsm_refine.proofs.WriteSteps.{write_halted, write_full, write_wanting, write_ok, write_fault}
use Rattle.lsm_refine.proofs.WritingLemmas.{runs}
use Rattle.lsm_store.specs.Answering.{halt_by, halt_of, error_by, error_of}
use Rattle.lsm_store.specs.Inside.{Inner, IsInside, shown_of}
use Rattle.lsm_store.proofs.Calls.{IsCall, nothing_called, same_shows, write_caused, never_some, no_fault}
use Rattle.lsm_store.proofs.Logs.{log_here, log_there}

-- a write of these operations is answered so, and leaves the later store
abbrev pub IsWrite : List Op → Bool → Result ℕ StoreError → Shown → Shown → Type 0
IsWrite ops sync r v w = IsCall (doubting ops) (event.Write ops sync) (reply.Write r) v w

-- what an append to the last log says
abbrev pub Appended : Inner → List Op → Bool → Option Story → Result (Unit {0}) DiskRefusal → Type 0
Appended x ops sync told result =
    (story : Story) (batches : List Logged) (durable : ℕ) → x.disk.told ≡ Some story → x.wal.len ≡ length (wal_text batches)
    → (wal : IsWal (state_of story) x.wal.path batches durable)
    → let next : Logged = record { first = x.sequence + 1; ops = ops } in
    Went story told (InFile wal.id) (HoldsFront x.wal.path (batches ++ next ∷ []) durable)
    (IsLeft x.wal.path batches next durable sync result)

module _ (x : Inner) (inside : IsInside x) (ops : List Op) (sync : Bool) where
  abbrev v : Shown
  v = shown_of x

  -- ---- exits before the disk is called

  pub halted_write : (first : Halt) → x.halt ≡ Some first
      → IsWrite ops sync (Err (error.Halted first)) (shown_of x) (shown_of x)
  halted_write first is =
      nothing_called (doubting ops) (event.Write ops sync) (reply.Write (Err (error.Halted first))) v
      (λ s good. write_halted v s good ops sync first is)
      (write_caused ops sync v v (Err (error.Halted first)) ((is, refl), refl))

  pub full_write : x.halt ≡ None → (count : ℕ) → count ≡ length ops → 2 ^ 56 ≤ x.sequence + count
      → IsWrite ops sync (Err (error.SequenceFull x.sequence count)) (shown_of x) (shown_of x)
  full_write none count is full =
      subst (λ (n : ℕ). IsWrite ops sync (Err (error.SequenceFull x.sequence n)) v v) (sym is)
      (nothing_called (doubting ops) (event.Write ops sync) (reply.Write (Err (error.SequenceFull x.sequence (length ops)))) v
      (λ s good. write_full v s good ops sync none (omega (arith, full, is)))
      (write_caused ops sync v v (Err (error.SequenceFull x.sequence (length ops)))
      (none, refl, refl, omega (arith, full, is), refl)))

  module _ (none : x.halt ≡ None) (some : 1 ≤ length ops) (limits : InLimits ops)
      (small : x.sequence + length ops < 2 ^ 56) where
    -- memory was wanting, and the disk's counts alone may have changed
    wanting : (seen : Seen) → seen.told ≡ x.disk.told → x.disk.faults ≤ seen.faults → x.disk.refusals ≤ seen.refusals
        → IsWrite ops sync (Err error.NoMemory) (shown_of x) (shown_of (record x { disk = seen }))
    wanting seen told faults refusals =
        let w : Shown = shown_of (record x { disk = seen }) in
        record {
          step = λ s good. write_wanting v s good ops sync w none small (record {
            later = good.story;
            told = told ∙ good.told;
            state = refl;
            dir = refl;
            kept = refl;
            views = λ number view is. inl is;
          }) refl faults refusals;
          images = λ s good. same_shows v s (doubting ops s) good seen.told told;
          causes = record {
            counts = record { dir = refl; faults = faults; refusals = refusals };
            by = write_caused ops sync v w (Err error.NoMemory) ((none, none), refl);
          };
        }

    pub wanting_write : (rows : List Row) → rows ≡ x.active
        → IsWrite ops sync (Err error.NoMemory) (shown_of x) (shown_of (record x { active = rows }))
    wanting_write rows same =
        subst (λ (l : List Row). IsWrite ops sync (Err error.NoMemory) v (shown_of (record x { active = l }))) (sym same)
        (wanting x.disk refl (omega arith) (omega arith))

    -- ---- behind the append

    logged : IsLogged (record { first = x.sequence + 1; ops = ops })
    logged = record { is = refl; some = some; limits = limits; last = omega (arith, small) }

    module _ (s : State) (good : Good (shown_of x) s) where
      abbrev run : IsRunning (state_of good.story) (shown_of x) s
      run = runs v s good none

      went : (told : Option Story) (result : Result (Unit {0}) DiskRefusal) → Appended x ops sync told result
          → Went good.story told (InFile run.sane.logs.last.id)
          (HoldsFront (last_path x.home run.parts) (last_batches run.parts ++ next_batch v.kept ops ∷ []) run.parts.synced)
          (IsLeft (last_path x.home run.parts) (last_batches run.parts) (next_batch v.kept ops) run.parts.synced sync result)
      went told result appended =
          subst (λ (p : List ℕ). (wal : IsWal (state_of good.story) p (last_batches run.parts) run.parts.synced)
          → Went good.story told (InFile wal.id)
          (HoldsFront p (last_batches run.parts ++ next_batch v.kept ops ∷ []) run.parts.synced)
          (IsLeft p (last_batches run.parts) (next_batch v.kept ops) run.parts.synced sync result))
          (log_here x inside s good run)
          (λ wal. appended good.story (last_batches run.parts) run.parts.synced good.told run.works.log_len wal)
          run.sane.logs.last

      shows : (told : Option Story) (result : Result (Unit {0}) DiskRefusal) → Appended x ops sync told result
          → ImagesShow good.story told s (doubting ops s)
      shows told result appended =
          went_wider (λ c. Unit {0}) (λ c. Unit {0}) (λ d t. ReadsAsCrashed (doubting ops s) t)
          (λ d t. ReadsAsCrashed s t ⊎ ReadsAsCrashed (doubting ops s) t) (λ c is. tt) (λ d t is. inr is)
          (append_shows v s good run ops logged sync result told (went told result appended))

      -- so no other refusal comes than a fault and want of memory
      refused_by : (r : DiskRefusal) → AnswersAt {T = Unit {0}} call.Sync (no_file x.wal.path) x.disk (Err r)
          → RefusesBy None r.why
      refused_by r answers =
          subst (λ (o : Option DiskError). RefusesBy o r.why) (log_there x inside s good run)
          (subst (λ (told : Option Story). IfSome told
          (λ story. AnswersBoth {T = Unit {0}} call.Sync (no_file x.wal.path (state_of story)) (Err r)))
          good.told answers).0

    -- Ok
    pub ok_write : (seen : Seen) (rows : List Row) (log : wal.Shown) (last : ℕ) → Appended x ops sync seen.told (Ok tt)
        → x.disk.faults ≤ seen.faults → x.disk.refusals ≤ seen.refusals
        → AreJoined x.active (batch_rows (x.sequence + 1) ops) rows
        → log.len ≡ x.wal.len + length (record_text (x.wal.len % 32768) (batch_text (x.sequence + 1) ops))
        → last ≡ x.sequence + length ops
        → IsWrite ops sync (Ok last) (shown_of x)
        (shown_of (record x { disk = seen; wal = log; active = rows; sequence = last }))
    ok_write seen rows log last appended faults refusals joined long is =
        subst (λ (n : ℕ). IsWrite ops sync (Ok n) v
        (shown_of (record x { disk = seen; wal = log; active = rows; sequence = n }))) (sym is)
        (record {
          step = λ s good. write_ok v s good (run s good) none seen faults refusals ops sync logged {T = Unit {0}} tt rows
              log.len joined.same
              joined.newest (behind s good) (went s good seen.told (Ok tt) appended);
          images = λ s good. shows s good seen.told (Ok tt) appended;
          causes = record {
            counts = record { dir = refl; faults = faults; refusals = refusals };
            by = write_caused ops sync v (grown log (x.sequence + length ops)) (Ok (x.sequence + length ops)) (
              (none, none),
              refl,
              record {
                rest = ap (λ (n : ℕ). (grown (record log { len = n }) (x.sequence + length ops)).kept) long;
                within = omega (arith, small);
                rows = joined.same;
              },
            );
          };
        })
      where
        grown : wal.Shown → ℕ → Shown
        grown l n = shown_of (record x { disk = seen; wal = l; active = rows; sequence = n })

        behind : (s : State) (good : Good v s)
            → log.len ≡ x.wal.len + length (record_behind (last_batches (run s good).parts) (next_batch v.kept ops))
        behind s good =
            long ∙ ap (λ (n : ℕ). x.wal.len + length (record_text (n % 32768) (batch_text (x.sequence + 1) ops)))
            (run s good).works.log_len

    -- ---- a refusal of the disk

    module _ (seen : Seen) (r : DiskRefusal) (appended : Appended x ops sync seen.told (Err r))
        (at : IsRefusedAt call.Append call.Sync x.wal.path x.disk seen r) (faults : x.disk.faults ≤ seen.faults)
        (refusals : x.disk.refusals ≤ seen.refusals) where
      -- it is a call of a write, on a log of the folder
      met : (own : List ℕ) → own ≡ x.home → IsMet own r.at write_calls
      met own is =
          let path : r.at.path ≡ path_in own (Log x.log) =
          at.path_is ∙ inside.path_is ∙ ap (λ (dir : List ℕ). path_in dir (Log x.log)) (sym is) in
          ⊎_elim (λ append. inl (append, (x.log, path))) (λ sync. inr (inl (sync, (x.log, path)))) at.call_is

      no_removal : r.at.call ≢ call.RemoveFolder
      no_removal is =
          ⊎_elim (λ append. clash call.Append call.RemoveFolder (sym append ∙ is)) (λ sync. other (sym sync ∙ is)) at.call_is
        where
          clash : (a b : DiskCall) → call.Append ≡ call.RemoveFolder → ⊥
          clash a b same = cc

          other : call.Sync ≡ call.RemoveFolder → ⊥
          other same = cc

      -- the later store where the disk was found changed
      changed : (e : DiskError) → (answers : (s : State) → Good (shown_of x) s → RefusesBy None e)
          → ((s : State) → Good (shown_of x) s → RefusesBy None e → ⊥) → Rose x.disk.refusals seen.refusals
          → IsWrite ops sync (Err (error.Changed r.at.call r.at.path)) (shown_of x)
          (shown_of (record x { disk = seen; halt = Some r.at }))
      changed e answers never rose = record {
        step = λ s good. absurd (never s good (answers s good));
        images = λ s good. shows s good seen.told (Err r) appended;
        causes = record {
          counts = record { dir = refl; faults = faults; refusals = refusals };
          by = write_caused ops sync v (shown_of (record x { disk = seen; halt = Some r.at }))
              (Err (error.Changed r.at.call r.at.path))
              ((none, rose, refl, met x.home refl, no_removal), refl);
        };
      }

      by_why : (e : DiskError) → r.why ≡ e → ((s : State) → Good (shown_of x) s → RefusesBy None e) → HasRisen x.disk seen e
          → IsWrite ops sync (Err (error_by r.at e)) (shown_of x) (shown_of (record x { disk = seen; halt = halt_by r.at e }))
      by_why why.Fault is answers rose = record {
        step = λ s good. write_fault v s good (run s good) none seen faults refusals ops sync logged (Unit {0}) r
            (met s.own (sym good.kept.own)) rose (went s good seen.told (Err r) appended);
        images = λ s good. shows s good seen.told (Err r) appended;
        causes = record {
          counts = record { dir = refl; faults = faults; refusals = refusals };
          by = write_caused ops sync v (shown_of (record x { disk = seen; halt = Some r.at })) (Err error.DiskFault)
              ((none, rose, (r.at, refl, met x.home refl)), refl);
        };
      }
      by_why why.NotThere is answers rose = changed why.NotThere answers (λ s good. never_some) rose
      by_why why.Exists is answers rose = changed why.Exists answers (λ s good. never_some) rose
      by_why why.NoLinks is answers rose = changed why.NoLinks answers (λ s good. never_some) rose
      by_why why.NotEmpty is answers rose = changed why.NotEmpty answers (λ s good. never_some) rose
      by_why (why.Short found) is answers rose = changed (why.Short found) answers (λ s good. never_some) rose
      by_why why.NoMemory is answers rose =
          let told : seen.told ≡ x.disk.told =
          ⊎_elim (λ first. at.unchanged first (no_fault r.why is)) (λ second. absurd (at.memory second is)) at.call_is in
          subst (λ (h : Option Halt). IsWrite ops sync (Err error.NoMemory) v
          (shown_of (record x { disk = seen; halt = h }))) none
          (wanting seen told faults refusals)

    pub refused_write : (seen : Seen) (r : DiskRefusal) (rows : List Row) (log : wal.Shown) (halt : Option Halt)
        (refusal : StoreError)
        → rows ≡ x.active → log ≡ x.wal → halt ≡ halt_of r → refusal ≡ error_of r → Appended x ops sync seen.told (Err r)
        → IsRefusedAt call.Append call.Sync x.wal.path x.disk seen r
        → AnswersAt {T = Unit {0}} call.Sync (no_file x.wal.path) x.disk (Err r)
        → HasDiskCause {T = Unit {0}} x.disk seen (Err r)
        → IsWrite ops sync (Err refusal) (shown_of x)
        (shown_of (record x { disk = seen; wal = log; active = rows; halt = halt }))
    refused_write seen r rows log halt refusal same stays halts is appended at answers cause =
        subst (λ (e : StoreError). IsWrite ops sync (Err e) v
        (shown_of (record x { disk = seen; wal = log; active = rows; halt = halt }))) (sym is)
        (subst (λ (h : Option Halt). IsWrite ops sync (Err (error_of r)) v
        (shown_of (record x { disk = seen; wal = log; active = rows; halt = h }))) (sym halts)
        (subst (λ (l : wal.Shown). IsWrite ops sync (Err (error_of r)) v
        (shown_of (record x { disk = seen; wal = l; active = rows; halt = halt_of r }))) (sym stays)
        (subst (λ (l : List Row). IsWrite ops sync (Err (error_of r)) v
        (shown_of (record x { disk = seen; active = l; halt = halt_of r }))) (sym same)
        (by_why seen r appended at cause.faults_later cause.refusals_later r.why refl
        (λ s good. refused_by s good r answers) cause.counted))))
