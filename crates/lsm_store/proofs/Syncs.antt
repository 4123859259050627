-- A sync of the log, at each exit.
use Rattle.std.specs.Prelude.{◌≡◌, ◌≢◌, ◌⊎◌, ℕ, ◌≤◌, List, Option, Some, None, Result, Ok, Err}
use Rattle.std.proofs.Common.{inl, inr, refl, sym, ap, subst, ◌∙◌}
use Rattle.lsm_io.specs.Causes.{Rose}
use Rattle.lsm_names.specs.declared.file_names.FileName.TheVariants.{Log}
use Rattle.lsm_disk.specs.State.{Seen, state_of, file_synced}
use Rattle.lsm_disk.specs.Refusals.{no_file}
use Rattle.lsm_disk.specs.Dest.{path_in}
use Rattle.lsm_disk.specs.Answers.{Makes, Allowed, LeftBy, RefusesBy, HasRisen, HasDiskCause}
use Rattle.lsm_disk.specs.declared.calls.DiskCall.TheVariants as call
use Rattle.lsm_disk.specs.declared.calls.DiskError.{DiskError}
use Rattle.lsm_disk.specs.declared.calls.DiskError.TheVariants as why
use Rattle.lsm_disk.specs.declared.calls.DiskRefusal.{DiskRefusal}
use Rattle.lsm_disk.specs.declared.calls.Halt.{Halt}
use Rattle.lsm_model.specs.declared.events.Event.TheVariants as event
use Rattle.lsm_model.specs.declared.replies.Reply.TheVariants as reply
use Rattle.lsm_model.specs.declared.errors.StoreError.{StoreError}
use Rattle.lsm_model.specs.declared.errors.StoreError.TheVariants as error
use Rattle.lsm_model.specs.declared.states.State.{State}
use Rattle.lsm_model.specs.Halting.{IsMet, sync_calls}
use Rattle.lsm_refine.specs.Kept.{Shown}
use Rattle.lsm_refine.specs.Good.{IsRunning, Good}
use Rattle.lsm_refine.proofs.SyncedLemmas.{syncing, sync_shows}
use Rattle.lsm_refine.proofs.WriteSteps.{sync_log_halted, sync_log_ok, sync_log_fault}
use Rattle.lsm_refine.proofs.WritingLemmas.{runs}
use Rattle.lsm_store.specs.Answering.{halt_by, halt_of, error_by, error_of}
use Rattle.lsm_store.specs.Syncing.{IsNotSynced}
use Rattle.lsm_store.specs.Inside.{Inner, IsInside, shown_of}
use Rattle.lsm_store.proofs.Calls.{IsCall, nothing_called, sync_caused, never_some}
use Rattle.lsm_store.proofs.Logs.{left_by, log_here, sync_refused}

-- a sync of the log is answered so, and leaves the later store
abbrev pub IsSync : Result (Unit {0}) StoreError → Shown → Shown → Type 0
IsSync r v w = IsCall (λ s. s) event.SyncLog (reply.SyncLog r) v w

no_removal : call.Sync ≢ call.RemoveFolder
no_removal same = cc

module _ (x : Inner) (inside : IsInside x) where
  abbrev v : Shown
  v = shown_of x

  pub halted_sync : (first : Halt) → x.halt ≡ Some first → IsSync (Err (error.Halted first)) (shown_of x) (shown_of x)
  halted_sync first is =
      nothing_called (λ s. s) event.SyncLog (reply.SyncLog (Err (error.Halted first))) v
      (λ s good. sync_log_halted v s good first is)
      (sync_caused v v (Err (error.Halted first)) ((is, refl), refl))

  module _ (none : x.halt ≡ None) where
    module _ (s : State) (good : Good (shown_of x) s) where
      abbrev run : IsRunning (state_of good.story) (shown_of x) s
      run = runs v s good none

    pub ok_sync : (seen : Seen) (path : List ℕ) → path ≡ x.wal.path → Makes x.disk.told (file_synced path) seen.told
        → x.disk.faults ≤ seen.faults
        → x.disk.refusals ≤ seen.refusals → IsSync (Ok tt) (shown_of x) (shown_of (record x { disk = seen }))
    ok_sync seen path path_is makes faults refusals = record {
      step = λ s good. sync_log_ok v s good (run s good) none seen faults refusals (made s good);
      images = λ s good. sync_shows v s good (run s good) seen.told (inr (made s good)) s;
      causes = record {
        counts = record { dir = refl; faults = faults; refusals = refusals };
        by = sync_caused v
            (shown_of (record x { disk = seen })) (Ok tt) ((none, none), refl);
      };
    }
      where
        made : (s : State) (good : Good v s) → Makes x.disk.told (syncing v s good (run s good)) seen.told
        made s good =
            subst (λ (p : List ℕ). Makes x.disk.told (file_synced p) seen.told)
            (path_is ∙ log_here x inside s good (run s good)) makes

    module _ (seen : Seen) (at : Halt) (call_is : at.call ≡ call.Sync) (path_is : at.path ≡ x.wal.path)
        (faults : x.disk.faults ≤ seen.faults) (refusals : x.disk.refusals ≤ seen.refusals) where
      met : (own : List ℕ) → own ≡ x.home → IsMet own at sync_calls
      met own is = inl (
        call_is,
        (x.log, path_is ∙ inside.path_is ∙ ap (λ (dir : List ℕ). path_in dir (Log x.log)) (sym is)),
      )

      -- under good stores this doesn't come
      changed : ((s : State) → Good (shown_of x) s → ⊥) → Rose x.disk.refusals seen.refusals
          → IsSync (Err (error.Changed at.call at.path)) (shown_of x) (shown_of (record x { disk = seen; halt = Some at }))
      changed never rose = record {
        step = λ s good. absurd (never s good);
        images = λ s good. absurd (never s good);
        causes = record {
          counts = record { dir = refl; faults = faults; refusals = refusals };
          by = sync_caused v (shown_of (record x { disk = seen; halt = Some at })) (Err (error.Changed at.call at.path))
              ((none, rose, refl, met x.home refl, λ is. no_removal (sym call_is ∙ is)), refl);
        };
      }

      by_why : (e : DiskError) → ((s : State) → Good (shown_of x) s → RefusesBy None e)
          → LeftBy (seen.told ≡ x.disk.told)
          (Allowed (no_file x.wal.path) x.disk.told × Makes x.disk.told (file_synced x.wal.path) seen.told) e
          → e ≢ why.NoMemory → HasRisen x.disk seen e
          → IsSync (Err (error_by at e)) (shown_of x) (shown_of (record x { disk = seen; halt = halt_by at e }))
      by_why why.Fault answers left memory rose = record {
        step = λ s good. sync_log_fault v s good (run s good) none seen faults refusals at (met s.own (sym good.kept.own))
            rose (lefts s good);
        images = λ s good. sync_shows v s good (run s good) seen.told (lefts s good) s;
        causes = record {
          counts = record { dir = refl; faults = faults; refusals = refusals };
          by = sync_caused v (shown_of (record x { disk = seen; halt = Some at })) (Err error.DiskFault)
              ((none, rose, (at, refl, met x.home refl)), refl);
        };
      }
        where
          lefts : (s : State) (good : Good v s) → (seen.told ≡ x.disk.told)
              ⊎ Makes x.disk.told (syncing v s good (run s good)) seen.told
          lefts s good =
              subst (λ (p : List ℕ). (seen.told ≡ x.disk.told) ⊎ Makes x.disk.told (file_synced p) seen.told)
              (log_here x inside s good (run s good))
              (left_by x.disk.told seen.told x.wal.path left)
      by_why why.NotThere answers left memory rose = changed (λ s good. never_some (answers s good)) rose
      by_why why.Exists answers left memory rose = changed (λ s good. never_some (answers s good)) rose
      by_why why.NoLinks answers left memory rose = changed (λ s good. never_some (answers s good)) rose
      by_why why.NotEmpty answers left memory rose = changed (λ s good. never_some (answers s good)) rose
      by_why (why.Short found) answers left memory rose = changed (λ s good. never_some (answers s good)) rose
      by_why why.NoMemory answers left memory rose = absurd (memory refl)

    pub refused_sync : (seen : Seen) (r : DiskRefusal) (path : List ℕ) (halt : Option Halt) (refusal : StoreError)
        → path ≡ x.wal.path
        → halt ≡ halt_of r → refusal ≡ error_of r
        → IsNotSynced path x.disk seen r → HasDiskCause {T = Unit {0}} x.disk seen (Err r)
        → IsSync (Err refusal) (shown_of x) (shown_of (record x { disk = seen; halt = halt }))
    refused_sync seen r path halt refusal path_is halts is refused cause =
        let unsynced : IsNotSynced x.wal.path x.disk seen r =
        subst (λ (p : List ℕ). IsNotSynced p x.disk seen r) path_is refused in
        subst (λ (e : StoreError). IsSync (Err e) v (shown_of (record x { disk = seen; halt = halt }))) (sym is)
        (subst (λ (h : Option Halt). IsSync (Err (error_of r)) v (shown_of (record x { disk = seen; halt = h }))) (sym halts)
        (by_why seen r.at (ap (λ (h : Halt). h.call) unsynced.at) (ap (λ (h : Halt). h.path) unsynced.at)
        cause.faults_later cause.refusals_later
        r.why (λ s good. sync_refused x inside s good (run s good) r.why unsynced.answer) unsynced.left unsynced.memory
        cause.counted))
