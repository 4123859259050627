-- A freeze, at each exit.
use Rattle.std.specs.Prelude.{◌≡◌, ◌≢◌, ◌⊎◌, ℕ, ◌+◌, ◌-◌, ◌^◌, ◌<◌, ◌≤◌, Bool, true, false, is_some, if◌then◌else◌, List, [], ◌∷◌, ◌++◌, length, Option, Some, None, option_map, Result, Ok, Err, IfSome}
use Rattle.std.proofs.Common.{⊎_elim, inl, inr, refl, sym, ap, subst, ◌∙◌, arith, length-append}
use Rattle.std.proofs.lemmas.Bool.Decides.{nat_tests}
use Rattle.std.proofs.lemmas.List.Elements.{Contains-append_left, Contains-append_right, Contains-push_cases}
use Rattle.lsm_io.specs.Causes.{Rose}
use Rattle.lsm_names.specs.FileNames.{IsFileName, spelled}
use Rattle.lsm_names.specs.Paths.{parent_of}
use Rattle.lsm_names.specs.declared.file_names.FileName.{FileName}
use Rattle.lsm_names.specs.declared.file_names.FileName.TheVariants.{Log}
use Rattle.lsm_names.proofs.FileNameLemmas.{spelled_is_component}
use Rattle.lsm_names.proofs.FolderLemmas.{folder_has_bytes}
use Rattle.lsm_names.proofs.PathLemmas.{parent_of_joined}
use Rattle.lsm_rows.specs.declared.rows.Row.{Row}
use Rattle.lsm_disk.specs.Names.{Node, Names, Folder_node, stands, is_folder, is_folder_node}
use Rattle.lsm_disk.specs.State as disk
use Rattle.lsm_disk.specs.State.{Seen, Story, state_of, names_now, file_synced}
use Rattle.lsm_disk.specs.Refusals.{no_file, no_room}
use Rattle.lsm_disk.specs.Kept.{Making}
use Rattle.lsm_disk.specs.Tree.{TellsLawful, IsLawful}
use Rattle.lsm_disk.specs.Goes.{Went}
use Rattle.lsm_disk.specs.Dest.{path_in}
use Rattle.lsm_disk.specs.Answers.{Makes, LeftBy, RefusesBy, Allowed, HasRisen, HasDiskCause, pushed}
use Rattle.lsm_disk.specs.Halts.{halt_at}
use Rattle.lsm_disk.specs.declared.calls.DiskCall.{DiskCall}
use Rattle.lsm_disk.specs.declared.calls.DiskCall.TheVariants as call
use Rattle.lsm_disk.specs.declared.calls.DiskError.{DiskError}
use Rattle.lsm_disk.specs.declared.calls.DiskError.TheVariants as why
use Rattle.lsm_disk.specs.declared.calls.DiskError.TheVariants.{Exists, NotThere}
use Rattle.lsm_disk.specs.declared.calls.DiskRefusal.{DiskRefusal}
use Rattle.lsm_disk.specs.declared.calls.Halt.{Halt}
use Rattle.lsm_disk.proofs.Images.{after_names_synced}
use Rattle.lsm_disk.proofs.Lawful.{lawful_synced, get_named}
use Rattle.lsm_disk.proofs.Named.{name_now}
use Rattle.lsm_disk.proofs.Runs.{state_push}
use Rattle.lsm_wal.specs.Shown as wal
use Rattle.lsm_wal.specs.Making.{with_made, MayHaveNew, IsMade}
use Rattle.lsm_wal.specs.Answered.{IsRefusedAt, AnswersAt, AnswersBoth}
use Rattle.lsm_model.specs.declared.events.Event.TheVariants as event
use Rattle.lsm_model.specs.declared.replies.Reply.TheVariants as reply
use Rattle.lsm_model.specs.declared.errors.StoreError.{StoreError}
use Rattle.lsm_model.specs.declared.errors.StoreError.TheVariants as error
use Rattle.lsm_model.specs.declared.states.State.{State}
use Rattle.lsm_model.specs.Halting.{IsMet, freeze_calls}
use Rattle.lsm_refine.specs.Kept.{Kept, Shown}
use Rattle.lsm_refine.specs.Good.{IsRunning, Good}
use Rattle.lsm_refine.specs.Beside.{last_path}
use Rattle.lsm_refine.specs.Moments.{ImagesShow}
use Rattle.lsm_refine.specs.Obsolete.{HasAlso}
use Rattle.lsm_refine.specs.Caused.{StaysActive}
use Rattle.lsm_refine.proofs.FreezeSteps.{freeze_halted, freeze_nothing, freeze_no_room, freeze_full, freeze_sync_fault, freeze_create_fault, freeze_create_wanting, freeze_ok, freeze_shows}
use Rattle.lsm_refine.proofs.FrozenLemmas.{free}
use Rattle.lsm_refine.proofs.SyncedLemmas.{syncing, log_synced, sync_writes, sync_last, sync_shows}
use Rattle.lsm_refine.proofs.WriteSteps.{Steps}
use Rattle.lsm_refine.proofs.WritingLemmas.{runs, beside}
use Rattle.lsm_store.specs.Answering.{halt_by, halt_of, error_by, error_of}
use Rattle.lsm_flush.specs.declared.frozen.Held.{Held}
use Rattle.lsm_flush.specs.declared.frozen.Held.TheVariants.{Rows}
use Rattle.lsm_flush.specs.Frozen.{rows_of}
use Rattle.lsm_store.specs.Inside.{Inner, IsInside, older_logs, flushing_of, unfinished_of, shown_of}
use Rattle.lsm_store.specs.Syncing.{IsNotSynced}
use Rattle.lsm_store.proofs.Calls.{IsCall, nothing_called, freeze_caused, never_some, no_fault}
use Rattle.lsm_store.proofs.Logs.{left_by, log_here, sync_refused}

-- a freeze is answered so, and leaves the later store
abbrev pub IsFreeze : Result Bool StoreError → Shown → Shown → Type 0
IsFreeze r v w = IsCall (λ s. s) event.Freeze (reply.Freeze r) v w

no_removal : (a : DiskCall) → (a ≡ call.Sync) ⊎ ((a ≡ call.Create) ⊎ (a ≡ call.SyncNames)) → a ≢ call.RemoveFolder
no_removal a is same = ⊎_elim
    (λ sync. sync_differs (sym sync ∙ same))
    (λ more. ⊎_elim (λ create. create_differs (sym create ∙ same)) (λ names. names_differ (sym names ∙ same)) more)
    is
  where
    sync_differs : call.Sync ≢ call.RemoveFolder
    sync_differs clash = cc

    create_differs : call.Create ≢ call.RemoveFolder
    create_differs clash = cc

    names_differ : call.SyncNames ≢ call.RemoveFolder
    names_differ clash = cc

pub file_number : (n : ℕ) → 1 ≤ n → n < 2 ^ 56 - 1 → IsFileName (Log n)
file_number n least most = grind (arith, nat_tests)

pub also_pushed : (name : FileName) (names : List FileName) → HasAlso name names (names ++ name ∷ [])
also_pushed name names other = (
  λ among. ⊎_elim (λ old. inr old) (λ same. inl (sym same)) (Contains-push_cases names name other among),
  λ is. ⊎_elim
      (λ same. Contains-append_right names (name ∷ []) other (0, omega arith, sym same))
      (λ old. Contains-append_left names (name ∷ []) other old) is,
)

risen : (a b c : ℕ) → a ≤ b → Rose b c → Rose a c
risen a b c earlier rose = omega (arith, earlier, rose)

has_bytes : (name : List ℕ) → 1 ≤ length name → [] ≢ name
has_bytes name some same = let none : 0 ≡ length name = ap (λ (l : List ℕ). length l) same in omega (arith, none, some)

not_root : (dir name : List ℕ) → [] ≢ dir ++ 47 ∷ name
not_root dir name same =
    let none : 0 ≡ length (dir ++ 47 ∷ name) = ap (λ (l : List ℕ). length l) same in
    omega (arith, none, length-append dir (47 ∷ name))

module _ (x : Inner) (inside : IsInside x) where
  abbrev v : Shown
  v = shown_of x

  -- ---- exits before the disk is called

  pub halted_freeze : (first : Halt) → x.halt ≡ Some first → IsFreeze (Err (error.Halted first)) (shown_of x) (shown_of x)
  halted_freeze first is =
      nothing_called (λ s. s) event.Freeze (reply.Freeze (Err (error.Halted first))) v
      (λ s good. freeze_halted v s good first is)
      (freeze_caused v v (Err (error.Halted first)) (is, refl))

  module _ (none : x.halt ≡ None) where
    pub idle_freeze : (x.active ≡ []) ⊎ (rows_of x.frozen ≢ []) → IsFreeze (Ok false) (shown_of x) (shown_of x)
    idle_freeze cannot =
        nothing_called (λ s. s) event.Freeze (reply.Freeze (Ok false)) v
        (λ s good. ⊎_elim (freeze_nothing v s good (runs v s good none) none)
        (freeze_no_room v s good (runs v s good none) none) cannot)
        (freeze_caused v v (Ok false) (none, cannot, refl))

    module _ (some : x.active ≢ []) (no_frozen : rows_of x.frozen ≡ []) where
      pub full_freeze : 2 ^ 56 - 1 ≤ x.next → IsFreeze (Err (error.NumbersFull x.next)) (shown_of x) (shown_of x)
      full_freeze full =
          nothing_called (λ s. s) event.Freeze (reply.Freeze (Err (error.NumbersFull x.next))) v
          (λ s good. freeze_full v s good (runs v s good none) none some no_frozen full)
          (freeze_caused v v (Err (error.NumbersFull x.next)) (none, (some, no_frozen), refl, full, refl))

      module _ (small : x.next < 2 ^ 56 - 1) where
        fits : IsFileName (Log x.next)
        fits = file_number x.next inside.drawn small

        active_stays : (w : Kept) → w ≡ v.kept → StaysActive v.kept w
        active_stays w same = record {
          can = (some, no_frozen);
          rest = same ∙ ap (λ (k : Kept). record v.kept { next = k.next; known = k.known }) (sym same);
          later = omega (arith, ap (λ (k : Kept). k.next) same);
          few = omega (arith, ap (λ (k : Kept). k.next) same);
        }

        -- where a disk call fails, or is found changed, on a log of the folder
        module _ (at : Halt) (number : ℕ) (path_is : at.path ≡ path_in x.home (Log number))
            (call_is : (at.call ≡ call.Sync) ⊎ ((at.call ≡ call.Create) ⊎ (at.call ≡ call.SyncNames)))
            (seen : Seen) (faults : x.disk.faults ≤ seen.faults) (refusals : x.disk.refusals ≤ seen.refusals) where
          abbrev w : Shown
          w = shown_of (record x { disk = seen; halt = Some at })

          met : (own : List ℕ) → own ≡ x.home → IsMet own at freeze_calls
          met own is =
              let path : at.path ≡ path_in own (Log number) =
              path_is ∙ ap (λ (dir : List ℕ). path_in dir (Log number)) (sym is) in
              ⊎_elim
              (λ sync. inl (sync, (number, path)))
              (λ more. ⊎_elim (λ create. inr (inl (create, (number, path))))
              (λ names. inr (inr (inl (names, (number, path))))) more)
              call_is

          failed : Rose x.disk.faults seen.faults
              → ((s : State) → Good (shown_of x) s → Steps s event.Freeze (reply.Freeze (Err error.DiskFault)) w)
              → ((s : State) (good : Good (shown_of x) s) → ImagesShow good.story seen.told s s)
              → IsFreeze (Err error.DiskFault) (shown_of x) (shown_of (record x { disk = seen; halt = Some at }))
          failed rose step images = record {
            step = step;
            images = images;
            causes = record {
              counts = record { dir = refl; faults = faults; refusals = refusals };
              by = freeze_caused v w (Err error.DiskFault)
                  ((none, rose, (at, refl, met x.home refl)), active_stays v.kept refl);
            };
          }

          -- under good stores this doesn't come
          changed : Rose x.disk.refusals seen.refusals → ((s : State) → Good (shown_of x) s → ⊥)
              → IsFreeze (Err (error.Changed at.call at.path)) (shown_of x)
              (shown_of (record x { disk = seen; halt = Some at }))
          changed rose never = record {
            step = λ s good. absurd (never s good);
            images = λ s good. absurd (never s good);
            causes = record {
              counts = record { dir = refl; faults = faults; refusals = refusals };
              by = freeze_caused v w (Err (error.Changed at.call at.path))
                  ((none, rose, refl, met x.home refl, no_removal at.call call_is), active_stays v.kept refl);
            };
          }

        -- ---- the sync of the old log

        abbrev running : (s : State) (good : Good (shown_of x) s) → IsRunning (state_of good.story) (shown_of x) s
        running s good = runs v s good none

        -- the sync of the old log
        abbrev syncs : Halt
        syncs = halt_at call.Sync x.wal.path

        sync_by : (seen : Seen) (e : DiskError) → ((s : State) → Good (shown_of x) s → RefusesBy None e)
            → LeftBy (seen.told ≡ x.disk.told)
            (Allowed (no_file x.wal.path) x.disk.told × Makes x.disk.told (file_synced x.wal.path) seen.told) e
            → e ≢ why.NoMemory → x.disk.faults ≤ seen.faults → x.disk.refusals ≤ seen.refusals → HasRisen x.disk seen e
            → IsFreeze (Err (error_by syncs e)) (shown_of x)
            (shown_of (record x { disk = seen; halt = halt_by syncs e }))
        sync_by seen why.Fault answers left memory faults refusals rose =
            failed syncs x.log inside.path_is (inl refl) seen faults refusals rose
            (λ s good. freeze_sync_fault v s good (running s good) none some no_frozen small seen faults refusals
            syncs
            (met syncs x.log inside.path_is (inl refl) seen faults refusals s.own (sym good.kept.own))
            rose (lefts s good))
            (λ s good. sync_shows v s good (running s good) seen.told (lefts s good) s)
          where
            lefts : (s : State) (good : Good v s) → (seen.told ≡ x.disk.told)
                ⊎ Makes x.disk.told (syncing v s good (running s good)) seen.told
            lefts s good = subst (λ (p : List ℕ). (seen.told ≡ x.disk.told) ⊎ Makes x.disk.told (file_synced p) seen.told)
                (log_here x inside s good (running s good)) (left_by x.disk.told seen.told x.wal.path left)
        sync_by seen why.NotThere answers left memory faults refusals rose =
            changed syncs x.log inside.path_is (inl refl) seen faults refusals rose
            (λ s good. never_some (answers s good))
        sync_by seen why.Exists answers left memory faults refusals rose =
            changed syncs x.log inside.path_is (inl refl) seen faults refusals rose
            (λ s good. never_some (answers s good))
        sync_by seen why.NoLinks answers left memory faults refusals rose =
            changed syncs x.log inside.path_is (inl refl) seen faults refusals rose
            (λ s good. never_some (answers s good))
        sync_by seen why.NotEmpty answers left memory faults refusals rose =
            changed syncs x.log inside.path_is (inl refl) seen faults refusals rose
            (λ s good. never_some (answers s good))
        sync_by seen (why.Short found) answers left memory faults refusals rose =
            changed syncs x.log inside.path_is (inl refl) seen faults refusals rose
            (λ s good. never_some (answers s good))
        sync_by seen why.NoMemory answers left memory faults refusals rose = absurd (memory refl)

        pub unsynced_freeze : (seen : Seen) (r : DiskRefusal) (path : List ℕ) (halt : Option Halt) (refusal : StoreError)
            → path ≡ x.wal.path → halt ≡ halt_of r → refusal ≡ error_of r
            → IsNotSynced path x.disk seen r → HasDiskCause {T = Unit {0}} x.disk seen (Err r)
            → IsFreeze (Err refusal) (shown_of x) (shown_of (record x { disk = seen; halt = halt }))
        unsynced_freeze seen r path halt refusal path_is halts is refused cause =
            let unsynced : IsNotSynced x.wal.path x.disk seen r =
            subst (λ (p : List ℕ). IsNotSynced p x.disk seen r) path_is refused in
            subst (λ (e : StoreError). IsFreeze (Err e) v (shown_of (record x { disk = seen; halt = halt })))
            (ap (λ (at : Halt). error_by at r.why) (sym unsynced.at) ∙ sym is)
            (subst (λ (h : Option Halt). IsFreeze (Err (error_by syncs r.why)) v
            (shown_of (record x { disk = seen; halt = h })))
            (ap (λ (at : Halt). halt_by at r.why) (sym unsynced.at) ∙ sym halts)
            (sync_by seen r.why (λ s good. sync_refused x inside s good (running s good) r.why unsynced.answer)
            unsynced.left unsynced.memory
            cause.faults_later cause.refusals_later cause.counted))

        -- ---- behind the sync

        module _ (mid : Seen) (path : List ℕ) (path_is : path ≡ x.wal.path)
            (synced : Makes x.disk.told (file_synced path) mid.told)
            (faults_mid : x.disk.faults ≤ mid.faults) (refusals_mid : x.disk.refusals ≤ mid.refusals)
            (tells_lawful : TellsLawful x.disk) where
          module _ (s : State) (good : Good (shown_of x) s) where
            abbrev run : IsRunning (state_of good.story) (shown_of x) s
            run = running s good

            makes : Makes x.disk.told (syncing v s good run) mid.told
            makes = subst (λ (p : List ℕ). Makes x.disk.told (file_synced p) mid.told)
                (path_is ∙ log_here x inside s good run) synced

            abbrev story : Story
            story = pushed (syncing v s good run) good.story

            tells : mid.told ≡ Some story
            tells = makes ∙ ap (option_map (pushed (syncing v s good run))) good.told

            at_synced : state_of story ≡ log_synced v s good run
            at_synced = state_push good.story (syncing v s good run (state_of good.story))

            lawful : IsLawful (state_of good.story)
            lawful = subst (λ (o : Option Story). IfSome o (λ told. IsLawful (state_of told))) good.told tells_lawful

            -- the disk lets the new log be made
            room : no_room (path_in x.home (Log x.next)) (log_synced v s good run) ≡ None
            room =
                let synced_disk : disk.State = log_synced v s good run in
                let names : Names = names_now synced_disk in
                let new : List ℕ = path_in x.home (Log x.next) in
                let is = (beside v s good run synced_disk (sync_writes v s good run)).sane.current in
                let parent : parent_of new ≡ x.home =
                parent_of_joined x.home (spelled (Log x.next)) (spelled_is_component (Log x.next) fits) in
                let folder : stands names x.home ≡ Some Folder_node =
                sym (get_named names x.home (has_bytes x.home (folder_has_bytes x.home is.named)))
                ∙ name_now synced_disk x.home (Some Folder_node) is.folder in
                let unnamed : stands names new ≡ None = sym (get_named names new (not_root x.home (spelled (Log x.next))))
                ∙ free v s good run synced_disk (sync_writes v s good run) (sync_last v s good run)
                (lawful_synced (state_of good.story) (last_path x.home run.parts) lawful) fits inside.below in
                ap (λ (p : List ℕ). if is_folder names p then (if is_some (stands names new) then Some Exists else None)
                else Some NotThere) parent
                ∙ ap (λ (n : Option Node). if is_folder_node n
                then (if is_some (stands names new) then Some Exists else None) else Some NotThere) folder
                ∙ ap (λ (n : Option Node). if is_some n then Some Exists else None) unnamed

          -- memory was wanting before the new log was made, or while it was
          wanting : (seen : Seen) → seen.told ≡ mid.told → mid.faults ≤ seen.faults → mid.refusals ≤ seen.refusals
              → IsFreeze (Err error.NoMemory) (shown_of x) (shown_of (record x { disk = seen }))
          wanting seen told faults refusals =
              let w : Shown = shown_of (record x { disk = seen }) in
              record {
                step = λ s good. freeze_create_wanting v s good (running s good) none some no_frozen small seen
                    (omega (arith, faults_mid, faults)) (omega (arith, refusals_mid, refusals)) (lawful s good) fits
                    inside.below
                    (story s good) (told ∙ tells s good) (at_synced s good);
                images = λ s good. sync_shows v s good (running s good) seen.told
                    (inr (subst (λ (o : Option Story). Makes x.disk.told (syncing v s good (running s good)) o) (sym told)
                    (makes s good))) s;
                causes = record {
                  counts = record {
                    dir = refl;
                    faults = omega (arith, faults_mid, faults);
                    refusals = omega
                        (arith, refusals_mid, refusals);
                  };
                  by = freeze_caused v w (Err error.NoMemory) ((none, none), (some, no_frozen), refl);
                };
              }

          pub unknown_freeze : (known : List FileName) → known ≡ x.known
              → IsFreeze (Err error.NoMemory) (shown_of x) (shown_of (record x { disk = mid; known = known }))
          unknown_freeze known same =
              subst (λ (names : List FileName). IsFreeze (Err error.NoMemory) v
              (shown_of (record x { disk = mid; known = names }))) (sym same)
              (wanting mid refl (omega arith) (omega arith))

          -- ---- the making of the new log

          module _ (seen : Seen) (new : List ℕ) (new_is : new ≡ path_in x.home (Log x.next))
              (faults_later : mid.faults ≤ seen.faults) (refusals_later : mid.refusals ≤ seen.refusals) where
            -- what the making of a log says
            abbrev pub Made : {T : Type 0} → Result T DiskRefusal → Type 0
            Made result = (story : Story) → mid.told ≡ Some story
                → Went story seen.told (Making new) (MayHaveNew (state_of story) new) (IsMade (state_of story) new result)

            faults : x.disk.faults ≤ seen.faults
            faults = omega (arith, faults_mid, faults_later)

            refusals : x.disk.refusals ≤ seen.refusals
            refusals = omega (arith, refusals_mid, refusals_later)

            went : {T : Type 0} (result : Result T DiskRefusal) → Made result → (story : Story) → mid.told ≡ Some story
                → Went story seen.told (Making (path_in x.home (Log x.next)))
                (MayHaveNew (state_of story) (path_in x.home (Log x.next)))
                (IsMade (state_of story) (path_in x.home (Log x.next)) result)
            went result made story told =
                subst (λ (p : List ℕ). Went story seen.told (Making p) (MayHaveNew (state_of story) p)
                (IsMade (state_of story) p result)) new_is
                (made story told)

            shows : {T : Type 0} (result : Result T DiskRefusal) → Made result → (s : State) (good : Good (shown_of x) s)
                → ImagesShow good.story seen.told s s
            shows result made s good =
                freeze_shows v s good (running s good) no_frozen (lawful s good) fits inside.below mid.told seen.told
                (λ told y. IsMade (state_of told) (path_in x.home (Log x.next)) result y) s (makes s good) (went result made)

            pub ok_freeze : (T : Type 0) (value : T) (log : wal.Shown) (known : List FileName) (len : ℕ)
                (fresh active : List Row) (frozen : Held)
                → Made (Ok value) → log ≡ record { path = new; len = 0 } → known ≡ x.known ++ Log x.next ∷ []
                → len ≡ x.wal.len → active ≡ fresh → fresh ≡ [] → frozen ≡ Rows x.active → x.frozen ≡ Rows []
                → IsFreeze (Ok true) (shown_of x) (shown_of (record x {
                  disk = seen;
                  wal = log;
                  log = x.next;
                  older = Some x.log;
                  older_len = len;
                  active = active;
                  frozen = frozen;
                  next = x.next + 1;
                  known = known;
                }))
            ok_freeze T value log known len fresh active frozen made log_is known_is len_is active_is fresh_is frozen_is idle =
                subst (λ (n : ℕ). IsFreeze (Ok true) v (frozen_as log known n active frozen)) (sym len_is)
                (subst (λ (rows : List Row). IsFreeze (Ok true) v (frozen_as log known x.wal.len rows frozen))
                (sym (active_is ∙ fresh_is))
                (subst (λ (held : Held). IsFreeze (Ok true) v (frozen_as log known x.wal.len [] held)) (sym frozen_is)
                (subst (λ (held : Held). IsFreeze (Ok true) v (after held log known (x.log ∷ x.next ∷ []))) idle
                (subst (λ (l : wal.Shown). IsFreeze (Ok true) v (after x.frozen l known (x.log ∷ x.next ∷ []))) (sym log_is)
                (subst (λ (names : List FileName). IsFreeze (Ok true) v
                (after x.frozen (record { path = new; len = 0 }) names (x.log ∷ x.next ∷ []))) (sym known_is)
                (subst (λ (older : List ℕ). IsFreeze (Ok true) v
                (after x.frozen (record { path = new; len = 0 }) (x.known ++ Log x.next ∷ [])
                ((older ++ x.log ∷ []) ++ x.next ∷ [])))
                (ap older_logs (inside.one no_frozen)) (record {
                  step = λ s good.
                      let gone = went (Ok value) made (story s good) (tells s good) in
                      freeze_ok v s good (running s good) none some no_frozen small seen faults refusals (lawful s good)
                      fits inside.below
                      gone.story gone.tells (gone.now.1 ∙ ap (with_made (path_in x.home (Log x.next))) (at_synced s good)
                      ∙ after_names_synced (disk.after (log_synced v s good (running s good))
                      (disk.Created (path_in x.home (Log x.next)))));
                  images = shows (Ok value) made;
                  causes = record {
                    counts = record { dir = refl; faults = faults; refusals = refusals };
                    by = freeze_caused v (frozen_now) (Ok true) (
                      (none, none),
                      record {
                        can = (some, no_frozen);
                        number = small;
                        rest = refl;
                        known = also_pushed (Log x.next) x.known;
                      },
                    );
                  };
                })))))))
              where
                frozen_as : wal.Shown → List FileName → ℕ → List Row → Held → Shown
                frozen_as l names n rows others = shown_of (record x {
                  disk = seen;
                  wal = l;
                  log = x.next;
                  older = Some x.log;
                  older_len = n;
                  active = rows;
                  frozen = others;
                  next = x.next + 1;
                  known = names;
                })

                after : Held → wal.Shown → List FileName → List ℕ → Shown
                after held l names logs = record {
                  disk = seen;
                  dir = x.home;
                  kept = record v.kept {
                    active = [];
                    frozen = x.active;
                    logs = logs;
                    log_len = l.len;
                    older_len = x.wal.len;
                    next = x.next + 1;
                    known = names;
                    flushing = flushing_of held;
                    unfinished = unfinished_of held;
                  };
                  halt = x.halt;
                }

                frozen_now : Shown
                frozen_now =
                    after x.frozen (record { path = new; len = 0 }) (x.known ++ Log x.next ∷ [])
                    ((older_logs x.older ++ x.log ∷ []) ++ x.next ∷ [])

            module _ (r : DiskRefusal) (made : Made {T = Unit {0}} (Err r))
                (at : IsRefusedAt call.Create call.SyncNames new mid seen r) where
              on_log : r.at.path ≡ path_in x.home (Log x.next)
              on_log = at.path_is ∙ new_is

              a_call : (r.at.call ≡ call.Sync) ⊎ ((r.at.call ≡ call.Create) ⊎ (r.at.call ≡ call.SyncNames))
              a_call = inr at.call_is

              found_changed : {B : Type 0} → ((s : State) → Good (shown_of x) s → B) → (B → ⊥) → Rose mid.refusals seen.refusals
                  → IsFreeze (Err (error.Changed r.at.call r.at.path)) (shown_of x)
                  (shown_of (record x { disk = seen; halt = Some r.at }))
              found_changed answers never rose =
                  changed r.at x.next on_log a_call seen faults refusals
                  (risen x.disk.refusals mid.refusals seen.refusals refusals_mid rose)
                  (λ s good. never (answers s good))

              by_why : (e : DiskError) → r.why ≡ e → ((s : State) → Good (shown_of x) s → RefusesBy None e)
                  → HasRisen mid seen e
                  → IsFreeze (Err (error_by r.at e)) (shown_of x) (shown_of (record x { disk = seen; halt = halt_by r.at e }))
              by_why why.Fault is answers rose =
                  failed r.at x.next on_log a_call seen faults refusals
                  (risen x.disk.faults mid.faults seen.faults faults_mid rose)
                  (λ s good.
                  let gone = went {T = Unit {0}} (Err r) made (story s good) (tells s good) in
                  freeze_create_fault v s good (running s good) none some no_frozen small seen faults refusals
                  (lawful s good) fits inside.below
                  (Unit {0}) gone.story r (met r.at x.next on_log a_call seen faults refusals s.own (sym good.kept.own))
                  (risen x.disk.faults mid.faults seen.faults faults_mid rose) gone.tells
                  (subst (λ (y : disk.State). IsMade {T = Unit {0}} y (path_in x.home (Log x.next)) (Err r)
                  (state_of gone.story)) (at_synced s good) gone.now))
                  (shows {T = Unit {0}} (Err r) made)
              by_why why.NotThere is answers rose = found_changed answers (λ by. never_some by) rose
              by_why why.Exists is answers rose = found_changed answers (λ by. never_some by) rose
              by_why why.NoLinks is answers rose = found_changed answers (λ by. never_some by) rose
              by_why why.NotEmpty is answers rose = found_changed answers (λ by. never_some by) rose
              by_why (why.Short found) is answers rose = found_changed answers (λ by. never_some by) rose
              by_why why.NoMemory is answers rose =
                  let told : seen.told ≡ mid.told =
                  ⊎_elim (λ first. at.unchanged first (no_fault r.why is)) (λ second. absurd (at.memory second is))
                  at.call_is in
                  subst (λ (h : Option Halt). IsFreeze (Err error.NoMemory) v
                  (shown_of (record x { disk = seen; halt = h }))) none
                  (wanting seen told faults_later refusals_later)

            pub unmade_freeze : (r : DiskRefusal) (halt : Option Halt) (known : List FileName) (refusal : StoreError)
                → halt ≡ halt_of r → known ≡ x.known → refusal ≡ error_of r → Made {T = Unit {0}} (Err r)
                → IsRefusedAt call.Create call.SyncNames new mid seen r
                → AnswersAt {T = Unit {0}} call.SyncNames (no_room new) mid (Err r) → HasRisen mid seen r.why
                → IsFreeze (Err refusal) (shown_of x) (shown_of (record x { disk = seen; known = known; halt = halt }))
            unmade_freeze r halt known refusal halts same is made at answers rose =
                subst (λ (e : StoreError). IsFreeze (Err e) v
                (shown_of (record x { disk = seen; known = known; halt = halt }))) (sym is)
                (subst (λ (h : Option Halt). IsFreeze (Err (error_of r)) v
                (shown_of (record x { disk = seen; known = known; halt = h }))) (sym halts)
                (subst (λ (names : List FileName). IsFreeze (Err (error_of r)) v
                (shown_of (record x { disk = seen; known = names; halt = halt_of r }))) (sym same)
                (by_why r made at r.why refl refused_by rose)))
              where
                refused_by : (s : State) → Good (shown_of x) s → RefusesBy None r.why
                refused_by s good =
                    subst (λ (o : Option DiskError). RefusesBy o r.why)
                    (ap (λ (p : List ℕ). no_room p (state_of (story s good))) new_is
                    ∙ ap (no_room (path_in x.home (Log x.next))) (at_synced s good) ∙ room s good)
                    (subst (λ (told : Option Story). IfSome told
                    (λ on. AnswersBoth {T = Unit {0}} call.SyncNames (no_room new (state_of on)) (Err r)))
                    (tells s good) answers).0
