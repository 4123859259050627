-- Each exit of a restore's calls: a step of the abstract store, and the store good behind it.
use Rattle.std.specs.Prelude.{◌≡◌, ◌≢◌, ℕ, ◌≤◌, Bool, true, false, ◌||◌, is_some, List, [], ◌∷◌, ◌++◌, Option, Some, None, Ok, Err}
use Rattle.std.proofs.Common.{⊎_elim, inl, inr, refl, sym, ap, subst, ◌∙◌}
use Rattle.std.proofs.lemmas.List.Elements.{All-nil}
use Rattle.std.specs.Str.{bytes_eq}
use Rattle.std.specs.FinMap as finmap
use Rattle.lsm_io.specs.Causes.{Rose}
use Rattle.lsm_names.specs.Folders.{is_folder_name}
use Rattle.lsm_names.specs.declared.file_names.FileName.{FileName}
use Rattle.lsm_disk.specs.Names.{Node, Folder_node}
use Rattle.lsm_disk.specs.State as disk
use Rattle.lsm_disk.specs.State.{FileState, Seen, Story, state_of, names_now}
use Rattle.lsm_disk.specs.Images.{tree_now}
use Rattle.lsm_disk.specs.Halts.{halt_at, IsAmong}
use Rattle.lsm_disk.specs.Dest.{Begun, just_begun, path_in, finish_calls}
use Rattle.lsm_disk.specs.Building.{Part, IsBuilding, IsBuilt}
use Rattle.lsm_disk.specs.declared.calls.DiskCall.{DiskCall}
use Rattle.lsm_disk.specs.declared.calls.DiskCall.TheVariants as call
use Rattle.lsm_disk.specs.declared.calls.Halt.{Halt}
use Rattle.lsm_disk.specs.declared.dest.DestError.TheVariants.{Fault, Halted, Exists, NoMemory}
use Rattle.lsm_disk.proofs.Files.{same_some}
use Rattle.lsm_disk.proofs.Named.{name_now}
use Rattle.lsm_folder.proofs.NameLemmas.{same_text, equal_texts}
use Rattle.lsm_model.specs.declared.states.State.{State}
use Rattle.lsm_model.specs.declared.states.FolderRead.{FolderRead}
use Rattle.lsm_model.specs.States.{folder_of, with_folder}
use Rattle.lsm_model.specs.Causes.{is_taken}
use Rattle.lsm_model.specs.Counts.{IsThere}
use Rattle.lsm_model.specs.Halting.{IsMet, exactly}
use Rattle.lsm_model.specs.Moves.{Becomes}
use Rattle.lsm_model.specs.Destination.{unfinished, BeginsFolder, FillsFolder, FinishesFolder, fill_calls}
use Rattle.lsm_model.proofs.PinLemmas.{folder_new, folder_stays, folder_placed}
use Rattle.lsm_refine.specs.Kept.{Shown}
use Rattle.lsm_refine.specs.Sane.{IsAlone, HasBegun, BuildsFolder, RestoreBuilds}
use Rattle.lsm_refine.specs.Folders.{folder_reading}
use Rattle.lsm_refine.specs.Good.{IsRunning, Good, with_counts, stopped}
use Rattle.lsm_refine.specs.Grown.{halted_shown}
use Rattle.lsm_refine.proofs.UnchangedLemmas.{unchanged_good, halted_good}
use Rattle.lsm_refine.proofs.WritingLemmas.{runs}
use Rattle.lsm_restoring.specs.Restoring.{ChangesOnly, LacksCurrentNow, MayRestore, IsRestoring, GoesTo, CountsRise, HasNamedJobs, folder_begun, restored_shown, restored_state}
use Rattle.lsm_restoring.proofs.RestoredStores.{restored_good, failed_good}
use Rattle.lsm_restoring.proofs.RestoredReads.{names_lack, reads_still, reads_new, reads_placed}
use Rattle.lsm_restoring.proofs.RestoredWhole.{built_sure}

-- ---- what the steps say of counts, of halts and of lists

among_met : (own : List ℕ) (at : Halt) (calls : List Halt) → IsAmong at calls → IsMet own at (exactly calls)
among_met own at [] is = is
among_met own at (other ∷ others) is = ⊎_elim
    (λ same. inl (ap (λ (h : Halt). h.call) same, ap (λ (h : Halt). h.path) same))
    (λ later. inr (among_met own at others later))
    is

there_more : (folders : List FolderRead) (new : FolderRead) (begun : Option (List ℕ)) → IsThere folders begun
    → IsThere (folders ++ new ∷ []) begun
there_more folders new None is = tt
there_more folders new (Some dir) is = (is.0, folder_stays dir folders is.0 new is.1, is.2)

none_found : (found : Option FolderRead) (place : Option Node) → is_some found ≡ is_some place → place ≡ None → found ≡ None
none_found None place same is = refl
none_found (Some f) place same is = let clash : true ≡ false = same ∙ ap is_some is in absurd (cc)

module _ (v : Shown) (s : State) (good : Good v s) where
  abbrev d : disk.State
  d = state_of good.story

  -- a call that did nothing to the disk
  still_good : (seen : Seen) → seen.told ≡ v.disk.told → Good (record v { disk = seen }) (with_counts seen s)
  still_good seen same = unchanged_good v (record v { disk = seen }) s good (record {
    later = good.story;
    told = same ∙ good.told;
    state = refl;
    dir = refl;
    kept = refl;
    views = λ number view found. inl found;
  }) refl

  becomes : (seen : Seen) → CountsRise v seen → Becomes s (with_counts seen s)
  becomes seen rise = record {
    rest = refl;
    faults = subst (λ (n : ℕ). n ≤ seen.faults) good.counts.faults rise.faults;
    refusals = subst (λ (n : ℕ). n ≤ seen.refusals) good.counts.refusals rise.refusals;
  }

  rose : (seen : Seen) → Rose v.disk.faults seen.faults → Rose s.faults seen.faults
  rose seen is = subst (λ (n : ℕ). Rose n seen.faults) good.counts.faults is

  unhalted : v.halt ≡ None → s.halt ≡ None
  unhalted none = sym good.kept.halt ∙ none

  -- ---- refusals that did nothing

  pub begin_halted : (dir : List ℕ) (first : Halt) → v.halt ≡ Some first → GoesTo (BeginsFolder s dir (Err (Halted first))) v
  begin_halted dir first is = (s, (sym good.kept.halt ∙ is, refl), good)

  pub fill_halted : (which : DiskCall) (first : Halt) → v.halt ≡ Some first → GoesTo
      (FillsFolder which s (Err (Halted first))) v
  fill_halted which first is = (s, (sym good.kept.halt ∙ is, refl), good)

  pub finish_halted : (first : Halt) → v.halt ≡ Some first → GoesTo (FinishesFolder s (Err (Halted first))) v
  finish_halted first is = (s, (sym good.kept.halt ∙ is, refl), good)

  module _ (none : v.halt ≡ None) (seen : Seen) (rise : CountsRise v seen) (same : seen.told ≡ v.disk.told) where
    pub begin_wanting : (dir : List ℕ) → GoesTo (BeginsFolder s dir (Err NoMemory)) (record v { disk = seen })
    begin_wanting dir = (with_counts seen s, (unhalted none, becomes seen rise), still_good seen same)

    pub fill_wanting : (which : DiskCall) → GoesTo (FillsFolder which s (Err NoMemory)) (record v { disk = seen })
    fill_wanting which = (with_counts seen s, (unhalted none, becomes seen rise), still_good seen same)

    -- the name is taken: it is the store's own, or another folder's or a file's
    pub begin_taken : (dir : List ℕ) → is_folder_name dir ≡ true → is_some (finmap.get (names_now d) dir) ≡ true
        → GoesTo (BeginsFolder s dir (Err Exists)) (record v { disk = seen })
    unfolding is_taken
    begin_taken dir named there =
        let taken : is_taken dir s ≡ true =
        elim (bytes_eq s.own dir) as (λ b. bytes_eq s.own dir ≡ b → (b || is_some (folder_of dir s.folders)) ≡ true) [
          | true ↦ λ is. refl
          | false ↦ λ other. good.folders.now.taken dir named
              (λ is. let clash : true ≡ false = sym (same_text s.own) ∙ ap (bytes_eq s.own) (sym is) ∙ other in cc) ∙ there
        ] refl in
        (with_counts seen s, (unhalted none, taken, becomes seen rise), still_good seen same)

    -- the call failed and made no folder
    pub begin_failed : (dir : List ℕ) → Rose v.disk.faults seen.faults
        → GoesTo (BeginsFolder s dir (Err Fault)) (halted_shown seen (halt_at call.MakeFolder dir) v)
    begin_failed dir risen =
        let at = halt_at call.MakeFolder dir in (
          stopped at (with_counts seen s),
          (
            unhalted none,
            inl (record {
              first = at;
              among = inl (refl, refl);
              rose = rose seen risen;
              rest = record { rest = refl; faults = (becomes seen rise).faults; refusals = (becomes seen rise).refusals };
            }),
          ),
          halted_good v (halted_shown seen at v) s at good (record {
            later = good.story;
            told = same ∙ good.told;
            state = refl;
            dir = refl;
            kept = refl;
            views = λ number view found. inl found;
          }) none refl,
        )

  -- ---- a folder is begun

  module _ (none : v.halt ≡ None) (dir : List ℕ) (named : is_folder_name dir ≡ true)
      (jobs : HasNamedJobs v) (free : finmap.get (names_now d) dir ≡ None) where
    abbrev run : IsRunning d v s
    run = runs v s good none

    apart : dir ≢ v.dir
    apart is = let clash : None ≡ Some Folder_node = sym free ∙ ap (finmap.get (names_now d)) is
        ∙ name_now d v.dir (Some Folder_node) run.sane.current.folder in cc

    apart_own : dir ≢ s.own
    apart_own is = apart (is ∙ sym good.kept.own)

    unlisted : folder_of dir s.folders ≡ None
    unlisted = none_found (folder_of dir s.folders) (finmap.get (names_now d) dir)
        (good.folders.now.taken dir named apart_own) free

    pub begin_may : MayRestore dir v s
    begin_may = record {
      named = named;
      apart = apart;
      unsure = λ entry found. let clash : None ≡ Some entry = sym unlisted ∙ found in absurd (cc);
      jobs = jobs;
    }

    untaken : is_taken dir s ≡ false
    unfolding is_taken
    untaken =
        ap (λ (o : Option FolderRead). bytes_eq s.own dir || is_some o) unlisted
        ∙ elim (bytes_eq s.own dir) as (λ b. bytes_eq s.own dir ≡ b → (b || false) ≡ false) [
          | true ↦ λ is. absurd (apart_own (sym (equal_texts s.own dir is)))
          | false ↦ λ other. refl
        ] refl

    module _ (seen : Seen) (rise : CountsRise v seen) (story : Story) (told : seen.told ≡ Some story)
        (only : ChangesOnly dir d (state_of story)) (is : IsBuilding d (just_begun dir) [] (state_of story)) where
      abbrev folders : List FolderRead
      folders = s.folders ++ unfinished dir ∷ []

      lacks : LacksCurrentNow dir (state_of story)
      lacks = names_lack d dir [] (state_of story) is.holds

      pub begin_ok : GoesTo (BeginsFolder s dir (Ok tt)) (restored_shown seen (Some (just_begun dir)) None v)
      begin_ok = (
        restored_state seen folders (Some dir) s,
        (
          unhalted none,
          untaken,
          record
              { rest = refl; faults = (becomes seen rise).faults; refusals = (becomes seen rise).refusals },
        ),
        restored_good v s good none dir begin_may seen story told only (Some (just_begun dir)) None
            (record {
              builds = record { named = named; apart = apart; start = d; parts = []; has = is };
              alone = All-nil (IsAlone (state_of story));
            })
            folders (reads_new dir named d (state_of story) only.inside s apart_own good.folders seen
            (Some dir) unlisted lacks)
            (unfinished dir, folder_new dir s.folders (unfinished dir) unlisted (same_text dir), refl),
      )

      -- the call failed, and the folder is there
      pub begin_made : Rose v.disk.faults seen.faults
          → GoesTo (BeginsFolder s dir (Err Fault)) (halted_shown seen (halt_at call.MakeFolder dir) v)
      begin_made risen =
          let at = halt_at call.MakeFolder dir in (
            stopped at (restored_state seen folders (folder_begun v.kept.begun) s),
            (
              unhalted none,
              inr (
                untaken,
                record {
                  first = at;
                  among = inl (refl, refl);
                  rose = rose seen risen;
                  rest = record {
                    rest = ap (λ (b : Option (List ℕ)). stopped at (restored_state seen folders b s)) good.kept.begun;
                    faults = (becomes seen rise).faults;
                    refusals = (becomes seen rise).refusals;
                  };
                },
              ),
            ),
            failed_good v s good none dir begin_may seen story told only at folders
                (reads_new dir named d (state_of story) only.inside s apart_own good.folders seen None unlisted lacks)
                (there_more s.folders (unfinished dir) (folder_begun v.kept.begun)
                (subst (IsThere s.folders) (sym good.kept.begun) good.counted.begun)),
          )

  -- ---- the begun folder

  module _ (none : v.halt ≡ None) (begun : Begun) (is_begun : v.kept.begun ≡ Some begun) where
    abbrev going : IsRunning d v s
    going = runs v s good none

    builds : BuildsFolder d v.dir begun v.kept.hand
    builds = subst (λ (b : Option Begun). RestoreBuilds d v.dir b v.kept.hand) is_begun going.sane.restored

    has_lacks : (hand : Option FileName) (start : disk.State) (parts : List Part) → HasBegun start begun parts hand d
        → LacksCurrentNow begun.folder d
    has_lacks None start parts has = names_lack start begun.folder begun.names d has.holds
    has_lacks (Some name) start parts has = names_lack start begun.folder begun.names d has.1.holds

    pub begun_lacks : LacksCurrentNow begun.folder d
    begun_lacks = has_lacks v.kept.hand builds.start builds.parts builds.has

    state_begun : s.begun ≡ Some begun.folder
    state_begun = sym good.kept.begun ∙ ap folder_begun is_begun

    begun_there : IsThere s.folders (Some begun.folder)
    begun_there = subst (IsThere s.folders) state_begun good.counted.begun

    pub begun_may : HasNamedJobs v → MayRestore begun.folder v s
    begun_may jobs = record {
      named = builds.named;
      apart = builds.apart;
      unsure = λ entry found. ap (λ (e : FolderRead). e.sure)
          (same_some entry begun_there.0 (sym found ∙ begun_there.1)) ∙ begun_there.2;
      jobs = jobs;
    }

    module _ (jobs : HasNamedJobs v) (seen : Seen) (rise : CountsRise v seen)
        (story : Story) (told : seen.told ≡ Some story) (only : ChangesOnly begun.folder d (state_of story)) where
      abbrev may : MayRestore begun.folder v s
      may = begun_may jobs

      own_apart : begun.folder ≢ s.own
      own_apart is = may.apart (is ∙ sym good.kept.own)

      module _ (lacks : LacksCurrentNow begun.folder (state_of story)) where
        -- the folder goes on, with these names and this file in hand
        still_restored : (later : Begun) (hand : Option FileName) → later.folder ≡ begun.folder
            → IsRestoring (state_of story) v.dir (Some later) hand
            → Good (restored_shown seen (Some later) hand v) (restored_state seen s.folders (Some later.folder) s)
        still_restored later hand same restores = restored_good v s good none begun.folder may seen story told only
            (Some later) hand
            restores s.folders
            (reads_still begun.folder may.named d (state_of story) only.inside s own_apart good.folders seen
            (Some later.folder)
            begun_lacks lacks may.unsure)
            (subst (λ (dir : List ℕ). IsThere s.folders (Some dir)) (sym same) begun_there)

        still_becomes : (later : Begun) → later.folder ≡ begun.folder
            → Becomes s (restored_state seen s.folders (Some later.folder) s)
        still_becomes later same = record {
          rest = ap (λ (b : Option (List ℕ)). restored_state seen s.folders b s) (ap Some same ∙ sym state_begun);
          faults = (becomes seen rise).faults;
          refusals = (becomes seen rise).refusals;
        }

        pub fill_ok : (which : DiskCall) (later : Begun) (hand : Option FileName) → later.folder ≡ begun.folder
            → IsRestoring (state_of story) v.dir (Some later) hand
            → GoesTo (FillsFolder which s (Ok tt)) (restored_shown seen (Some later) hand v)
        fill_ok which later hand same restores = (
          restored_state seen s.folders (Some later.folder) s,
          (unhalted none, still_becomes later same),
          still_restored later hand same restores,
        )

        -- memory was wanting, and the folder is as it was
        pub finish_wanting : IsRestoring (state_of story) v.dir (Some begun) None
            → GoesTo (FinishesFolder s (Err NoMemory)) (restored_shown seen (Some begun) None v)
        finish_wanting restores = (
          restored_state seen s.folders (Some begun.folder) s,
          (unhalted none, still_becomes begun refl),
          still_restored begun None refl restores,
        )

        pub fill_failed : (which : DiskCall) (name : FileName) → Rose v.disk.faults seen.faults
            → GoesTo (FillsFolder which s (Err Fault)) (halted_shown seen (halt_at which (path_in begun.folder name)) v)
        fill_failed which name risen =
            let at = halt_at which (path_in begun.folder name) in (
              stopped at (restored_state seen s.folders (folder_begun v.kept.begun) s),
              (
                unhalted none,
                record {
                  first = at;
                  among = subst (λ (b : Option (List ℕ)). IsMet s.own at (fill_calls which b)) (sym state_begun)
                      (inl (refl, (name, refl)));
                  rose = rose seen risen;
                  rest = record {
                    rest = ap (λ (b : Option (List ℕ)). stopped at (restored_state seen s.folders b s)) good.kept.begun;
                    faults = (becomes seen rise).faults;
                    refusals = (becomes seen rise).refusals;
                  };
                },
              ),
              failed_good v s good none begun.folder may seen story told only at s.folders
                  (reads_still begun.folder may.named d (state_of story) only.inside s own_apart good.folders seen None
                  begun_lacks lacks may.unsure)
                  (subst (IsThere s.folders) (sym good.kept.begun) good.counted.begun),
            )

      -- what the folder reads as now
      abbrev entry : Bool → FolderRead
      entry sure = record {
        name = begun.folder;
        reading = folder_reading begun.folder
            (tree_now (state_of story));
        sure = sure;
      }

      pub finish_ok : (parts : List Part) → IsBuilt begun.folder parts (state_of story)
          → GoesTo (FinishesFolder s (Ok tt)) (restored_shown seen None None v)
      finish_ok parts built =
          let folders : List FolderRead = with_folder (entry true) s.folders in (
            restored_state seen folders None s,
            (
              unhalted none,
              record {
                dir = begun.folder;
                reading = folder_reading begun.folder (tree_now (state_of story));
                begun = state_begun;
                rest = record { rest = refl; faults = (becomes seen rise).faults; refusals = (becomes seen rise).refusals };
              },
            ),
            restored_good v s good none begun.folder may seen story told only None None
                (record { builds = refl; alone = All-nil (IsAlone (state_of story)) }) folders
                (reads_placed begun.folder may.named d (state_of story) only.inside s own_apart good.folders seen None true
                (ap is_some (name_now (state_of story) begun.folder (Some Folder_node) built.stands))
                (λ sure. built_sure begun.folder may.named parts (state_of story) built true)) tt,
          )

      -- whatever a fault left of the folder
      pub finish_failed : (at : Halt) → IsAmong at (finish_calls (Some (just_begun begun.folder)))
          → is_some (finmap.get (names_now (state_of story)) begun.folder) ≡ true → Rose v.disk.faults seen.faults
          → GoesTo (FinishesFolder s (Err Fault)) (halted_shown seen at v)
      finish_failed at among there risen =
          let folders : List FolderRead = with_folder (entry false) s.folders in (
            stopped at (restored_state seen folders (folder_begun v.kept.begun) s),
            (
              unhalted none,
              record {
                dir = begun.folder;
                reading = folder_reading begun.folder (tree_now (state_of story));
                begun = state_begun;
                halts = inr (record {
                  first = at;
                  among = among_met s.own at (finish_calls (Some (just_begun begun.folder))) among;
                  rose = rose seen risen;
                  rest = record {
                    rest = ap (λ (b : Option (List ℕ)). stopped at (restored_state seen folders b s)) good.kept.begun;
                    faults = (becomes seen rise).faults;
                    refusals = (becomes seen rise).refusals;
                  };
                });
              },
            ),
            failed_good v s good none begun.folder may seen story told only at folders
                (reads_placed begun.folder may.named d (state_of story) only.inside s own_apart good.folders seen None false
                there (λ sure. absurd (not_true sure)))
                (subst (IsThere folders) (sym (ap folder_begun is_begun))
                (entry false, folder_placed (entry false) s.folders, refl)),
          )
        where
          not_true : false ≡ true → ⊥
          not_true same = cc
