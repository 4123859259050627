-- The end of a restore's folder, by what it left on the disk.
use Rattle.std.specs.Prelude.{◌≡◌, ℕ, List, length, is_some, Option, Some, None, Result, Ok, Err}
use Rattle.std.proofs.Common.{refl, sym, ap, subst, ◌∙◌}
use Rattle.std.proofs.lemmas.List.Elements.{All-nil}
use Rattle.lsm_names.specs.declared.file_names.FileName.{FileName}
use Rattle.lsm_disk.specs.State as disk
use Rattle.lsm_disk.specs.State.{Seen, Story, Change, state_of}
use Rattle.lsm_disk.specs.Tree.{TellsLawful}
use Rattle.lsm_disk.specs.Images.{Tree}
use Rattle.lsm_disk.specs.Goes.{Went}
use Rattle.lsm_disk.specs.Halts.{IsAmong}
use Rattle.lsm_disk.specs.Dest.{Begun, finish_calls, NeverExists}
use Rattle.lsm_disk.specs.Building.{Part, with_current, IsWithin, HasNoneOrAll, IsBuilding}
use Rattle.lsm_disk.specs.declared.calls.Halt.{Halt}
use Rattle.lsm_disk.specs.declared.dest.DestError.{DestError}
use Rattle.lsm_disk.specs.declared.dest.DestError.TheVariants.{Fault, Halted, Exists, Changed, NoMemory}
use Rattle.lsm_dest.specs.FolderDests.{NotHalted, Ended}
use Rattle.lsm_model.specs.declared.states.State.{State}
use Rattle.lsm_model.specs.Steps.{Finished, Makes as Steps}
use Rattle.lsm_model.specs.Destination.{FinishesFolder}
use Rattle.lsm_refine.specs.Kept.{Shown}
use Rattle.lsm_refine.specs.Sane.{IsAlone, HasBegun, BuildsFolder, RestoreBuilds}
use Rattle.lsm_refine.specs.Good.{Good}
use Rattle.lsm_refine.specs.Moments.{ImagesShow}
use Rattle.lsm_refine.proofs.WritingLemmas.{runs}
use Rattle.lsm_restoring.specs.Restoring.{ChangesOnly, GoesTo, HasNamedJobs}
use Rattle.lsm_restoring.specs.Calls.{IsAnswered}
use Rattle.lsm_restoring.proofs.RestoredChanges.{only_run}
use Rattle.lsm_restoring.proofs.RestoredReads.{names_lack}
use Rattle.lsm_restoring.proofs.RestoredImages.{restored_shows}
use Rattle.lsm_restoring.proofs.RestoreSteps.{finish_halted, begun_may, finish_wanting, finish_ok, finish_failed}
use Rattle.lsm_restoring.proofs.RestoreCalls.{shown_by, rise, same_halted, lead_of, idle_shows}

module _ (v w : Shown) (s : State) (good : Good v s) (jobs : HasNamedJobs v) (begun : Begun)
    (is_begun : v.kept.begun ≡ Some begun) (empty : v.kept.hand ≡ None) (current : List ℕ) where
  abbrev d : disk.State
  d = state_of good.story

  abbrev folder : List ℕ
  folder = begun.folder

  abbrev Answered : Result (Unit {0}) DestError → Type 0
  Answered result = IsAnswered (finish_calls v.kept.begun) None None v w result

  abbrev Leads : Result (Unit {0}) DestError → Type 0
  Leads result = (t : State) × Steps s (Finished current result) t × Good w t × ImagesShow good.story w.disk.told s t

  -- what the call changed, for whichever parts the folder had
  abbrev Ran : Result (Unit {0}) DestError → Type 0
  Ran result = (start : disk.State) (story : Story) (b : Begun) (parts : List Part) → v.disk.told ≡ Some story
      → v.kept.begun ≡ Some b → IsBuilding start b parts (state_of story)
      → Went story w.disk.told (IsWithin b.folder (length (state_of story).files))
      (HasNoneOrAll start b.folder (with_current current parts)) (Ended start b parts current result)

  module _ (none : v.halt ≡ None) where
    abbrev builds : BuildsFolder d v.dir begun v.kept.hand
    builds = subst (λ (b : Option Begun). RestoreBuilds d v.dir b v.kept.hand) is_begun (runs v s good none).sane.restored

    has_parts : IsBuilding builds.start begun builds.parts d
    has_parts = subst (λ (h : Option FileName). HasBegun builds.start begun builds.parts h d) empty builds.has

    module _ (result : Result (Unit {0}) DestError) (lawful : TellsLawful v.disk) (ran : Ran result) where
      abbrev P : disk.State → Tree → Type 0
      P = HasNoneOrAll builds.start folder (with_current current builds.parts)

      abbrev J : disk.State → Type 0
      J = Ended builds.start begun builds.parts current result

      went : Went good.story w.disk.told (IsWithin folder (length d.files)) (λ x t. P x t × ChangesOnly folder d x)
          (λ x. J x × ChangesOnly folder d x)
      went = only_run folder builds.named good.story w.disk.told P J (lead_of v w s good lawful)
          (ran builds.start good.story begun builds.parts good.told is_begun has_parts)

      went_shows : (t : State) → ImagesShow good.story w.disk.told s t
      went_shows = restored_shows v s good none folder (begun_may v s good none begun is_begun jobs) w.disk.told
          (IsWithin folder (length d.files)) P (λ x. J x × ChangesOnly folder d x) went

      leads_by : GoesTo (FinishesFolder s result) w → Leads result
      leads_by goes = (goes.0, goes.1, goes.2, went_shows goes.0)

  pub finish_steps : (result : Result (Unit {0}) DestError) → Answered result → NeverExists result
      → (NotHalted result → TellsLawful v.disk) → Ran result → Leads result
  finish_steps (Ok done) is never free ran =
      let none = is.halt.0 in
      let lawful = free (λ first same. cc) in
      let run = went none (Ok tt) lawful ran in
      leads_by none (Ok tt) lawful ran
      (subst (GoesTo (FinishesFolder s (Ok tt)))
      (sym (shown_by (finish_calls v.kept.begun) None None v w (Ok tt) is v.halt None None (is.halt.1 ∙ sym none) is.leaves.0
      is.leaves.1))
      (finish_ok v s good none begun is_begun jobs w.disk (rise (finish_calls v.kept.begun) None None v w (Ok tt) is) run.story
      run.tells run.now.1 (with_current current (builds none).parts) run.now.0))
  finish_steps (Err Fault) is never free ran =
      let none = is.halt.0 in
      let lawful = free (λ first same. cc) in
      let run = went none (Err Fault) lawful ran in
      let at : Halt = is.halt.1.0 in
      leads_by none (Err Fault) lawful ran
      (subst (GoesTo (FinishesFolder s (Err Fault)))
      (sym (shown_by (finish_calls v.kept.begun) None None v w (Err Fault) is (Some at) v.kept.begun v.kept.hand is.halt.1.1
      is.leaves.0 is.leaves.1))
      (finish_failed v s good none begun is_begun jobs w.disk (rise (finish_calls v.kept.begun) None None v w (Err Fault) is)
      run.story run.tells run.now.1 at (subst (λ (b : Option Begun). IsAmong at (finish_calls b)) is_begun is.halt.1.2)
      (ap is_some run.now.0.1) is.cause.counted))
  finish_steps (Err (Halted first)) is never free ran =
      let goes = subst (GoesTo (FinishesFolder s (Err (Halted first))))
      (sym (same_halted (finish_calls v.kept.begun) None None v w first is)) (finish_halted v s good first is.halt.0) in
      (goes.0, goes.1, goes.2, idle_shows v w s good (ap (λ x. x.disk.told) is.halt.1) goes.0)
  finish_steps (Err Exists) is never free ran = absurd (never refl)
  finish_steps (Err (Changed at path)) is never free ran =
      let run = went is.halt.0 (Err (Changed at path)) (free (λ first same. cc)) ran in
      absurd run.now.0.0
  finish_steps (Err NoMemory) is never free ran =
      let none = is.halt.0 in
      let lawful = free (λ first same. cc) in
      let run = went none (Err NoMemory) lawful ran in
      let b = builds none in
      leads_by none (Err NoMemory) lawful ran
      (subst (GoesTo (FinishesFolder s (Err NoMemory)))
      (sym (shown_by (finish_calls v.kept.begun) None None v w (Err NoMemory) is v.halt (Some begun) None
      (is.halt.1 ∙ sym none) (is.leaves.0 ∙ is_begun) (is.leaves.1 ∙ empty)))
      (finish_wanting v s good none begun is_begun jobs w.disk
      (rise (finish_calls v.kept.begun) None None v w (Err NoMemory) is) run.story run.tells run.now.1
      (names_lack b.start folder begun.names (state_of run.story) run.now.0.0.holds)
      (record {
        builds = record { named = b.named; apart = b.apart; start = b.start; parts = b.parts; has = run.now.0.0 };
        alone = All-nil (IsAlone (state_of run.story));
      })))
