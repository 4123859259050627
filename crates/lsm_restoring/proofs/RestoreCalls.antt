-- Each call of a restore, by what it did on the disk: a step of the abstract store, the store good behind it, and what the
-- images on the way read as.
use Rattle.std.specs.Prelude.{◌≡◌, ◌≢◌, ℕ, true, cond, is_some, List, [], length, IfSome, Option, Some, None, option_map, Result, Ok, Err}
use Rattle.std.proofs.Common.{⊎_elim, inr, refl, sym, ap, subst, ◌∙◌, arith}
use Rattle.std.specs.FinMap as finmap
use Rattle.lsm_names.specs.Folders.{is_folder_name}
use Rattle.lsm_names.specs.declared.file_names.FileName.{FileName}
use Rattle.lsm_names.proofs.FolderLemmas.{folder_has_bytes}
use Rattle.lsm_names.proofs.Roots.{in_root}
use Rattle.lsm_disk.specs.Names.{Node, stands}
use Rattle.lsm_disk.specs.State as disk
use Rattle.lsm_disk.specs.State.{FileState, Seen, Story, Change, Named, Created, after, state_of, names_now, file_at, new_file, longer, bytes_of, folder_made, created, appended, file_synced}
use Rattle.lsm_disk.specs.Tree.{IsLawful, TellsLawful}
use Rattle.lsm_disk.specs.Halts.{halt_at, IsAmong}
use Rattle.lsm_disk.specs.Refusals.{no_room}
use Rattle.lsm_disk.specs.Answers.{Makes, pushed}
use Rattle.lsm_disk.specs.Dest.{Begun, just_begun, begin_calls, IsTakenExactly, TakenBy}
use Rattle.lsm_disk.specs.Building.{IsBuilding}
use Rattle.lsm_disk.specs.declared.calls.DiskError.TheVariants as refusal
use Rattle.lsm_disk.specs.declared.calls.DiskCall.TheVariants as call
use Rattle.lsm_disk.specs.declared.calls.Halt.{Halt}
use Rattle.lsm_disk.specs.declared.dest.DestError.{DestError}
use Rattle.lsm_disk.specs.declared.dest.DestError.TheVariants.{Fault, Halted, Exists, Changed, NoMemory}
use Rattle.lsm_disk.proofs.Lawful.{get_named}
use Rattle.lsm_disk.proofs.Runs.{state_push}
use Rattle.lsm_dest.specs.FolderDests.{MakesIn, DidOnce}
use Rattle.lsm_dest.proofs.Calls.{new_folder, room_or_taken}
use Rattle.lsm_model.specs.declared.states.State.{State}
use Rattle.lsm_model.specs.Steps.{Made, Began, Makes as Steps}
use Rattle.lsm_refine.specs.Kept.{Shown}
use Rattle.lsm_refine.specs.Good.{Good}
use Rattle.lsm_refine.specs.Moments.{ImagesShow}
use Rattle.lsm_refine.specs.Beside.{LeadToFiles}
use Rattle.lsm_refine.proofs.MomentLemmas.{nothing_done}
use Rattle.lsm_restoring.specs.Restoring.{ChangesOnly, GoesTo, CountsRise, HasNamedJobs}
use Rattle.lsm_restoring.specs.Calls.{dest_of, restoring_shown, IsAnswered}
use Rattle.lsm_restoring.proofs.RestoredChanges.{only_folder}
use Rattle.lsm_restoring.proofs.RestoredImages.{restored_call}
use Rattle.lsm_restoring.proofs.RestoreSteps.{begin_halted, begin_wanting, begin_taken, begin_failed, begin_may, begin_ok, begin_made}

-- ---- what an answer says of the store

module _ (calls : List Halt) (begun : Option Begun) (hand : Option FileName) (v w : Shown)
    (result : Result (Unit {0}) DestError) (is : IsAnswered calls begun hand v w result) where
  -- the store by what it keeps of the restore
  pub shown_by : (halt : Option Halt) (b : Option Begun) (h : Option FileName) → w.halt ≡ halt → w.kept.begun ≡ b → w.kept.hand ≡ h
      → w ≡ restoring_shown w.disk halt b h v
  shown_by halt b h halt_is begun_is hand_is =
      is.rest
      ∙ ap (λ (x : Option Halt). restoring_shown w.disk x w.kept.begun w.kept.hand v) halt_is
      ∙ ap (λ (x : Option Begun). restoring_shown w.disk halt x w.kept.hand v) begun_is
      ∙ ap (λ (x : Option FileName). restoring_shown w.disk halt b x v) hand_is

  pub rise : CountsRise v w.disk
  rise = record { faults = is.cause.faults_later; refusals = is.cause.refusals_later }

-- where the call was refused by an earlier halt, it did nothing
pub same_halted : (calls : List Halt) (begun : Option Begun) (hand : Option FileName) (v w : Shown) (first : Halt)
    → IsAnswered calls begun hand v w (Err (Halted first)) → w ≡ v
same_halted calls begun hand v w first is =
    shown_by calls begun hand v w (Err (Halted first)) is v.halt v.kept.begun v.kept.hand
    (ap (λ d. d.halt) is.halt.1) (ap (λ d. d.begun) is.halt.1) (ap (λ d. d.hand) is.halt.1)
    ∙ ap (λ (seen : Seen). record v { disk = seen }) (ap (λ d. d.disk) is.halt.1)

-- ---- a good store

module _ (v w : Shown) (s : State) (good : Good v s) where
  abbrev d : disk.State
  d = state_of good.story

  -- where the disk tells, it is of this story
  pub of_told : (P : Story → Type 0) → IfSome v.disk.told P → P good.story
  of_told P is = subst (λ (o : Option Story). IfSome o P) good.told is

  pub lead_of : TellsLawful v.disk → LeadToFiles d
  lead_of lawful = λ k. (of_told (λ story. IsLawful (state_of story)) lawful).files k

  -- the story behind one disk call
  pub tells : (c : disk.State → Change) → Makes v.disk.told c w.disk.told → w.disk.told ≡ Some (pushed c good.story)
  tells c makes = makes ∙ ap (option_map (pushed c)) good.told

  pub behind : (c : disk.State → Change) → state_of (pushed c good.story) ≡ after d (c d)
  behind c = state_push good.story (c d)

  abbrev Idle : Type 0
  Idle = w.disk.told ≡ v.disk.told

  -- nothing was done
  pub idle_shows : Idle → (later : State) → ImagesShow good.story w.disk.told s later
  idle_shows same later = subst (λ (told : Option Story). ImagesShow good.story told s later) (sym (same ∙ good.told))
      (nothing_done v s later good)

  -- the state, with what the images read as
  steps_to : (made : Made) → GoesTo (λ t. Steps s made t) w → ((later : State) → ImagesShow good.story w.disk.told s later)
      → (t : State) × Steps s made t × Good w t × ImagesShow good.story w.disk.told s t
  steps_to made goes shows = (goes.0, goes.1, goes.2, shows goes.0)

  -- ---- a folder is begun

  module _ (dir : List ℕ) (named : is_folder_name dir ≡ true) (jobs : HasNamedJobs v) where
    inner : [] ≢ dir
    inner empty = omega (arith, folder_has_bytes dir named, ap (λ (p : List ℕ). length p) empty)

    as_stands : finmap.get (names_now d) dir ≡ stands (names_now d) dir
    as_stands = get_named (names_now d) dir inner

    free_by : (node : Option Node) → cond (is_some node) (Some refusal.Exists) None ≡ None → node ≡ None
    free_by None is = refl
    free_by (Some node) is = cc

    -- the name is free exactly where there is room for the folder
    free_in : no_room dir d ≡ None → finmap.get (names_now d) dir ≡ None
    free_in room = as_stands ∙ free_by (stands (names_now d) dir) (sym (room_or_taken dir d (in_root dir named)) ∙ room)

    room_in : stands (names_now d) dir ≡ None → no_room dir d ≡ None
    room_in free = room_or_taken dir d (in_root dir named)
        ∙ ap (λ (node : Option Node). cond (is_some node) (Some refusal.Exists) None) free

    abbrev making : disk.State → Change
    making = folder_made dir

    module _ (free : finmap.get (names_now d) dir ≡ None) (room : no_room dir d ≡ None) (none : v.halt ≡ None)
        (in_it : MakesIn making v.disk w.disk) where
      made_only : ChangesOnly dir d (after d (making d))
      made_only = only_folder dir named d (lead_of in_it.lawful)

      made_only_now : ChangesOnly dir d (state_of (pushed making good.story))
      made_only_now = subst (λ (x : disk.State). ChangesOnly dir d x) (sym (behind making)) made_only

      made_builds : IsBuilding d (just_begun dir) [] (state_of (pushed making good.story))
      made_builds = subst (λ (x : disk.State). IsBuilding d (just_begun dir) [] x) (sym (behind making))
          (new_folder dir (in_root dir named) good.story (of_told (λ story. IsLawful (state_of story)) in_it.lawful) room)

      made_shows : (later : State) → ImagesShow good.story w.disk.told s later
      made_shows later = restored_call v s good none dir (begin_may v s good none dir named jobs free) making made_only
          w.disk.told (inr in_it.makes) later

    abbrev Answered : Result (Unit {0}) DestError → Type 0
    Answered result = IsAnswered (begin_calls dir) (Some (just_begun dir)) None v w result

    abbrev Did : Result (Unit {0}) DestError → Type 0
    Did result = DidOnce (MakesIn making v.disk w.disk) (no_room dir) v.disk.told w.disk.told result

    abbrev Leads : Result (Unit {0}) DestError → Type 0
    Leads result = (t : State) × Steps s (Began dir result) t × Good w t × ImagesShow good.story w.disk.told s t

    taken_here : (result : Result (Unit {0}) DestError) → IsTakenExactly dir (dest_of v) result
        → TakenBy (stands (names_now d) dir ≡ None) (is_some (stands (names_now d) dir) ≡ true) result
    taken_here result taken = of_told (λ story. TakenBy (stands (names_now (state_of story)) dir ≡ None)
        (is_some (stands (names_now (state_of story)) dir) ≡ true) result) taken

    begin_faults : (is : Answered (Err Fault)) → Did (Err Fault) → Leads (Err Fault)
    begin_faults is did =
        let at : w.halt ≡ Some (halt_at call.MakeFolder dir) = is.halt.1.1 ∙ ap Some (only_at is.halt.1.0 is.halt.1.2) in
        let shown = shown_by (begin_calls dir) (Some (just_begun dir)) None v w (Err Fault) is
        (Some (halt_at call.MakeFolder dir)) v.kept.begun v.kept.hand at is.leaves.0 is.leaves.1 in
        let counts = rise (begin_calls dir) (Some (just_begun dir)) None v w (Err Fault) is in
        ⊎_elim
        (λ same. steps_to (Began dir (Err Fault))
        (subst (GoesTo (λ t. Steps s (Began dir (Err Fault)) t)) (sym shown)
        (begin_failed v s good is.halt.0 w.disk counts same dir is.cause.counted)) (idle_shows same))
        (λ made.
        let room : no_room dir d ≡ None = of_told (λ story. no_room dir (state_of story) ≡ None) made.0 in
        let free = free_in room in
        steps_to (Began dir (Err Fault))
        (subst (GoesTo (λ t. Steps s (Began dir (Err Fault)) t)) (sym shown)
        (begin_made v s good is.halt.0 dir named jobs free w.disk counts (pushed making good.story) (tells making made.1.makes)
        (made_only_now free room is.halt.0 made.1) (made_builds free room is.halt.0 made.1) is.cause.counted))
        (made_shows free room is.halt.0 made.1))
        did
      where
        only_at : (at : Halt) → IsAmong at (begin_calls dir) → at ≡ halt_at call.MakeFolder dir
        only_at at among = ⊎_elim (λ same. same) (λ other. absurd other) among

    pub begin_steps : (result : Result (Unit {0}) DestError) → Answered result → IsTakenExactly dir (dest_of v) result
        → Did result → Leads result
    begin_steps (Ok done) is taken did =
        let stand = taken_here (Ok done) taken in
        let room = room_in stand in
        let free = as_stands ∙ stand in
        let none = is.halt.0 in
        steps_to (Began dir (Ok tt))
        (subst (GoesTo (λ t. Steps s (Began dir (Ok tt)) t))
        (sym (shown_by (begin_calls dir) (Some (just_begun dir)) None v w (Ok tt) is v.halt (Some (just_begun dir)) None
        (is.halt.1 ∙ sym none) is.leaves.0 is.leaves.1))
        (begin_ok v s good none dir named jobs free w.disk
        (rise (begin_calls dir) (Some (just_begun dir)) None v w (Ok tt) is) (pushed making good.story) (tells making did.makes)
        (made_only_now free room none did) (made_builds free room none did)))
        (made_shows free room none did)
    begin_steps (Err Fault) is taken did = begin_faults is did
    begin_steps (Err (Halted first)) is taken did = steps_to (Began dir (Err (Halted first)))
        (subst (GoesTo (λ t. Steps s (Began dir (Err (Halted first))) t))
        (sym (same_halted (begin_calls dir) (Some (just_begun dir)) None v w first is))
        (begin_halted v s good dir first is.halt.0)) (idle_shows did)
    begin_steps (Err Exists) is taken did = steps_to (Began dir (Err Exists))
        (subst (GoesTo (λ t. Steps s (Began dir (Err Exists)) t))
        (sym (shown_by (begin_calls dir) (Some (just_begun dir)) None v w (Err Exists) is v.halt v.kept.begun v.kept.hand
        (is.halt.1 ∙ sym is.halt.0) is.leaves.0 is.leaves.1))
        (begin_taken v s good is.halt.0 w.disk (rise (begin_calls dir) (Some (just_begun dir)) None v w (Err Exists) is) did dir
        named (ap is_some as_stands ∙ taken_here (Err Exists) taken))) (idle_shows did)
    begin_steps (Err (Changed at path)) is taken did = absurd (taken_here (Err (Changed at path)) taken)
    begin_steps (Err NoMemory) is taken did = steps_to (Began dir (Err NoMemory))
        (subst (GoesTo (λ t. Steps s (Began dir (Err NoMemory)) t))
        (sym (shown_by (begin_calls dir) (Some (just_begun dir)) None v w (Err NoMemory) is v.halt v.kept.begun v.kept.hand
        (is.halt.1 ∙ sym is.halt.0) is.leaves.0 is.leaves.1))
        (begin_wanting v s good is.halt.0 w.disk (rise (begin_calls dir) (Some (just_begun dir)) None v w (Err NoMemory) is) did
        dir)) (idle_shows did)
