-- A reading of a folder, at each exit.
use Rattle.std.specs.Prelude.{◌≡◌, ◌≤◌, ℕ, Bool, true, false, List, Result, Ok, Err, IfSome}
use Rattle.std.specs.Str.{bytes_eq}
use Rattle.std.proofs.lemmas.Slice.Eq.{bytes_eq-Decides}
use Rattle.std.proofs.Common.{inl, refl, sym, ap, subst, ◌∙◌}
use Rattle.lsm_names.specs.Folders.{is_folder_name}
use Rattle.lsm_disk.specs.State.{Seen, Story, state_of}
use Rattle.lsm_disk.specs.Images.{tree_now}
use Rattle.lsm_folder.specs.declared.refusals.Refusal.{Refusal}
use Rattle.lsm_folder.specs.declared.refusals.Refusal.TheVariants as refusal
use Rattle.lsm_folder.specs.Reading.{Shown as Read, reading}
use Rattle.lsm_model.specs.declared.replies.Shown.{Shown as Reading}
use Rattle.lsm_model.specs.declared.events.Event.TheVariants as event
use Rattle.lsm_model.specs.declared.replies.Reply.TheVariants as reply
use Rattle.lsm_model.specs.declared.errors.StoreError.{StoreError}
use Rattle.lsm_model.specs.declared.errors.StoreError.TheVariants as error
use Rattle.lsm_model.specs.declared.states.State.{State}
use Rattle.lsm_refine.specs.Kept.{Shown}
use Rattle.lsm_refine.specs.Folders.{folder_reading, as_error, as_shown}
use Rattle.lsm_refine.specs.Good.{Good, IsUnchanged}
use Rattle.lsm_refine.specs.Refused.{FolderRefused}
use Rattle.lsm_refine.specs.Caused.{OnlyReads, ReadFolderBy, CausedBy}
use Rattle.lsm_refine.proofs.ReadSteps.{show_other, show_own, show_fault, show_wanting}
use Rattle.lsm_refine.proofs.WriteSteps.{Steps}
use Rattle.lsm_recover.specs.Answers.{IsRefusedBy, place_now}
use Rattle.lsm_recover.specs.Causes.{HasRisenBy, HasFolderCause}
use Rattle.lsm_recover.specs.Shown.{AnswersShown, shown}
use Rattle.lsm_recover.specs.declared.errors.FolderError.{FolderError}
use Rattle.lsm_recover.specs.declared.errors.FolderError.TheVariants as read
use Rattle.lsm_recover.specs.declared.folder.Found.{Found}
use Rattle.lsm_recover.proofs.OpenLemmas.{told_that}
use Rattle.lsm_store.specs.Inside.{Inner, shown_of}
use Rattle.lsm_store.specs.Showing.{folder_error}
use Rattle.lsm_store.proofs.Calls.{IsCall, same_shows}

-- a folder is shown so, and the call leaves the later store
abbrev pub IsShow : List ℕ → Result Reading StoreError → Shown → Shown → Type 0
IsShow dir r v w = IsCall (λ s. s) (event.Show dir) (reply.Show r) v w

show_caused : (dir : List ℕ) (v w : Shown) (r : Result Reading StoreError) → ReadFolderBy dir v w r
    → CausedBy v (event.Show dir) (reply.Show r) w
unfolding CausedBy
show_caused dir v w r by = by

-- what was read, as a store shows it
shows_as : (dir : List ℕ) (story : Story) (r : Result Read Refusal) → reading (place_now dir story) ≡ r
    → as_shown dir r ≡ folder_reading dir (tree_now (state_of story))
unfolding folder_reading
shows_as dir story r is = ap (as_shown dir) (sym is)

-- ---- in a good store

module _ (v w : Shown) (s : State) (good : Good v s) (same : IsUnchanged good.story v w) (halt : w.halt ≡ v.halt)
    (faults : v.disk.faults ≤ w.disk.faults) (refusals : v.disk.refusals ≤ w.disk.refusals) (dir : List ℕ)
    (named : is_folder_name dir ≡ true) where
  -- whichever folder it is
  as_read : (r : Result Reading StoreError) → r ≡ folder_reading dir (tree_now (state_of good.story))
      → Steps s (event.Show dir) (reply.Show r) w
  as_read r is = by (bytes_eq dir v.dir) refl
    where
      by : (b : Bool) → bytes_eq dir v.dir ≡ b → Steps s (event.Show dir) (reply.Show r) w
      by true same_dir =
          let own : dir ≡ v.dir = (bytes_eq-Decides dir v.dir).0 same_dir in
          subst (λ (d : List ℕ). Steps s (event.Show d) (reply.Show r) w) (sym own)
          (show_own v w s good same halt faults refusals r
          (is ∙ ap (λ (d : List ℕ). folder_reading d (tree_now (state_of good.story))) own))
      by false other = show_other v w s good same halt faults refusals dir r named
          (λ own. let clash : false ≡ true = sym other ∙ (bytes_eq-Decides dir v.dir).1 own in cc) is

  shown_step : (found : Read) → reading (place_now dir good.story) ≡ Ok found
      → Steps s (event.Show dir) (reply.Show (Ok (record { sequence = found.sequence; contents = found.contents }))) w
  shown_step found is = as_read (Ok (record { sequence = found.sequence; contents = found.contents }))
      (shows_as dir good.story (Ok found) is)

  refused_by : (why : Refusal) → reading (place_now dir good.story) ≡ Err why
      → Steps s (event.Show dir) (reply.Show (Err (as_error dir why))) w
  refused_by why is = as_read (Err (as_error dir why)) (shows_as dir good.story (Err why) is)

  -- the folder that isn't there, or has no CURRENT, is this one
  of_dir : (answer : List ℕ → StoreError) (at : List ℕ) → at ≡ dir
      → Steps s (event.Show dir) (reply.Show (Err (answer dir))) w
      → Steps s (event.Show dir) (reply.Show (Err (answer at))) w
  of_dir answer at is steps =
      subst (λ (d : List ℕ). Steps s (event.Show dir) (reply.Show (Err (answer d))) w) (sym is) steps

  -- each trouble of the reading
  refused_step : (e : FolderError) → IsRefusedBy (reading (place_now dir good.story)) e → HasRisenBy dir v.disk w.disk e
      → Steps s (event.Show dir) (reply.Show (Err (folder_error e))) w
  refused_step read.DiskFault is rose = show_fault v w s good same halt faults refusals dir rose
  refused_step (read.NoFolder at) is rose = of_dir (λ d. error.NoFolder d) at rose.0 (refused_by refusal.NoFolder is)
  refused_step (read.NoCurrent at) is rose = of_dir (λ d. error.NoCurrent d) at rose.0 (refused_by refusal.NoCurrent is)
  refused_step (read.Missing name) is rose = refused_by (refusal.Missing name) is
  refused_step (read.Changed made path) is rose = absurd is
  refused_step (read.Short name kept found) is rose = refused_by (refusal.Short name kept found) is
  refused_step (read.Damaged name place kept found) is rose = refused_by (refusal.Damaged name place kept found) is
  refused_step (read.Malformed name place) is rose = refused_by (refusal.Malformed name place) is
  refused_step (read.TornLog name place) is rose = refused_by (refusal.TornLog name place) is
  refused_step (read.Gap name kept found) is rose = refused_by (refusal.Gap name kept found) is
  refused_step (read.BadLevels level left right) is rose = refused_by (refusal.BadLevels level left right) is
  refused_step read.NoMemory is rose = show_wanting v w s good same halt faults refusals dir

-- ---- causes

refused_for : (dir : List ℕ) (v w : Shown) (e : FolderError) → HasRisenBy dir v.disk w.disk e
    → FolderRefused dir v w (folder_error e)
refused_for dir v w read.DiskFault rose = rose
refused_for dir v w (read.NoFolder at) rose = rose.0
refused_for dir v w (read.NoCurrent at) rose = rose.0
refused_for dir v w (read.Missing name) rose = rose
refused_for dir v w (read.Changed made path) rose = rose
refused_for dir v w (read.Short name kept found) rose = tt
refused_for dir v w (read.Damaged name place kept found) rose = tt
refused_for dir v w (read.Malformed name place) rose = tt
refused_for dir v w (read.TornLog name place) rose = tt
refused_for dir v w (read.Gap name kept found) rose = tt
refused_for dir v w (read.BadLevels level left right) rose = tt
refused_for dir v w read.NoMemory rose = tt

-- ---- the exits

module _ (x : Inner) (dir : List ℕ) (named : is_folder_name dir ≡ true) (seen : Seen) (told : seen.told ≡ x.disk.told) where
  abbrev v : Shown
  v = shown_of x

  abbrev w : Shown
  w = shown_of (record x { disk = seen })

  unchanged : (s : State) (good : Good v s) → IsUnchanged good.story v w
  unchanged s good = record {
    later = good.story;
    told = told ∙ good.told;
    state = refl;
    dir = refl;
    kept = refl;
    views = λ number view there. inl there;
  }

  only_reads : OnlyReads v w
  only_reads = (refl, refl)

  found_is : (f : Found) → HasFolderCause dir x.disk seen (Ok f)
      → IfSome x.disk.told (λ story. AnswersShown (reading (place_now dir story)) (Ok f))
      → IsShow dir (Ok (record { sequence = f.sequence; contents = f.contents })) v w
  found_is f cause answer = record {
    step = λ s good.
        shown_step v w s good (unchanged s good) refl cause.faults_later cause.refusals_later dir named (shown f)
        (told_that x.disk.told (λ (story : Story). AnswersShown (reading (place_now dir story)) (Ok f)) good.story good.told
        answer);
    images = λ s good. same_shows v s s good seen.told told;
    causes = record {
      counts = record { dir = refl; faults = cause.faults_later; refusals = cause.refusals_later };
      by = show_caused dir v w (Ok (record { sequence = f.sequence; contents = f.contents })) only_reads;
    };
  }

  refused_is : (e : FolderError) → HasFolderCause {T = Found} dir x.disk seen (Err e)
      → IfSome x.disk.told (λ story. AnswersShown (reading (place_now dir story)) (Err e))
      → IsShow dir (Err (folder_error e)) v w
  refused_is e cause answer = record {
    step = λ s good.
        refused_step v w s good (unchanged s good) refl cause.faults_later cause.refusals_later dir named e
        (told_that x.disk.told (λ (story : Story). AnswersShown (reading (place_now dir story)) (Err e)) good.story good.told
        answer)
        cause.counted;
    images = λ s good. same_shows v s s good seen.told told;
    causes = record {
      counts = record { dir = refl; faults = cause.faults_later; refusals = cause.refusals_later };
      by = show_caused dir v w (Err (folder_error e)) (refused_for dir v w e cause.counted, only_reads);
    };
  }

  -- each exit, at what contracts saw of the store before, where the folder's path was read
  module _ (before : Shown) (same : v ≡ before) (path : List ℕ) (at_path : path ≡ dir) where
    pub found_show : (f : Found) → HasFolderCause path x.disk seen (Ok f)
        → IfSome x.disk.told (λ story. AnswersShown (reading (place_now path story)) (Ok f))
        → IsShow dir (Ok (record { sequence = f.sequence; contents = f.contents })) before w
    found_show f cause answer =
        subst (λ (u : Shown). IsShow dir (Ok (record { sequence = f.sequence; contents = f.contents })) u w) same
        (found_is f (subst (λ (d : List ℕ). HasFolderCause d x.disk seen (Ok f)) at_path cause)
        (subst (λ (d : List ℕ). IfSome x.disk.told (λ story. AnswersShown (reading (place_now d story)) (Ok f))) at_path answer))

    pub refused_show : (e : FolderError) (answered : StoreError) → answered ≡ folder_error e
        → HasFolderCause {T = Found} path x.disk seen (Err e)
        → IfSome x.disk.told (λ story. AnswersShown (reading (place_now path story)) (Err e))
        → IsShow dir (Err answered) before w
    refused_show e answered is cause answer =
        subst (λ (u : Shown). IsShow dir (Err answered) u w) same
        (subst (λ (a : StoreError). IsShow dir (Err a) v w) (sym is)
        (refused_is e (subst (λ (d : List ℕ). HasFolderCause {T = Found} d x.disk seen (Err e)) at_path cause)
        (subst (λ (d : List ℕ). IfSome x.disk.told (λ story. AnswersShown (reading (place_now d story)) (Err e))) at_path
        answer)))
