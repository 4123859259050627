-- An opening behind its sync of names, whatever was found before it.
use Rattle.std.specs.Prelude.{◌≡◌, ℕ, ◌≤◌, true, List, Option, Some, option_map, Result, Ok, Err, IfSome}
use Rattle.std.proofs.Common.{refl, sym, ap, subst, ◌∙◌, arith}
use Rattle.lsm_names.specs.Folders.{is_folder_name}
use Rattle.lsm_disk.specs.State as disk
use Rattle.lsm_disk.specs.State.{Seen, Story, Names_synced, after, names_synced, state_of}
use Rattle.lsm_disk.specs.Images.{IsImage}
use Rattle.lsm_disk.specs.Goes.{Went}
use Rattle.lsm_disk.specs.Answers.{Makes, LeftBy, Allowed, pushed}
use Rattle.lsm_disk.specs.Refusals.{never}
use Rattle.lsm_disk.specs.declared.calls.DiskError.{DiskError}
use Rattle.lsm_disk.specs.declared.calls.DiskRefusal.{DiskRefusal}
use Rattle.lsm_disk.specs.Answers.{HasCause, HasRisen, Did}
use Rattle.lsm_disk.proofs.Images.{after_names_synced}
use Rattle.lsm_disk.proofs.Runs.{went_start, went_weaker}
use Rattle.lsm_model.specs.declared.errors.StoreError.{StoreError}
use Rattle.lsm_model.specs.declared.errors.StoreError.TheVariants.{NoMemory}
use Rattle.lsm_model.specs.declared.states.State.{State}
use Rattle.lsm_refine.specs.OpeningImages.{KeepsFolder}
use Rattle.lsm_refine.specs.Openings.{IsFound, LosesNothing}
use Rattle.lsm_refine.proofs.OpeningBegins.{found_kept, names_kept, names_found}
use Rattle.lsm_refine.proofs.OpeningGoesOn.{way_loses}
use Rattle.lsm_refine.proofs.OpeningRuns.{Keeps, kept_ok, kept_err, kept_shows, opening_then}
use Rattle.lsm_store.specs.Answering.{error_of}
use Rattle.lsm_store.specs.Opening.{Begins, IsBehindSync, KeepsFrom, OpenedBy, Opens}
use Rattle.lsm_store.specs.declared.opening.Begun.{Begun}
use Rattle.lsm_store.proofs.NewStores.{synced_state}
use Rattle.lsm_store.proofs.OpenCauses.{disk_cause, opened_since}

abbrev pub Anything : disk.State → Type 0
Anything x = Unit {0}

-- what is so of what is told
pub told_so : (P : Story → Type 0) (told : Option Story) → IfSome told P → (story : Story) → told ≡ Some story → P story
told_so P told holds story is = subst (λ (o : Option Story). IfSome o P) is holds

-- where nothing was done, each image is one from before
pub stays : (dir : List ℕ) (mid : Story) (told : Option Story) → told ≡ Some mid → (start : disk.State)
    → KeepsFolder dir start (state_of mid) → Went mid told (λ c. Unit {0}) (Keeps dir start) Anything
stays dir mid told is start kept = went_weaker (λ x. x ≡ state_of mid) Anything (λ x same. tt)
    (went_start (λ x. x ≡ state_of mid) is refl
    (λ x same. record { each = λ t image. kept.each t (subst (λ (y : disk.State). IsImage y t) same image) }))

module _ (dir : List ℕ) (named : is_folder_name dir ≡ true) where
  module _ (before mid : Story) (synced : IsBehindSync before mid) (s : State) (own : s.own ≡ dir)
      (found : IsFound (state_of before) s) where
    abbrev b : disk.State
    b = state_of before

    sync_is : after (state_of before) (names_synced (state_of before)) ≡ state_of mid
    sync_is = after_names_synced b ∙ sym synced

    -- the sync has kept each image
    pub behind_kept : KeepsFolder dir (state_of before) (state_of mid)
    behind_kept = subst (KeepsFolder dir b) sync_is (names_kept dir b b (found_kept b s dir named own found))

    -- what was found is found still
    pub behind_found : IsFound (state_of mid) s
    behind_found = subst (λ (d : disk.State). IsFound d s) sync_is (names_found b s found)

  -- nothing was written behind the sync
  pub unwritten : (before mid : Story) → IsBehindSync before mid → (told : Option Story) → told ≡ Some mid
      → KeepsFrom before dir mid told
  unwritten before mid synced told is s own found =
      stays dir mid told is (state_of before) (behind_kept before mid synced s own found)

  -- ---- the sync

  module _ (before : Story) (old : Option Story) (was : old ≡ Some before) where
    abbrev d : disk.State
    d = state_of before

    abbrev First : disk.State → Type 0
    First x = (x ≡ state_of before) × KeepsFolder dir (state_of before) x

    at_first : (s : State) → s.own ≡ dir → IsFound (state_of before) s
        → Went before old (λ c. Unit {0}) (Keeps dir (state_of before)) First
    at_first s own found = went_start First was (refl, found_kept d s dir named own found) (λ x is. kept_shows dir d x is.1)

    -- the disk was not called, or nothing came of it
    pub nothing_lost : (told : Option Story) → told ≡ Some before → LosesNothing before dir told
    nothing_lost told is = way_loses before dir told named
        (λ s own found. stays dir before told is (state_of before) (found_kept d s dir named own found))

    -- the sync was refused
    pub sync_lost : (at : Option Story) (e : DiskError)
        → LeftBy (at ≡ old) (Allowed never old × Makes old names_synced at) e → LosesNothing before dir at
    sync_lost at e did = way_loses before dir at named
        (λ s own found. went_weaker _ Anything (λ x held. tt)
        (kept_err dir d (λ x. x ≡ d) Anything names_synced (λ x is. tt) (λ x is kept. names_kept dir d x kept) never e did
        (at_first s own found)))

    module _ (at new : Option Story) (made : Makes old names_synced at)
        (keeps : (mid : Story) → at ≡ Some mid → IsBehindSync before mid → KeepsFrom before dir mid new) where
      -- what is kept behind the sync is from before it
      pub sync_then : LosesNothing before dir new
      sync_then = way_loses before dir new named
          (λ s own found. opening_then dir d (λ c. Unit {0}) (λ x. Unit {0} × KeepsFolder dir d x) Anything
          (kept_ok dir d (λ x. x ≡ d) Anything names_synced (λ x is. tt) (λ x is kept. names_kept dir d x kept) made
          (at_first s own found))
          (λ mid is held. keeps mid is (synced_state before old at was made mid is) s own found))

-- ---- an opening from before its sync

module _ (dir : List ℕ) (named : is_folder_name dir ≡ true) (old at : Seen) (faults : old.faults ≤ at.faults)
    (refusals : old.refusals ≤ at.refusals) where
  -- the sync of names was refused
  pub sync_refused : (e : DiskError) → Did {T = Unit {0}} names_synced never old at (Err e) → HasCause {T = Unit {0}} old at
      (Err e)
      → (r : DiskRefusal) → r.why ≡ e → (why : StoreError) → why ≡ error_of r → Opens dir old at (Err why)
  sync_refused e did cause r e_is why why_is =
      subst (λ (w : StoreError). Opens dir old at (Err w)) (sym why_is) (record {
        sound = tt;
        opened = tt;
        moments = λ before was. sync_lost dir named before old.told was at.told e did;
        by = record {
          faults = faults;
          refusals = refusals;
          cause = disk_cause dir old at r (subst (λ (w : DiskError). HasRisen old at w) (sym e_is) cause.counted);
        };
      })

  module _ (new : Seen) (made : Makes old.told names_synced at.told) where
    moments : (result : Result Begun StoreError) → Begins dir at new result
        → (before : Story) → old.told ≡ Some before → LosesNothing before dir new.told
    moments result begins before was = sync_then dir named before old.told was at.told new.told made
        (λ mid is synced. begins.keeps before mid is synced)

    pub sync_made : (result : Result Begun StoreError) → Begins dir at new result → Opens dir old new result
    sync_made (Ok b) begins = record {
      sound = begins.sound;
      opened = λ before was.
          let mid = pushed names_synced before in
          let is : at.told ≡ Some mid = made ∙ ap (option_map (pushed names_synced)) was in
          let leads = begins.leads before mid is (synced_state before old.told at.told was made mid is) in
          record {
            leads = leads.leads;
            fresh = leads.fresh;
            moments = moments (Ok b) begins before was;
          };
      moments = moments (Ok b) begins;
      by = opened_since dir old at new faults refusals (Ok b) begins.by;
    }
    sync_made (Err e) begins = record {
      sound = tt;
      opened = tt;
      moments = moments (Err e) begins;
      by = opened_since dir old at new faults refusals (Err e) begins.by;
    }

-- ---- the answers

pub answered : {T S : Type 0} (dir : List ℕ) (old new : Seen) (value : T) (other : S) → OpenedBy dir old new (Ok value)
    → OpenedBy dir old new (Ok other)
answered dir old new value other by = record { faults = by.faults; refusals = by.refusals; cause = tt }

pub answered_by : {T S : Type 0} (dir : List ℕ) (old new : Seen) (e : StoreError) → OpenedBy {T = T} dir old new (Err e)
    → OpenedBy {T = S} dir old new (Err e)
answered_by dir old new e by = record { faults = by.faults; refusals = by.refusals; cause = by.cause }

-- memory was wanting before the disk was called
pub no_memory : {T : Type 0} (dir : List ℕ) (seen : Seen) → OpenedBy {T = T} dir seen seen (Err NoMemory)
no_memory dir seen = record { faults = omega arith; refusals = omega arith; cause = tt }
