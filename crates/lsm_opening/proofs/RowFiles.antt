-- What each call of the writing of a new file leaves.
use Rattle.std.specs.Prelude.{◌≡◌, ◌⊎◌, ℕ, List, [], ◌∷◌, ◌++◌, length, take, Option, Some}
use Rattle.std.proofs.Common.{refl, sym, subst}
use Rattle.lsm_disk.specs.State.{FileState, State, Story, Change, Created, Named, Appended, Synced, Names_synced, Idle, state_of, after, created, appended, file_synced, names_synced, where_new, new_file}
use Rattle.lsm_disk.specs.Names.{NameOp}
use Rattle.lsm_disk.specs.Refusals.{never, no_room, no_file}
use Rattle.lsm_disk.specs.Images.{Tree}
use Rattle.lsm_disk.specs.Goes.{Shows}
use Rattle.lsm_disk.specs.Kept.{InFile, IsFileNow}
use Rattle.lsm_disk.specs.Answers.{Makes, LeftBy, Allowed, MakesFront}
use Rattle.lsm_disk.specs.Building.{sealed}
use Rattle.lsm_disk.specs.declared.calls.DiskError.{DiskError}
use Rattle.lsm_disk.proofs.Named.{created_now, now_appended, now_synced, now_kept, appends_in_now, syncs_in_now}
use Rattle.lsm_disk.proofs.Runs.{went_start, went_weaker, went_ok, went_err, went_append_err}
use Rattle.lsm_refine.specs.Beside.{WritesNew}
use Rattle.lsm_opening.specs.RowFiles.{WritesFile, HasSoFar, IsSealedAs}

module _ (path : List ℕ) (start : Story) where
  abbrev id : ℕ
  id = length (state_of start).files

  abbrev q : Change → Type 0
  q = WritesNew path id

  abbrev Writes : Option Story → (State → Type 0) → Type 0
  Writes told J = WritesFile path start told J

  anything : (I : State → Type 0) (x : State) → I x → Shows (λ (s : State) (t : Tree). Unit {0}) x
  anything I x i = record { each = λ t image. tt }

  abbrev IsStart : State → Type 0
  IsStart x = x ≡ state_of start

  unknown : {told : Option Story} (I : State → Type 0) → Writes told I → Writes told (λ (x : State). Unit {0})
  unknown I w = went_weaker I (λ (x : State). Unit {0}) (λ s i. tt) w

  pub nothing_known : {told : Option Story} (I : State → Type 0) → Writes told I → Writes told (λ (x : State). Unit {0})
  nothing_known I w = unknown I w

  pub begun : {told : Option Story} → told ≡ Some start → Writes told IsStart
  begun is = went_start IsStart is refl (anything IsStart)

  pub nothing_written : {told : Option Story} → told ≡ Some start → Writes told (λ (x : State). Unit {0})
  nothing_written is = unknown IsStart (begun is)

  in_file : (c : Change) → InFile id c → q c
  in_file (Created other) is = absurd is
  in_file (Appended k bytes) is = is
  in_file (Synced k) is = is
  in_file Names_synced is = absurd is
  in_file Idle is = tt
  in_file (Named op) is = absurd is

  step_create : (s : State) → IsStart s → HasSoFar path start [] (after s (Created path))
  step_create s is = subst (λ (x : State). IsFileNow (after x (Created path)) path id new_file) (sym is)
      (created_now (state_of start) path)

  pub file_created : {told now : Option Story} → told ≡ Some start → Makes told (created path) now → Writes now
      (HasSoFar path start [])
  file_created is makes = went_ok IsStart (HasSoFar path start []) (created path) makes (λ s i. refl) step_create
      (anything (HasSoFar path start [])) (begun is)

  pub file_not_created : {told now : Option Story} → told ≡ Some start → (e : DiskError)
      → LeftBy (now ≡ told) (Allowed (no_room path) told × Makes told (created path) now) e → Writes now
      (λ (x : State). Unit {0})
  file_not_created is e did =
      unknown (λ s. IsStart s ⊎ HasSoFar path start [] s)
      (went_err IsStart (HasSoFar path start []) (created path) (no_room path) e did (λ s i. refl) step_create
      (anything (HasSoFar path start [])) (begun is))

  -- ---- an append, and a sync

  module _ (before : List ℕ) where
    abbrev file : FileState
    file = record { synced = []; unsynced = before }

    kind_append : (more : List ℕ) (s : State) → HasSoFar path start before s → q (appended path more s)
    kind_append more s w = in_file (appended path more s) (appends_in_now s path id file w more)

    step_append : (more : List ℕ) (s : State) → HasSoFar path start before s
        → HasSoFar path start (before ++ more) (after s (appended path more s))
    step_append more s w = now_appended s path id file w more

    pub file_appended : {told now : Option Story} → Writes told (HasSoFar path start before) → (bytes : List ℕ)
        → Makes told (appended path bytes) now → Writes now (HasSoFar path start (before ++ bytes))
    file_appended was bytes makes = went_ok (HasSoFar path start before) (HasSoFar path start (before ++ bytes))
        (appended path bytes) makes (kind_append bytes) (step_append bytes)
        (anything (HasSoFar path start (before ++ bytes))) was

    pub file_not_appended : {told now : Option Story} → Writes told (HasSoFar path start before) → (bytes : List ℕ)
        (e : DiskError)
        → LeftBy (now ≡ told) (Allowed (no_file path) told × MakesFront path bytes told now) e → Writes now
        (λ (x : State). Unit {0})
    file_not_appended was bytes e did =
        unknown (λ s. HasSoFar path start before s ⊎ ((n : ℕ) × HasSoFar path start (before ++ take n bytes) s))
        (went_append_err (HasSoFar path start before) (λ n. HasSoFar path start (before ++ take n bytes)) path bytes e did
        (λ n. kind_append (take n bytes)) (λ n. step_append (take n bytes))
        (λ n. anything (HasSoFar path start (before ++ take n bytes))) was)

    abbrev SyncedNow : State → Type 0
    SyncedNow x = IsFileNow x path id (sealed before)

    kind_sync : (s : State) → HasSoFar path start before s → q (file_synced path s)
    kind_sync s w = in_file (file_synced path s) (syncs_in_now s path id file w)

    step_sync : (s : State) → HasSoFar path start before s → SyncedNow (after s (file_synced path s))
    step_sync s w = now_synced s path id file w

    pub file_is_synced : {told now : Option Story} → Writes told (HasSoFar path start before) → Makes told
        (file_synced path) now
        → Writes now (λ (x : State). IsFileNow x path (length (state_of start).files) (sealed before))
    file_is_synced was makes = went_ok (HasSoFar path start before) SyncedNow (file_synced path) makes kind_sync step_sync
        (anything SyncedNow) was

    pub file_not_synced : {told now : Option Story} → Writes told (HasSoFar path start before) → (e : DiskError)
        → LeftBy (now ≡ told) (Allowed (no_file path) told × Makes told (file_synced path) now) e → Writes now
        (λ (x : State). Unit {0})
    file_not_synced was e did =
        unknown (λ s. HasSoFar path start before s ⊎ SyncedNow s)
        (went_err (HasSoFar path start before) SyncedNow (file_synced path) (no_file path) e did kind_sync step_sync
        (anything SyncedNow) was)

    -- ---- the sync of names

    kind_names : (s : State) → q (names_synced s)
    kind_names s = by_pending s.pending
      where
        by_pending : (ops : List NameOp) → q (where_new ops Names_synced)
        by_pending [] = tt
        by_pending (op ∷ ops) = tt

    none_pending : (s : State) → (after s (names_synced s)).pending ≡ []
    none_pending s = by_pending s.pending refl
      where
        by_pending : (ops : List NameOp) → s.pending ≡ ops → (after s (where_new ops Names_synced)).pending ≡ []
        by_pending [] is = is
        by_pending (op ∷ ops) is = refl

    step_names : (s : State) → SyncedNow s → IsSealedAs path start before (after s (names_synced s))
    step_names s w = record { file = now_kept s path id (sealed before) w; settled = none_pending s }

    pub file_sealed : {told now : Option Story} → Writes told
        (λ (x : State). IsFileNow x path (length (state_of start).files) (sealed before))
        → Makes told names_synced now → Writes now (IsSealedAs path start before)
    file_sealed was makes = went_ok SyncedNow (IsSealedAs path start before) names_synced makes
        (λ s w. kind_names s) step_names
        (anything (IsSealedAs path start before)) was

    pub file_not_sealed : {told now : Option Story} → Writes told
        (λ (x : State). IsFileNow x path (length (state_of start).files) (sealed before))
        → (e : DiskError) → LeftBy (now ≡ told) (Allowed never told × Makes told names_synced now) e
        → Writes now (λ (x : State). Unit {0})
    file_not_sealed was e did =
        unknown (λ s. SyncedNow s ⊎ IsSealedAs path start before s)
        (went_err SyncedNow (IsSealedAs path start before) names_synced never e did (λ s w. kind_names s) step_names
        (anything (IsSealedAs path start before)) was)
