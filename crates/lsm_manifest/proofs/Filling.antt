-- What each call of the making of a synced file leaves.
use Rattle.std.specs.Prelude.{◌≡◌, ℕ, List, length, take, Option, Some, IfSome}
use Rattle.std.proofs.Common.{refl, sym, subst}
use Rattle.lsm_disk.specs.State.{State, Story, Change, Created, FileState, after, state_of, new_file, longer, created, appended, file_synced}
use Rattle.lsm_disk.specs.Goes.{Shows, Went}
use Rattle.lsm_disk.specs.Kept.{IsFileNow}
use Rattle.lsm_disk.specs.Answers.{Makes, MakesFront, LeftBy, Allowed, RefusesBy}
use Rattle.lsm_disk.specs.Refusals.{no_room, no_file}
use Rattle.lsm_disk.specs.declared.calls.DiskCall.{DiskCall}
use Rattle.lsm_disk.specs.declared.calls.DiskCall.TheVariants as call
use Rattle.lsm_disk.specs.declared.calls.DiskError.{DiskError}
use Rattle.lsm_disk.specs.declared.calls.DiskRefusal.{DiskRefusal}
use Rattle.lsm_disk.proofs.Named.{created_now, now_appended, now_synced, appends_in_now, syncs_in_now}
use Rattle.lsm_disk.proofs.Runs.{went_start, went_weaker, went_ok}
use Rattle.lsm_disk.proofs.Left.{went_left, went_append_left}
use Rattle.lsm_publish.specs.Publishing.{Writes, written}
use Rattle.lsm_publish.proofs.Olds.{file_writes}
use Rattle.lsm_manifest.specs.Installing.{Anything, FillLeft}

-- nothing is known
abbrev pub Unknown : State → Type 0
Unknown s = Unit {0}

-- a refusal of this call, by this error
pub fill_refused : (path : List ℕ) (id : ℕ) (bytes : List ℕ) (c : DiskCall) (why : DiskError) (r : DiskRefusal) {story : Story} {told : Option Story} {q : Change → Type 0} → r.at.call ≡ c → r.why ≡ why
    → Went story told q Anything (FillLeft path id bytes c why) → Went story told q Anything (FillLeft path id bytes r.at.call r.why)
fill_refused path id bytes c why r {story} {told} {q} is because w =
    subst (λ (x : DiskCall). Went story told q Anything (FillLeft path id bytes x r.why)) (sym is)
    (subst (λ (e : DiskError). Went story told q Anything (FillLeft path id bytes c e)) (sym because) w)

module _ (path bytes : List ℕ) (story : Story) where
  abbrev id : ℕ
  id = length (state_of story).files

  abbrev q : Change → Type 0
  q = Writes path id

  abbrev Begun : State → Type 0
  Begun s = length s.files ≡ id

  abbrev Filling : FileState → State → Type 0
  Filling f s = IsFileNow s path id f

  abbrev part : ℕ → FileState
  part n = longer (take n bytes) new_file

  abbrev all : FileState
  all = longer bytes new_file

  anything : (I : State → Type 0) (s : State) → I s → Shows Anything s
  anything I s i = record { each = λ t image. tt }

  abbrev Came : Option Story → (State → Type 0) → Type 0
  Came told I = Went story told q Anything I

  step_create : (s : State) → Begun s → Filling new_file (after s (created path s))
  step_create s b = subst (λ (n : ℕ). IsFileNow (after s (Created path)) path n new_file) b (created_now s path)

  kind_append : (more : List ℕ) (s : State) → Filling new_file s → q (appended path more s)
  kind_append more s w = file_writes path id (appended path more s) (appends_in_now s path id new_file w more)

  step_append : (more : List ℕ) (s : State) → Filling new_file s → Filling (longer more new_file) (after s (appended path more s))
  step_append more s w = now_appended s path id new_file w more

  kind_sync : (s : State) → Filling all s → q (file_synced path s)
  kind_sync s w = file_writes path id (file_synced path s) (syncs_in_now s path id all w)

  step_sync : (s : State) → Filling all s → Filling (written bytes) (after s (file_synced path s))
  step_sync s w = now_synced s path id all w

  module _ {o1 : Option Story} (tells : o1 ≡ Some story) where
    begun : Came o1 Begun
    begun = went_start Begun tells refl (anything Begun)

    module _ {o2 : Option Story} where
      after_create : Makes o1 (created path) o2 → Came o2 (Filling new_file)
      after_create makes = went_ok Begun (Filling new_file) (created path) makes (λ s b. refl) step_create (anything (Filling new_file)) begun

      pub refused_create : (e : DiskError) → LeftBy (o2 ≡ o1) (Allowed (no_room path) o1 × Makes o1 (created path) o2) e → IfSome o1 (λ x. RefusesBy (no_room path (state_of x)) e) → Came o2 (FillLeft path id bytes call.Create e)
      refused_create e did by = went_weaker (λ s. LeftBy (Begun s) (Filling new_file s) e × RefusesBy (no_room path s) e) _ (λ s p. p.0)
          (went_left Begun (Filling new_file) (created path) (no_room path) e did by (λ s b. refl) step_create (anything (Filling new_file)) begun)

      module _ {o3 : Option Story} (made : Makes o1 (created path) o2) where
        after_append : Makes o2 (appended path bytes) o3 → Came o3 (Filling all)
        after_append makes = went_ok (Filling new_file) (Filling all) (appended path bytes) makes (kind_append bytes) (step_append bytes) (anything (Filling all)) (after_create made)

        pub refused_append : (e : DiskError) → LeftBy (o3 ≡ o2) (Allowed (no_file path) o2 × MakesFront path bytes o2 o3) e → IfSome o2 (λ x. RefusesBy (no_file path (state_of x)) e) → Came o3 (FillLeft path id bytes call.Append e)
        refused_append e did by = went_weaker (λ s. LeftBy (Filling new_file s) ((n : ℕ) × Filling (part n) s) e × RefusesBy (no_file path s) e) _ (λ s p. p.0)
            (went_append_left (Filling new_file) (λ n. Filling (part n)) path bytes e did by (λ n. kind_append (take n bytes)) (λ n. step_append (take n bytes)) (λ n. anything (Filling (part n))) (after_create made))

        module _ {o4 : Option Story} (filled : Makes o2 (appended path bytes) o3) where
          pub after_sync : Makes o3 (file_synced path) o4 → Came o4 (Filling (written bytes))
          after_sync makes = went_ok (Filling all) (Filling (written bytes)) (file_synced path) makes kind_sync step_sync (anything (Filling (written bytes))) (after_append filled)

          pub refused_sync : (e : DiskError) → LeftBy (o4 ≡ o3) (Allowed (no_file path) o3 × Makes o3 (file_synced path) o4) e → IfSome o3 (λ x. RefusesBy (no_file path (state_of x)) e) → Came o4 (FillLeft path id bytes call.Sync e)
          refused_sync e did by = went_weaker (λ s. LeftBy (Filling all s) (Filling (written bytes) s) e × RefusesBy (no_file path s) e) _ (λ s p. p.0)
              (went_left (Filling all) (Filling (written bytes)) (file_synced path) (no_file path) e did by kind_sync step_sync (anything (Filling (written bytes))) (after_append filled))
