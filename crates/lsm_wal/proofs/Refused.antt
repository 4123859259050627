-- A refused sync behind an append.
use Rattle.std.specs.Prelude.{◌≡◌, ◌≢◌, ℕ, if◌then◌else◌, is_some, List, Option, Some, None, IfSome, Err}
use Rattle.std.proofs.Common.{refl, sym, ap, subst, ◌∙◌}
use Rattle.lsm_disk.specs.State.{State, Story, Appended, after, state_of, in_found, file_at, appended}
use Rattle.lsm_disk.specs.Answers.{Makes, pushed, RefusesBy}
use Rattle.lsm_disk.specs.Refusals.{no_file}
use Rattle.lsm_disk.specs.declared.calls.DiskCall.TheVariants.{Sync}
use Rattle.lsm_disk.specs.declared.calls.DiskError.{DiskError}
use Rattle.lsm_disk.specs.declared.calls.DiskError.TheVariants.{Fault, NotThere, Exists, NoLinks, NotEmpty, Short, NoMemory}
use Rattle.lsm_disk.specs.declared.calls.DiskRefusal.{DiskRefusal}
use Rattle.lsm_disk.proofs.Runs.{state_push}
use Rattle.lsm_wal.specs.Answered.{AnswersBoth}

-- where nothing refuses the call, and memory is not wanting, only a fault is left
only_fault : (e : DiskError) → RefusesBy None e → e ≢ NoMemory → e ≡ Fault
only_fault Fault h some = refl
only_fault NoMemory h some = absurd (some refl)
only_fault NotThere h some = cc
only_fault Exists h some = cc
only_fault NoLinks h some = cc
only_fault NotEmpty h some = cc
only_fault (Short found) h some = cc

-- an append leaves the names
same_names : (s : State) (path bytes : List ℕ) (id : Option ℕ) → file_at (after s (in_found id (λ k. Appended k bytes))) path ≡ file_at s path
same_names s path bytes None = refl
same_names s path bytes (Some k) = refl

there_still : (story : Story) (path bytes : List ℕ) → no_file path (state_of (pushed (appended path bytes) story)) ≡ no_file path (state_of story)
there_still story path bytes =
    ap (no_file path) (state_push story (appended path bytes (state_of story)))
    ∙ ap (λ (o : Option ℕ). if is_some o then None else Some NotThere) (same_names (state_of story) path bytes (file_at (state_of story) path))

pub refused_sync : (T : Type 0) (path bytes : List ℕ) (o1 o2 : Option Story) (r : DiskRefusal) (e : DiskError) → r.why ≡ e → Makes o1 (appended path bytes) o2 → IfSome o1 (λ story. no_file path (state_of story) ≡ None)
    → IfSome o2 (λ story. RefusesBy (no_file path (state_of story)) e) → e ≢ NoMemory → IfSome o1 (λ story. AnswersBoth {T = T} Sync (no_file path (state_of story)) (Err r))
refused_sync T path bytes None o2 r e why makes there refuses some = tt
refused_sync T path bytes (Some story) o2 r e why makes there refuses some =
    let now = subst (λ (o : Option Story). IfSome o (λ later. RefusesBy (no_file path (state_of later)) e)) makes refuses in
    let none : RefusesBy None e = subst (λ (o : Option DiskError). RefusesBy o e) (there_still story path bytes ∙ there) now in
    (subst (λ (o : Option DiskError). RefusesBy o r.why) (sym there) (subst (RefusesBy None) (sym why) none), λ call. (there, why ∙ only_fault e none some))
