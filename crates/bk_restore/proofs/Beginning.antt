-- The begin of a restored folder.
use Rattle.std.specs.Prelude.{◌≡◌, ◌↔◌, ℕ, List, length, Option, Some, None, Result, Ok, Err}
use Rattle.std.proofs.Common.{refl, sym, ap, ◌∙◌}
use Rattle.lsm_disk.specs.State.{State, Story, state_of}
use Rattle.lsm_disk.specs.Goes.{Went}
use Rattle.lsm_disk.specs.Dest.{DestSeen, HaltsAt, IsTakenExactly}
use Rattle.lsm_disk.specs.Building.{IsWithin, HasNoCurrent, MayHaveFolder, Begins}
use Rattle.lsm_disk.specs.declared.calls.Halt.{Halt}
use Rattle.lsm_disk.specs.declared.dest.DestError.{DestError}
use Rattle.lsm_disk.specs.declared.dest.DestError.TheVariants as dest
use Rattle.lsm_disk.proofs.Built.{folder_lacks}
use Rattle.lsm_disk.proofs.Runs.{went_weaker, went_wider}
use Rattle.bk_restore.specs.declared.errors.RestoreError.{RestoreError}
use Rattle.bk_restore.specs.declared.errors.RestoreError.TheVariants.{DestFault, Halted, DestinationExists, Changed, NoMemory}
use Rattle.bk_restore.specs.Refusals.{dest_answer}
use Rattle.bk_restore.specs.Restored.{BeginsBy, IsBegunBy, TakesBy}

begins_by : (start : State) (folder : List ℕ) (why : DestError) (s : State) → Begins {T = Unit {0}} folder start (Err why) s → BeginsBy start folder (Err (dest_answer folder why)) s
begins_by start folder dest.Fault s left = tt
begins_by start folder (dest.Halted first) s left = left
begins_by start folder dest.Exists s left = left
begins_by start folder (dest.Changed call path) s left = absurd left
begins_by start folder dest.NoMemory s left = left

module _ (story : Story) (folder : List ℕ) where
  abbrev Begun_as : Option Story → (State → Type 0) → Type 0
  Begun_as told I = Went story told (IsWithin folder (length (state_of story).files)) (MayHaveFolder (state_of story) folder) I

  abbrev Begun_by : Option Story → (State → Type 0) → Type 0
  Begun_by told I = Went story told (IsWithin folder (length (state_of story).files)) (HasNoCurrent (state_of story) folder) I

  -- no image on the way has a `CURRENT`
  pub begin_lacks : {told : Option Story} (I : State → Type 0) → Begun_as told I → Begun_by told I
  begin_lacks I w = went_wider (IsWithin folder (length (state_of story).files)) (IsWithin folder (length (state_of story).files)) (MayHaveFolder (state_of story) folder) (HasNoCurrent (state_of story) folder)
      (λ c h. h) (λ s t may. folder_lacks (state_of story) s folder t may) w

  pub begin_refused : {told : Option Story} (why : DestError) → Begun_as told (Begins {T = Unit {0}} folder (state_of story) (Err why)) → Begun_by told (BeginsBy (state_of story) folder (Err (dest_answer folder why)))
  begin_refused why w = went_weaker (Begins {T = Unit {0}} folder (state_of story) (Err why)) (BeginsBy (state_of story) folder (Err (dest_answer folder why))) (begins_by (state_of story) folder why)
      (begin_lacks (Begins {T = Unit {0}} folder (state_of story) (Err why)) w)

  pub begin_done : {told : Option Story} → Begun_as told (Begins {T = Unit {0}} folder (state_of story) (Ok tt)) → Begun_by told (BeginsBy (state_of story) folder (Ok tt))
  begin_done w = begin_lacks (BeginsBy (state_of story) folder (Ok tt)) w

-- it is `Halted` exactly where this call halts
abbrev pub HaltedBy : Option Halt → Halt → Result (Unit {0}) RestoreError → Type 0
HaltedBy halt first r = (r ≡ Err (Halted first)) ↔ (halt ≡ Some first)

unhalted : (r : Result (Unit {0}) RestoreError) (halt : Option Halt) (first : Halt) → halt ≡ None → (r ≡ Err (Halted first) → ⊥) → HaltedBy halt first r
unhalted r halt first none never = (λ is. absurd (never is), λ is. let clash : None ≡ Some first = sym none ∙ is in cc)

pub begin_halted : (calls : List Halt) (old new : DestSeen) (dir : List ℕ) (why : DestError) → HaltsAt {T = Unit {0}} calls old new (Err why) → (first : Halt) → HaltedBy old.halt first (Err (dest_answer dir why))
begin_halted calls old new dir dest.Fault halts first = unhalted (Err DestFault) old.halt first halts.0 (λ is. cc)
begin_halted calls old new dir (dest.Halted at) halts first = (
  λ is. let same : at ≡ first = cc in halts.0 ∙ ap (λ (h : Halt). Some h) same,
  λ is. let told : Some at ≡ Some first = sym halts.0 ∙ is in let same : at ≡ first = cc in ap (λ (h : Halt). let r : Result (Unit {0}) RestoreError = Err (Halted h) in r) same,
)
begin_halted calls old new dir dest.Exists halts first = unhalted (Err (DestinationExists dir)) old.halt first halts.0 (λ is. cc)
begin_halted calls old new dir (dest.Changed call path) halts first = unhalted (Err (Changed call path)) old.halt first halts.0 (λ is. cc)
begin_halted calls old new dir dest.NoMemory halts first = unhalted (Err NoMemory) old.halt first halts.0 (λ is. cc)

pub begin_takes : (folder : List ℕ) (seen : DestSeen) (why : DestError) → IsTakenExactly {T = Unit {0}} folder seen (Err why) → TakesBy {T = Unit {0}} folder seen.disk.told (Err (dest_answer folder why))
begin_takes folder seen dest.Fault taken = tt
begin_takes folder seen (dest.Halted first) taken = tt
begin_takes folder seen dest.Exists taken = (refl, taken)
begin_takes folder seen (dest.Changed call path) taken = tt
begin_takes folder seen dest.NoMemory taken = tt

pub begun_by : (dir : List ℕ) (why : DestError) → IsBegunBy (dest_answer dir why)
begun_by dir dest.Fault = tt
begun_by dir (dest.Halted first) = tt
begun_by dir dest.Exists = tt
begun_by dir (dest.Changed call path) = tt
begun_by dir dest.NoMemory = tt
