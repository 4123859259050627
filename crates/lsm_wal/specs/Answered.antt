-- What a refusal tells of a call that makes two calls of the disk, the second one with no memory.
use Rattle.std.specs.Prelude.{◌≡◌, ◌≢◌, ◌⊎◌, ℕ, List, Option, None, IfSome, Result, Ok, Err}
use Rattle.lsm_disk.specs.State.{State, Seen, state_of}
use Rattle.lsm_disk.specs.Answers.{RefusesBy}
use Rattle.lsm_disk.specs.declared.calls.DiskCall.{DiskCall}
use Rattle.lsm_disk.specs.declared.calls.DiskError.{DiskError}
use Rattle.lsm_disk.specs.declared.calls.DiskError.TheVariants.{Fault, NoMemory}
use Rattle.lsm_disk.specs.declared.calls.DiskRefusal.{DiskRefusal}

-- The refusal carries the path, and the first of the two calls or the second. At the first, all but a fault has changed
-- nothing. At the second, memory was not wanting.
pub record IsRefusedAt (first second : DiskCall) (path : List ℕ) (old new : Seen) (r : DiskRefusal) : Type 0 where
  pub path_is : r.at.path ≡ path
  pub call_is : (r.at.call ≡ first) ⊎ (r.at.call ≡ second)
  pub unchanged : r.at.call ≡ first → r.why ≢ Fault → new.told ≡ old.told
  pub memory : r.at.call ≡ second → r.why ≢ NoMemory

abbrev pub AnswersBoth : {T : Type 0} → DiskCall → Option DiskError → Result T DiskRefusal → Type 0
AnswersBoth second refusal (Ok value) = refusal ≡ None
AnswersBoth second refusal (Err r) = RefusesBy refusal r.why × (r.at.call ≡ second → (refusal ≡ None) × (r.why ≡ Fault))

-- Where the disk tells: the first call is refused as the disk's state has it, or by a fault or want of memory. The second
-- one comes after an Ok of the first, and is refused by a fault alone.
abbrev pub AnswersAt : {T : Type 0} → DiskCall → (State → Option DiskError) → Seen → Result T DiskRefusal → Type 0
AnswersAt second refusal seen result = IfSome seen.told (λ story. AnswersBoth second (refusal (state_of story)) result)
