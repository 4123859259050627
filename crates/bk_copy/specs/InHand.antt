-- The copy into the file that a destination has in hand.
use Rattle.std.specs.Prelude.{◌≡◌, ◌≢◌, ℕ, List, length, Option, Some, None, Err}
use Rattle.lsm_names.specs.declared.file_names.FileName.{FileName}
use Rattle.lsm_disk.specs.State.{State, Story, state_of, new_file, longer}
use Rattle.lsm_disk.specs.Goes.{Went}
use Rattle.lsm_disk.specs.Dest.{Begun, DestSeen, HasDestCause}
use Rattle.lsm_disk.specs.Building.{Part, IsWithin, HasNoCurrent, IsWriting, IsUnfinished}
use Rattle.lsm_disk.specs.declared.calls.Halt.{Halt}
use Rattle.lsm_disk.specs.declared.dest.DestError.{DestError}
use Rattle.lsm_disk.specs.declared.dest.DestError.TheVariants.{Exists, Halted}
use Rattle.bk_copy.specs.Counts.{AreLater}

-- this folder is begun, and the file of this name is in hand
pub record HasInHand (begun : Begun) (name : FileName) (seen : DestSeen) : Type 0 where
  pub halt : seen.halt ≡ None
  pub begun_is : seen.begun ≡ Some begun
  pub hand : seen.hand ≡ Some name

-- The story went on in this folder alone, no image on the way has its `CURRENT`, and of the state now I holds.
abbrev pub Builds : State → List ℕ → Story → Option Story → (State → Type 0) → Type 0
Builds start folder story told I = Went story told (IsWithin folder (length start.files)) (HasNoCurrent start folder) I

-- a file is in hand
abbrev pub IsReady : DestSeen → Type 0
IsReady seen = (begun : Begun) × (name : FileName) × HasInHand begun name seen

-- The story went on in the begun folder alone, where the file in hand was new, and of the state now I holds.
abbrev pub Fills : DestSeen → DestSeen → (State → Begun → List Part → FileName → State → Type 0) → Type 0
Fills first now I = (start : State) (story : Story) (begun : Begun) (parts : List Part) (name : FileName) → first.disk.told ≡ Some story
    → HasInHand begun name first → IsWriting start begun parts name new_file (state_of story)
    → Builds start begun.folder story now.disk.told (I start begun parts name)

-- The file in hand, which was new, has got these bytes, and nothing else was done.
pub record HasGained (first : DestSeen) (text : List ℕ) (now : DestSeen) : Type 0 where
  pub later : AreLater first.disk now.disk
  pub hand : (begun : Begun) (name : FileName) → HasInHand begun name first → HasInHand begun name now
  pub went : Fills first now (λ start begun parts name. IsWriting start begun parts name (longer text new_file))

-- The file in hand, which was new, has got some bytes, and then an append was refused: a count has risen as the refusal says. It
-- leaves the folder without its `CURRENT`.
pub record HasStopped (first now : DestSeen) (why : DestError) : Type 0 where
  pub cause : HasDestCause {T = Unit {0}} first.disk now.disk (Err why)
  pub new : why ≢ Exists
  pub going : (halt : Halt) → why ≢ Halted halt
  pub went : Fills first now (λ start begun parts name. IsUnfinished start begun.folder)
