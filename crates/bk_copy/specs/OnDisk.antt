-- The copy into a new file of a disk.
use Rattle.std.specs.Prelude.{◌≡◌, ℕ, List, Option, Some}
use Rattle.lsm_disk.specs.State.{State, Story, Seen, state_of, new_file, longer}
use Rattle.lsm_disk.specs.Images.{Tree}
use Rattle.lsm_disk.specs.Goes.{Went}
use Rattle.lsm_disk.specs.Kept.{IsFileNow}
use Rattle.lsm_disk.specs.Answers.{HasRisen}
use Rattle.lsm_disk.specs.declared.calls.DiskError.{DiskError}
use Rattle.lsm_publish.specs.Publishing.{Writes}
use Rattle.bk_copy.specs.Counts.{AreLater}

-- nothing is said of the state, or of its images
abbrev pub Whatever : State → Type 0
Whatever s = Unit {0}

abbrev pub Anything : State → Tree → Type 0
Anything s t = Unit {0}

-- the name leads to this file now, which has these bytes, none of them synced
abbrev pub IsFilled : List ℕ → ℕ → List ℕ → State → Type 0
IsFilled path id text s = IsFileNow s path id (longer text new_file)

-- The story went on in this file alone, where it was new, and of the state now I holds.
abbrev pub Fills : List ℕ → Option Story → Option Story → (ℕ → State → Type 0) → Type 0
Fills path first told I = (story : Story) (id : ℕ) → first ≡ Some story → IsFileNow (state_of story) path id new_file
    → Went story told (Writes path id) Anything (I id)

-- The new file of this name has got these bytes, and nothing else was done.
pub record HasGained (path : List ℕ) (first : Seen) (text : List ℕ) (now : Seen) : Type 0 where
  pub later : AreLater first now
  pub went : Fills path first.told now.told (λ id. IsFilled path id text)

-- The new file of this name has got some bytes, and then an append was refused: a count has risen as the refusal says.
pub record HasStopped (path : List ℕ) (first now : Seen) (why : DiskError) : Type 0 where
  pub later : AreLater first now
  pub rose : HasRisen first now why
  pub went : Fills path first.told now.told (λ id. Whatever)
