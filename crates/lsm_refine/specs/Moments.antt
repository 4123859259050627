-- What the images of a call may read as, of each moment since it began.
use Rattle.std.specs.Prelude.{◌⊎◌, List, Option}
use Rattle.lsm_rows.specs.declared.operations.Op.{Op}
use Rattle.lsm_disk.specs.State.{Story}
use Rattle.lsm_disk.specs.Images.{Tree}
use Rattle.lsm_disk.specs.Goes.{Went}
use Rattle.lsm_model.specs.declared.states.State.{State}
use Rattle.lsm_model.specs.Crashes.{Crashed}
use Rattle.lsm_model.specs.Writes.{doubting}
use Rattle.lsm_refine.specs.Folders.{ReadsAs}

-- the tree reads as what a crash leaves of the state
pub record ReadsAsCrashed (s : State) (t : Tree) : Type 0 where
  pub left : State
  pub crashed : Crashed s left
  pub reads : ReadsAs t left

-- Each image since this story reads as what a crash leaves of one of two states: that before a call, and that behind it.
abbrev pub ImagesShow : Story → Option Story → State → State → Type 0
ImagesShow story told s t = Went story told (λ c. Unit {0}) (λ d tree. ReadsAsCrashed s tree ⊎ ReadsAsCrashed t tree) (λ d. Unit {0})

-- The sharper sentence of a write: each image has a front of the earlier batches with the durable ones, or all of them and the
-- new one.
abbrev pub ImagesShowWrite : Story → Option Story → List Op → State → Type 0
ImagesShowWrite story told ops s = Went story told (λ c. Unit {0}) (λ d tree. ReadsAsCrashed (doubting ops s) tree) (λ d. Unit {0})
