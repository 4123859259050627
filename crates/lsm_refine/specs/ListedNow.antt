-- The files that a cut lists, as they are on a running store's disk.
use Rattle.std.specs.Prelude.{◌≡◌, ◌≤◌, List, map, length}
use Rattle.lsm_disk.specs.State as disk
use Rattle.lsm_folder.specs.Needed.{Stands}
use Rattle.lsm_model.specs.declared.states.State.{State}
use Rattle.lsm_model.specs.declared.states.PinnedFile.{PinnedFile}
use Rattle.lsm_model.specs.States.{shown_at}
use Rattle.lsm_model.specs.Pins.{listed, held}
use Rattle.lsm_refine.specs.Kept.{Kept, Shown}
use Rattle.lsm_refine.specs.Listing.{files_listed}
use Rattle.lsm_refine.specs.Pins.{PinFiles, folder_of_pin}

-- one log is live, or two, of which the first one has the frozen rows
abbrev pub HasFewLogs : Kept → Type 0
HasFewLogs kept = length kept.logs ≤ 2

-- The files that a cut would list are there with the lengths that it lists. With a CURRENT of the manifest they make a folder
-- that stands for the accepted batches.
pub record ListedStandNow (d : disk.State) (v : Shown) (s : State) : Type 0 where
  pub files : List PinnedFile
  pub are : map listed (files_listed v.kept) ≡ map held files
  pub there : PinFiles d v.dir files
  pub stands : Stands (folder_of_pin v.kept.manifest files) (shown_at s (length s.accepted)).contents
      (shown_at s (length s.accepted)).sequence
