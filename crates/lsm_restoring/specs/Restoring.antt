-- What a restore's calls change on a disk, and what they make of what is seen of a store, and of its state.
use Rattle.std.specs.Prelude.{◌≡◌, ◌≢◌, ℕ, ◌≤◌, true, false, List, All, Option, Some, None}
use Rattle.std.specs.Option.{option_map}
use Rattle.std.specs.FinMap as finmap
use Rattle.lsm_names.specs.Folders.{is_folder_name}
use Rattle.lsm_names.specs.declared.file_names.FileName.{FileName}
use Rattle.lsm_names.specs.declared.file_names.FileName.TheVariants.{Current}
use Rattle.lsm_disk.specs.Names.{Folder_node}
use Rattle.lsm_disk.specs.State as disk
use Rattle.lsm_disk.specs.State.{Seen, names_now}
use Rattle.lsm_disk.specs.Dest.{Begun, path_in}
use Rattle.lsm_model.specs.declared.states.State.{State}
use Rattle.lsm_model.specs.declared.states.FolderRead.{FolderRead}
use Rattle.lsm_model.specs.States.{folder_of}
use Rattle.lsm_refine.specs.Kept.{KeptPin, Shown}
use Rattle.lsm_refine.specs.Sane.{IsAlone, RestoreBuilds, in_hand}
use Rattle.lsm_refine.specs.Folders.{ChangesInside}
use Rattle.lsm_refine.specs.Good.{Good, with_counts}
use Rattle.lsm_refine.specs.Within.{ChangesWithin, IsNamedJob}

-- ---- on the disk

-- From the earlier disk to the later one all that changed is in this folder.
pub record ChangesOnly (folder : List ℕ) (d later : disk.State) : Type 0 where
  pub within : ChangesWithin folder d later
  pub inside : ChangesInside folder d later

-- the folder stands now, and has no `CURRENT`
pub record LacksCurrentNow (folder : List ℕ) (d : disk.State) : Type 0 where
  pub stands : finmap.get (names_now d) folder ≡ Some Folder_node
  pub lacks : finmap.get (names_now d) (path_in folder Current) ≡ None

-- ---- of a store

-- the folders of its checkpoints under way have folders' names
abbrev pub HasNamedJobs : Shown → Type 0
HasNamedJobs v = All (λ (pin : KeptPin). IsNamedJob pin.job) v.kept.pins

-- A restore may go on in the folder: it has a folder's name, it isn't the store's own, and a crash may take it away, so that
-- the state doesn't list it as sure. The folders of checkpoints under way have folders' names.
pub record MayRestore (folder : List ℕ) (v : Shown) (s : State) : Type 0 where
  pub named : is_folder_name folder ≡ true
  pub apart : folder ≢ v.dir
  pub unsure : (entry : FolderRead) → folder_of folder s.folders ≡ Some entry → entry.sure ≡ false
  pub jobs : HasNamedJobs v

-- the folder that is begun
abbrev pub folder_begun : Option Begun → Option (List ℕ)
folder_begun begun = option_map (λ (b : Begun). b.folder) begun

-- this folder is begun and this file in hand, if there is one
abbrev pub restored_shown : Seen → Option Begun → Option FileName → Shown → Shown
restored_shown seen begun hand v = record v { disk = seen; kept = record v.kept { begun = begun; hand = hand } }

-- the state lists these folders, and this one is begun
abbrev pub restored_state : Seen → List FolderRead → Option (List ℕ) → State → State
restored_state seen folders begun s = with_counts seen (record s { folders = folders; begun = begun })

-- The folder that is begun is on this disk as the store keeps it, and the file in hand has no other name.
pub record IsRestoring (d : disk.State) (dir : List ℕ) (begun : Option Begun) (hand : Option FileName) : Type 0 where
  pub builds : RestoreBuilds d dir begun hand
  pub alone : All (IsAlone d) (in_hand begun hand)

-- a state that is so, and for which the store is good
abbrev pub GoesTo : (State → Type 0) → Shown → Type 0
GoesTo Is w = (t : State) × Is t × Good w t

-- the counts of the store's disk haven't fallen
pub record CountsRise (v : Shown) (seen : Seen) : Type 0 where
  pub faults : v.disk.faults ≤ seen.faults
  pub refusals : v.disk.refusals ≤ seen.refusals
