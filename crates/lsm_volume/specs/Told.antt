-- What a disk in memory tells: its record is its story.
use Rattle.std.specs.Prelude.{◌≡◌, ℕ, Bool, List, [], Some}
use Rattle.std.specs.FinMap as map
use Rattle.lsm_disk.specs.Names.{Names}
use Rattle.lsm_disk.specs.State.{State, Seen, Change, FileState, names_now}
use Rattle.lsm_disk.specs.Tree.{IsLawful}
use Rattle.lsm_changes.specs.Files.{is_empty}

-- a state in which all is durable
abbrev pub start_of : Bool → Names → List FileState → State
start_of links names files = record { durable = names; pending = []; files = files; links = links }

-- a disk that tells this story
abbrev pub seen_of : State → List Change → ℕ → ℕ → Seen
seen_of start changes faults refusals = record {
  told = Some (record { start = start; log = changes });
  faults = faults;
  refusals = refusals;
}

-- an empty disk: the root alone, and counts of 0
abbrev pub blank_seen : Bool → Seen
blank_seen links = seen_of (start_of links map.empty []) [] 0 0

-- the names and files are those that the record leads to, and the disk is lawful
pub record IsTied (links : Bool) (names : Names) (synced : Bool) (files : List FileState) (s : State) : Type 0 where
  pub names_are : names ≡ names_now s
  pub synced_are : synced ≡ is_empty s.pending
  pub files_are : files ≡ s.files
  pub links_are : links ≡ s.links
  pub lawful : IsLawful s
