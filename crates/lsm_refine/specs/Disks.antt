-- A disk that has one folder of whole files, and nothing else.
use Rattle.std.specs.Prelude.{ℕ, ◌+◌, true, List, [], ◌∷◌, map, Some}
use Rattle.std.specs.FinMap as finmap
use Rattle.lsm_disk.specs.Names.{Node, Folder_node, File_node}
use Rattle.lsm_disk.specs.State.{State, Story, Seen}
use Rattle.lsm_disk.specs.Dest.{path_in}
use Rattle.lsm_disk.specs.Building.{Part, sealed}

-- the names of the folder's files, which are numbered from this one on
abbrev pub nodes_from : List ℕ → ℕ → List Part → List (List ℕ × Node)
nodes_from dir first [] = []
nodes_from dir first (part ∷ parts) = (path_in dir part.name, File_node first) ∷ nodes_from dir (first + 1) parts

-- the disk: all of it is durable
abbrev pub folder_disk : List ℕ → List Part → State
folder_disk dir parts = record {
  durable = finmap.from_entries ((dir, Folder_node) ∷ nodes_from dir 0 parts);
  pending = [];
  files = map (λ (part : Part). sealed part.bytes) parts;
  links = true;
}

-- the story of a disk to which nothing was done yet
abbrev pub untouched : State → Story
untouched d = record { start = d; log = [] }

-- what is seen of such a disk
abbrev pub as_seen : State → Seen
as_seen d = record { told = Some (untouched d); faults = 0; refusals = 0 }
