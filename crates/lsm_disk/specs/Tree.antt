-- Names that make a tree: what every disk that tells promises of its names.
use Rattle.std.specs.Prelude.{◌≡◌, ℕ, ◌<◌, true, List, [], length, take, Some, None, IfSome}
use Rattle.std.specs.FinMap as map
use Rattle.lsm_names.specs.Paths.{parent_of}
use Rattle.lsm_disk.specs.Names.{Node, File_node, Names, all_named, is_folder}
use Rattle.lsm_disk.specs.State.{State, Seen, state_of}

-- Each name stands in a folder, and the root has no name.
pub record IsTree (names : Names) : Type 0 where
  pub root : map.get names [] ≡ None
  pub inside : (path : List ℕ) (node : Node) → map.get names path ≡ Some node → is_folder names (parent_of path) ≡ true

-- each name of a file leads to a file that was made
pub record LeadsToFiles (names : Names) (files : ℕ) : Type 0 where
  pub made : (path : List ℕ) (id : ℕ) → map.get names path ≡ Some (File_node id) → id < files

-- The names are a tree now and after each crash, and each leads to a file that was made.
pub record IsLawful (s : State) : Type 0 where
  pub trees : (k : ℕ) → IsTree (all_named (take k s.pending) s.durable)
  pub files : (k : ℕ) → LeadsToFiles (all_named (take k s.pending) s.durable) (length s.files)

-- the same of a disk, where it tells
abbrev pub TellsLawful : Seen → Type 0
TellsLawful seen = IfSome seen.told (λ story. IsLawful (state_of story))
