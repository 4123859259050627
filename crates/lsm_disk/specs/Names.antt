-- The names on a disk: one finite map from the bytes of a path to what stands there.
use Rattle.std.specs.Prelude.{ℕ, Bool, true, false, ◌==◌, if◌then◌else◌, List, [], ◌∷◌, ◌++◌, Option, Some, None, is_some}
use Rattle.std.specs.Ordering.{nat_cmp}
use Rattle.std.specs.declared.cmp.Ordering.{Ordering}
use Rattle.std.specs.Cmp.Lexicographic.{slice_cmp}
use Rattle.std.specs.List.{list_any}
use Rattle.std.specs.FinMap as map

-- paths in the order of their bytes
abbrev pub path_cmp : List ℕ → List ℕ → Ordering
path_cmp = slice_cmp nat_cmp

-- What a name stands for: a folder, or the file of this number. Two names may share a file.
pub data Node : Type 0 where
  Folder_node : Node
  File_node : (id : ℕ) → Node

-- what stands under each name; the root is a folder and has no name
abbrev pub Names : Type 0
Names = map.FinMap path_cmp Node

-- A name is put, a name is gone, or what stands under a name moves to another.
pub data NameOp : Type 0 where
  Put : (path : List ℕ) (node : Node) → NameOp
  Gone : (path : List ℕ) → NameOp
  Moved : (from to : List ℕ) → NameOp

-- ---- paths as bytes, 47 (`/`) between two components

-- What follows the folder in a path that is the folder or inside it: [], or a 47 and more.
abbrev pub under : List ℕ → List ℕ → Option (List ℕ)
under [] [] = Some []
under [] (c ∷ path) = if c == 47 then Some (c ∷ path) else None
under (f ∷ folder) [] = None
under (f ∷ folder) (c ∷ path) = if f == c then under folder path else None

-- the path is this folder or inside it; all is in the root
abbrev pub is_in : List ℕ → List ℕ → Bool
is_in [] path = true
is_in (f ∷ folder) path = is_some (under (f ∷ folder) path)

abbrev pub after_slash : Option (List ℕ) → Option (List ℕ)
after_slash None = None
after_slash (Some []) = None
after_slash (Some (c ∷ rest)) = Some rest

-- what follows the folder and its 47 in a path that is inside the folder
abbrev pub inside : List ℕ → List ℕ → Option (List ℕ)
inside [] path = Some path
inside (c ∷ folder) path = after_slash (under (c ∷ folder) path)

-- ---- what stands where

-- the number of a file
abbrev pub id_of : Option Node → Option ℕ
id_of None = None
id_of (Some Folder_node) = None
id_of (Some (File_node id)) = Some id

abbrev pub is_folder_node : Option Node → Bool
is_folder_node None = false
is_folder_node (Some Folder_node) = true
is_folder_node (Some (File_node id)) = false

-- what stands under a path; the root is a folder
abbrev pub stands : Names → List ℕ → Option Node
stands names [] = Some Folder_node
stands names (c ∷ path) = map.get names (c ∷ path)

-- a folder stands there
abbrev pub is_folder : Names → List ℕ → Bool
is_folder names path = is_folder_node (stands names path)

-- some name is inside the folder
abbrev pub is_occupied : Names → List ℕ → Bool
is_occupied names folder = list_any (λ e. is_some (inside folder e.0)) (map.entries names)

-- ---- what an operation makes of the names

abbrev pub renamed_to : List ℕ → List ℕ → Option (List ℕ) → List ℕ
renamed_to to path None = path
renamed_to to path (Some rest) = to ++ rest

abbrev pub moved_entries : List ℕ → List ℕ → List (List ℕ × Node) → List (List ℕ × Node)
moved_entries from to [] = []
moved_entries from to (e ∷ es) = (renamed_to to e.0 (under from e.0), e.1) ∷ moved_entries from to es

-- A file takes the place of what stood under the new name. A folder goes with all that is inside.
abbrev pub renamed : List ℕ → List ℕ → Option Node → Names → Names
renamed from to None names = names
renamed from to (Some (File_node id)) names = map.insert (map.remove names from) to (File_node id)
renamed from to (Some Folder_node) names = map.from_entries (moved_entries from to (map.entries names))

-- the names after an operation
abbrev pub named : NameOp → Names → Names
named (Put path node) names = map.insert names path node
named (Gone path) names = map.remove names path
named (Moved from to) names = renamed from to (map.get names from) names

-- the names after these operations, the first one first
abbrev pub all_named : List NameOp → Names → Names
all_named [] names = names
all_named (op ∷ ops) names = all_named ops (named op names)
