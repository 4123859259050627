-- What a folder lists.
use Rattle.std.specs.Prelude.{ℕ, if◌then◌else◌, is_some, List, [], ◌∷◌, Option, Some, None}
use Rattle.std.specs.FinMap as map
use Rattle.lsm_names.specs.Paths.{is_path, cut_last}
use Rattle.lsm_disk.specs.Names.{Node, Folder_node, File_node, Names, inside}
use Rattle.lsm_disk.specs.declared.calls.Kind.{Kind}
use Rattle.lsm_disk.specs.declared.calls.Kind.TheVariants.{File, Folder}
use Rattle.lsm_disk.specs.declared.listing.Entry.{Entry}

abbrev pub kind_by : Node → Kind
kind_by Folder_node = Folder
kind_by (File_node id) = File

-- a name of one component
abbrev pub one_part : Option (List ℕ) → Option (List ℕ)
one_part None = None
one_part (Some rest) = if is_some (cut_last rest) then None else Some rest

-- The name that a path has directly in the folder. A path that isn't spelled as a `Path` isn't listed.
abbrev pub listed_name : List ℕ → List ℕ → Option (List ℕ)
listed_name folder path = if is_path path then one_part (inside folder path) else None

abbrev pub with_entry : Option (List ℕ) → Node → List Entry → List Entry
with_entry None node es = es
with_entry (Some name) node es = (record { name = name; kind = kind_by node }) ∷ es

-- the entries that are directly in the folder
abbrev pub listed : List ℕ → List (List ℕ × Node) → List Entry
listed folder [] = []
listed folder (e ∷ es) = with_entry (listed_name folder e.0) e.1 (listed folder es)

-- what stands directly in a folder, in the order of bytes
abbrev pub listing : List ℕ → Names → List Entry
listing folder names = listed folder (map.entries names)
