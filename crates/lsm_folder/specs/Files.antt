-- The files of one folder by the values of their names, and what stands in a folder's place.
use Rattle.std.specs.Prelude.{ℕ, List, [], ◌∷◌, Option, Some, None, slice_get, unwrap_or, option_map}
use Rattle.std.specs.Option.{option_and_then}
use Rattle.std.specs.FinMap as map
use Rattle.lsm_names.specs.declared.file_names.FileName.{FileName}
use Rattle.lsm_disk.specs.Names.{Node, Folder_node, File_node, inside, stands}
use Rattle.lsm_disk.specs.Images.{Tree}
use Rattle.lsm_folder.specs.Names.{name_cmp, name_of}

-- what stands under a file's name: a file with its bytes, or a folder
pub data Item : Type 0 where
  A_file : (bytes : List ℕ) → Item
  A_folder : Item

-- a store's folder: what stands under each file name. Other names aren't in it.
abbrev pub Files : Type 0
Files = map.FinMap name_cmp Item

-- what stands where a store's folder is looked for
pub data Place : Type 0 where
  Nothing : Place
  Not_a_folder : Place
  Stands_with : (files : Files) → Place

-- the bytes of a file; a folder in a file's place isn't that file
abbrev pub bytes_in : Option Item → Option (List ℕ)
bytes_in None = None
bytes_in (Some (A_file bytes)) = Some bytes
bytes_in (Some A_folder) = None

-- the bytes of the file of this name
abbrev pub file_at : Files → FileName → Option (List ℕ)
file_at files name = bytes_in (map.get files name)

-- ---- in a tree of names and contents

-- a node as an item
abbrev pub item_of : List (List ℕ) → Node → Item
item_of contents Folder_node = A_folder
item_of contents (File_node id) = A_file (unwrap_or (slice_get contents id) [])

-- what stands under a path
abbrev pub item_at : Tree → List ℕ → Option Item
item_at tree path = option_map (item_of tree.contents) (map.get tree.names path)

-- the file name that a path has directly in a folder
abbrev pub name_in : List ℕ → List ℕ → Option FileName
name_in dir path = option_and_then name_of (inside dir path)

-- an item under its name, before the other entries; other names are left out
abbrev pub with_name : Option FileName → Item → List (FileName × Item) → List (FileName × Item)
with_name None item entries = entries
with_name (Some name) item entries = (name, item) ∷ entries

-- the entries of a tree that have a file's name directly in a folder
abbrev pub entries_in : List ℕ → List (List ℕ) → List (List ℕ × Node) → List (FileName × Item)
entries_in dir contents [] = []
entries_in dir contents (e ∷ es) = with_name (name_in dir e.0) (item_of contents e.1) (entries_in dir contents es)

-- the files of a folder of a tree
unfoldable pub files_in : List ℕ → Tree → Files
files_in dir tree = map.from_entries (entries_in dir tree.contents (map.entries tree.names))

-- what stands in a folder's place, by its node
abbrev pub place_by : Option Node → Files → Place
place_by None files = Nothing
place_by (Some Folder_node) files = Stands_with files
place_by (Some (File_node id)) files = Not_a_folder

-- what stands at a path of a tree
unfoldable pub place_of : List ℕ → Tree → Place
place_of dir tree = place_by (stands tree.names dir) (files_in dir tree)
