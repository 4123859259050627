-- Which backups a tree lists, and which trees have nothing else in the places of a backup folder.
use Rattle.std.specs.Prelude.{◌≡◌, ◌≢◌, ℕ, ◌&&◌, Bool, if◌then◌else◌, List, drop, is_some, Option, Some, None}
use Rattle.std.specs.FinMap as map
use Rattle.std.specs.List.{filter_map}
use Rattle.std.specs.Str.{bytes_eq}
use Rattle.std.specs.Str.Parse.{digits_value}
use Rattle.lsm_names.specs.Paths.{cut_last}
use Rattle.lsm_disk.specs.Names.{Folder_node, Names, inside, id_of}
use Rattle.lsm_disk.specs.Images.{Tree, bytes_at}
use Rattle.bk_tree.specs.Places.{meta_folder, private_root, shared_root, is_identifier, meta_path}

-- a file stands there
abbrev pub is_file : Tree → List ℕ → Bool
is_file t path = is_some (bytes_at t path)

-- The tree lists a backup where its meta is there as a file.
abbrev pub is_listed : Tree → ℕ → Bool
is_listed t id = is_identifier id && is_file t (meta_path id)

-- the number that the digits behind `meta/` write
abbrev pub number_behind : List ℕ → ℕ
number_behind path = digits_value 10 (drop 5 path)

-- the identifier whose meta stands at this path, which is its one spelling
abbrev pub identifier_at : Tree → List ℕ → Option ℕ
identifier_at t path = if is_listed t (number_behind path) && bytes_eq path (meta_path (number_behind path))
    then Some (number_behind path) else None

-- the identifiers of the backups that the tree lists, in the order of the bytes of their paths
unfoldable pub listed : Tree → List ℕ
listed t = filter_map (identifier_at t) (map.keys t.names)

-- no file has this name
abbrev pub NoFileAt : Names → List ℕ → Type 0
NoFileAt names path = id_of (map.get names path) ≡ None

-- no folder stands in this one
abbrev pub NoFolderIn : Names → List ℕ → Type 0
NoFolderIn names folder = (path rest : List ℕ) → inside folder path ≡ Some rest → map.get names path ≢ Some Folder_node

-- What stands in `private` are folders, and in those stands none.
pub record IsPlainPrivate (names : Names) : Type 0 where
  pub no_file : (path rest : List ℕ) → inside private_root path ≡ Some rest → cut_last rest ≡ None → NoFileAt names path
  pub no_folder : (path rest front : List ℕ) → inside private_root path ≡ Some rest → cut_last rest ≡ Some front
      → map.get names path ≢ Some Folder_node

-- None of the three names is a file's; in the folders of the metas and of the shared tables stand files alone; and `private`
-- has folders of files.
pub record IsPlain (t : Tree) : Type 0 where
  pub meta_name : NoFileAt t.names meta_folder
  pub private_name : NoFileAt t.names private_root
  pub shared_name : NoFileAt t.names shared_root
  pub metas : NoFolderIn t.names meta_folder
  pub shared : NoFolderIn t.names shared_root
  pub own : IsPlainPrivate t.names
