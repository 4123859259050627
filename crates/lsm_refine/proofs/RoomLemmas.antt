-- What a disk lets a good store do: make a file under a free name, write one that is there, and give one the name CURRENT.
use Rattle.std.specs.Prelude.{◌≡◌, ℕ, ◌≤◌, true, false, is_some, if◌then◌else◌, List, [], ◌∷◌, length, Option, Some, None}
use Rattle.std.proofs.Common.{refl, ap, ◌∙◌, arith}
use Rattle.std.specs.FinMap as finmap
use Rattle.lsm_names.specs.FileNames.{IsFileName, spelled}
use Rattle.lsm_names.specs.Paths.{parent_of}
use Rattle.lsm_names.specs.declared.file_names.FileName.{FileName}
use Rattle.lsm_names.specs.declared.file_names.FileName.TheVariants.{Current}
use Rattle.lsm_names.proofs.FileNameLemmas.{spelled_is_component}
use Rattle.lsm_names.proofs.FolderLemmas.{folder_has_bytes}
use Rattle.lsm_names.proofs.PathLemmas.{parent_of_joined}
use Rattle.lsm_disk.specs.Names.{Node, Folder_node, File_node, Names, stands, is_folder, is_folder_node}
use Rattle.lsm_disk.specs.State.{State, names_now}
use Rattle.lsm_disk.specs.Refusals.{no_file, no_room}
use Rattle.lsm_disk.specs.Dest.{path_in}
use Rattle.lsm_disk.specs.declared.calls.DiskError.TheVariants.{NotThere, Exists}
use Rattle.lsm_disk.proofs.Named.{name_now}
use Rattle.lsm_refine.specs.Kept.{Kept}
use Rattle.lsm_refine.specs.Sane.{IsCurrent}
use Rattle.lsm_refine.specs.Beside.{IsLone}

-- a path that isn't the root's is looked up
stands_is : (names : Names) (path : List ℕ) → 1 ≤ length path → stands names path ≡ finmap.get names path
stands_is names [] some = absurd (omega (arith, some))
stands_is names (c ∷ path) some = refl

some_path : (dir : List ℕ) (name : FileName) → 1 ≤ length (path_in dir name)
some_path [] name = omega arith
some_path (c ∷ dir) name = omega arith

-- a file that is there may be written
pub lone_there : (d : State) (dir : List ℕ) (name : FileName) (id : ℕ) → IsLone d dir name id
    → no_file (path_in dir name) d ≡ None
lone_there d dir name id lone = ap (λ (o : Option ℕ). if is_some o then None else Some NotThere) lone.there

module _ (d : State) (dir : List ℕ) (kept : Kept) (is : IsCurrent d dir kept) where
  -- the store's folder is there
  pub folder_there : is_folder (names_now d) dir ≡ true
  folder_there =
      ap is_folder_node (stands_is (names_now d) dir (folder_has_bytes dir is.named)
      ∙ name_now d dir (Some Folder_node) is.folder)

  -- it is what a file of the folder is in
  pub parent_there : (name : FileName) → IsFileName name → is_folder (names_now d) (parent_of (path_in dir name)) ≡ true
  parent_there name fits =
      ap (is_folder (names_now d)) (parent_of_joined dir (spelled name) (spelled_is_component name fits)) ∙ folder_there

  -- a file may be made under a free name
  pub file_room : (name : FileName) → IsFileName name → finmap.get (names_now d) (path_in dir name) ≡ None
      → no_room (path_in dir name) d ≡ None
  file_room name fits free =
      let path : List ℕ = path_in dir name in
      ap (λ b. if b then (if is_some (stands (names_now d) path) then Some Exists else None) else Some NotThere)
      (parent_there name fits)
      ∙ ap (λ (o : Option Node). if is_some o then Some Exists else None) (stands_is (names_now d) path (some_path dir name)
      ∙ free)

  -- CURRENT is no folder, so that a file may take its place
  pub current_no_folder : is_folder (names_now d) (path_in dir Current) ≡ false
  current_no_folder =
      let path : List ℕ = path_in dir Current in
      ap is_folder_node (stands_is (names_now d) path (some_path dir Current)
      ∙ name_now d path (Some (File_node is.file.id)) is.file.file.named)
