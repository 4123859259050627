-- What a disk call for a file of a folder tells of the folder's files.
use Rattle.std.specs.Prelude.{◌≡◌, ℕ, zero, suc, ◌≤◌, Bool, true, false, cond, is_some, List, [], ◌∷◌, ◌++◌, length, slice_get, Option, Some, None, option_map, unwrap_or, Result, Err}
use Rattle.std.proofs.Common.{refl, sym, ap, subst, ◌∙◌}
use Rattle.std.specs.FinMap as map
use Rattle.lsm_names.specs.declared.file_names.FileName.{FileName}
use Rattle.lsm_names.specs.FileNames.{spelled, IsFileName}
use Rattle.lsm_disk.specs.Names.{Node, Folder_node, File_node, id_of, is_folder, is_folder_node, stands}
use Rattle.lsm_disk.specs.State.{FileState, State, names_now, bytes_of, file_or, file_by, file_now}
use Rattle.lsm_disk.specs.Images.{contents_of, tree_now}
use Rattle.lsm_disk.specs.Refusals.{no_file, no_folder}
use Rattle.lsm_disk.specs.Answers.{RefusesBy}
use Rattle.lsm_disk.specs.declared.calls.DiskError.{DiskError}
use Rattle.lsm_disk.specs.declared.calls.DiskError.TheVariants as disk
use Rattle.lsm_disk.specs.declared.calls.Halt.{Halt}
use Rattle.lsm_folder.specs.declared.refusals.Refusal.{Refusal}
use Rattle.lsm_folder.specs.declared.refusals.Refusal.TheVariants.{NoFolder}
use Rattle.lsm_folder.specs.Files.{item_of, bytes_in, file_at, files_in, place_of, Stands_with}
use Rattle.lsm_folder.proofs.FileLemmas.{files_are, no_place, folder_place, file_place}
use Rattle.lsm_disk.specs.declared.calls.DiskRefusal.{DiskRefusal}
use Rattle.lsm_recover.specs.declared.errors.FolderError.{FolderError}
use Rattle.lsm_recover.specs.declared.errors.FolderError.TheVariants as told
use Rattle.lsm_recover.specs.Answers.{IsRefusedBy}
use Rattle.lsm_recover.specs.Causes.{error_for, error_by}
use Rattle.lsm_recover.specs.Head.{edits_there}

contents_at : (fs : List FileState) (id : ℕ) → unwrap_or (slice_get (contents_of fs) id) [] ≡ bytes_of (file_or (slice_get fs id))
contents_at [] id = refl
contents_at (f ∷ fs) zero = refl
contents_at (f ∷ fs) (suc id) = contents_at fs id

abbrev pub no_file_by : Option Node → Option DiskError
no_file_by o = cond (is_some (id_of o)) None (Some disk.NotThere)

bytes_there : (s : State) (o : Option Node) → no_file_by o ≡ None → bytes_in (option_map (item_of (contents_of s.files)) o) ≡ Some (bytes_of (file_by (id_of o) s))
bytes_there s None is = cc
bytes_there s (Some Folder_node) is = cc
bytes_there s (Some (File_node id)) is = ap (λ (l : List ℕ). Some l) (contents_at s.files id)

bytes_missing : (s : State) (o : Option Node) → no_file_by o ≡ Some disk.NotThere → bytes_in (option_map (item_of (contents_of s.files)) o) ≡ None
bytes_missing s None is = refl
bytes_missing s (Some Folder_node) is = refl
bytes_missing s (Some (File_node id)) is = cc

module _ (dir : List ℕ) (s : State) (name : FileName) (some : 1 ≤ length dir) (fits : IsFileName name) where
  -- a file for which a disk call isn't refused is in the folder with its bytes
  pub file_there : no_file (dir ++ 47 ∷ spelled name) s ≡ None → file_at (files_in dir (tree_now s)) name ≡ Some (bytes_of (file_now (dir ++ 47 ∷ spelled name) s))
  file_there is = ap bytes_in (files_are dir (tree_now s) name some fits) ∙ bytes_there s (map.get (names_now s) (dir ++ 47 ∷ spelled name)) is

  -- one that isn't there is not
  pub file_missing : no_file (dir ++ 47 ∷ spelled name) s ≡ Some disk.NotThere → file_at (files_in dir (tree_now s)) name ≡ None
  file_missing is = ap bytes_in (files_are dir (tree_now s) name some fits) ∙ bytes_missing s (map.get (names_now s) (dir ++ 47 ∷ spelled name)) is

-- ---- refusals

only_missing : (b : Bool) (e : DiskError) → cond b None (Some disk.NotThere) ≡ Some e → e ≡ disk.NotThere
only_missing true e is = cc
only_missing false e is = cc

-- a call that is refused only where its file isn't there tells that, or nothing
pub refused_call : {A : Type 0} (read : Result A Refusal) (missing : FolderError) (at : Halt) (why : DiskError) (b : Bool) → RefusesBy (cond b None (Some disk.NotThere)) why
    → (cond b None (Some disk.NotThere) ≡ Some disk.NotThere → IsRefusedBy read missing) → IsRefusedBy read (error_for missing at why)
refused_call read missing at disk.Fault b is none = tt
refused_call read missing at disk.NotThere b is none = none is
refused_call read missing at disk.Exists b is none = let clash : disk.Exists ≡ disk.NotThere = only_missing b disk.Exists is in absurd (cc)
refused_call read missing at disk.NoLinks b is none = let clash : disk.NoLinks ≡ disk.NotThere = only_missing b disk.NoLinks is in absurd (cc)
refused_call read missing at disk.NotEmpty b is none = let clash : disk.NotEmpty ≡ disk.NotThere = only_missing b disk.NotEmpty is in absurd (cc)
refused_call read missing at (disk.Short found) b is none = let clash : disk.Short found ≡ disk.NotThere = only_missing b (disk.Short found) is in absurd (cc)
refused_call read missing at disk.NoMemory b is none = tt

-- ---- the folder

no_place_by : (dir : List ℕ) (s : State) (o : Option Node) → stands (names_now s) dir ≡ o → cond (is_folder_node o) None (Some disk.NotThere) ≡ Some disk.NotThere → edits_there (place_of dir (tree_now s)) ≡ Err NoFolder
no_place_by dir s None is none = ap edits_there (no_place dir (tree_now s) is)
no_place_by dir s (Some Folder_node) is none = cc
no_place_by dir s (Some (File_node id)) is none = ap edits_there (file_place dir (tree_now s) id is)

pub folder_missing : (dir : List ℕ) (s : State) → no_folder dir s ≡ Some disk.NotThere → edits_there (place_of dir (tree_now s)) ≡ Err NoFolder
folder_missing dir s none = no_place_by dir s (stands (names_now s) dir) refl none

-- a refused listing
pub list_refused : (dir : List ℕ) (s : State) (r : DiskRefusal) (error : FolderError) → error ≡ error_by (told.NoFolder dir) r → RefusesBy (no_folder dir s) r.why → IsRefusedBy (edits_there (place_of dir (tree_now s))) error
list_refused dir s r error is refused = subst (λ (e : FolderError). IsRefusedBy (edits_there (place_of dir (tree_now s))) e) (sym is)
    (refused_call (edits_there (place_of dir (tree_now s))) (told.NoFolder dir) r.at r.why (is_folder (names_now s) dir) refused (folder_missing dir s))

is_there : (b : Bool) → cond b None (Some disk.NotThere) ≡ None → b ≡ true
is_there true is = refl
is_there false is = cc

pub folder_there : (dir : List ℕ) (s : State) → no_folder dir s ≡ None → is_folder (names_now s) dir ≡ true
folder_there dir s is = is_there (is_folder (names_now s) dir) is

place_by_folder : (dir : List ℕ) (s : State) (o : Option Node) → stands (names_now s) dir ≡ o → is_folder_node o ≡ true → place_of dir (tree_now s) ≡ Stands_with (files_in dir (tree_now s))
place_by_folder dir s None is folder = cc
place_by_folder dir s (Some Folder_node) is folder = folder_place dir (tree_now s) is
place_by_folder dir s (Some (File_node id)) is folder = cc

pub place_is : (dir : List ℕ) (s : State) → is_folder (names_now s) dir ≡ true → place_of dir (tree_now s) ≡ Stands_with (files_in dir (tree_now s))
place_is dir s folder = place_by_folder dir s (stands (names_now s) dir) refl folder
