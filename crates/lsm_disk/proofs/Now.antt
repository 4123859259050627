-- What a disk holds now, after each kind of change.
use Rattle.std.specs.Prelude.{◌≡◌, ◌≢◌, ℕ, zero, suc, List, [], ◌∷◌, ◌++◌, length, slice_get, Option, Some, None}
use Rattle.std.proofs.Common.{refl, sym, ap, ◌∙◌, append_assoc}
use Rattle.std.specs.FinMap as map
use Rattle.lsm_disk.specs.Names.{Node, Folder_node, File_node, NameOp, Put, Names, named, stands, id_of}
use Rattle.lsm_disk.specs.State.{FileState, State, Created, Named, Appended, after, names_now, new_file, longer, in_file, in_found, bytes_of, file_at, folder_made, appended}
use Rattle.lsm_disk.specs.Images.{tree_now, bytes_at, bytes_by, contents_of}
use Rattle.lsm_disk.proofs.Files.{same_some}
use Rattle.lsm_disk.proofs.Paths.{get_put, get_put_other}
use Rattle.lsm_disk.proofs.Images.{all_push}

-- ---- the names

-- the names after one operation more
pub names_after : (s : State) (op : NameOp) → names_now (after s (Named op)) ≡ named op (names_now s)
names_after s op = all_push s.pending op s.durable

pub get_created : (s : State) (path : List ℕ) → map.get (names_now (after s (Created path))) path ≡ Some (File_node (length s.files))
get_created s path = ap (λ (n : Names). map.get n path) (all_push s.pending (Put path (File_node (length s.files))) s.durable) ∙ get_put (names_now s) path (File_node (length s.files))

pub folder_made_stands : (s : State) (path : List ℕ) → stands (names_now (after s (folder_made path s))) path ≡ Some Folder_node
folder_made_stands s [] = refl
folder_made_stands s (c ∷ path) = ap (λ (n : Names). map.get n (c ∷ path)) (all_push s.pending (Put (c ∷ path) Folder_node) s.durable) ∙ get_put (names_now s) (c ∷ path) Folder_node

-- what stands under another name than the one that was put
pub stands_put_other : (names : Names) (path other : List ℕ) (node : Node) → path ≢ other → stands (map.insert names other node) path ≡ stands names path
stands_put_other names [] other node ne = refl
stands_put_other names (c ∷ path) other node ne = get_put_other names (c ∷ path) other node ne

pub stands_past_folder : (s : State) (path other : List ℕ) → path ≢ other → stands (names_now (after s (folder_made other s))) path ≡ stands (names_now s) path
stands_past_folder s path other ne = ap (λ (n : Names). stands n path) (all_push s.pending (Put other Folder_node) s.durable) ∙ stands_put_other (names_now s) path other Folder_node ne

pub stands_past_file : (s : State) (path other : List ℕ) → path ≢ other → stands (names_now (after s (Created other))) path ≡ stands (names_now s) path
stands_past_file s path other ne =
    ap (λ (n : Names). stands n path) (all_push s.pending (Put other (File_node (length s.files))) s.durable) ∙ stands_put_other (names_now s) path other (File_node (length s.files)) ne

get_past : (s : State) (path other : List ℕ) (node : Node) → path ≢ other → map.get (names_now (after s (Named (Put other node)))) path ≡ map.get (names_now s) path
get_past s path other node ne = ap (λ (n : Names). map.get n path) (all_push s.pending (Put other node) s.durable) ∙ get_put_other (names_now s) path other node ne

-- ---- the bytes

pub contents_last : (fs : List FileState) → slice_get (contents_of (fs ++ new_file ∷ [])) (length fs) ≡ Some []
contents_last [] = refl
contents_last (f ∷ fs) = contents_last fs

pub contents_before : (fs gs : List FileState) (id : ℕ) (old : List ℕ) → slice_get (contents_of fs) id ≡ Some old → slice_get (contents_of (fs ++ gs)) id ≡ Some old
contents_before [] gs id old is = cc
contents_before (f ∷ fs) gs zero old is = is
contents_before (f ∷ fs) gs (suc id) old is = contents_before fs gs id old is

pub contents_longer : (more : List ℕ) (fs : List FileState) (id : ℕ) (old : List ℕ) → slice_get (contents_of fs) id ≡ Some old → slice_get (contents_of (in_file (longer more) id fs)) id ≡ Some (old ++ more)
contents_longer more [] id old is = cc
contents_longer more (f ∷ fs) zero old is = ap (λ (l : List ℕ). Some l) (sym (append_assoc f.synced f.unsynced more) ∙ ap (λ (l : List ℕ). l ++ more) (same_some (bytes_of f) old is))
contents_longer more (f ∷ fs) (suc id) old is = contents_longer more fs id old is

pub contents_other : (change : FileState → FileState) (fs : List FileState) (id k : ℕ) → id ≢ k → slice_get (contents_of (in_file change k fs)) id ≡ slice_get (contents_of fs) id
contents_other change [] id k ne = refl
contents_other change (f ∷ fs) zero zero ne = absurd (ne refl)
contents_other change (f ∷ fs) (suc id) zero ne = refl
contents_other change (f ∷ fs) zero (suc k) ne = refl
contents_other change (f ∷ fs) (suc id) (suc k) ne = contents_other change fs id k (λ is. ne (ap suc is))

-- a new file is empty
pub bytes_created : (s : State) (path : List ℕ) → bytes_at (tree_now (after s (Created path))) path ≡ Some []
bytes_created s path = ap (λ (o : Option ℕ). bytes_by o (tree_now (after s (Created path)))) (ap id_of (get_created s path)) ∙ contents_last s.files

appended_by : (s : State) (more old : List ℕ) (o : Option ℕ) → bytes_by o (tree_now s) ≡ Some old → bytes_by o (tree_now (after s (in_found o (λ id. Appended id more)))) ≡ Some (old ++ more)
appended_by s more old None is = cc
appended_by s more old (Some id) is = contents_longer more s.files id old is

-- an append changes no name
pub names_appended : (s : State) (o : Option ℕ) (more : List ℕ) → names_now (after s (in_found o (λ id. Appended id more))) ≡ names_now s
names_appended s None more = refl
names_appended s (Some id) more = refl

-- an append adds its bytes at the end
pub bytes_appended : (s : State) (path more old : List ℕ) → bytes_at (tree_now s) path ≡ Some old → bytes_at (tree_now (after s (appended path more s))) path ≡ Some (old ++ more)
bytes_appended s path more old is =
    ap (λ (n : Names). bytes_by (id_of (map.get n path)) (tree_now (after s (appended path more s)))) (names_appended s (file_at s path) more)
    ∙ appended_by s more old (file_at s path) is

-- another file keeps its bytes where a file is made
pub bytes_past_created : (s : State) (path other old : List ℕ) → path ≢ other → bytes_at (tree_now s) path ≡ Some old → bytes_at (tree_now (after s (Created other))) path ≡ Some old
bytes_past_created s path other old ne is =
    ap (λ (o : Option Node). bytes_by (id_of o) (tree_now (after s (Created other)))) (get_past s path other (File_node (length s.files)) ne) ∙ held (file_at s path) is
  where
    held : (o : Option ℕ) → bytes_by o (tree_now s) ≡ Some old → bytes_by o (tree_now (after s (Created other))) ≡ Some old
    held None e = cc
    held (Some id) e = contents_before s.files (new_file ∷ []) id old e

-- and where a folder is made
pub bytes_past_folder : (s : State) (path other : List ℕ) → path ≢ other → bytes_at (tree_now (after s (folder_made other s))) path ≡ bytes_at (tree_now s) path
bytes_past_folder s path other ne =
    ap (λ (o : Option Node). bytes_by (id_of o) (tree_now (after s (folder_made other s)))) (get_past s path other Folder_node ne) ∙ held (file_at s path)
  where
    held : (o : Option ℕ) → bytes_by o (tree_now (after s (folder_made other s))) ≡ bytes_by o (tree_now s)
    held None = refl
    held (Some id) = refl

past_appended : (s : State) (more : List ℕ) (o p : Option ℕ) → p ≢ o → bytes_by p (tree_now (after s (in_found o (λ id. Appended id more)))) ≡ bytes_by p (tree_now s)
past_appended s more None None ne = refl
past_appended s more None (Some id) ne = refl
past_appended s more (Some k) None ne = refl
past_appended s more (Some k) (Some id) ne = contents_other (longer more) s.files id k (λ is. ne (ap (λ (n : ℕ). Some n) is))

-- and where another file is appended to
pub bytes_past_appended : (s : State) (path other more : List ℕ) → file_at s path ≢ file_at s other → bytes_at (tree_now (after s (appended other more s))) path ≡ bytes_at (tree_now s) path
bytes_past_appended s path other more ne =
    ap (λ (n : Names). bytes_by (id_of (map.get n path)) (tree_now (after s (appended other more s)))) (names_appended s (file_at s other) more)
    ∙ past_appended s more (file_at s other) (file_at s path) ne
