-- A folder that a destination builds: what stands in it now, and what a crash leaves of it.
use Rattle.std.specs.Prelude.{◌≡◌, ◌≢◌, ◌⊎◌, ℕ, ◌≤◌, true, List, [], ◌∷◌, ◌++◌, length, take, All, Some, None, Result, Ok, Err}
use Rattle.std.specs.FinMap as map
use Rattle.lsm_names.specs.FileNames.{spelled}
use Rattle.lsm_names.specs.declared.file_names.FileName.{FileName}
use Rattle.lsm_names.specs.declared.file_names.FileName.TheVariants.{Current}
use Rattle.lsm_disk.specs.Names.{Folder_node, NameOp, Put, Gone, Moved, Names, named, all_named, is_in}
use Rattle.lsm_disk.specs.State.{FileState, State, Change, Created, Named, Appended, Synced, Names_synced, Idle, names_now, new_file, bytes_of, longer}
use Rattle.lsm_disk.specs.Images.{Tree, IsImage, AreCut, bytes_at}
use Rattle.lsm_disk.specs.Kept.{IsKeptName, IsKeptFile, IsFileNow}
use Rattle.lsm_disk.specs.Dest.{Begun, just_begun, with_name, path_in, IsPartName}
use Rattle.lsm_disk.specs.declared.dest.DestError.{DestError}
use Rattle.lsm_disk.specs.declared.dest.DestError.TheVariants.{Fault, Halted, Exists, Changed, NoMemory}

-- a file of a folder, whole
pub record Part : Type 0 where
  pub name : FileName
  pub bytes : List ℕ

abbrev pub names_of : List Part → List FileName
names_of [] = []
names_of (part ∷ parts) = part.name ∷ names_of parts

-- the parts, and the file that ends the folder
abbrev pub with_current : List ℕ → List Part → List Part
with_current bytes parts = (record { name = Current; bytes = bytes }) ∷ parts

-- a file of these bytes, all of them synced
abbrev pub sealed : List ℕ → FileState
sealed bytes = record { synced = bytes; unsynced = [] }

-- ---- which names are touched

-- What is named is the folder or inside it, and no file gets another name.
abbrev pub NamesWithin : List ℕ → NameOp → Type 0
NamesWithin folder (Put path node) = (is_in folder path ≡ true) × (node ≡ Folder_node)
NamesWithin folder (Gone path) = is_in folder path ≡ true
NamesWithin folder (Moved from to) = (is_in folder from ≡ true) × (is_in folder to ≡ true)

-- The change is in this folder alone: of its names, and in files that were made when there were already so many.
abbrev pub IsWithin : List ℕ → ℕ → Change → Type 0
IsWithin folder first (Created path) = is_in folder path ≡ true
IsWithin folder first (Named op) = NamesWithin folder op
IsWithin folder first (Appended id bytes) = first ≤ id
IsWithin folder first (Synced id) = first ≤ id
IsWithin folder first Names_synced = Unit {0}
IsWithin folder first Idle = Unit {0}

-- ---- what a crash leaves

-- The names are as some crash left them when the folder was begun, or have no `CURRENT` in it.
abbrev pub LacksCurrent : State → List ℕ → Names → Type 0
LacksCurrent start folder names = ((k : ℕ) × (names ≡ all_named (take k start.pending) start.durable))
    ⊎ (map.get names (path_in folder Current) ≡ None)

-- each image on the way has the folder as it was, or without `CURRENT`
abbrev pub HasNoCurrent : State → List ℕ → State → Tree → Type 0
HasNoCurrent start folder s t = LacksCurrent start folder t.names

-- the image has all names from before and the new folder, which is empty, and of the files what a crash leaves
pub record HasNewFolder (start : State) (folder : List ℕ) (t : Tree) : Type 0 where
  pub names : t.names ≡ named (Put folder Folder_node) (names_now start)
  pub files : AreCut start.files t.contents
  pub empty : (rest : List ℕ) → map.get t.names (folder ++ 47 ∷ rest) ≡ None

-- an image from before, or with the new folder
abbrev pub MayHaveFolder : State → List ℕ → State → Tree → Type 0
MayHaveFolder start folder s t = IsImage start t ⊎ HasNewFolder start folder t

-- the name of this part leads to exactly its bytes
abbrev pub HasPart : List ℕ → Tree → Part → Type 0
HasPart folder t part = bytes_at t (path_in folder part.name) ≡ Some part.bytes

-- The image has the folder with these files and nothing else.
pub record IsWhole (folder : List ℕ) (parts : List Part) (t : Tree) : Type 0 where
  pub stands : map.get t.names folder ≡ Some Folder_node
  pub each : All (HasPart folder t) parts
  pub only : (rest : List ℕ) → All (λ name. rest ≢ spelled name) (names_of parts) → map.get t.names (folder ++ 47 ∷ rest) ≡ None

-- the image has the folder as it was, or without `CURRENT`, or whole
abbrev pub HasNoneOrAll : State → List ℕ → List Part → State → Tree → Type 0
HasNoneOrAll start folder whole s t = LacksCurrent start folder t.names ⊎ IsWhole folder whole t

-- ---- how far it came

-- The folder stands now, with these names inside and nothing else; a crash leaves it without `CURRENT`, or as it was; and no
-- file of the disk was forgotten.
pub record HoldsNames (start : State) (folder : List ℕ) (names : List FileName) (s : State) : Type 0 where
  pub own : All IsPartName names
  pub later : length start.files ≤ length s.files
  pub stands : map.get (names_now s) folder ≡ Some Folder_node
  pub only : (rest : List ℕ) → All (λ name. rest ≢ spelled name) names → map.get (names_now s) (folder ++ 47 ∷ rest) ≡ None
  pub lacks : (k : ℕ) → LacksCurrent start folder (all_named (take k s.pending) s.durable)

-- The part stands now, all of its bytes synced. Its file was made since the folder was begun.
pub record IsSealed (start : State) (folder : List ℕ) (s : State) (part : Part) : Type 0 where
  pub id : ℕ
  pub later : length start.files ≤ id
  pub file : IsFileNow s (path_in folder part.name) id (sealed part.bytes)

-- it does, and its file is another than this one
abbrev pub IsSealedBeside : State → List ℕ → State → ℕ → Part → Type 0
IsSealedBeside start folder s id part = (is : IsSealed start folder s part) × (is.id ≢ id)

-- The folder that was begun in the state `start` has these parts now, and no file is in hand.
pub record IsBuilding (start : State) (begun : Begun) (parts : List Part) (s : State) : Type 0 where
  pub names : begun.names ≡ names_of parts
  pub holds : HoldsNames start begun.folder begun.names s
  pub each : All (IsSealed start begun.folder s) parts

-- It has these parts and the file in hand, which is in this state.
pub record IsWriting (start : State) (begun : Begun) (parts : List Part) (name : FileName) (file : FileState) (s : State) : Type 0 where
  pub names : begun.names ≡ names_of parts ++ name ∷ []
  pub holds : HoldsNames start begun.folder begun.names s
  pub id : ℕ
  pub later : length start.files ≤ id
  pub hand : IsFileNow s (path_in begun.folder name) id file
  pub each : All (IsSealedBeside start begun.folder s id) parts

-- the part's name leads to its bytes now and after each crash
pub record IsKeptPart (folder : List ℕ) (s : State) (part : Part) : Type 0 where
  pub id : ℕ
  pub file : IsKeptFile s (path_in folder part.name) id (sealed part.bytes)

-- The folder has these files, and nothing else, now and after each crash.
pub record IsBuilt (folder : List ℕ) (parts : List Part) (s : State) : Type 0 where
  pub stands : IsKeptName s folder (Some Folder_node)
  pub each : All (IsKeptPart folder s) parts
  pub only : (rest : List ℕ) → All (λ name. rest ≢ spelled name) (names_of parts) → IsKeptName s (folder ++ 47 ∷ rest) None

-- the folder has no `CURRENT` now, and a crash leaves it without, or as it was
pub record IsUnfinished (start : State) (folder : List ℕ) (s : State) : Type 0 where
  pub now : map.get (names_now s) (path_in folder Current) ≡ None
  pub lacks : (k : ℕ) → LacksCurrent start folder (all_named (take k s.pending) s.durable)

-- ---- what each call leaves, where the disk tells

-- A fault has made the change or not, and any other refusal has not. The disk is never found changed.
abbrev pub RefusedAs : Type 0 → Type 0 → DestError → Type 0
RefusedAs same made Fault = same ⊎ made
RefusedAs same made (Halted first) = same
RefusedAs same made Exists = same
RefusedAs same made (Changed call path) = ⊥
RefusedAs same made NoMemory = same

abbrev pub LeftAs : {T : Type 0} → Type 0 → Type 0 → Result T DestError → Type 0
LeftAs same made (Ok value) = made
LeftAs same made (Err e) = RefusedAs same made e

-- the new folder is empty
abbrev pub Begins : {T : Type 0} → List ℕ → State → Result T DestError → State → Type 0
Begins folder start result s = LeftAs (s ≡ start) (IsBuilding start (just_begun folder) [] s) result

-- the new file is empty and in hand
abbrev pub Files : {T : Type 0} → State → Begun → List Part → FileName → Result T DestError → State → Type 0
Files start begun parts name result s = LeftAs (IsBuilding start begun parts s)
    (IsWriting start (with_name name begun) parts name new_file s) result

-- The file in hand has the bytes at its end. A fault has added a front of them.
abbrev pub Fills : {T : Type 0} → State → Begun → List Part → FileName → FileState → List ℕ → Result T DestError → State → Type 0
Fills start begun parts name file bytes (Ok value) s = IsWriting start begun parts name (longer bytes file) s
Fills start begun parts name file bytes (Err e) s = RefusedAs (IsWriting start begun parts name file s)
    ((n : ℕ) × IsWriting start begun parts name (longer (take n bytes) file) s) e

-- the file in hand is a part
abbrev pub Seals : {T : Type 0} → State → Begun → List Part → FileName → FileState → Result T DestError → State → Type 0
Seals start begun parts name file result s =
    LeftAs (IsWriting start begun parts name file s) (IsBuilding start begun
    (parts ++ (record { name = name; bytes = bytes_of file }) ∷ []) s) result

-- The folder is whole for good. Want of memory leaves it as it was, and it can be ended again; but of a fault only the
-- images on the way say what it left.
abbrev pub Finishes : {T : Type 0} → State → Begun → List Part → List ℕ → Result T DestError → State → Type 0
Finishes start begun parts current (Ok value) s = IsBuilt begun.folder (with_current current parts) s
Finishes start begun parts current (Err e) s = RefusedAs (IsBuilding start begun parts s) (Unit {0}) e
