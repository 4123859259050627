-- Which calls a disk refuses, and by which answer: each is a function of the disk's state, and None where the call is Ok.
use Rattle.std.specs.Prelude.{ℕ, if◌then◌else◌, nat_le, is_some, List, length, Option, Some, None}
use Rattle.lsm_names.specs.Paths.{parent_of}
use Rattle.lsm_disk.specs.Names.{Node, Folder_node, File_node, Names, stands, is_folder, is_in, is_occupied}
use Rattle.lsm_disk.specs.State.{State, names_now, file_at, file_now, bytes_of}
use Rattle.lsm_disk.specs.declared.calls.DiskError.{DiskError}
use Rattle.lsm_disk.specs.declared.calls.DiskError.TheVariants.{NotThere, Exists, NoLinks, NotEmpty, Short}

-- nothing refuses it
abbrev pub never : State → Option DiskError
never s = None

-- the path has to be that of a file
abbrev pub no_file : List ℕ → State → Option DiskError
no_file path s = if is_some (file_at s path) then None else Some NotThere

-- the path has to be that of a folder
abbrev pub no_folder : List ℕ → State → Option DiskError
no_folder path s = if is_folder (names_now s) path then None else Some NotThere

-- the folder of a new name has to be there, and the name has to be free
abbrev pub no_room_in : Names → List ℕ → Option DiskError
no_room_in names path = if is_folder names (parent_of path) then (if is_some (stands names path) then Some Exists else None)
    else Some NotThere

abbrev pub no_room : List ℕ → State → Option DiskError
no_room path s = no_room_in (names_now s) path

-- the first of two refusals
abbrev pub or_else : Option DiskError → Option DiskError → Option DiskError
or_else (Some e) next = Some e
or_else None next = next

-- a second name wants a file, a free new name, and a disk that has links
abbrev pub no_link : List ℕ → List ℕ → State → Option DiskError
no_link from to s = or_else (no_file from s) (or_else (no_room to s) (if s.links then None else Some NoLinks))

abbrev pub short_of : ℕ → List ℕ → Option DiskError
short_of len bytes = if nat_le len (length bytes) then None else Some (Short (length bytes))

-- a view wants a file of at least so many bytes
abbrev pub no_view : List ℕ → ℕ → State → Option DiskError
no_view path len s = or_else (no_file path s) (short_of len (bytes_of (file_now path s)))

-- A file may take a file's place, but not a folder's. A folder goes to a free name, and not into itself.
abbrev pub no_move_in : List ℕ → List ℕ → Names → Option Node → Option DiskError
no_move_in from to names None = Some NotThere
no_move_in from to names (Some (File_node id)) = if is_folder names (parent_of to)
    then (if is_folder names to then Some Exists else None) else Some NotThere
no_move_in from to names (Some Folder_node) = if is_in from (parent_of to) then Some NotThere else no_room_in names to

abbrev pub no_rename : List ℕ → List ℕ → State → Option DiskError
no_rename from to s = no_move_in from to (names_now s) (stands (names_now s) from)

-- only an empty folder is taken away
abbrev pub no_removal : List ℕ → State → Option DiskError
no_removal path s = or_else (no_folder path s) (if is_occupied (names_now s) path then Some NotEmpty else None)
