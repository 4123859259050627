-- On what the disk calls are made that may halt a store.
use Rattle.std.specs.Prelude.{◌≡◌, ◌⊎◌, ℕ, List, [], ◌∷◌, ◌++◌, map, codes}
use Rattle.lsm_disk.specs.declared.calls.DiskCall.{DiskCall}
use Rattle.lsm_disk.specs.declared.calls.DiskCall.TheVariants as call
use Rattle.lsm_disk.specs.declared.calls.Halt.{Halt}
use Rattle.lsm_disk.specs.Dest.{path_in}
use Rattle.lsm_names.specs.declared.file_names.FileName.{FileName}
use Rattle.lsm_names.specs.declared.file_names.FileName.TheVariants.{Log, Table, Manifest, Temp, Current}

-- What a disk call is made on: a file of the store's own folder by its kind, any of them, this path, a file of a store's
-- name in another folder, or whatever stands inside one.
pub data Target : Type 0 where
  A_log : Target
  A_table : Target
  A_manifest : Target
  A_temporary : Target
  The_current : Target
  A_file : Target
  The_path : List ℕ → Target
  A_file_in : List ℕ → Target
  Inside : List ℕ → Target

-- the path is one of the target's, where this is the store's own folder
abbrev pub IsOn : List ℕ → Target → List ℕ → Type 0
IsOn own A_log path = (number : ℕ) × (path ≡ path_in own (Log number))
IsOn own A_table path = (number : ℕ) × (path ≡ path_in own (Table number))
IsOn own A_manifest path = (number : ℕ) × (path ≡ path_in own (Manifest number))
IsOn own A_temporary path = (number : ℕ) × (path ≡ path_in own (Temp number))
IsOn own The_current path = path ≡ path_in own Current
IsOn own A_file path = (name : FileName) × (path ≡ path_in own name)
IsOn own (The_path at) path = path ≡ at
IsOn own (A_file_in dir) path = (name : FileName) × (path ≡ path_in dir name)
IsOn own (Inside dir) path = (rest : List ℕ) × (path ≡ dir ++ 47 ∷ rest)

-- a disk call and what it is made on
abbrev pub Aimed : Type 0
Aimed = DiskCall × Target

-- the disk call is one of these, on what it may be made on
abbrev pub IsMet : List ℕ → Halt → List Aimed → Type 0
IsMet own at [] = ⊥
IsMet own at (aimed ∷ others) = ((at.call ≡ aimed.0) × IsOn own aimed.1 at.path) ⊎ IsMet own at others

-- exactly these disk calls
abbrev pub exactly : List Halt → List Aimed
exactly calls = map (λ (at : Halt). (at.call, The_path at.path)) calls

-- ---- by what is done. The path of a `sync_names` is that of the disk call before it.

abbrev pub sync_calls : List Aimed
sync_calls = (call.Sync, A_log) ∷ []

abbrev pub write_calls : List Aimed
write_calls = (call.Append, A_log) ∷ sync_calls

-- the last log is synced, and a new one made
abbrev pub freeze_calls : List Aimed
freeze_calls = (call.Sync, A_log) ∷ (call.Create, A_log) ∷ (call.SyncNames, A_log) ∷ []

-- an edit is added to the manifest; or a new manifest is made, and `CURRENT` names it
abbrev pub edit_calls : List Aimed
edit_calls =
    (call.Append, A_manifest)
    ∷ (call.Sync, A_manifest)
    ∷ (call.Create, A_manifest)
    ∷ (call.Create, A_temporary)
    ∷ (call.Append, A_temporary)
    ∷ (call.Sync, A_temporary)
    ∷ (call.SyncNames, A_temporary)
    ∷ (call.Rename, The_current)
    ∷ (call.SyncNames, The_current)
    ∷ []

-- tables are written, and an edit names them
abbrev pub table_calls : List Aimed
table_calls = (call.Create, A_table) ∷ (call.Append, A_table) ∷ (call.Sync, A_table) ∷ (call.SyncNames, A_table) ∷ edit_calls

-- the rows in memory are frozen on the way
abbrev pub flush_calls : List Aimed
flush_calls = freeze_calls ++ table_calls

-- the folder in which a checkpoint is built
abbrev pub built_in : List ℕ → List ℕ
built_in dir = dir ++ codes ".tmp"

-- what an earlier checkpoint left there goes, and the folder is made
abbrev pub clear_calls : List ℕ → List Aimed
clear_calls dir =
    (call.Unlink, Inside (built_in dir))
    ∷ (call.RemoveFolder, The_path (built_in dir))
    ∷ (call.MakeFolder, The_path (built_in dir))
    ∷ []

-- a file is linked, or copied piece by piece
abbrev pub copy_calls : List ℕ → List Aimed
copy_calls dir =
    (call.Link, A_file_in (built_in dir))
    ∷ (call.Create, A_file_in (built_in dir))
    ∷ (call.Append, A_file_in (built_in dir))
    ∷ []

-- the folder gets its name, for good
abbrev pub name_calls : List ℕ → List Aimed
name_calls dir = (call.Rename, The_path dir) ∷ (call.SyncNames, The_path dir) ∷ []

-- the copies are synced, `CURRENT` is written, and the folder gets its name
abbrev pub end_calls : List ℕ → List Aimed
end_calls dir = copy_calls dir ++ (call.Sync, A_file_in (built_in dir)) ∷ (call.SyncNames, A_file_in (built_in dir)) ∷ name_calls dir
