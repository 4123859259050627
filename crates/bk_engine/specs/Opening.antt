-- The opening of an engine over a disk that has no backups.
use Rattle.std.specs.Prelude.{◌≡◌, ◌⊎◌, ℕ, Bool, true, false, List, [], ◌∷◌, Option, Some, None}
use Rattle.lsm_io.specs.Causes.{Rose}
use Rattle.lsm_disk.specs.Names.{Node, Folder_node, File_node, NameOp, Put, Gone, Moved, stands}
use Rattle.lsm_disk.specs.State.{State, Seen, Change, Created, Named, Appended, Synced, Names_synced, Idle, names_now}
use Rattle.lsm_disk.specs.Halts.{halt_at, IsAmong}
use Rattle.lsm_disk.specs.declared.calls.DiskCall.TheVariants as call
use Rattle.lsm_disk.specs.declared.calls.Halt.{Halt}
use Rattle.bk_tree.specs.Places.{meta_folder, private_root, shared_root}
use Rattle.bk_engine.specs.declared.errors.EngineError.{EngineError}
use Rattle.bk_engine.specs.declared.errors.EngineError.TheVariants as engine

-- ---- the three folders

-- one of the three folders
abbrev pub IsRoot : List ℕ → Type 0
IsRoot path = (path ≡ meta_folder) ⊎ (path ≡ private_root) ⊎ (path ≡ shared_root)

abbrev pub IsRootFolder : NameOp → Type 0
IsRootFolder (Put path node) = IsRoot path × (node ≡ Folder_node)
IsRootFolder (Gone path) = ⊥
IsRootFolder (Moved from to) = ⊥

-- the three folders are made, and nothing else is changed
abbrev pub MakesRoots : Change → Type 0
MakesRoots (Created path) = ⊥
MakesRoots (Named op) = IsRootFolder op
MakesRoots (Appended k bytes) = ⊥
MakesRoots (Synced k) = ⊥
MakesRoots Names_synced = ⊥
MakesRoots Idle = Unit {0}

-- a folder stands there now
abbrev pub HasFolder : List ℕ → State → Type 0
HasFolder path s = stands (names_now s) path ≡ Some Folder_node

-- each of the three folders is there now
pub record HasRoots (s : State) : Type 0 where
  pub metas : HasFolder meta_folder s
  pub own : HasFolder private_root s
  pub shared : HasFolder shared_root s

-- nothing stands there now
abbrev pub IsFree : List ℕ → State → Type 0
IsFree path s = stands (names_now s) path ≡ None

-- the folder is missing, or it stands
abbrev pub IsMissing : List ℕ → Bool → State → Type 0
IsMissing path true s = IsFree path s
IsMissing path false s = HasFolder path s

-- ---- what refuses an opening

-- a folder of metas is refused, and so is a file of its name
abbrev pub found_by : List ℕ → Option Node → Option EngineError
found_by path None = None
found_by path (Some Folder_node) = Some (engine.Found path)
found_by path (Some (File_node id)) = Some (engine.StrangeFolder path)

-- of another name only a file
abbrev pub strange_by : List ℕ → Option Node → Option EngineError
strange_by path None = None
strange_by path (Some Folder_node) = None
strange_by path (Some (File_node id)) = Some (engine.StrangeFolder path)

-- the first of two refusals
abbrev pub or_else : Option EngineError → Option EngineError → Option EngineError
or_else (Some e) next = Some e
or_else None next = next

-- A folder of metas is there, or the first of the three names that is a file's; none where the engine may be opened.
abbrev pub no_opening : State → Option EngineError
no_opening s =
    or_else (found_by meta_folder (stands (names_now s) meta_folder))
    (or_else (strange_by private_root (stands (names_now s) private_root)) (strange_by shared_root (stands (names_now s) shared_root)))

-- ---- which answer it is

-- A fault and want of memory may come at any time. Each other answer comes only where it is this refusal, and a disk that tells
-- is never found changed.
abbrev pub IsRefusal : Option EngineError → EngineError → Type 0
IsRefusal refusal engine.DiskFault = Unit {0}
IsRefusal refusal engine.NoMemory = Unit {0}
IsRefusal refusal (engine.Found path) = refusal ≡ Some (engine.Found path)
IsRefusal refusal (engine.StrangeFolder path) = refusal ≡ Some (engine.StrangeFolder path)
IsRefusal refusal other = ⊥

-- ---- the causes

-- the disk calls of an opening
abbrev pub opening_calls : List Halt
opening_calls =
    halt_at call.Kind meta_folder ∷ halt_at call.Kind private_root ∷ halt_at call.Kind shared_root
    ∷ halt_at call.MakeFolder meta_folder ∷ halt_at call.MakeFolder private_root ∷ halt_at call.MakeFolder shared_root ∷ []

-- Why a folder wasn't made: a count of the disk rose in one of these calls, or memory was wanted. No other answer comes.
abbrev pub NotMade : Seen → Seen → EngineError → Type 0
NotMade old new engine.DiskFault = Rose old.faults new.faults
NotMade old new (engine.Changed call path) = Rose old.refusals new.refusals × IsAmong (halt_at call path) opening_calls
NotMade old new engine.NoMemory = Unit {0}
NotMade old new other = ⊥

-- Why no engine was opened: for this; or a folder of metas was found, or a file of one of the three names, and the disk is as
-- it was.
abbrev pub NoOpening : Seen → Seen → EngineError → Type 0
NoOpening old new (engine.Found path) = (path ≡ meta_folder) × (new.told ≡ old.told)
NoOpening old new (engine.StrangeFolder path) = IsRoot path × (new.told ≡ old.told)
NoOpening old new e = NotMade old new e

-- ---- on the way

-- one folder is made, and nothing else is changed
abbrev pub MakesFolder : List ℕ → Change → Type 0
MakesFolder path (Created other) = ⊥
MakesFolder path (Named op) = op ≡ Put path Folder_node
MakesFolder path (Appended k bytes) = ⊥
MakesFolder path (Synced k) = ⊥
MakesFolder path Names_synced = ⊥
MakesFolder path Idle = Unit {0}

-- The folder of metas is missing, and of the others each that is said to be.
pub record AreMissing (own shared : Bool) (s : State) : Type 0 where
  pub no_metas : IsFree meta_folder s
  pub own_is : IsMissing private_root own s
  pub shared_is : IsMissing shared_root shared s
