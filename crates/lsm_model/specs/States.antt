-- What a state of the abstract store says.
use Rattle.std.specs.Prelude.{ℕ, ◌+◌, ◌-◌, ◌==◌, if◌then◌else◌, List, [], ◌∷◌, ◌++◌, take, drop, length, sum_by, Option, Some, None}
use Rattle.std.specs.Str.{bytes_eq}
use Rattle.lsm_rows.specs.declared.operations.Op.{Op}
use Rattle.lsm_rows.specs.declared.operations.Op.TheVariants.{Put, Delete}
use Rattle.lsm_rows.specs.Replay.{Contents, replayed, sequence_after}
use Rattle.lsm_model.specs.declared.replies.Shown.{Shown}
use Rattle.lsm_model.specs.declared.states.State.{State}
use Rattle.lsm_model.specs.declared.states.Pin.{Pin}
use Rattle.lsm_model.specs.declared.states.Holder.{Holder}
use Rattle.lsm_model.specs.declared.states.Holder.TheVariants.{Caller, Checkpoint}
use Rattle.lsm_model.specs.declared.states.FolderRead.{FolderRead}

-- ---- contents

-- the contents and the sequence after batches
abbrev pub shown_after : State → List (List Op) → Shown
shown_after s batches = record { sequence = sequence_after s.began batches; contents = replayed s.opening batches }

-- the contents and the sequence after the first so many accepted batches
abbrev pub shown_at : State → ℕ → Shown
shown_at s count = shown_after s (take count s.accepted)

-- the contents now: those after all accepted batches
abbrev pub contents_now : State → Contents
contents_now s = replayed s.opening s.accepted

-- the last sequence that an operation has
abbrev pub last_of : State → ℕ
last_of s = sequence_after s.began s.accepted

-- the doubtful batch as a list of none or one
abbrev pub none_or_one : Option (List Op) → List (List Op)
none_or_one None = []
none_or_one (Some ops) = ops ∷ []

-- the accepted batches, and behind them the doubtful one
abbrev pub written : State → List (List Op)
written s = s.accepted ++ none_or_one s.doubtful

-- ---- pins

-- the live pin of a number
abbrev pub pin_of : ℕ → List Pin → Option Pin
pin_of number [] = None
pin_of number (pin ∷ pins) = if pin.number == number then Some pin else pin_of number pins

-- all pins but the one of a number
abbrev pub without_pin : ℕ → List Pin → List Pin
without_pin number [] = []
without_pin number (pin ∷ pins) = if pin.number == number then without_pin number pins else pin ∷ without_pin number pins

-- the pins, where the first one of this one's number is this one
abbrev pub with_pin : Pin → List Pin → List Pin
with_pin new [] = []
with_pin new (pin ∷ pins) = if pin.number == new.number then new ∷ pins else pin ∷ with_pin new pins

-- the folder that a pin's holder builds
abbrev pub built_by : Holder → Option (List ℕ)
built_by Caller = None
built_by (Checkpoint dir left) = Some dir

-- ---- folders

-- the folder of a name
abbrev pub folder_of : List ℕ → List FolderRead → Option FolderRead
folder_of name [] = None
folder_of name (folder ∷ folders) = if bytes_eq folder.name name then Some folder else folder_of name folders

-- the folders, where the one of a name is this one
abbrev pub with_folder : FolderRead → List FolderRead → List FolderRead
with_folder new [] = new ∷ []
with_folder new (folder ∷ folders) =
    if bytes_eq folder.name new.name then new ∷ folders else folder ∷ with_folder new folders

-- ---- rows in memory

-- what an operation's row counts in memory: the bytes of its key and of its value, and 8
abbrev pub op_bytes : Op → ℕ
op_bytes (Put key value) = length key + length value + 8
op_bytes (Delete key) = length key + 8

-- what the rows of batches count
abbrev pub bytes_of : List (List Op) → ℕ
bytes_of batches = sum_by (λ (ops : List Op). sum_by op_bytes ops) batches

-- the batches whose rows are active
abbrev pub active_batches : State → List (List Op)
active_batches s = drop (length s.accepted - s.active) s.accepted
