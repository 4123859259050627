-- The names that a list of changes leads to.
use Rattle.std.specs.Prelude.{ℕ, ◌+◌, Bool, true, false, List, [], ◌∷◌}
use Rattle.std.specs.FinMap as map
use Rattle.lsm_disk.specs.Names.{File_node, Names, named}
use Rattle.lsm_disk.specs.State.{State, Change, Created, Named, Appended, Synced, Names_synced, Idle, after_all}

-- the names after a change, where so many files were made before
abbrev pub names_after : Change → ℕ → Names → Names
names_after (Created path) files names = map.insert names path (File_node files)
names_after (Named op) files names = named op names
names_after (Appended id bytes) files names = names
names_after (Synced id) files names = names
names_after Names_synced files names = names
names_after Idle files names = names

abbrev pub files_after : Change → ℕ → ℕ
files_after (Created path) files = files + 1
files_after (Named op) files = files
files_after (Appended id bytes) files = files
files_after (Synced id) files = files
files_after Names_synced files = files
files_after Idle files = files

-- the names after all of them
abbrev pub replayed : List Change → ℕ → Names → Names
replayed [] files names = names
replayed (c ∷ cs) files names = replayed cs (files_after c files) (names_after c files names)

abbrev pub syncs_names : Change → Bool
syncs_names (Created path) = false
syncs_names (Named op) = false
syncs_names (Appended id bytes) = false
syncs_names (Synced id) = false
syncs_names Names_synced = true
syncs_names Idle = false

-- the changes without their values of the clock
abbrev pub changes : List (ℕ × Change) → List Change
changes [] = []
changes (s ∷ steps) = s.1 ∷ changes steps

abbrev pub NotSync : Bool → Type 0
NotSync true = ⊥
NotSync false = Unit {0}

-- none of them syncs the names
abbrev pub Quiet : List Change → Type 0
Quiet [] = Unit {0}
Quiet (c ∷ cs) = NotSync (syncs_names c) × Quiet cs

-- the state to which these changes lead
abbrev pub state_after : State → List Change → State
state_after start changes = after_all changes start
