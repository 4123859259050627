-- The room that is taken in advance: a later unlink, removal of a folder, sync or sync of names takes no memory.
use Rattle.std.specs.Prelude.{◌≡◌, ℕ, ◌+◌, ◌*◌, ◌≤◌, Bool, true, false, List, [], ◌∷◌}
use Rattle.std.specs.FinMap as map
use Rattle.lsm_disk.specs.Names.{Names}
use Rattle.lsm_disk.specs.State.{FileState}
use Rattle.lsm_changes.specs.Files.{is_empty}

abbrev pub one_if_not : Bool → ℕ
one_if_not true = 0
one_if_not false = 1

-- how many files have bytes that weren't synced
abbrev pub loose_files : List FileState → ℕ
loose_files [] = 0
loose_files (f ∷ fs) = one_if_not (is_empty f.unsynced) + loose_files fs

-- how many files an append makes loose: none where the file was, or where nothing is appended
abbrev pub newly_loose : Bool → List ℕ → ℕ
newly_loose true [] = 0
newly_loose true (b ∷ bytes) = 1
newly_loose false bytes = 0

-- There is room to take each name away and to sync the names after it, to sync each file that is loose, and to sync the names now.
pub record HasRoom (names : Names) (synced : Bool) (files : List FileState) (loose room : ℕ) : Type 0 where
  pub counted : loose ≡ loose_files files
  pub enough : 2 * map.len names + loose + one_if_not synced ≤ room
