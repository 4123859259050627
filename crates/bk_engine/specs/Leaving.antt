-- Changes that leave a folder as it is.
use Rattle.std.specs.Prelude.{◌≡◌, ◌≢◌, ℕ, ◌<◌, true, List, Some}
use Rattle.lsm_disk.specs.Names.{is_in}
use Rattle.lsm_disk.specs.State.{State, Change, file_at}
use Rattle.lsm_disk.specs.Kept.{Spares, SparesName}

-- Each name at the folder or in it stays as it is, and so does each file that such a name leads to now.
pub record LeavesFolder (dir : List ℕ) (s : State) (c : Change) : Type 0 where
  pub names : (path : List ℕ) → is_in dir path ≡ true → SparesName path c
  pub files : (path : List ℕ) (id : ℕ) → is_in dir path ≡ true → file_at s path ≡ Some id → Spares path id c

-- Each name at the folder or in it stays as it is, and so does each of the first so many files.
pub record SparesFolder (dir : List ℕ) (first : ℕ) (c : Change) : Type 0 where
  pub names : (path : List ℕ) → is_in dir path ≡ true → SparesName path c
  pub files : (path : List ℕ) (id : ℕ) → is_in dir path ≡ true → id < first → Spares path id c

-- no name at the folder or in it leads to this file now
abbrev pub HasNoNameOf : List ℕ → State → ℕ → Type 0
HasNoNameOf dir s id = (path : List ℕ) → is_in dir path ≡ true → file_at s path ≢ Some id
