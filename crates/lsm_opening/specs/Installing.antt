-- A new manifest and then a new log, as the calls that make them leave the disk.
use Rattle.std.specs.Prelude.{◌≡◌, ℕ, ◌+◌, List, [], ◌∷◌, ◌++◌, length, Option, Some}
use Rattle.lsm_names.specs.declared.file_names.FileName.{FileName}
use Rattle.lsm_names.specs.declared.file_names.FileName.TheVariants.{Log, Manifest}
use Rattle.lsm_disk.specs.State.{State, Story, state_of}
use Rattle.lsm_disk.specs.Goes.{Went}
use Rattle.lsm_disk.specs.Kept.{Making}
use Rattle.lsm_disk.specs.Dest.{path_in}
use Rattle.lsm_version.specs.declared.edits.Edit.{Edit}
use Rattle.lsm_version.specs.Levels.{Tables}
use Rattle.lsm_manifest.specs.Texts.{manifest_text}
use Rattle.lsm_manifest.specs.Installing.{Before, StillBefore, IsApart, NamesOldOrNew, Installs, IsInstalled}
use Rattle.lsm_wal.specs.Making.{MayHaveNew, with_made}
use Rattle.lsm_opening.specs.declared.installing.Installed.{Installed}
use Rattle.lsm_opening.specs.declared.installing.Recovered.{Recovered}
use Rattle.lsm_opening.specs.declared.numbers.Numbers.{Numbers}
use Rattle.lsm_opening.specs.Edits.{IsWholeEdit}

-- ---- the disk

-- The calls of a new manifest: in each image on the way CURRENT has what it had, whatever this was, or names the new one. Of
-- the disk's state now J holds.
abbrev pub Switches : List ℕ → ℕ → Edit → Story → Option Story → (State → Type 0) → Type 0
Switches dir number edit start told J = (before : Before) → StillBefore dir before (state_of start)
    → IsApart dir number before.path
    → Went start told (Installs dir number (length (state_of start).files)) (NamesOldOrNew dir number edit before) J

-- the calls of a new log: each image on the way is one from before, with the new empty file or without
abbrev pub MakesLog : List ℕ → ℕ → Story → Option Story → (State → Type 0) → Type 0
MakesLog dir log mid told J = Went mid told (Making (path_in dir (Log log)))
    (MayHaveNew (state_of mid) (path_in dir (Log log))) J

-- the new manifest is there, CURRENT names it, and then the log was made
pub record HasInstalled (dir : List ℕ) (number log : ℕ) (edit : Edit) (start : Story) (told : Option Story) : Type 0 where
  pub mid : Story
  pub switched : Switches dir number edit start (Some mid) (IsInstalled dir number edit)
  pub made : MakesLog dir log mid told (λ (x : State). x ≡ with_made (path_in dir (Log log)) (state_of mid))

-- a call of the new manifest was refused, or behind them one of the log
pub data WasCutOff (dir : List ℕ) (number log : ℕ) (edit : Edit) (start : Story) (told : Option Story) : Type 0 where
  At_manifest : Switches dir number edit start told (λ (x : State). Unit {0}) → WasCutOff dir number log edit start told
  At_log : (mid : Story) → Switches dir number edit start (Some mid) (IsInstalled dir number edit)
      → MakesLog dir log mid told (λ (x : State). Unit {0}) → WasCutOff dir number log edit start told

-- ---- what a store goes on with

-- the manifest of this edit, and the empty log
pub record IsInstalledBy (dir : List ℕ) (numbers : Numbers) (edit : Edit) (i : Installed) : Type 0 where
  pub manifest : i.manifest ≡ record {
    dir = dir;
    number = numbers.manifest;
    path = path_in dir (Manifest numbers.manifest);
    len = length (manifest_text (edit ∷ []));
  }
  pub wal : i.wal ≡ record { path = path_in dir (Log numbers.log); len = 0 }

-- the version, the names with those of the new files, the manifest of the edit and the empty log, and the sequence
pub record IsMadeOf (dir : List ℕ) (version : Tables) (names : List FileName) (numbers : Numbers) (sequence : ℕ)
    (edit : Edit) (r : Recovered) : Type 0 where
  pub whole : IsWholeEdit version numbers.log (numbers.log + 1) sequence edit
  pub version_is : r.version ≡ version
  pub names_are : r.names ≡ names ++ Manifest numbers.manifest ∷ Log numbers.log ∷ []
  pub manifest : r.manifest ≡ record {
    dir = dir;
    number = numbers.manifest;
    path = path_in dir (Manifest numbers.manifest);
    len = length (manifest_text (edit ∷ []));
  }
  pub wal : r.wal ≡ record { path = path_in dir (Log numbers.log); len = 0 }
  pub log : r.log ≡ numbers.log
  pub sequence_is : r.sequence ≡ sequence

-- a store goes on with what an edit of all tables made, whose calls were all Ok
pub record HasGoneOn (dir : List ℕ) (version : Tables) (names : List FileName) (numbers : Numbers) (sequence : ℕ)
    (old new : Option Story) (r : Recovered) : Type 0 where
  pub edit : Edit
  pub is : IsMadeOf dir version names numbers sequence edit r
  pub has : (start : Story) → old ≡ Some start → HasInstalled dir numbers.manifest numbers.log edit start new

-- one of these calls was refused, if any was made
pub record WasStopped (dir : List ℕ) (version : Tables) (numbers : Numbers) (sequence : ℕ)
    (old new : Option Story) : Type 0 where
  pub edit : Edit
  pub whole : IsWholeEdit version numbers.log (numbers.log + 1) sequence edit
  pub was : (start : Story) → old ≡ Some start → WasCutOff dir numbers.manifest numbers.log edit start new
