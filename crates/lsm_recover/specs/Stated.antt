-- What a manifest's edits come to, one edit after another.
use Rattle.std.specs.Prelude.{◌≡◌, ℕ, ◌^◌, ◌<◌, ◌≤◌, ◌⊎◌, true, List, [], length, Option, Some, None, Result, Ok, Err}
use Rattle.std.specs.FinMap as finmap
use Rattle.lsm_names.specs.declared.file_names.FileName.{FileName}
use Rattle.lsm_names.specs.FileNames.{is_file_number}
use Rattle.lsm_version.specs.declared.edits.Edit.{Edit}
use Rattle.lsm_version.specs.declared.tables.Placed.{Placed}
use Rattle.lsm_version.specs.Edits.{IsPlace, IsTable, IsSomeEdit}
use Rattle.lsm_version.specs.Levels.{Tables}
use Rattle.lsm_version.specs.Versions.{applied, version_after, numbers_after}
use Rattle.lsm_folder.specs.declared.refusals.Refusal.{Refusal}
use Rattle.lsm_folder.specs.declared.refusals.Refusal.TheVariants as refusal
use Rattle.lsm_folder.specs.Edits.{edit_of}
use Rattle.lsm_folder.specs.Manifests.{with_edit}
use Rattle.lsm_folder.specs.Steps.{◌>>=◌, some_or, version_says}
use Rattle.lsm_recover.specs.declared.errors.FolderError.{FolderError}
use Rattle.lsm_recover.specs.declared.errors.FolderError.TheVariants.{Malformed, NoMemory}
use Rattle.lsm_recover.specs.declared.manifest.Stated.{Stated}
use Rattle.lsm_recover.specs.Answers.{IsRefusedBy}

-- edits, one at least, come to this version, and these are the numbers that they set last
pub record AreStated (edits : List Edit) (stated : Stated) : Type 0 where
  pub some : 1 ≤ length edits
  pub version : version_after edits ≡ Ok stated.version
  pub numbers : numbers_after edits ≡ record { log = Some stated.log; next = Some stated.next; last = Some stated.last }

-- no edits come to nothing
abbrev pub IsStated : List Edit → Option Stated → Type 0
IsStated edits None = edits ≡ []
IsStated edits (Some stated) = AreStated edits stated

-- the tables of a version have numbers that files can have
abbrev pub AreNumbered : Tables → Type 0
AreNumbered tables = (number : ℕ) (placed : Placed) → finmap.get tables number ≡ Some placed → is_file_number number ≡ true

-- a table with its level, which says of itself what an edit may say, the number by which it is found among it
pub record IsSaid (number : ℕ) (placed : Placed) : Type 0 where
  pub place : IsPlace placed.level number
  pub info : IsTable placed.info
  pub own : placed.info.number ≡ number

-- so are all tables of a version
abbrev pub AreSaid : Tables → Type 0
AreSaid tables = (number : ℕ) (placed : Placed) → finmap.get tables number ≡ Some placed → IsSaid number placed

-- what edits of the grammar give: tables, and a last sequence
pub record IsSound (stated : Stated) : Type 0 where
  pub numbered : AreNumbered stated.version
  pub said : AreSaid stated.version
  pub small : stated.last < 2 ^ 56

-- what edits and one more record say
abbrev pub said_so_far : FileName → ℕ → List ℕ → List Edit → Result (List Edit) Refusal
said_so_far name place text edits = some_or (refusal.Malformed name place) (edit_of text) >>= with_edit name place edits

-- why a record's text isn't taken as an edit
abbrev pub IsNoEdit : FileName → ℕ → List ℕ → FolderError → Type 0
IsNoEdit name place text error = (error ≡ NoMemory) ⊎ ((error ≡ Malformed name place) × ¬ IsSomeEdit text)

-- why an edit isn't applied to a version
abbrev pub IsNotApplied : FileName → ℕ → Tables → Edit → FolderError → Type 0
IsNotApplied name place tables edit error = IsRefusedBy (version_says name place (applied tables edit)) error

-- the edits that a manifest says come to what was found
pub record GivesStated (read : Result (List Edit) Refusal) (stated : Stated) : Type 0 where
  pub edits : List Edit
  pub is : read ≡ Ok edits
  pub are : AreStated edits stated

-- the answer is what a manifest's edits come to, or their refusal
abbrev pub AnswersStated : Result (List Edit) Refusal → Result Stated FolderError → Type 0
AnswersStated read (Ok stated) = GivesStated read stated
AnswersStated read (Err error) = IsRefusedBy read error
