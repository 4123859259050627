-- How a folder that was read is answered.
use Rattle.std.specs.Prelude.{◌≡◌, ℕ, List, Result, Ok, Err}
use Rattle.lsm_disk.specs.Listing.{listing}
use Rattle.lsm_disk.specs.State.{Story, state_of, names_now}
use Rattle.lsm_names.specs.declared.file_names.FileName.{FileName}
use Rattle.lsm_version.specs.declared.edits.Edit.{Edit}
use Rattle.lsm_version.specs.Levels.{Tables}
use Rattle.lsm_folder.specs.Manifests.{tables_after, log_after, next_after}
use Rattle.lsm_folder.specs.declared.refusals.Refusal.{Refusal}
use Rattle.lsm_folder.specs.Reading.{Shown}
use Rattle.lsm_recover.specs.Answers.{IsRefusedBy, place_now}
use Rattle.lsm_recover.specs.Head.{edits_there}
use Rattle.lsm_recover.specs.Listed.{names_in, next_number}
use Rattle.lsm_recover.specs.declared.errors.FolderError.{FolderError}
use Rattle.lsm_recover.specs.declared.folder.Found.{Found}

-- what a store shows that was found
abbrev pub shown : Found → Shown
shown found = record { sequence = found.sequence; contents = found.contents }

-- the answer is what the folder reads as, or its refusal
abbrev pub AnswersShown : Result Shown Refusal → Result Found FolderError → Type 0
AnswersShown read (Ok found) = read ≡ Ok (shown found)
AnswersShown read (Err error) = IsRefusedBy read error

-- the version and the log number are what the folder's manifest says; the next number too, but that
-- it is behind those of the files; and the names are those of the folder's listing
pub record IsOfFolder (dir : List ℕ) (story : Story) (version : Tables) (log next : ℕ) (names : List FileName) : Type 0 where
  pub edits : List Edit
  pub said : edits_there (place_now dir story) ≡ Ok edits
  pub version_is : version ≡ tables_after edits
  pub log_is : log ≡ log_after edits
  pub next_is : next ≡ next_number (next_after edits) (listing dir (names_now (state_of story)))
  pub names_are : names ≡ names_in (listing dir (names_now (state_of story)))
