-- What a folder is read by: its listing, and what its manifest's edits come to.
use Rattle.std.specs.Prelude.{ℕ, List, Result, Ok, Err}
use Rattle.lsm_disk.specs.State.{Story}
use Rattle.lsm_version.specs.declared.edits.Edit.{Edit}
use Rattle.lsm_folder.specs.declared.refusals.Refusal.{Refusal}
use Rattle.lsm_folder.specs.declared.refusals.Refusal.TheVariants.{NoFolder}
use Rattle.lsm_folder.specs.Files.{Place, Nothing, Not_a_folder, Stands_with}
use Rattle.lsm_folder.specs.Needed.{edits_at}
use Rattle.lsm_recover.specs.declared.errors.FolderError.{FolderError}
use Rattle.lsm_recover.specs.declared.head.Head.{Head}
use Rattle.lsm_recover.specs.Answers.{IsRefusedBy, place_now}
use Rattle.lsm_recover.specs.Listed.{IsListing}
use Rattle.lsm_recover.specs.Stated.{GivesStated}

-- the edits of the manifest of what stands in a folder's place; a file there is no folder
abbrev pub edits_there : Place → Result (List Edit) Refusal
edits_there Nothing = Err NoFolder
edits_there Not_a_folder = Err NoFolder
edits_there (Stands_with files) = edits_at files

-- a folder's listing, and what its manifest's edits come to
pub record IsHead (dir : List ℕ) (story : Story) (head : Head) : Type 0 where
  pub listed : IsListing dir story head.listing
  pub gives : GivesStated (edits_there (place_now dir story)) head.stated

-- the answer is a folder's head, or its refusal
abbrev pub AnswersHead : List ℕ → Story → Result Head FolderError → Type 0
AnswersHead dir story (Ok head) = IsHead dir story head
AnswersHead dir story (Err error) = IsRefusedBy (edits_there (place_now dir story)) error
