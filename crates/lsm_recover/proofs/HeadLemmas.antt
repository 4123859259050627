-- A folder's edits, by CURRENT and then the manifest that it names.
use Rattle.std.specs.Prelude.{◌≡◌, ℕ, List, Result, Ok, Err}
use Rattle.std.proofs.Common.{sym, ap, subst, ◌∙◌}
use Rattle.lsm_disk.specs.State.{Story, state_of}
use Rattle.lsm_version.specs.declared.edits.Edit.{Edit}
use Rattle.lsm_folder.specs.declared.refusals.Refusal.{Refusal}
use Rattle.lsm_folder.specs.Files.{Files}
use Rattle.lsm_folder.specs.Needed.{edits_at}
use Rattle.lsm_folder.specs.Reading.{current_of, edits_of}
use Rattle.lsm_folder.specs.Steps.{◌>>=◌}
use Rattle.lsm_recover.specs.declared.errors.FolderError.{FolderError}
use Rattle.lsm_recover.specs.declared.manifest.Stated.{Stated}
use Rattle.lsm_recover.specs.Answers.{IsRefusedBy, files_now, place_now}
use Rattle.lsm_recover.specs.Head.{edits_there}
use Rattle.lsm_recover.specs.Listed.{IsListing}
use Rattle.lsm_recover.specs.Stated.{GivesStated}
use Rattle.lsm_disk.specs.declared.listing.Entry.{Entry}
use Rattle.lsm_recover.proofs.AnswerLemmas.{refused_too}
use Rattle.lsm_recover.proofs.DiskLemmas.{place_is}

module _ (dir : List ℕ) (story : Story) (entries : List Entry) (listed : IsListing dir story entries) where
  abbrev files : Files
  files = files_now dir story

  there : edits_there (place_now dir story) ≡ edits_at files
  there = ap edits_there (place_is dir (state_of story) listed.folder)

  by_current : (x : Result ℕ Refusal) → current_of files ≡ x → edits_there (place_now dir story) ≡ (x >>= edits_of files)
  by_current x is = there ∙ ap (λ (y : Result ℕ Refusal). y >>= edits_of files) is

  -- CURRENT is refused
  pub current_refuses : (error : FolderError) → IsRefusedBy (current_of files) error → IsRefusedBy (edits_there (place_now dir story)) error
  current_refuses = refused_too (current_of files) (edits_there (place_now dir story)) (λ refused is. by_current (Err refused) is)

  module _ (manifest : ℕ) (current : current_of files ≡ Ok manifest) where
    -- the manifest is
    pub manifest_refuses : (error : FolderError) → IsRefusedBy (edits_of files manifest) error → IsRefusedBy (edits_there (place_now dir story)) error
    manifest_refuses error refused = subst (λ (r : Result (List Edit) Refusal). IsRefusedBy r error) (sym (by_current (Ok manifest) current)) refused

    pub manifest_gives : (stated : Stated) → GivesStated (edits_of files manifest) stated → GivesStated (edits_there (place_now dir story)) stated
    manifest_gives stated gives = subst (λ (r : Result (List Edit) Refusal). GivesStated r stated) (sym (by_current (Ok manifest) current)) gives
