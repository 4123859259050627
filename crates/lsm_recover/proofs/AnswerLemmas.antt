-- Errors that refuse one reading refuse another.
use Rattle.std.specs.Prelude.{◌≡◌, Result, Err}
use Rattle.lsm_folder.specs.declared.refusals.Refusal.{Refusal}
use Rattle.lsm_folder.specs.declared.refusals.Refusal.TheVariants as refusal
use Rattle.lsm_recover.specs.declared.errors.FolderError.{FolderError}
use Rattle.lsm_recover.specs.declared.errors.FolderError.TheVariants.{DiskFault, NoFolder, NoCurrent, Missing, Changed, Short, Damaged, Malformed, TornLog, Gap, BadLevels, NoMemory}
use Rattle.lsm_recover.specs.Answers.{IsRefusedBy}

-- where one reading's refusals are another one's
pub refused_too : {A B : Type 0} (one : Result A Refusal) (two : Result B Refusal) → ((r : Refusal) → one ≡ Err r → two ≡ Err r) → (error : FolderError) → IsRefusedBy one error → IsRefusedBy two error
refused_too one two too DiskFault is = tt
refused_too one two too (NoFolder dir) is = too refusal.NoFolder is
refused_too one two too (NoCurrent dir) is = too refusal.NoCurrent is
refused_too one two too (Missing name) is = too (refusal.Missing name) is
refused_too one two too (Changed call path) is = is
refused_too one two too (Short name kept found) is = too (refusal.Short name kept found) is
refused_too one two too (Damaged name place kept found) is = too (refusal.Damaged name place kept found) is
refused_too one two too (Malformed name place) is = too (refusal.Malformed name place) is
refused_too one two too (TornLog name place) is = too (refusal.TornLog name place) is
refused_too one two too (Gap name kept found) is = too (refusal.Gap name kept found) is
refused_too one two too (BadLevels level left right) is = too (refusal.BadLevels level left right) is
refused_too one two too NoMemory is = tt
