-- What was read of a folder that stands.
use Rattle.std.specs.Prelude.{◌≡◌, ◌⊎◌, ℕ, List, Option, Some, Ok}
use Rattle.lsm_disk.specs.State.{Story, state_of, file_synced}
use Rattle.lsm_disk.specs.Answers.{pushed}
use Rattle.lsm_disk.specs.Tree.{IsLawful}
use Rattle.lsm_recover.specs.Answers.{place_now}
use Rattle.lsm_recover.specs.Opening.{opening}
use Rattle.lsm_recover.specs.Shown.{IsOfFolder}
use Rattle.lsm_opening.specs.declared.found.Found.{Found}

-- the story behind the sync of a file
abbrev pub behind_sync : List ℕ → Story → Story
behind_sync path start = pushed (file_synced path) start

-- a file was synced, or nothing was done
abbrev pub MayBeSynced : Story → Option Story → Type 0
MayBeSynced start told = (told ≡ Some start) ⊎ ((path : List ℕ) × (told ≡ Some (behind_sync path start)))

-- a file was synced, on a lawful disk
pub record IsSynced (start : Story) (told : Option Story) : Type 0 where
  pub path : List ℕ
  pub tells : told ≡ Some (behind_sync path start)
  pub lawful : IsLawful (state_of start)

-- A file was synced. Then the folder opens to these rows and this sequence, and the version, the next number and the names are
-- the folder's.
pub record HasFound (dir : List ℕ) (start : Story) (told : Option Story) (found : Found) : Type 0 where
  pub synced : IsSynced start told
  pub log : ℕ
  pub is : IsOfFolder dir (behind_sync synced.path start) found.version log found.next found.names
  pub opens : opening (place_now dir (behind_sync synced.path start)) ≡ Ok
      (record { sequence = found.sequence; rows = found.rows })
