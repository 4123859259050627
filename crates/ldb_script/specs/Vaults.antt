-- The backups behind a run: the engine keeps their metas, and the backup disk what they hold.
use Rattle.std.specs.Prelude.{◌≡◌, ◌≢◌, ℕ, ◌<◌, ◌≤◌, ◌^◌, IsTrue, All, List, [], ◌∷◌, Option, Some, None, refl}
use Rattle.std.specs.Coded.{Coded, code_by, coded×, coded_option}
use Rattle.lsm_disk.specs.Codes.{coded_seen}
use Rattle.lsm_disk.specs.Kept.{IsKeptName}
use Rattle.lsm_disk.specs.State.{Seen, State, Story, state_of}
use Rattle.lsm_disk.specs.Images.{Tree, IsImage}
use Rattle.lsm_folder.specs.Files.{Files}
use Rattle.lsm_folder.specs.Needed.{Stands as Shows}
use Rattle.bk_meta.specs.declared.metas.Meta.{Meta}
use Rattle.bk_tree.specs.Places.{meta_path}
use Rattle.bk_tree.specs.Holds.{held, folder_of}
use Rattle.bk_tree.specs.Kept.{IsKeptBackup}
use Rattle.bk_engine.specs.Shown.{Shown as EngineShown, coded_shown}
use Rattle.ldb_script.specs.declared.backups.Held.{Held}
use Rattle.ldb_script.specs.declared.backups.Held.TheVariants.{Disk, Engine}
use Rattle.ldb_script.specs.Printed.{Backup}
use Rattle.ldb_script.specs.Plain.{Plain}

-- what is seen of the backup disk, and of the engine where it is opened
pub record Vault : Type 0 where
  pub disk : Seen
  pub engine : Option EngineShown

abbrev pub coded_vault : Coded Vault
coded_vault = code_by (Seen × Option EngineShown) (coded× coded_seen (coded_option coded_shown)) (λ v. (v.disk, v.engine))
    (λ p. record { disk = p.0; engine = p.1 }) (λ _. refl)

-- nothing is seen of a disk that isn't there
abbrev pub unseen : Seen
unseen = record { told = None; faults = 0; refusals = 0 }

-- of the disk, where no engine is opened over it, and else of the engine
abbrev pub vault_of : {B V : Type 0} → (B → Seen) → Option (Held B V) → Vault
vault_of seen None = record { disk = unseen; engine = None }
vault_of seen (Some (Disk disk)) = record { disk = seen disk; engine = None }
vault_of seen (Some (Engine engine)) = record { disk = engine.disk; engine = Some engine }

-- the meta says of the backup what the plain state does
pub record IsMetaOf (meta : Meta) (backup : Backup) : Type 0 where
  pub id : meta.id ≡ backup.id
  pub timestamp : meta.timestamp ≡ backup.timestamp
  pub sequence : meta.sequence ≡ backup.shown.sequence
  pub metadata : meta.metadata ≡ backup.metadata

-- so do all, one for each
abbrev pub AreMetasOf : List Meta → List Backup → Type 0
AreMetasOf [] [] = Unit {0}
AreMetasOf [] (backup ∷ backups) = ⊥
AreMetasOf (meta ∷ metas) [] = ⊥
AreMetasOf (meta ∷ metas) (backup ∷ backups) = IsMetaOf meta backup × AreMetasOf metas backups

-- A backup outlives each crash with its files, which stand for what it holds.
pub record IsHeld (s : State) (meta : Meta) (backup : Backup) : Type 0 where
  pub texts : List (List ℕ)
  pub kept : IsKeptBackup s meta texts
  pub files : Files
  pub folder : folder_of meta texts ≡ Some files
  pub shows : Shows files backup.shown.contents backup.shown.sequence

abbrev pub AreHeld : State → List Meta → List Backup → Type 0
AreHeld s [] [] = Unit {0}
AreHeld s [] (backup ∷ backups) = ⊥
AreHeld s (meta ∷ metas) [] = ⊥
AreHeld s (meta ∷ metas) (backup ∷ backups) = IsHeld s meta backup × AreHeld s metas backups

-- an identifier of no backup that no crash listed at the start is listed after none now
abbrev pub IsListedByNone : State → State → List Backup → Type 0
IsListedByNone start now backups = (id : ℕ) → id < 2 ^ 32 → All (λ backup. backup.id ≢ id) backups
    → IsKeptName start (meta_path id) None → IsKeptName now (meta_path id) None

-- the disk told and tells, and it holds each backup, and lists no other
pub record HoldsBackups (start told : Option Story) (metas : List Meta) (backups : List Backup) : Type 0 where
  pub first : Story
  pub told_first : start ≡ Some first
  pub story : Story
  pub tells : told ≡ Some story
  pub held : AreHeld (state_of story) metas backups
  pub others : IsListedByNone (state_of first) (state_of story) backups

-- The engine keeps the metas of the backups, and where both disks tell, the backup disk holds them.
pub record Keeps (start : Option Story) (disk : Seen) (engine : EngineShown) (plain : Plain) : Type 0 where
  pub same : engine.disk ≡ disk
  pub going : engine.halt ≡ None
  pub given : engine.given ≡ plain.given
  pub metas : AreMetasOf engine.metas plain.backups
  pub ids : All (λ backup. backup.id ≤ plain.given) plain.backups
  pub held : IsTrue plain.start.tells → HoldsBackups start disk.told engine.metas plain.backups

-- no engine is opened: there are no backups, and the disk is as it was
pub record IsUnopened (start : Option Story) (disk : Seen) (plain : Plain) : Type 0 where
  pub none : plain.backups ≡ []
  pub given : plain.given ≡ 0
  pub same : disk.told ≡ start

abbrev pub EngineKeeps : Option Story → Seen → Option EngineShown → Plain → Type 0
EngineKeeps start disk None plain = IsUnopened start disk plain
EngineKeeps start disk (Some engine) plain = Keeps start disk engine plain

-- the backups stand where a run has come
unfoldable pub Backs : Option Story → Vault → Plain → Type 0
Backs start vault plain = EngineKeeps start vault.disk vault.engine plain

-- ---- what a run leaves of them

-- the backup is held, and stands for what it holds, in this image
pub record IsHeldIn (t : Tree) (backup : Backup) : Type 0 where
  pub files : Files
  pub held : held t backup.id ≡ Some files
  pub shows : Shows files backup.shown.contents backup.shown.sequence

-- Each backup is held after each crash, and opens to what the store held when it was made; no other is listed after one, but what
-- was there at the start.
pub record BackupsHeld (start told : Option Story) (plain : Plain) : Type 0 where
  pub first : Story
  pub told_first : start ≡ Some first
  pub story : Story
  pub tells : told ≡ Some story
  pub each : All (λ backup. (t : Tree) → IsImage (state_of story) t → IsHeldIn t backup) plain.backups
  pub others : IsListedByNone (state_of first) (state_of story) plain.backups
