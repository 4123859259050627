-- What a store keeps of a run: the contents in memory, and each accepted batch in the log.
use Rattle.std.specs.Prelude.{◌≡◌, ◌≢◌, ℕ, List, [], ◌∷◌, ◌++◌, length, Option, Some, IsTrue, refl, codes}
use Rattle.std.specs.Coded.{Coded, code_by, coded×, coded_ℕ}
use Rattle.lsm_rows.specs.declared.operations.Op.{Op}
use Rattle.std.specs.FinMap as map
use Rattle.lsm_rows.specs.Replay.{Contents, replayed, sequence_after}
use Rattle.lsm_names.specs.Paths.{parent_of}
use Rattle.lsm_frame.specs.Frames.{log_text}
use Rattle.lsm_disk.specs.State.{FileState, Seen, State, Story, state_of, file_at}
use Rattle.lsm_disk.specs.Kept.{IsKeptFile}
use Rattle.lsm_disk.specs.Images.{Tree, IsImage, tree_now, bytes_at}
use Rattle.lsm_disk.specs.Codes.{coded_seen}
use Rattle.lsm_wal.specs.Batches.{in_sequence, wal_text}
use Rattle.lsm_wal.specs.Standing.{IsWal}
use Rattle.lsm_rows.specs.Pairs.{coded_bytes, coded_contents}
use Rattle.ldb_script.specs.Plain.{Outcome}
use Rattle.ldb_script.specs.Folders.{FoldersStand}

-- what contracts see of a store
pub record Shown : Type 0 where
  pub disk : Seen
  -- the log's path
  pub log : List ℕ
  -- how many bytes the log has
  pub len : ℕ
  pub contents : Contents
  -- the last sequence
  pub sequence : ℕ

abbrev pub coded_shown : Coded Shown
coded_shown =
    code_by (Seen × (List ℕ × (ℕ × (Contents × ℕ)))) (coded× coded_seen
    (coded× coded_bytes (coded× coded_ℕ (coded× coded_contents coded_ℕ))))
    (λ s. (s.disk, (s.log, (s.len, (s.contents, s.sequence)))))
    (λ p. record { disk = p.0; log = p.1.0; len = p.1.1.0; contents = p.1.1.1.0; sequence = p.1.1.1.1 }) (λ _. refl)

-- ---- the files of a store's folder

abbrev pub log_path : List ℕ → List ℕ
log_path folder = folder ++ 47 ∷ codes "000002.log"

abbrev pub manifest_path : List ℕ → List ℕ
manifest_path folder = folder ++ 47 ∷ codes "MANIFEST-000001"

abbrev pub current_path : List ℕ → List ℕ
current_path folder = folder ++ 47 ∷ codes "CURRENT"

-- the name that `CURRENT` has until it is written
abbrev pub temporary_path : List ℕ → List ℕ
temporary_path folder = folder ++ 47 ∷ codes "000001.dbtmp"

-- the first edit of a manifest: the log's number (field 1) is 2, the next file's (2) is 3, the last sequence in tables (3) is 0
abbrev pub first_edit : List ℕ
first_edit = 1 ∷ 2 ∷ 2 ∷ 3 ∷ 3 ∷ 0 ∷ []

-- the manifest of a new store: one record, that edit
unfoldable pub first_manifest : List ℕ
first_manifest = log_text (first_edit ∷ [])

-- `CURRENT` of a new store: the manifest's name and a newline
unfoldable pub first_current : List ℕ
first_current = codes "MANIFEST-000001" ++ 10 ∷ []

-- the log of the accepted batches: each once, in their order, the sequences from 1 on
unfoldable pub log_of : List (List Op) → List ℕ
log_of accepted = wal_text (in_sequence 1 accepted)

-- The disk tells, and the log at this path has the accepted batches, the first so many of which outlive each crash.
pub record Logs (told : Option Story) (path : List ℕ) (accepted : List (List Op)) (durable : ℕ) : Type 0 where
  pub story : Story
  pub tells : told ≡ Some story
  pub wal : IsWal (state_of story) path (in_sequence 1 accepted) durable

-- The disk tells, and the file at this path has these bytes, now and after each crash.
pub record Keeps (told : Option Story) (path bytes : List ℕ) : Type 0 where
  pub story : Story
  pub tells : told ≡ Some story
  pub now : bytes_at (tree_now (state_of story)) path ≡ Some bytes
  pub images : (t : Tree) → IsImage (state_of story) t → bytes_at t path ≡ Some bytes

-- The disk tells, and a folder has the manifest and the `CURRENT` of a new store, now and after each crash.
pub record KeepsManifestAndCurrent (told : Option Story) (folder : List ℕ) : Type 0 where
  pub manifest : Keeps told (manifest_path folder) first_manifest
  pub current : Keeps told (current_path folder) first_current

-- a file of these bytes, all of them synced
abbrev pub whole_file : List ℕ → FileState
whole_file bytes = record { synced = bytes; unsynced = [] }

-- Beside a log, the file at this path outlives each crash with these bytes, and the log's name leads to another file.
pub record IsBeside (s : State) (log path bytes : List ℕ) : Type 0 where
  pub id : ℕ
  pub kept : IsKeptFile s path id (whole_file bytes)
  pub apart : file_at s log ≢ Some id

-- a new store's manifest and `CURRENT` stand in the folder, beside the log
pub record HasFirstFiles (s : State) (folder log : List ℕ) : Type 0 where
  pub manifest : IsBeside s log (manifest_path folder) first_manifest
  pub current : IsBeside s log (current_path folder) first_current

-- the disk tells, and they stand in the log's folder
pub record FilesBeside (told : Option Story) (log : List ℕ) : Type 0 where
  pub story : Story
  pub tells : told ≡ Some story
  pub files : HasFirstFiles (state_of story) (parent_of log) log

-- The store and the disk stand where a run of lines has come: the plain state is in memory, and where the disk told at the
-- start, the log holds the accepted batches, and the manifest and `CURRENT` stand beside it as the opening made them. Where both
-- disks tell, the store's folder has nothing else, the restored folders stand, and no other name was touched.
pub record Stands (start : Option Story) (shown : Shown) (outcome : Outcome) : Type 0 where
  pub contents : shown.contents ≡ outcome.after.contents
  pub sequence : shown.sequence ≡ outcome.after.sequence
  pub replays : outcome.after.contents ≡ replayed map.empty outcome.accepted
  pub counted : outcome.after.sequence ≡ sequence_after 0 outcome.accepted
  pub batches : outcome.after.batches ≡ length outcome.accepted
  pub len : shown.len ≡ length (log_of outcome.accepted)
  pub log : (story : Story) → start ≡ Some story → Logs shown.disk.told shown.log outcome.accepted outcome.after.durable
  pub beside : (story : Story) → start ≡ Some story → FilesBeside shown.disk.told shown.log
  pub home : shown.log ≡ log_path outcome.after.start.home
  pub folders : IsTrue outcome.after.start.tells → FoldersStand start shown.disk.told shown.log outcome.after
