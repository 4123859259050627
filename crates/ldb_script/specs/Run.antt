-- What a run of a script leaves, by its status.
use Rattle.std.specs.Prelude.{◌≡◌, ℕ, ◌+◌, ◌≤◌, ◌<◌, ◌⊎◌, Bool, false, ◌||◌, ◌&&◌, List, [], ◌∷◌, ◌++◌, length, Option, Some, None, is_some, IsSome, IsTrue, ◌==◌, codes}
use Rattle.std.specs.List.{All, flat_map}
use Rattle.std.specs.Io.KnownBytes.{Appends, Consumes, IsAtEnd}
use Rattle.lsm_io.specs.Causes.{Rose}
use Rattle.lsm_disk.specs.Names.{stands}
use Rattle.lsm_disk.specs.State.{Seen, Story, state_of, names_now}
use Rattle.bk_engine.specs.Opening.{no_opening}
use Rattle.bk_engine.specs.declared.errors.EngineError.{EngineError}
use Rattle.bk_engine.specs.declared.errors.EngineError.TheVariants as engine
use Rattle.ldb_script.specs.Script.{lines}
use Rattle.ldb_script.specs.Input.{IsInside}
use Rattle.ldb_script.specs.Folders.{RestoredRead}
use Rattle.ldb_script.specs.Vaults.{BackupsHeld}
use Rattle.ldb_script.specs.Plain.{Start, Outcome, Output, Does, empty, line_at}
use Rattle.ldb_script.specs.declared.line.Line.TheVariants.{Ask}
use Rattle.ldb_script.specs.declared.line.Command.{Command}
use Rattle.ldb_script.specs.declared.line.Command.TheVariants.{CreateBackup, ListBackups, RestoreBackup}
use Rattle.ldb_script.specs.Printed.{with_newline, bad_line}
use Rattle.ldb_script.specs.Stored.{Keeps, KeepsManifestAndCurrent, Logs, log_path, log_of}

-- a source, a sink or a clock: what is left of it or what it took, where it tells that, and its count of faults
pub record Stream : Type 0 where
  pub bytes : Option (List ℕ)
  pub faults : ℕ

-- what a run met: its source, its sink, the store's disk, the backups' disk and the clock, before and after
pub record Met : Type 0 where
  pub source_before : Stream
  pub source_after : Stream
  pub sink_before : Stream
  pub sink_after : Stream
  pub disk_before : Seen
  pub disk_after : Seen
  pub backups_before : Seen
  pub backups_after : Seen
  pub clock_before : Stream
  pub clock_after : Stream

-- a run from a first moment to the one at hand
abbrev pub now : Met → Stream → Stream → Seen → Seen → Stream → Met
now first source sink disk backups clock = record {
  source_before = first.source_before;
  source_after = source;
  sink_before = first.sink_before;
  sink_after = sink;
  disk_before = first.disk_before;
  disk_after = disk;
  backups_before = first.backups_before;
  backups_after = backups;
  clock_before = first.clock_before;
  clock_after = clock;
}

-- what a source, a sink or a clock tells of itself
abbrev pub stream : {A : Type 0} → (A → Option (List ℕ)) → (A → ℕ) → A → Stream
stream bytes faults thing = record { bytes = bytes thing; faults = faults thing }

-- a moment at which a run begins
abbrev pub first_met : Stream → Stream → Seen → Seen → Stream → Met
first_met source sink disk backups clock = record {
  source_before = source;
  source_after = source;
  sink_before = sink;
  sink_after = sink;
  disk_before = disk;
  disk_after = disk;
  backups_before = backups;
  backups_after = backups;
  clock_before = clock;
  clock_after = clock;
}

-- a run by what it met of each, before and after
abbrev pub met : Stream → Stream → Stream → Stream → Seen → Seen → Seen → Seen → Stream → Stream → Met
met source source' sink sink' disk disk' backups backups' clock clock' = record {
  source_before = source;
  source_after = source';
  sink_before = sink;
  sink_after = sink';
  disk_before = disk;
  disk_after = disk';
  backups_before = backups;
  backups_after = backups';
  clock_before = clock;
  clock_after = clock';
}

-- ---- what a run begins with

-- something stands under the name, where the disk tells
abbrev pub taken_in : Option Story → List ℕ → Bool
taken_in None name = false
taken_in (Some story) name = is_some (stands (names_now (state_of story)) name)

-- the store's folder has this name, and the rest is as the disks and the clock tell it before
abbrev pub start_of : List ℕ → Met → Start
start_of folder m = record {
  home = folder;
  tells = is_some m.disk_before.told && is_some m.backups_before.told;
  taken = taken_in m.disk_before.told;
  times = m.clock_before.bytes;
}

-- the lines, each with its newline
unfoldable pub joined : List (List ℕ) → List ℕ
joined done = flat_map (λ line. line ++ 10 ∷ []) done

-- These lines were read whole and done, and then this part of the next one was read.
pub record Reached (start : Start) (m : Met) (done : List (List ℕ)) (part : List ℕ) (outcome : Outcome) : Type 0 where
  pub read : Consumes m.source_before.bytes m.source_after.bytes (joined done ++ part)
  pub inside : All IsInside done
  pub few : length done ≤ 10000000
  pub output : Output (empty start) done outcome

-- The sink took this text and then the last line, of which it took a first part alone where it failed.
pub record Says (m : Met) (text last : List ℕ) : Type 0 where
  pub front : List ℕ
  pub rest : List ℕ
  pub parts : last ≡ front ++ rest
  pub took : Appends m.sink_before.bytes m.sink_after.bytes (text ++ front)
  pub whole : (rest ≡ []) ⊎ Rose m.sink_before.faults m.sink_after.faults

-- ---- status 0

-- The source was read to its end, and each of its lines is done: the sink took their output, and where the disk tells, the log
-- holds each batch that they had accepted, once and in their order, now and after each crash. The folder's manifest and `CURRENT`
-- are those of a new store. Where both disks tell, the restored folders read as their backups did, and the backups are held.
pub record Finished (folder : List ℕ) (m : Met) : Type 0 where
  pub bytes : List ℕ
  pub read : Consumes m.source_before.bytes m.source_after.bytes bytes
  pub at_end : IsAtEnd m.source_after.bytes
  pub few : length (lines bytes) ≤ 10000000
  pub outcome : Outcome
  pub output : Output (empty (start_of folder m)) (lines bytes) outcome
  pub written : Appends m.sink_before.bytes m.sink_after.bytes outcome.text
  pub log : (story : Story) → m.disk_before.told ≡ Some story → Keeps m.disk_after.told (log_path folder) (log_of outcome.accepted)
  pub files : (story : Story) → m.disk_before.told ≡ Some story → KeepsManifestAndCurrent m.disk_after.told folder
  pub folders : IsTrue (start_of folder m).tells → RestoredRead m.disk_after.told outcome.after
  pub backups : IsTrue (start_of folder m).tells → BackupsHeld m.backups_before.told m.backups_after.told outcome.after

-- ---- status 2

-- this part of the input is this line, with its newline or ended by the input's end
abbrev pub EndsLine : List ℕ → List ℕ → Option (List ℕ) → Type 0
EndsLine part line left = (part ≡ line ++ 10 ∷ []) ⊎ ((part ≡ line) × IsAtEnd left)

-- a whole line that is not in the grammar behind lines that named these actors
pub record IsUnknown (actors : List (List ℕ)) (part : List ℕ) (left : Option (List ℕ)) : Type 0 where
  pub line : List ℕ
  pub ends : EndsLine part line left
  pub inside : IsInside line
  pub unknown : line_at actors line ≡ None

-- a line that goes on behind 8,388,608 bytes
pub record IsLong (part : List ℕ) : Type 0 where
  pub inside : IsInside part
  pub long : length part ≡ 8388609

-- a line behind the 10,000,000th
pub record IsExtra (done : List (List ℕ)) (part : List ℕ) : Type 0 where
  pub full : length done ≡ 10000000
  pub some : 0 < length part

abbrev pub IsBad : List (List ℕ) → List (List ℕ) → List ℕ → Option (List ℕ) → Type 0
IsBad actors done part left = IsUnknown actors part left ⊎ (IsLong part ⊎ IsExtra done part)

-- The run stopped at the first line that is not in the grammar: those before it are done, the last line names it, and where
-- the disk tells, the log holds each batch that they had accepted, once and in their order, beside the manifest and `CURRENT` of a
-- new store, and so on.
pub record StoppedAt (folder : List ℕ) (m : Met) : Type 0 where
  pub done : List (List ℕ)
  pub part : List ℕ
  pub outcome : Outcome
  pub reached : Reached (start_of folder m) m done part outcome
  pub bad : IsBad outcome.after.actors done part m.source_after.bytes
  pub says : Says m outcome.text (bad_line (length done + 1))
  pub log : (story : Story) → m.disk_before.told ≡ Some story
      → Logs m.disk_after.told (log_path folder) outcome.accepted outcome.after.durable
  pub files : (story : Story) → m.disk_before.told ≡ Some story → KeepsManifestAndCurrent m.disk_after.told folder
  pub folders : IsTrue (start_of folder m).tells → RestoredRead m.disk_after.told outcome.after
  pub backups : IsTrue (start_of folder m).tells → BackupsHeld m.backups_before.told m.backups_after.told outcome.after

-- ---- statuses 3 to 7

-- The source failed: the whole lines of what was read are done, and the log holds the batches that they had accepted.
pub record ReadFailed (folder : List ℕ) (m : Met) : Type 0 where
  pub rose : Rose m.source_before.faults m.source_after.faults
  pub done : List (List ℕ)
  pub part : List ℕ
  pub outcome : Outcome
  pub reached : Reached (start_of folder m) m done part outcome
  pub inside : IsInside part
  pub says : Says m outcome.text (with_newline (codes "read fault"))
  pub log : (story : Story) → m.disk_before.told ≡ Some story
      → Logs m.disk_after.told (log_path folder) outcome.accepted outcome.after.durable
  pub files : (story : Story) → m.disk_before.told ≡ Some story → KeepsManifestAndCurrent m.disk_after.told folder
  pub folders : IsTrue (start_of folder m).tells → RestoredRead m.disk_after.told outcome.after
  pub backups : IsTrue (start_of folder m).tells → BackupsHeld m.backups_before.told m.backups_after.told outcome.after

-- The sink failed at the text of a line: the lines before it and the line itself are done, the sink took the text of those and
-- a first part of the line's, and the log holds the batches that they had accepted.
pub record WriteFailed (folder : List ℕ) (m : Met) : Type 0 where
  pub rose : Rose m.sink_before.faults m.sink_after.faults
  pub done : List (List ℕ)
  pub part : List ℕ
  pub outcome : Outcome
  pub reached : Reached (start_of folder m) m done part outcome
  pub line : List ℕ
  pub ends : EndsLine part line m.source_after.bytes
  pub next : Outcome
  pub does : Does outcome.after line next
  pub front : List ℕ
  pub rest : List ℕ
  pub parts : next.text ≡ front ++ rest
  pub took : Appends m.sink_before.bytes m.sink_after.bytes (outcome.text ++ front)
  pub log : (story : Story) → m.disk_before.told ≡ Some story
      → Logs m.disk_after.told (log_path folder) (outcome.accepted ++ next.accepted) next.after.durable
  pub files : (story : Story) → m.disk_before.told ≡ Some story → KeepsManifestAndCurrent m.disk_after.told folder
  pub folders : IsTrue (start_of folder m).tells → RestoredRead m.disk_after.told next.after
  pub backups : IsTrue (start_of folder m).tells → BackupsHeld m.backups_before.told m.backups_after.told next.after

-- the name of the folder is taken: nothing was read or changed, and the last line says so
pub record IsFound (folder : List ℕ) (m : Met) : Type 0 where
  pub unread : m.source_after ≡ m.source_before
  pub unchanged : m.disk_after.told ≡ m.disk_before.told
  pub untouched : m.backups_after ≡ m.backups_before
  pub says : Says m [] (with_newline (codes "refused Found " ++ folder))

-- the disk tells, and something stands under the folder's name
pub record IsTaken (folder : List ℕ) (seen : Seen) : Type 0 where
  pub story : Story
  pub tells : seen.told ≡ Some story
  pub stands_there : IsSome (stands (names_now (state_of story)) folder)

-- a command of backups
abbrev pub IsOfBackups : Command → Type 0
IsOfBackups CreateBackup = Unit {0}
IsOfBackups ListBackups = Unit {0}
IsOfBackups (RestoreBackup id name) = Unit {0}
IsOfBackups command = ⊥

-- The line asks for this command, and was read behind lines that are done.
pub record IsAsked (start : Start) (m : Met) (outcome : Outcome) (command : Command) : Type 0 where
  pub done : List (List ℕ)
  pub part : List ℕ
  pub reached : Reached start m done part outcome
  pub line : List ℕ
  pub ends : EndsLine part line m.source_after.bytes
  pub actor : List ℕ
  pub asks : line_at outcome.after.actors line ≡ Some (Ask actor command)

-- the same of a restore
pub record IsAskedRestore (start : Start) (m : Met) (outcome : Outcome) : Type 0 where
  pub id : ℕ
  pub name : List ℕ
  pub asked : IsAsked start m outcome (RestoreBackup id name)

-- the last line says what is in the way of the backups: a folder of metas, or a file of the name of one of the three folders
abbrev pub SaysWay : Met → List ℕ → EngineError → Type 0
SaysWay m text (engine.Found path) = Says m text (with_newline (codes "refused Found " ++ path))
SaysWay m text (engine.StrangeFolder path) = Says m text (with_newline (codes "refused StrangeFolder " ++ path))
SaysWay m text other = ⊥

-- Something was in the way at the first command of backups: nothing was changed on their disk, the lines before are done, and
-- the log holds the batches that they had accepted.
pub record IsBlocked (folder : List ℕ) (m : Met) : Type 0 where
  pub why : EngineError
  pub is : (story : Story) → m.backups_before.told ≡ Some story → no_opening (state_of story) ≡ Some why
  pub unchanged : m.backups_after.told ≡ m.backups_before.told
  pub outcome : Outcome
  pub command : Command
  pub asked : IsAsked (start_of folder m) m outcome command
  pub of_backups : IsOfBackups command
  pub says : SaysWay m outcome.text why
  pub log : (story : Story) → m.disk_before.told ≡ Some story
      → Logs m.disk_after.told (log_path folder) outcome.accepted outcome.after.durable
  pub files : (story : Story) → m.disk_before.told ≡ Some story → KeepsManifestAndCurrent m.disk_after.told folder

-- A restore was asked for, behind lines that are done, and one of the two disks refused a call of it.
pub record IsRefusedRestore (folder : List ℕ) (m : Met) : Type 0 where
  pub outcome : Outcome
  pub asked : IsAskedRestore (start_of folder m) m outcome
  pub rose : Rose m.disk_before.refusals m.disk_after.refusals ⊎ Rose m.backups_before.refusals m.backups_after.refusals

-- Refused: the folder's name is taken, or something is in the way of the backups, or a disk refused a name that it should have.
-- The store's disk, where it tells, does that in a restore alone.
pub record RefusedBy (folder : List ℕ) (m : Met) : Type 0 where
  pub cause : IsFound folder m ⊎ (IsBlocked folder m ⊎ (Rose m.disk_before.refusals m.disk_after.refusals
      ⊎ Rose m.backups_before.refusals m.backups_after.refusals))
  pub told : (story : Story) → m.disk_before.told ≡ Some story
      → (IsFound folder m × IsTaken folder m.disk_before) ⊎ (IsBlocked folder m
      ⊎ (Rose m.backups_before.refusals m.backups_after.refusals ⊎ IsRefusedRestore folder m))

-- The clock failed at a `backup create`: the lines before it are done, and the log holds the batches that they had accepted.
pub record ClockFailed (folder : List ℕ) (m : Met) : Type 0 where
  pub rose : Rose m.clock_before.faults m.clock_after.faults
  pub outcome : Outcome
  pub asked : IsAsked (start_of folder m) m outcome CreateBackup
  pub says : Says m outcome.text (with_newline (codes "clock fault"))
  pub log : (story : Story) → m.disk_before.told ≡ Some story
      → Logs m.disk_after.told (log_path folder) outcome.accepted outcome.after.durable
  pub files : (story : Story) → m.disk_before.told ≡ Some story → KeepsManifestAndCurrent m.disk_after.told folder
  pub folders : IsTrue (start_of folder m).tells → RestoredRead m.disk_after.told outcome.after
  pub backups : IsTrue (start_of folder m).tells → BackupsHeld m.backups_before.told m.backups_after.told outcome.after

-- ---- all of them

-- the counts never fall
pub record CountsStay (m : Met) : Type 0 where
  pub source : m.source_before.faults ≤ m.source_after.faults
  pub sink : m.sink_before.faults ≤ m.sink_after.faults
  pub faults : m.disk_before.faults ≤ m.disk_after.faults
  pub refusals : m.disk_before.refusals ≤ m.disk_after.refusals
  pub backup_faults : m.backups_before.faults ≤ m.backups_after.faults
  pub backup_refusals : m.backups_before.refusals ≤ m.backups_after.refusals
  pub clock : m.clock_before.faults ≤ m.clock_after.faults

-- the statuses that need no fault
abbrev pub is_faultless : ℕ → Bool
is_faultless status = status == 0 || (status == 2 || (status == 6 || status == 8))

-- What each status says.
pub record IsRun (folder : List ℕ) (m : Met) (status : ℕ) : Type 0 where
  pub finished : status ≡ 0 → Finished folder m
  pub bad_line : status ≡ 2 → StoppedAt folder m
  pub read : status ≡ 3 → ReadFailed folder m
  pub write : status ≡ 4 → WriteFailed folder m
  pub disk : status ≡ 5 → Rose m.disk_before.faults m.disk_after.faults ⊎ Rose m.backups_before.faults m.backups_after.faults
  pub refused : status ≡ 6 → RefusedBy folder m
  pub clock : status ≡ 7 → ClockFailed folder m
  -- where the name is taken, it is refused, but for a fault or want of memory
  pub taken : IsTaken folder m.disk_before → (status ≡ 6) ⊎ ((status ≡ 5) ⊎ (status ≡ 8))
  pub complete : IsTrue (is_faultless status) ⊎ ((status ≡ 3) ⊎ ((status ≡ 4) ⊎ ((status ≡ 5) ⊎ (status ≡ 7))))
  pub counts : CountsStay m
