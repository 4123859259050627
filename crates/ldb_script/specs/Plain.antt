-- A plain state, and what each line prints and leaves: maps, lists and numbers, and no files.
use Rattle.std.specs.Prelude.{◌≡◌, ℕ, ◌+◌, Bool, ◌||◌, ◌==◌, List, [], ◌∷◌, ◌++◌, length, Option, Some, None, if◌then◌else◌, nat_lt, nat_le}
use Rattle.std.specs.List.{list_any}
use Rattle.std.specs.Str.{bytes_eq}
use Rattle.std.specs.FinMap as map
use Rattle.lsm_rows.specs.Replay.{Contents, replayed}
use Rattle.lsm_rows.specs.Limits.{Refused, refusal_of}
use Rattle.lsm_rows.specs.declared.operations.Op.{Op}
use Rattle.ldb_script.specs.Script.{line_of}
use Rattle.lsm_io.specs.Draws.{Draws}
use Rattle.lsm_folder.specs.Reading.{Shown}
use Rattle.ldb_script.specs.Printed.{sequence_line, value_line, scan_text, state_line, ok_line, too_large_line, Backup, backup_line, list_text, ids_full_line, no_backup_line, restored_line, exists_line, folder_text, no_folder_line}
use Rattle.ldb_script.specs.declared.line.Line.{Line}
use Rattle.ldb_script.specs.declared.line.Line.TheVariants.{Blank, Ask}
use Rattle.ldb_script.specs.declared.line.Command.{Command}
use Rattle.ldb_script.specs.declared.line.Command.TheVariants.{Write, Sync, Get, Scan, State, ShowFolder, CreateBackup, ListBackups, RestoreBackup}

-- What a run begins with: the name of the store's folder, whether both disks tell what they hold, which names are taken on
-- the store's disk, and the times that the clock has to tell, where it tells them.
pub record Start : Type 0 where
  pub home : List ℕ
  pub tells : Bool
  pub taken : List ℕ → Bool
  pub times : Option (List ℕ)

-- a restored folder, and what it reads as
pub record Restored : Type 0 where
  pub name : List ℕ
  pub shown : Shown

-- the pairs and the last sequence; how many batches were accepted, and how many of them, the first ones, outlive each crash;
-- the actors that lines have named, the first first; what the run began with, and the times that are left; the backups by
-- their identifiers, and the greatest identifier that was given; and the restored folders, the last first
pub record Plain : Type 0 where
  pub contents : Contents
  pub sequence : ℕ
  pub batches : ℕ
  pub durable : ℕ
  pub actors : List (List ℕ)
  pub start : Start
  pub times : Option (List ℕ)
  pub backups : List Backup
  pub given : ℕ
  pub restored : List Restored

-- nothing was written, and nobody named
abbrev pub empty : Start → Plain
empty start = record {
  contents = map.empty;
  sequence = 0;
  batches = 0;
  durable = 0;
  actors = [];
  start = start;
  times = start.times;
  backups = [];
  given = 0;
  restored = [];
}

-- ---- the grammar as far as it looks back

-- among these actors
abbrev pub is_known : List (List ℕ) → List ℕ → Bool
is_known actors actor = list_any (bytes_eq actor) actors

-- a script has at most 64 actors
abbrev pub has_place : List (List ℕ) → List ℕ → Bool
has_place actors actor = is_known actors actor || nat_lt (length actors) 64

abbrev pub placed : List (List ℕ) → Option Line → Option Line
placed actors None = None
placed actors (Some Blank) = Some Blank
placed actors (Some (Ask actor command)) = if has_place actors actor then Some (Ask actor command) else None

-- what a line asks for, where it is in the grammar behind lines that named these actors: it has at most 8,388,608 bytes,
-- and names no 65th actor
unfoldable pub line_at : List (List ℕ) → List ℕ → Option Line
line_at actors bytes = if nat_le (length bytes) 8388608 then placed actors (line_of bytes) else None

abbrev pub with_actor : List (List ℕ) → List ℕ → List (List ℕ)
with_actor actors actor = if is_known actors actor then actors else actors ++ actor ∷ []

-- ---- what a line does

-- what it prints, the batches that it had accepted, and what it leaves
pub record Outcome : Type 0 where
  pub text : List ℕ
  pub accepted : List (List Op)
  pub after : Plain

-- it prints, and accepts nothing
abbrev pub told : Plain → List ℕ → Outcome
told plain text = record { text = text; accepted = []; after = plain }

-- the first operation that the batch before it has no room for
abbrev pub or_later : Option Refused → Option Refused → Option Refused
or_later (Some refused) later = Some refused
or_later None later = later

abbrev pub first_refusal : List Op → List Op → Option Refused
first_refusal built [] = None
first_refusal built (op ∷ more) = or_later (refusal_of built op) (first_refusal (built ++ op ∷ []) more)

-- a batch more: its operations are applied in their order, and where it is durable, so is each batch before it
abbrev pub with_batch : Plain → Bool → List Op → Plain
with_batch plain durable batch = record plain {
  contents = replayed plain.contents (batch ∷ []);
  sequence = plain.sequence + length batch;
  batches = plain.batches + 1;
  durable = if durable then plain.batches + 1 else plain.durable;
}

-- each batch so far is durable
abbrev pub all_durable : Plain → Plain
all_durable plain = record plain { durable = plain.batches }

-- a batch is accepted whole, or refused by a limit
abbrev pub written : Plain → Bool → List Op → Option Refused → Outcome
written plain durable batch None = record {
  text = sequence_line (plain.sequence + length batch);
  accepted = batch ∷ [];
  after = with_batch plain durable batch;
}
written plain durable batch (Some refused) = told plain (too_large_line refused)

-- ---- backups and folders

-- what the store holds now, as a folder shows it
abbrev pub shown_now : Plain → Shown
shown_now plain = record { sequence = plain.sequence; contents = plain.contents }

-- what stands under a name of the store's disk: nothing; a folder that reads so; something that was there at the start, of
-- which nothing is known; or, where the disks don't tell, anything
pub data Standing : Type 0 where
  Free : Standing
  Reads : (shown : Shown) → Standing
  Taken : Standing
  Untold : Standing

-- among these restored folders, or else as at the start
abbrev pub standing_among : List Restored → List ℕ → Bool → Standing
standing_among [] name taken = if taken then Taken else Free
standing_among (folder ∷ folders) name taken = if bytes_eq name folder.name then Reads folder.shown else standing_among folders name taken

-- the store's own folder reads as the store does
abbrev pub standing_told : Plain → List ℕ → Standing
standing_told plain name = if bytes_eq name plain.start.home then Reads (shown_now plain)
    else standing_among plain.restored name (plain.start.taken name)

unfoldable pub standing_of : Plain → List ℕ → Standing
standing_of plain name = if plain.start.tells then standing_told plain name else Untold

-- a folder is shown as it reads; of what isn't known any answer may come
abbrev pub Shows : Plain → List ℕ → Standing → Outcome → Type 0
Shows plain name Free outcome = outcome ≡ told plain (no_folder_line name)
Shows plain name (Reads shown) outcome = outcome ≡ told plain (folder_text shown)
Shows plain name Taken outcome = (text : List ℕ) × (outcome ≡ told plain text)
Shows plain name Untold outcome = (text : List ℕ) × (outcome ≡ told plain text)

-- the next backup: of what the store holds now, and of this time
abbrev pub next_backup : Plain → ℕ → Backup
next_backup plain now = record { id = plain.given + 1; timestamp = now; metadata = []; shown = shown_now plain }

abbrev pub backed_up : Plain → ℕ → Option (List ℕ) → Outcome
backed_up plain now left = told (record plain {
  times = left;
  backups = plain.backups ++ next_backup plain now ∷ [];
  given = plain.given + 1;
}) (backup_line (plain.given + 1) plain.sequence)

-- no identifier is left behind 4,294,967,295
abbrev pub created : Plain → ℕ → Option (List ℕ) → Outcome
created plain now left = if plain.given == 4294967295 then told (record plain { times = left }) ids_full_line else backed_up plain now left

-- a backup has the time that the clock tells next
pub record Creates (plain : Plain) (outcome : Outcome) : Type 0 where
  pub now : ℕ
  pub left : Option (List ℕ)
  pub drawn : Draws plain.times left now
  pub is : outcome ≡ created plain now left

-- the backup of an identifier
abbrev pub backup_of : List Backup → ℕ → Option Backup
backup_of [] id = None
backup_of (backup ∷ backups) id = if backup.id == id then Some backup else backup_of backups id

abbrev pub restored : Plain → Backup → List ℕ → Outcome
restored plain backup name = told (record plain { restored = record { name = name; shown = backup.shown } ∷ plain.restored })
    (restored_line backup.id name)

-- a backup is restored where the name is free
abbrev pub RestoresAs : Plain → Backup → List ℕ → Standing → Outcome → Type 0
RestoresAs plain backup name Free outcome = outcome ≡ restored plain backup name
RestoresAs plain backup name (Reads shown) outcome = outcome ≡ told plain (exists_line name)
RestoresAs plain backup name Taken outcome = outcome ≡ told plain (exists_line name)
RestoresAs plain backup name Untold outcome = (text : List ℕ) × (outcome ≡ told plain text)

abbrev pub Restores : Plain → ℕ → List ℕ → Option Backup → Outcome → Type 0
Restores plain id name None outcome = outcome ≡ told plain (no_backup_line id)
Restores plain id name (Some backup) outcome = RestoresAs plain backup name (standing_of plain name) outcome

-- what a command does
abbrev pub Answers : Plain → Command → Outcome → Type 0
Answers plain (Write durable batch) outcome = outcome ≡ written plain durable batch (first_refusal [] batch)
Answers plain Sync outcome = outcome ≡ told (all_durable plain) ok_line
Answers plain (Get key) outcome = outcome ≡ told plain (value_line (map.get plain.contents key))
Answers plain Scan outcome = outcome ≡ told plain (scan_text (map.entries plain.contents))
Answers plain State outcome = outcome ≡ told plain (state_line plain.sequence (length (map.entries plain.contents)))
Answers plain (ShowFolder name) outcome = Shows plain name (standing_of plain name) outcome
Answers plain CreateBackup outcome = Creates plain outcome
Answers plain ListBackups outcome = outcome ≡ told plain (list_text plain.backups)
Answers plain (RestoreBackup id name) outcome = Restores plain id name (backup_of plain.backups id) outcome

-- the state in which an actor's command is done
abbrev pub named : Plain → List ℕ → Plain
named plain actor = record plain { actors = with_actor plain.actors actor }

-- what a line prints and leaves
abbrev pub Prints : Plain → Line → Outcome → Type 0
Prints plain Blank outcome = outcome ≡ told plain []
Prints plain (Ask actor command) outcome = Answers (named plain actor) command outcome

-- a line of these bytes is in the grammar, and this is what it prints and leaves
pub record Does (plain : Plain) (bytes : List ℕ) (outcome : Outcome) : Type 0 where
  pub line : Line
  pub is_line : line_at plain.actors bytes ≡ Some line
  pub prints : Prints plain line outcome

-- one outcome, and then one that begins where it ended
abbrev pub both : Outcome → Outcome → Outcome
both first rest = record { text = first.text ++ rest.text; accepted = first.accepted ++ rest.accepted; after = rest.after }

-- The output of lines, one by one: each is in the grammar where the run reaches it.
unfoldable pub Output : Plain → List (List ℕ) → Outcome → Type 0
Output plain [] outcome = outcome ≡ told plain []
Output plain (bytes ∷ more) outcome = (first : Outcome) × Does plain bytes first × (rest : Outcome)
    × Output first.after more rest × (outcome ≡ both first rest)
