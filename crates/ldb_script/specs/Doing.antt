-- How a run goes on, line by line, and how it ends.
use Rattle.std.specs.Prelude.{◌≡◌, ℕ, ◌+◌, ◌≤◌, ◌⊎◌, List, [], ◌∷◌, ◌++◌, length, Option, Some, None, Result, Ok, Err, codes}
use Rattle.std.specs.Io.KnownBytes.{Appends, Consumes, IsAtEnd, Keeps}
use Rattle.lsm_io.specs.Causes.{Rose}
use Rattle.lsm_disk.specs.State.{Story, state_of}
use Rattle.ldb_script.specs.Script.{lines}
use Rattle.ldb_script.specs.Input.{IsInside}
use Rattle.ldb_script.specs.Plain.{Outcome, Output, Does, Answers, empty, line_at, named, both, first_refusal}
use Rattle.ldb_script.specs.declared.line.Line.TheVariants.{Ask}
use Rattle.ldb_script.specs.Printed.{with_newline, bad_line}
use Rattle.ldb_script.specs.Stored.{Shown, Stands}
use Rattle.ldb_script.specs.Tools.{Tools, Origin, AreAt}
use Rattle.ldb_script.specs.Run.{Stream, Met, Reached, EndsLine, IsBad, IsOfBackups, IsAsked, IsAskedRestore, CountsStay}
use Rattle.ldb_script.specs.declared.line.Command.{Command}
use Rattle.ldb_script.specs.declared.line.Command.TheVariants.{CreateBackup, RestoreBackup}
use Rattle.ldb_script.specs.Opening.{made_durable}
use Rattle.ldb_script.specs.declared.store.StoreError.{StoreError}
use Rattle.ldb_script.specs.declared.store.StoreError.TheVariants as store_errors
use Rattle.lsm_rows.specs.declared.operations.Op.{Op}
use Rattle.lsm_rows.specs.declared.refusals.BatchRefusal.{BatchRefusal}
use Rattle.lsm_rows.specs.declared.refusals.BatchRefusal.TheVariants as refusals
use Rattle.ldb_script.specs.declared.opening.OpenError.{OpenError}
use Rattle.ldb_script.specs.declared.opening.OpenError.TheVariants as open_errors
use Rattle.bk_engine.specs.Opening.{no_opening}
use Rattle.bk_engine.specs.declared.errors.EngineError.{EngineError}
use Rattle.bk_engine.specs.declared.errors.EngineError.TheVariants as engine
use Rattle.lsm_bytes.specs.declared.no_memory.NoMemory.{NoMemory as Lacking}
use Rattle.ldb_script.specs.declared.ending.Ended.{Ended}
use Rattle.ldb_script.specs.declared.ending.Ended.TheVariants.{Finished, BadLine, ReadFault, WriteFault, DiskFault, BackupFault, ClockFault, Found, InTheWay, Changed, BackupChanged, RestoreChanged, NoMemory}

-- the same outcome, where an actor was named
abbrev pub with_named : Outcome → List ℕ → Outcome
with_named outcome actor = record { text = outcome.text; accepted = outcome.accepted; after = named outcome.after actor }

-- ---- one line

-- The answer to a command of the store alone is made, and the store stands behind it.
pub record StoreAnswers (start : Option Story) (shown : Shown) (outcome : Outcome) (command : Command) (text : List ℕ) : Type 0 where
  pub next : Outcome
  pub answers : Answers outcome.after command next
  pub is_text : text ≡ next.text
  pub stands : Stands start shown (both outcome next)

-- what a command of the store alone ends a run with
abbrev pub StoreBreaks : Option Story → Shown → Shown → Ended → Type 0
StoreBreaks start old new DiskFault = Rose old.disk.faults new.disk.faults
StoreBreaks start old new (Changed call path) = Rose old.disk.refusals new.disk.refusals × (start ≡ None)
StoreBreaks start old new NoMemory = Unit {0}
StoreBreaks start old new Finished = ⊥
StoreBreaks start old new (BadLine number) = ⊥
StoreBreaks start old new ReadFault = ⊥
StoreBreaks start old new WriteFault = ⊥
StoreBreaks start old new Found = ⊥
StoreBreaks start old new BackupFault = ⊥
StoreBreaks start old new ClockFault = ⊥
StoreBreaks start old new (InTheWay why) = ⊥
StoreBreaks start old new (BackupChanged call path) = ⊥
StoreBreaks start old new (RestoreChanged call path) = ⊥

abbrev pub StoreAnsweredOr : Option Story → Shown → Shown → Outcome → Command → Result (List ℕ) Ended → Type 0
StoreAnsweredOr start old new outcome command (Ok text) = StoreAnswers start new outcome command text
StoreAnsweredOr start old new outcome command (Err ended) = StoreBreaks start old new ended

-- The answer to a command is made, and all stands behind it.
pub record IsAnswered (origin : Origin) (tools : Tools) (outcome : Outcome) (command : Command) (text : List ℕ) : Type 0 where
  pub next : Outcome
  pub answers : Answers outcome.after command next
  pub is_text : text ≡ next.text
  pub stands : AreAt origin tools (both outcome next)

-- The clock failed at a creation, and all else stands.
pub record IsUnclocked (origin : Origin) (old new : Tools) (outcome : Outcome) (command : Command) : Type 0 where
  pub rose : Rose old.clock.faults new.clock.faults
  pub is : command ≡ CreateBackup
  pub stands : AreAt origin new outcome

-- a refusal of the engine's opening that says what is in the way
abbrev pub IsWay : EngineError → Type 0
IsWay (engine.Found path) = Unit {0}
IsWay (engine.StrangeFolder path) = Unit {0}
IsWay other = ⊥

-- Something is in the way of the backups, and the store stands as before.
pub record IsBarred (origin : Origin) (new : Tools) (outcome : Outcome) (command : Command) (why : EngineError) : Type 0 where
  pub of_backups : IsOfBackups command
  pub way : IsWay why
  pub is : (story : Story) → origin.backups ≡ Some story → no_opening (state_of story) ≡ Some why
  pub unchanged : new.backups.disk.told ≡ origin.backups
  pub stands : Stands origin.store new.store outcome

-- a restore of a backup into a new folder
abbrev pub IsOfRestore : Command → Type 0
IsOfRestore (RestoreBackup id name) = Unit {0}
IsOfRestore command = ⊥

-- any other command
abbrev pub IsNoRestore : Command → Type 0
IsNoRestore (RestoreBackup id name) = ⊥
IsNoRestore command = Unit {0}

-- what a line's command ends a run with
abbrev pub Breaks : Origin → Tools → Tools → Outcome → Command → Ended → Type 0
Breaks origin old new outcome command DiskFault = Rose old.store.disk.faults new.store.disk.faults
Breaks origin old new outcome command BackupFault = Rose old.backups.disk.faults new.backups.disk.faults
Breaks origin old new outcome command ClockFault = IsUnclocked origin old new outcome command
Breaks origin old new outcome command (InTheWay why) = IsBarred origin new outcome command why
Breaks origin old new outcome command (Changed call path) = Rose old.store.disk.refusals new.store.disk.refusals × (origin.store ≡ None)
Breaks origin old new outcome command (BackupChanged call path) = Rose old.backups.disk.refusals new.backups.disk.refusals
Breaks origin old new outcome command (RestoreChanged call path) =
    IsOfRestore command × (Rose old.store.disk.refusals new.store.disk.refusals ⊎ Rose old.backups.disk.refusals new.backups.disk.refusals)
Breaks origin old new outcome command NoMemory = Unit {0}
Breaks origin old new outcome command Finished = ⊥
Breaks origin old new outcome command (BadLine number) = ⊥
Breaks origin old new outcome command ReadFault = ⊥
Breaks origin old new outcome command WriteFault = ⊥
Breaks origin old new outcome command Found = ⊥

abbrev pub AnsweredOr : Origin → Tools → Tools → Outcome → Command → Result (List ℕ) Ended → Type 0
AnsweredOr origin old new outcome command (Ok text) = IsAnswered origin new outcome command text
AnsweredOr origin old new outcome command (Err ended) = Breaks origin old new outcome command ended

-- an answer's text, or want of memory
abbrev pub MadeOr : Result (List ℕ) Lacking → Result (List ℕ) Ended → Type 0
MadeOr (Ok text) result = result ≡ Ok text
MadeOr (Err none) result = result ≡ Err NoMemory

-- how a run ends whose store the disk refused
abbrev pub broken_end : StoreError → Ended
broken_end store_errors.DiskFault = DiskFault
broken_end (store_errors.Changed call path) = Changed call path
broken_end store_errors.NoMemory = NoMemory

-- a batch of these operations, or what the limits refuse of the first one that they refuse
abbrev pub BuildsOr : List Op → Result (List Op) BatchRefusal → Type 0
BuildsOr ops (Ok batch) = (batch ≡ ops) × (first_refusal [] ops ≡ None)
BuildsOr ops (Err (refusals.BatchTooLarge what kept limit)) =
    first_refusal [] ops ≡ Some (record { what = what; kept = kept; limit = limit })
BuildsOr ops (Err refusals.NoMemory) = Unit {0}

-- the sink took a text, or a first part of it where it failed
pub record Spoke (before after : Stream) (last : List ℕ) : Type 0 where
  pub front : List ℕ
  pub rest : List ℕ
  pub parts : last ≡ front ++ rest
  pub took : Appends before.bytes after.bytes front
  pub whole : (rest ≡ []) ⊎ Rose before.faults after.faults

-- The answer to a command is printed, and the store stands behind it.
pub record IsServed (origin : Origin) (before after : Stream) (tools : Tools) (outcome : Outcome) (command : Command) : Type 0 where
  pub next : Outcome
  pub answers : Answers outcome.after command next
  pub took : Appends before.bytes after.bytes next.text
  pub stands : AreAt origin tools (both outcome next)

-- The command is done, and the sink failed as it was given the answer.
pub record IsUnsaid (origin : Origin) (before after : Stream) (tools : Tools) (outcome : Outcome) (command : Command) : Type 0 where
  pub next : Outcome
  pub answers : Answers outcome.after command next
  pub spoke : Spoke before after next.text
  pub rose : Rose before.faults after.faults
  pub stands : AreAt origin tools (both outcome next)

-- an answer that was not made, and nothing was printed
abbrev pub IsUnserved : Origin → Stream → Stream → Tools → Tools → Outcome → Command → Ended → Type 0
IsUnserved origin before after old new outcome command ended = Breaks origin old new outcome command ended × (after ≡ before)

abbrev pub ServedOr : Origin → Stream → Stream → Tools → Tools → Outcome → Command → Result Unit Ended → Type 0
ServedOr origin before after old new outcome command (Ok done) = IsServed origin before after new outcome command
ServedOr origin before after old new outcome command (Err WriteFault) = IsUnsaid origin before after new outcome command
ServedOr origin before after old new outcome command (Err DiskFault) = IsUnserved origin before after old new outcome command DiskFault
ServedOr origin before after old new outcome command (Err BackupFault) = IsUnserved origin before after old new outcome command BackupFault
ServedOr origin before after old new outcome command (Err ClockFault) = IsUnserved origin before after old new outcome command ClockFault
ServedOr origin before after old new outcome command (Err (InTheWay why)) =
    IsUnserved origin before after old new outcome command (InTheWay why)
ServedOr origin before after old new outcome command (Err (Changed call path)) =
    IsUnserved origin before after old new outcome command (Changed call path)
ServedOr origin before after old new outcome command (Err (BackupChanged call path)) =
    IsUnserved origin before after old new outcome command (BackupChanged call path)
ServedOr origin before after old new outcome command (Err (RestoreChanged call path)) =
    IsUnserved origin before after old new outcome command (RestoreChanged call path)
ServedOr origin before after old new outcome command (Err NoMemory) = Unit {0}
ServedOr origin before after old new outcome command (Err Finished) = ⊥
ServedOr origin before after old new outcome command (Err (BadLine number)) = ⊥
ServedOr origin before after old new outcome command (Err ReadFault) = ⊥
ServedOr origin before after old new outcome command (Err Found) = ⊥

-- The line is done: it is in the grammar, the sink took what it prints, and the store and the actors stand behind it.
pub record IsDone (origin : Origin) (before after : Stream) (tools : Tools) (actors : List (List ℕ)) (outcome : Outcome)
    (line : List ℕ) : Type 0 where
  pub next : Outcome
  pub does : Does outcome.after line next
  pub took : Appends before.bytes after.bytes next.text
  pub stands : AreAt origin tools (both outcome next)
  pub named : actors ≡ next.after.actors

-- The line is done, and the sink failed as it was given what the line prints.
pub record IsCutOff (origin : Origin) (before after : Stream) (tools : Tools) (outcome : Outcome) (line : List ℕ) : Type 0 where
  pub next : Outcome
  pub does : Does outcome.after line next
  pub spoke : Spoke before after next.text
  pub rose : Rose before.faults after.faults
  pub stands : AreAt origin tools (both outcome next)

-- an actor's command ended the run before it was answered
pub record IsStopped (origin : Origin) (before after : Stream) (old new : Tools) (outcome : Outcome) (line : List ℕ)
    (ended : Ended) : Type 0 where
  pub actor : List ℕ
  pub command : Command
  pub asks : line_at outcome.after.actors line ≡ Some (Ask actor command)
  pub breaks : Breaks origin old new (with_named outcome actor) command ended
  pub silent : after ≡ before

-- what a line ends a run with
abbrev pub Stops : Origin → Stream → Stream → Tools → Tools → Outcome → List ℕ → ℕ → Ended → Type 0
Stops origin before after old new outcome line number (BadLine n) =
    (n ≡ number) × (line_at outcome.after.actors line ≡ None) × (after ≡ before) × (new ≡ old)
Stops origin before after old new outcome line number WriteFault = IsCutOff origin before after new outcome line
Stops origin before after old new outcome line number DiskFault = IsStopped origin before after old new outcome line DiskFault
Stops origin before after old new outcome line number BackupFault = IsStopped origin before after old new outcome line BackupFault
Stops origin before after old new outcome line number ClockFault = IsStopped origin before after old new outcome line ClockFault
Stops origin before after old new outcome line number (InTheWay why) = IsStopped origin before after old new outcome line (InTheWay why)
Stops origin before after old new outcome line number (Changed call path) =
    IsStopped origin before after old new outcome line (Changed call path)
Stops origin before after old new outcome line number (BackupChanged call path) =
    IsStopped origin before after old new outcome line (BackupChanged call path)
Stops origin before after old new outcome line number (RestoreChanged call path) =
    IsStopped origin before after old new outcome line (RestoreChanged call path)
Stops origin before after old new outcome line number NoMemory = Unit {0}
Stops origin before after old new outcome line number Finished = ⊥
Stops origin before after old new outcome line number ReadFault = ⊥
Stops origin before after old new outcome line number Found = ⊥

abbrev pub DoneOr : Origin → Stream → Stream → Tools → Tools → List (List ℕ) → Outcome → List ℕ → ℕ → Result Unit Ended → Type 0
DoneOr origin before after old new actors outcome line number (Ok done) = IsDone origin before after new actors outcome line
DoneOr origin before after old new actors outcome line number (Err ended) = Stops origin before after old new outcome line number ended

-- a last sync, at the end of a run: each batch is durable, or the disk refused it
abbrev pub LastOr : Option Story → Shown → Shown → Outcome → Ended → Type 0
LastOr start old new outcome Finished = Stands start new (made_durable outcome)
LastOr start old new outcome ended = StoreBreaks start old new ended

-- ---- the run

-- These lines were read and done, and the next one begins behind them.
pub record Underway (origin : Origin) (met : Met) (tools : Tools) (actors : List (List ℕ)) (done : List (List ℕ))
    (outcome : Outcome) : Type 0 where
  pub reached : Reached origin.start met done [] outcome
  pub written : Appends met.sink_before.bytes met.sink_after.bytes outcome.text
  pub stands : AreAt origin tools outcome
  pub named : actors ≡ outcome.after.actors
  pub counts : CountsStay met
  pub disk : tools.store.disk ≡ met.disk_after
  pub backups : tools.backups.disk ≡ met.backups_after
  pub clock : tools.clock ≡ met.clock_after

-- All lines were read and done.
pub record IsOver (origin : Origin) (met : Met) (tools : Tools) : Type 0 where
  pub bytes : List ℕ
  pub read : Consumes met.source_before.bytes met.source_after.bytes bytes
  pub at_end : IsAtEnd met.source_after.bytes
  pub few : length (lines bytes) ≤ 10000000
  pub outcome : Outcome
  pub output : Output (empty origin.start) (lines bytes) outcome
  pub written : Appends met.sink_before.bytes met.sink_after.bytes outcome.text
  pub stands : AreAt origin tools outcome

-- The run stands before its last line, which is to name a line outside the grammar.
pub record IsAtBad (origin : Origin) (met : Met) (tools : Tools) (number : ℕ) : Type 0 where
  pub done : List (List ℕ)
  pub part : List ℕ
  pub outcome : Outcome
  pub reached : Reached origin.start met done part outcome
  pub bad : IsBad outcome.after.actors done part met.source_after.bytes
  pub is_number : number ≡ length done + 1
  pub written : Appends met.sink_before.bytes met.sink_after.bytes outcome.text
  pub stands : AreAt origin tools outcome

-- The source failed behind these lines and a part of the next one.
pub record IsAtFault (origin : Origin) (met : Met) (tools : Tools) : Type 0 where
  pub rose : Rose met.source_before.faults met.source_after.faults
  pub done : List (List ℕ)
  pub part : List ℕ
  pub outcome : Outcome
  pub reached : Reached origin.start met done part outcome
  pub inside : IsInside part
  pub written : Appends met.sink_before.bytes met.sink_after.bytes outcome.text
  pub stands : AreAt origin tools outcome

-- The sink failed at the text of a line that was done.
pub record IsAtWrite (origin : Origin) (met : Met) (tools : Tools) : Type 0 where
  pub done : List (List ℕ)
  pub line : List ℕ
  pub part : List ℕ
  pub outcome : Outcome
  pub reached : Reached origin.start met done part outcome
  pub ends : EndsLine part line met.source_after.bytes
  pub next : Outcome
  pub does : Does outcome.after line next
  pub front : List ℕ
  pub rest : List ℕ
  pub parts : next.text ≡ front ++ rest
  pub took : Appends met.sink_before.bytes met.sink_after.bytes (outcome.text ++ front)
  pub rose : Rose met.sink_before.faults met.sink_after.faults
  pub stands : AreAt origin tools (both outcome next)

-- The clock failed at a creation, behind lines that are done.
pub record IsAtClock (origin : Origin) (met : Met) (tools : Tools) : Type 0 where
  pub rose : Rose met.clock_before.faults met.clock_after.faults
  pub outcome : Outcome
  pub asked : IsAsked origin.start met outcome CreateBackup
  pub written : Appends met.sink_before.bytes met.sink_after.bytes outcome.text
  pub stands : AreAt origin tools outcome

-- Something is in the way of the backups, behind lines that are done.
pub record IsAtWay (origin : Origin) (met : Met) (tools : Tools) (why : EngineError) : Type 0 where
  pub outcome : Outcome
  pub command : Command
  pub asked : IsAsked origin.start met outcome command
  pub of_backups : IsOfBackups command
  pub way : IsWay why
  pub is : (story : Story) → origin.backups ≡ Some story → no_opening (state_of story) ≡ Some why
  pub unchanged : met.backups_after.told ≡ origin.backups
  pub written : Appends met.sink_before.bytes met.sink_after.bytes outcome.text
  pub stands : Stands origin.store tools.store outcome

-- A restore was asked for, and one of the two disks refused a call of it.
pub record IsAtRestore (origin : Origin) (met : Met) : Type 0 where
  pub outcome : Outcome
  pub asked : IsAskedRestore origin.start met outcome
  pub rose : Rose met.disk_before.refusals met.disk_after.refusals ⊎ Rose met.backups_before.refusals met.backups_after.refusals

-- All lines were read and done, and each batch is durable.
pub record IsClosed (origin : Origin) (met : Met) (tools : Tools) : Type 0 where
  pub bytes : List ℕ
  pub read : Consumes met.source_before.bytes met.source_after.bytes bytes
  pub at_end : IsAtEnd met.source_after.bytes
  pub few : length (lines bytes) ≤ 10000000
  pub outcome : Outcome
  pub output : Output (empty origin.start) (lines bytes) outcome
  pub written : Appends met.sink_before.bytes met.sink_after.bytes outcome.text
  pub stands : AreAt origin tools (made_durable outcome)

-- how a run over an opened store ended, before its last line
abbrev pub Ran : Origin → Met → Tools → Ended → Type 0
Ran origin met tools Finished = IsOver origin met tools
Ran origin met tools (BadLine number) = IsAtBad origin met tools number
Ran origin met tools ReadFault = IsAtFault origin met tools
Ran origin met tools WriteFault = IsAtWrite origin met tools
Ran origin met tools DiskFault = Rose met.disk_before.faults met.disk_after.faults
Ran origin met tools BackupFault = Rose met.backups_before.faults met.backups_after.faults
Ran origin met tools ClockFault = IsAtClock origin met tools
Ran origin met tools (InTheWay why) = IsAtWay origin met tools why
Ran origin met tools (Changed call path) = Rose met.disk_before.refusals met.disk_after.refusals × (origin.store ≡ None)
Ran origin met tools (BackupChanged call path) = Rose met.backups_before.refusals met.backups_after.refusals
Ran origin met tools (RestoreChanged call path) = IsAtRestore origin met
Ran origin met tools NoMemory = Unit {0}
Ran origin met tools Found = ⊥

-- the same of a run whose store was closed
abbrev pub Closed : Origin → Met → Tools → Ended → Type 0
Closed origin met tools Finished = IsClosed origin met tools
Closed origin met tools (BadLine number) = IsAtBad origin met tools number
Closed origin met tools ReadFault = IsAtFault origin met tools
Closed origin met tools WriteFault = IsAtWrite origin met tools
Closed origin met tools DiskFault = Rose met.disk_before.faults met.disk_after.faults
Closed origin met tools BackupFault = Rose met.backups_before.faults met.backups_after.faults
Closed origin met tools ClockFault = IsAtClock origin met tools
Closed origin met tools (InTheWay why) = IsAtWay origin met tools why
Closed origin met tools (Changed call path) = Rose met.disk_before.refusals met.disk_after.refusals × (origin.store ≡ None)
Closed origin met tools (BackupChanged call path) = Rose met.backups_before.refusals met.backups_after.refusals
Closed origin met tools (RestoreChanged call path) = IsAtRestore origin met
Closed origin met tools NoMemory = Unit {0}
Closed origin met tools Found = ⊥

-- one more line is done, or the run ends
abbrev pub TurnedOr : Origin → Met → Tools → List (List ℕ) → List (List ℕ) → Result Unit Ended → Type 0
TurnedOr origin met tools actors before (Ok done) = (line : List ℕ) × (outcome : Outcome)
    × Underway origin met tools actors (before ++ line ∷ []) outcome
TurnedOr origin met tools actors before (Err ended) = Ran origin met tools ended

-- how a run ends that opened no store
abbrev pub unopened_end : OpenError → Ended
unopened_end open_errors.DiskFault = DiskFault
unopened_end open_errors.Found = Found
unopened_end (open_errors.Changed call path) = Changed call path
unopened_end open_errors.NoMemory = NoMemory

-- ---- the last line

-- the sink took the line of what is in the way
abbrev pub SpokeWay : Stream → Stream → EngineError → Type 0
SpokeWay before after (engine.Found path) = Spoke before after (with_newline (codes "refused Found " ++ path))
SpokeWay before after (engine.StrangeFolder path) = Spoke before after (with_newline (codes "refused StrangeFolder " ++ path))
SpokeWay before after other = Unit {0}

-- the status of an ending, with the last line that the sink took; want of memory may come in place of a line that is made
abbrev pub EndsWith : List ℕ → Stream → Stream → Ended → ℕ → Type 0
EndsWith folder before after Finished status = (status ≡ 0) × (after ≡ before)
EndsWith folder before after (BadLine number) status = ((status ≡ 2) × Spoke before after (bad_line number)) ⊎ (status ≡ 8)
EndsWith folder before after ReadFault status = (status ≡ 3) × Spoke before after (with_newline (codes "read fault"))
EndsWith folder before after WriteFault status = (status ≡ 4) × (after ≡ before)
EndsWith folder before after DiskFault status = (status ≡ 5) × Spoke before after (with_newline (codes "fault store"))
EndsWith folder before after BackupFault status = (status ≡ 5) × Spoke before after (with_newline (codes "fault backup"))
EndsWith folder before after ClockFault status = (status ≡ 7) × Spoke before after (with_newline (codes "clock fault"))
EndsWith folder before after (InTheWay why) status = ((status ≡ 6) × SpokeWay before after why) ⊎ (status ≡ 8)
EndsWith folder before after Found status = ((status ≡ 6) × Spoke before after
    (with_newline (codes "refused Found " ++ folder))) ⊎ (status ≡ 8)
EndsWith folder before after (Changed call path) status = (status ≡ 6) ⊎ (status ≡ 8)
EndsWith folder before after (BackupChanged call path) status = (status ≡ 6) ⊎ (status ≡ 8)
EndsWith folder before after (RestoreChanged call path) status = (status ≡ 6) ⊎ (status ≡ 8)
EndsWith folder before after NoMemory status = status ≡ 8

-- a line that was made is said with its status, and else it is want of memory
abbrev pub SpokeOr : Stream → Stream → Result (List ℕ) Lacking → ℕ → ℕ → Type 0
SpokeOr before after (Ok text) status said = (said ≡ status) × Spoke before after text
SpokeOr before after (Err none) status said = said ≡ 8

-- what stands behind the last line that a script may have
abbrev pub BehindIs : Option (List ℕ) → Option (List ℕ) → Ended → Type 0
BehindIs old new Finished = Consumes old new [] × IsAtEnd new
BehindIs old new (BadLine number) = (number ≡ 10000001) × ((b : ℕ) × Consumes old new (b ∷ []))
BehindIs old new ReadFault = Keeps old new
BehindIs old new WriteFault = ⊥
BehindIs old new DiskFault = ⊥
BehindIs old new BackupFault = ⊥
BehindIs old new ClockFault = ⊥
BehindIs old new Found = ⊥
BehindIs old new (InTheWay why) = ⊥
BehindIs old new (BackupChanged call path) = ⊥
BehindIs old new (RestoreChanged call path) = ⊥
BehindIs old new (Changed call path) = ⊥
BehindIs old new NoMemory = ⊥
