-- What a crash, a closing and an opening make of a state.
use Rattle.std.specs.Prelude.{◌≡◌, ◌⊎◌, ℕ, ◌≤◌, true, List, [], take, length, Some, None, Result}
use Rattle.std.specs.Option.{option_map}
use Rattle.lsm_model.specs.declared.errors.StoreError.{StoreError}
use Rattle.lsm_model.specs.declared.states.State.{State}
use Rattle.lsm_model.specs.declared.states.FolderRead.{FolderRead}
use Rattle.lsm_model.specs.States.{shown_after, written, folder_of}
use Rattle.lsm_model.specs.Halting.{sync_calls}
use Rattle.lsm_model.specs.Moves.{Becomes, FailsToRead, HaltsSettling}
use Rattle.lsm_model.specs.Causes.{halted}
use Rattle.lsm_model.specs.Answers.{Answers}
use Rattle.lsm_model.specs.Writes.{all_durable}

-- each folder that was sure reads as it did, and is sure
abbrev pub KeepsSure : List FolderRead → List FolderRead → Type 0
KeepsSure old new =
    (name : List ℕ) (folder : FolderRead) → folder_of name old ≡ Some folder → folder.sure ≡ true → folder_of name new ≡ Some folder

-- what ends with the open: pins, disables, rows in memory, jobs and the halt
abbrev pub closed : State → State
closed s = record s {
  doubtful = None;
  pins = [];
  greatest_pin = 0;
  begun = None;
  disables = 0;
  active = 0;
  frozen = 0;
  active_len = 0;
  frozen_len = 0;
  merging = None;
  outputs = 0;
  halt = None;
}

-- A crash leaves the first so many of the accepted batches and the doubtful one, and all durable ones of them. What it
-- leaves is durable. Folders that weren't sure may be there or not, and read as anything.
pub record Crashed (s t : State) : Type 0 where
  pub kept : ℕ
  pub durable : s.durable ≤ kept
  pub accepted : t.accepted ≡ take kept (written s)
  pub all : t.durable ≡ length t.accepted
  pub folders : KeepsSure s.folders t.folders
  pub rest : t ≡ record (closed s) {
    accepted = t.accepted;
    durable = t.durable;
    folders = t.folders;
    tables = t.tables;
    next = t.next;
    manifest_len = t.manifest_len;
    faults = t.faults;
    refusals = t.refusals;
  }

-- A closing makes all durable. Pins and disables end. Views are closed first, also where the store is halted, so that the
-- disk's counts may rise then.
abbrev pub Closes : State → Result (Unit {0}) StoreError → State → Type 0
Closes s result t =
    Answers (halted s) (λ (done : Unit {0}). Becomes (closed (all_durable s)) t)
    (FailsToRead s t ⊎ HaltsSettling sync_calls s t) ⊥ (Becomes s t) result

-- An opening takes what is there as its own beginning: all accepted batches, and the doubtful one where it is there. The
-- other folders read as they did. Not said here: the tables, the next number and the manifest.
pub record Opened (s t : State) : Type 0 where
  pub kept : ℕ
  pub accepted : length s.accepted ≤ kept
  pub shown : shown_after t [] ≡ shown_after s (take kept (written s))
  pub folders : (name : List ℕ) → option_map (λ (f : FolderRead). f.reading) (folder_of name t.folders)
      ≡ option_map (λ (f : FolderRead). f.reading) (folder_of name s.folders)
  pub sure : KeepsSure s.folders t.folders
  pub rest : t ≡ record (closed s) {
    opening = t.opening;
    began = t.began;
    accepted = [];
    durable = 0;
    folders = t.folders;
    tables = t.tables;
    next = t.next;
    manifest_len = t.manifest_len;
    faults = t.faults;
    refusals = t.refusals;
  }
