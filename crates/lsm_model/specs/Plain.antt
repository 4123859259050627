-- The state that a plain store is.
use Rattle.std.specs.Prelude.{◌≡◌, ℕ, ◌≤◌, if◌then◌else◌, List, [], ◌∷◌, map, take, length, All, is_some, IfSome, Option, Some, None, Result, Ok, Err}
use Rattle.std.specs.Str.{bytes_eq}
use Rattle.std.specs.FinMap as finite
use Rattle.lsm_rows.specs.declared.operations.Op.{Op}
use Rattle.lsm_rows.specs.Replay.{replayed, sequence_after}
use Rattle.lsm_disk.specs.declared.calls.Halt.{Halt}
use Rattle.lsm_model.specs.declared.errors.StoreError.{StoreError}
use Rattle.lsm_model.specs.declared.errors.StoreError.TheVariants.{NoCurrent}
use Rattle.lsm_model.specs.declared.states.State.{State}
use Rattle.lsm_model.specs.declared.states.Pin.{Pin}
use Rattle.lsm_model.specs.declared.states.FolderRead.{FolderRead}
use Rattle.lsm_model.specs.declared.replies.Shown.{Shown}
use Rattle.lsm_model.specs.declared.plain.PlainLists.{PlainLists}
use Rattle.lsm_model.specs.declared.lookups.PlainFolder.{PlainFolder}
use Rattle.lsm_model.specs.declared.lookups.Job.{Job}
use Rattle.lsm_model.specs.declared.states.Holder.TheVariants.{Checkpoint}
use Rattle.lsm_model.specs.Causes.{last_sequence, pin_limit}

-- what the first so many batches show, from nothing
abbrev pub plain_shown : List (List Op) → ℕ → Shown
plain_shown accepted count = record {
  sequence = sequence_after 0 (take count accepted);
  contents = replayed finite.empty (take count accepted);
}

-- what a folder reads as that has so many of the accepted batches, or no `CURRENT` yet
abbrev pub plain_reading : List (List Op) → List ℕ → Option ℕ → Result Shown StoreError
plain_reading accepted name None = Err (NoCurrent name)
plain_reading accepted name (Some count) = Ok (plain_shown accepted count)

-- a folder beside the store's own one; once it is finished it is sure
abbrev pub plain_folder : List (List Op) → PlainFolder → FolderRead
plain_folder accepted folder = record {
  name = folder.name;
  reading = plain_reading accepted folder.name folder.batches;
  sure = is_some folder.batches;
}

-- the folders, where the one of a name is this one
abbrev pub with_plain : PlainFolder → List PlainFolder → List PlainFolder
with_plain new [] = new ∷ []
with_plain new (folder ∷ folders) = if bytes_eq folder.name new.name then new ∷ folders else folder ∷ with_plain new folders

-- how many faults the disk had: it fails once, in the call that halts the store
abbrev pub plain_faults : Option Halt → ℕ
plain_faults None = 0
plain_faults (Some first) = 1

-- the state: it began empty, and there are no tables
abbrev pub state_of : PlainLists → State
state_of p = record {
  own = p.own;
  opening = finite.empty;
  began = 0;
  accepted = p.accepted.items;
  durable = p.durable;
  doubtful = p.doubtful;
  pins = p.pins.items;
  greatest_pin = p.greatest_pin;
  folders = map (plain_folder p.accepted.items) p.folders.items;
  begun = p.begun;
  disables = p.disables;
  active = p.active;
  frozen = p.frozen;
  active_len = p.active_len;
  frozen_len = p.frozen_len;
  tables = [];
  merging = None;
  outputs = 0;
  next = p.next;
  manifest_len = 0;
  halt = p.halt;
  faults = plain_faults p.halt;
  refusals = 0;
}

-- a new store, where one number is drawn
abbrev pub empty_state : List ℕ → State
empty_state own = record {
  own = own;
  opening = finite.empty;
  began = 0;
  accepted = [];
  durable = 0;
  doubtful = None;
  pins = [];
  greatest_pin = 0;
  folders = [];
  begun = None;
  disables = 0;
  active = 0;
  frozen = 0;
  active_len = 0;
  frozen_len = 0;
  tables = [];
  merging = None;
  outputs = 0;
  next = 1;
  manifest_len = 0;
  halt = None;
  faults = 0;
  refusals = 0;
}

-- a pin of a front of the batches; a plain store has no files
pub record IsPlainPin (accepted : List (List Op)) (pin : Pin) : Type 0 where
  pub front : pin.batches ≤ length accepted
  pub none : pin.files ≡ []

-- a finished folder has a front of the batches
abbrev pub HasFront : List (List Op) → PlainFolder → Type 0
HasFront accepted folder = IfSome folder.batches (λ count. count ≤ length accepted)

-- what is kept beside the batches fits them
pub record IsPlain (p : PlainLists) : Type 0 where
  pub sequence : p.sequence ≡ sequence_after 0 p.accepted.items
  pub last : p.sequence ≤ last_sequence
  pub durable : p.durable ≤ length p.accepted.items
  pub few : length p.pins.items ≤ pin_limit
  pub pins : All (IsPlainPin p.accepted.items) p.pins.items
  pub folders : All (HasFront p.accepted.items) p.folders.items

-- the pin is there, a checkpoint's, and says this of it
pub record IsJobOf (job : Job) (found : Option Pin) : Type 0 where
  pub pin : Pin
  pub is : found ≡ Some pin
  pub holder : pin.holder ≡ Checkpoint job.dir job.left
  pub batches : pin.batches ≡ job.batches
