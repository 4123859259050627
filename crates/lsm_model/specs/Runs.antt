-- What a step, and a run of them, makes of the part of a state that outlives upkeep.
use Rattle.std.specs.Prelude.{◌≡◌, ◌⊎◌, ℕ, ◌+◌, false, List, [], ◌∷◌, ◌++◌, length, Option, Some, None, Result, Ok, Err}
use Rattle.lsm_rows.specs.declared.operations.Op.{Op}
use Rattle.lsm_rows.specs.Replay.{Contents}
use Rattle.lsm_model.specs.declared.errors.StoreError.{StoreError}
use Rattle.lsm_model.specs.declared.events.Event.{Event}
use Rattle.lsm_model.specs.declared.events.Event.TheVariants as event
use Rattle.lsm_model.specs.declared.replies.Reply.{Reply}
use Rattle.lsm_model.specs.declared.states.State.{State}
use Rattle.lsm_model.specs.declared.states.Pin.{Pin}
use Rattle.lsm_model.specs.declared.states.PinnedFile.{PinnedFile}
use Rattle.lsm_model.specs.declared.states.FolderRead.{FolderRead}
use Rattle.lsm_model.specs.declared.states.Holder.{Holder}
use Rattle.lsm_model.specs.declared.replies.Shown.{Shown}
use Rattle.lsm_model.specs.States.{shown_after, pin_of, with_pin, without_pin, built_by, folder_of, with_folder}
use Rattle.lsm_model.specs.Steps.{to_write, Made, Asked}

-- ---- the batches that steps accept

-- the batch, where its write was answered Ok
abbrev pub where_ok : List Op → Option (Result ℕ StoreError) → List (List Op)
where_ok ops None = []
where_ok ops (Some (Ok last)) = ops ∷ []
where_ok ops (Some (Err refusal)) = []

-- the batch that an event adds by its reply: that of an accepted write
abbrev pub added_by : Event → Reply → List (List Op)
added_by (event.Write ops sync) r = where_ok ops (to_write r)
added_by other r = []

-- the same of any call: no other one adds a batch
abbrev pub added : Made → List (List Op)
added (Asked e r) = added_by e r
added other = []

-- the batches of the accepted writes, in their order
abbrev pub accepted_in : List Made → List (List Op)
accepted_in [] = []
accepted_in (made ∷ steps) = added made ++ accepted_in steps

-- the contents and the sequence behind such steps: those of the batches that were there, and then of the accepted ones
abbrev pub shown_behind : State → List Made → Shown
shown_behind s steps = shown_after s (s.accepted ++ accepted_in steps)

-- ---- the part of a state that upkeep leaves

pub record Core : Type 0 where
  pub own : List ℕ
  pub opening : Contents
  pub began : ℕ
  pub accepted : List (List Op)
  pub pins : List Pin
  pub greatest_pin : ℕ
  pub folders : List FolderRead
  pub begun : Option (List ℕ)
  pub disables : ℕ

abbrev pub core : State → Core
core s = record {
  own = s.own;
  opening = s.opening;
  began = s.began;
  accepted = s.accepted;
  pins = s.pins;
  greatest_pin = s.greatest_pin;
  folders = s.folders;
  begun = s.begun;
  disables = s.disables;
}

-- How a step moves that part: not at all; by one batch more; by a new pin, or one that is given up again; by a pin less;
-- by a checkpoint's progress; by a folder more, whose pin ends; by the count of disables; by a folder more of a free name, which
-- isn't sure and may be the begun one now; or by what the begun folder reads as, which isn't sure while it stays begun.
pub data Moves (s t : Core) (batches : List (List Op)) : Type 0 where
  Same : batches ≡ [] → t ≡ s → Moves s t batches
  Wrote : (ops : List Op) → batches ≡ ops ∷ [] → t ≡ record s { accepted = s.accepted ++ ops ∷ [] } → Moves s t batches
  Pinned : (holder : Holder) (manifest : ℕ) (files : List PinnedFile) → batches ≡ []
      → t ≡ record s {
        pins = s.pins ++ (record {
          number = s.greatest_pin + 1;
          batches = length s.accepted;
          manifest = manifest;
          files = files;
          holder = holder;
        }) ∷ [];
        greatest_pin = s.greatest_pin + 1;
      } → Moves s t batches
  Spent : batches ≡ [] → t ≡ record s { greatest_pin = s.greatest_pin + 1 } → Moves s t batches
  Unpinned : (number : ℕ) → batches ≡ [] → t ≡ record s { pins = without_pin number s.pins } → Moves s t batches
  Stepped : (number : ℕ) (pin : Pin) (holder : Holder) → batches ≡ [] → pin_of number s.pins ≡ Some pin
      → built_by holder ≡ built_by pin.holder
      → t ≡ record s { pins = with_pin (record pin { holder = holder }) s.pins } → Moves s t batches
  Published : (number : ℕ) (folder : FolderRead) → batches ≡ []
      → t ≡ record s { pins = without_pin number s.pins; folders = s.folders ++ folder ∷ [] } → Moves s t batches
  Counted : (count : ℕ) → batches ≡ [] → t ≡ record s { disables = count } → Moves s t batches
  Founded : (folder : FolderRead) (begun : Option (List ℕ)) → batches ≡ [] → folder_of folder.name s.folders ≡ None
      → folder.sure ≡ false → (begun ≡ s.begun) ⊎ (begun ≡ Some folder.name)
      → t ≡ record s { folders = s.folders ++ folder ∷ []; begun = begun }
      → Moves s t batches
  Changed : (folder : FolderRead) (begun : Option (List ℕ)) → batches ≡ [] → s.begun ≡ Some folder.name
      → ((begun ≡ s.begun) × (folder.sure ≡ false)) ⊎ (begun ≡ None)
      → t ≡ record s { folders = with_folder folder s.folders; begun = begun } → Moves s t batches
