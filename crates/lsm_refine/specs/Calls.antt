-- What calls that ask no disk, a removal and a cut make of what a store keeps, and of a state.
use Rattle.std.specs.Prelude.{◌≡◌, ◌≢◌, ℕ, ◌+◌, Bool, true, false, if◌then◌else◌, List, [], ◌∷◌, ◌++◌, map, length, All, Contains, Option, Some, None}
use Rattle.lsm_names.specs.FileNames.{IsFileName}
use Rattle.lsm_names.specs.declared.file_names.FileName.{FileName}
use Rattle.lsm_names.specs.declared.file_names.FileName.TheVariants.{Table}
use Rattle.lsm_disk.specs.State as disk
use Rattle.lsm_disk.specs.State.{Seen}
use Rattle.lsm_folder.specs.Needed.{Stands}
use Rattle.lsm_model.specs.declared.states.State.{State}
use Rattle.lsm_model.specs.declared.states.Pin.{Pin}
use Rattle.lsm_model.specs.declared.states.PinnedFile.{PinnedFile}
use Rattle.lsm_model.specs.declared.cuts.Cut.{Cut}
use Rattle.lsm_model.specs.Causes.{is_none, same_name}
use Rattle.lsm_model.specs.Pins.{listed, held}
use Rattle.lsm_model.specs.States.{shown_at}
use Rattle.lsm_refine.specs.Kept.{KeptPin, Unfinished, Kept, Shown}
use Rattle.lsm_refine.specs.Sane.{IsNeeded, IsHeld}
use Rattle.lsm_refine.specs.Caused.{without_kept}
use Rattle.lsm_refine.specs.Pins.{PinFiles, folder_of_pin}

-- ---- pins

-- it is there, and its caller's own
abbrev pub is_own_kept : Option KeptPin → Bool
is_own_kept None = false
is_own_kept (Some pin) = is_none pin.job

-- it is there, and has a file of the name
abbrev pub lists_name : FileName → List (FileName × ℕ) → Bool
lists_name name [] = false
lists_name name (file ∷ files) = if same_name file.0 name then true else lists_name name files

abbrev pub kept_lists : FileName → Option KeptPin → Bool
kept_lists name None = false
kept_lists name (Some pin) = lists_name name pin.files

-- what is kept with other pins, another greatest number that one had, and so many disables
abbrev pub with_pins : List KeptPin → ℕ → ℕ → Shown → Shown
with_pins pins greatest disables v = record v { kept = record v.kept { pins = pins; greatest_pin = greatest; disables = disables } }

abbrev pub state_with_pins : List Pin → ℕ → ℕ → State → State
state_with_pins pins greatest disables s = record s { pins = pins; greatest_pin = greatest; disables = disables }

-- without the pin of a number
abbrev pub unpinned_shown : ℕ → Shown → Shown
unpinned_shown number v = record v { kept = record v.kept { pins = without_kept number v.kept.pins } }

-- with deletion disabled so many times
abbrev pub disabled_shown : ℕ → Shown → Shown
disabled_shown count v = record v { kept = record v.kept { disables = count } }

-- ---- a cut

-- the caller's new pin of a cut's files
abbrev pub kept_pin : Cut → Kept → KeptPin
kept_pin cut kept = record {
  number = kept.greatest_pin + 1;
  sequence = kept.sequence;
  manifest = cut.manifest;
  files = map listed cut.files;
  job = None;
}

abbrev pub cut_shown : Cut → Shown → Shown
cut_shown cut v =
    record v { kept = record v.kept { pins = v.kept.pins ++ kept_pin cut v.kept ∷ []; greatest_pin = v.kept.greatest_pin + 1 } }

-- The files that a cut lists are needed, they are there with so many bytes or more, and with a CURRENT of its manifest they make
-- a folder that stands for the accepted batches.
pub record ListsNeeded (d : disk.State) (dir : List ℕ) (kept : Kept) (s : State) (cut : Cut) : Type 0 where
  pub files : List PinnedFile
  pub are : map listed cut.files ≡ map held files
  pub needed : All (λ (file : PinnedFile). IsNeeded kept file.name) files
  pub there : PinFiles d dir files
  pub stands : Stands (folder_of_pin cut.manifest files) (shown_at s (length s.accepted)).contents (shown_at s (length s.accepted)).sequence

-- ---- a removal

-- A file may go: the store knows it, it isn't needed, no pin holds it, and no unfinished table is written to it.
pub record MayBeRemoved (kept : Kept) (name : FileName) : Type 0 where
  pub known : Contains kept.known name
  pub unheld : ¬ IsHeld kept name
  pub written : All (λ (table : Unfinished). IsFileName (Table table.number) × (Table table.number ≢ name)) kept.unfinished

-- these are the names but one
pub record AreWithout (name : FileName) (names fewer : List FileName) : Type 0 where
  pub each : (other : FileName) → Contains fewer other → Contains names other × (other ≢ name)
  pub all : (other : FileName) → Contains names other → other ≢ name → Contains fewer other

-- the file's name is known no more
abbrev pub removed_shown : Seen → List FileName → Shown → Shown
removed_shown seen known v = record v { disk = seen; kept = record v.kept { known = known } }
