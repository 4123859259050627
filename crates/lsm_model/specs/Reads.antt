-- Readings: they change nothing, and go on where the store is halted.
use Rattle.std.specs.Prelude.{◌≡◌, ◌⊎◌, ℕ, Bool, true, false, nat_le, List, [], ◌∷◌, Option, Some, None, Result, Ok, Err}
use Rattle.std.specs.Str.{bytes_eq}
use Rattle.std.specs.FinMap as finite
use Rattle.lsm_names.specs.declared.file_names.FileName.{FileName}
use Rattle.lsm_rows.specs.Replay.{Contents}
use Rattle.lsm_model.specs.declared.errors.StoreError.{StoreError}
use Rattle.lsm_model.specs.declared.errors.StoreError.TheVariants.{DiskFault, NoFolder, NoMemory}
use Rattle.lsm_model.specs.declared.replies.Shown.{Shown}
use Rattle.lsm_model.specs.declared.states.State.{State}
use Rattle.lsm_model.specs.declared.states.FolderRead.{FolderRead}
use Rattle.lsm_model.specs.declared.states.Pin.{Pin}
use Rattle.lsm_model.specs.States.{contents_now, last_of, shown_at, shown_after, written, pin_of, folder_of, bytes_of, active_batches}
use Rattle.lsm_model.specs.Moves.{Becomes, FailsToRead}
use Rattle.lsm_model.specs.Causes.{first_of, no_pin, not_in_pin, files_of, file_in}
use Rattle.lsm_model.specs.Answers.{Answers}

-- the value that the contents have at the key
abbrev pub Gets : State → List ℕ → Result (Option (List ℕ)) StoreError → State → Type 0
Gets s key result t =
    Answers None (λ (value : Option (List ℕ)). (value ≡ finite.get (contents_now s) key) × Becomes s t)
    (FailsToRead s t) (Becomes s t) ⊥ result

-- all pairs of the contents
abbrev pub Scans : State → Result Contents StoreError → State → Type 0
Scans s result t =
    Answers None (λ (pairs : Contents). (pairs ≡ contents_now s) × Becomes s t) (FailsToRead s t) (Becomes s t) ⊥ result

-- the last sequence
abbrev pub TellsLast : State → ℕ → State → Type 0
TellsLast s last t = (last ≡ last_of s) × (t ≡ s)

-- from this number of bytes on the active rows should be frozen
abbrev pub freeze_size : ℕ
freeze_size = 1048576

-- whether the active rows have that many
abbrev pub TellsWantsFreeze : State → Bool → State → Type 0
TellsWantsFreeze s wants t = (wants ≡ nat_le freeze_size (bytes_of (active_batches s))) × (t ≡ s)

-- ---- folders

-- what a folder is known to read as; where none is known, none stands
abbrev pub known_reading : List ℕ → Option FolderRead → Result Shown StoreError
known_reading dir None = Err (NoFolder dir)
known_reading dir (Some folder) = folder.reading

-- what a folder reads as. The store's own one has all accepted batches, and may have the doubtful one behind them.
abbrev pub ReadsAs : State → List ℕ → Bool → Result Shown StoreError → Type 0
ReadsAs s dir true reading = (reading ≡ Ok (shown_after s s.accepted)) ⊎ (reading ≡ Ok (shown_after s (written s)))
ReadsAs s dir false reading = reading ≡ known_reading dir (folder_of dir s.folders)

-- the folder's contents and sequence, or why it can't be read
pub data Shows (s : State) (dir : List ℕ) (result : Result Shown StoreError) (t : State) : Type 0 where
  As_it_reads : ReadsAs s dir (bytes_eq s.own dir) result → Becomes s t → Shows s dir result t
  Failed : result ≡ Err DiskFault → FailsToRead s t → Shows s dir result t
  Wanting : result ≡ Err NoMemory → Becomes s t → Shows s dir result t

-- ---- pins

-- the contents and the sequence of the pin's batches
abbrev pub shown_by_pin : State → Option Pin → Option Shown
shown_by_pin s None = None
shown_by_pin s (Some pin) = Some (shown_at s pin.batches)

abbrev pub ShowsPin : State → ℕ → Result Shown StoreError → State → Type 0
ShowsPin s pin result t =
    Answers (no_pin pin s) (λ (shown : Shown). (Some shown ≡ shown_by_pin s (pin_of pin s.pins)) × Becomes s t)
    (FailsToRead s t) (Becomes s t) (t ≡ s) result

-- the bytes of a pinned file
abbrev pub ReadsPinned : State → ℕ → FileName → Result (List ℕ) StoreError → State → Type 0
ReadsPinned s pin name result t =
    Answers (first_of (no_pin pin s ∷ not_in_pin pin name s ∷ []))
    (λ (bytes : List ℕ). (Some bytes ≡ file_in name (files_of (pin_of pin s.pins))) × Becomes s t)
    (FailsToRead s t) (Becomes s t) (t ≡ s) result
