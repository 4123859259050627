-- Checkpoints: folders that are built of a cut's files.
use Rattle.std.specs.Prelude.{◌≡◌, ◌⊎◌, ℕ, ◌+◌, ◌≤◌, Bool, true, false, nat_lt, zero, suc, List, [], ◌∷◌, ◌++◌, map, length, Option, Some, None, Result, Ok, Err}
use Rattle.lsm_names.specs.declared.file_names.FileName.{FileName}
use Rattle.lsm_model.specs.declared.cuts.FlushRule.{FlushRule}
use Rattle.lsm_model.specs.declared.cuts.FlushRule.TheVariants.{Always, AtLeast}
use Rattle.lsm_model.specs.declared.errors.StoreError.{StoreError}
use Rattle.lsm_model.specs.declared.errors.StoreError.TheVariants.{DiskFault, CheckpointExists, NoMemory}
use Rattle.lsm_model.specs.declared.replies.JobStart.{JobStart}
use Rattle.lsm_model.specs.declared.states.State.{State}
use Rattle.lsm_model.specs.declared.states.Pin.{Pin}
use Rattle.lsm_model.specs.declared.states.PinnedFile.{PinnedFile}
use Rattle.lsm_model.specs.declared.states.FolderRead.{FolderRead}
use Rattle.lsm_model.specs.declared.states.Holder.TheVariants.{Checkpoint}
use Rattle.lsm_model.specs.States.{last_of, shown_at, pin_of, with_pin}
use Rattle.lsm_model.specs.Halting.{clear_calls, copy_calls, end_calls, name_calls}
use Rattle.lsm_model.specs.Moves.{Becomes, FailsToRead, Halts, Fails}
use Rattle.lsm_model.specs.Causes.{first_of, halted, pins_full, under_way, no_job, is_taken}
use Rattle.lsm_model.specs.Answers.{Answers, AnswersFlushing, MayFlush, does_flush}
use Rattle.lsm_model.specs.Pins.{CutsAt, FreeOfLogs, pinned, unpinned}

-- ---- begin

abbrev pub names_of : List PinnedFile → List FileName
names_of files = map (λ (file : PinnedFile). file.name) files

-- 0 is always, and any other size is that of the logs
abbrev pub size_rule : ℕ → FlushRule
size_rule zero = Always
size_rule (suc n) = AtLeast (suc n)

-- The checkpoint's own pin has all accepted batches, and each of its files is still to be linked or copied.
pub record IsBegun (s : State) (dir : List ℕ) (rule : FlushRule) (start : JobStart) (t : State) : Type 0 where
  pub at : State
  pub manifest : ℕ
  pub files : List PinnedFile
  pub free : is_taken dir s ≡ false
  pub flushed : CutsAt (does_flush rule s) s at
  pub pin : start.pin ≡ s.greatest_pin + 1
  pub sequence : start.sequence ≡ last_of s
  pub logs : FreeOfLogs (does_flush rule s) (names_of files)
  pub rest : Becomes (pinned (Checkpoint dir (length files)) manifest files at) t

-- the pin was given and is given up again; its number doesn't come back
abbrev pub with_pin_spent : State → State
with_pin_spent s = record s { greatest_pin = s.greatest_pin + 1 }

-- after the cut the disk failed where the folder of the checkpoint was cleared and made, or memory was wanting
pub record GivesUp (s : State) (dir : List ℕ) (rule : FlushRule) (result : Result JobStart StoreError) (t : State) : Type 0 where
  pub cut : State
  pub before : MayFlush (does_flush rule s) s cut
  pub why : ((result ≡ Err DiskFault) × Fails (clear_calls dir) (with_pin_spent cut) t)
      ⊎ ((result ≡ Err NoMemory) × Becomes (with_pin_spent cut) t)

-- what refuses a checkpoint before the disk is asked for the name
abbrev pub begin_refusal : State → List ℕ → Option StoreError
begin_refusal s dir = first_of (halted s ∷ under_way dir s ∷ pins_full s ∷ [])

-- Behind a test of its name a checkpoint begins as a cut does.
pub data BeginsCheckpoint (s : State) (dir : List ℕ) (size : ℕ) (result : Result JobStart StoreError) (t : State) : Type 0 where
  Refused : (refusal : StoreError) → result ≡ Err refusal → begin_refusal s dir ≡ Some refusal → t ≡ s
      → BeginsCheckpoint s dir size result t
  Failed : result ≡ Err DiskFault → begin_refusal s dir ≡ None → FailsToRead s t → BeginsCheckpoint s dir size result t
  Exists : result ≡ Err (CheckpointExists dir) → begin_refusal s dir ≡ None → is_taken dir s ≡ true → Becomes s t
      → BeginsCheckpoint s dir size result t
  Cut : begin_refusal s dir ≡ None → is_taken dir s ≡ false → AnswersFlushing None (size_rule size) s
      (λ (start : JobStart). IsBegun s dir (size_rule size) start t) result t
      → BeginsCheckpoint s dir size result t
  Given_up : begin_refusal s dir ≡ None → is_taken dir s ≡ false → GivesUp s dir (size_rule size) result t
      → BeginsCheckpoint s dir size result t

-- ---- steps

-- the pin of this number is a checkpoint's that builds this folder, and so many of its files aren't whole there
pub record IsJob (s : State) (number : ℕ) (pin : Pin) (dir : List ℕ) (left : ℕ) : Type 0 where
  pub found : pin_of number s.pins ≡ Some pin
  pub holder : pin.holder ≡ Checkpoint dir left

-- a step may end one file; whether it does, the file's length and the disk's links say
pub record IsStepped (s : State) (number : ℕ) (more : Bool) (t : State) : Type 0 where
  pub pin : Pin
  pub dir : List ℕ
  pub left : ℕ
  pub now : ℕ
  pub job : IsJob s number pin dir left
  pub fewer : now ≤ left
  pub one : left ≤ now + 1
  pub answer : more ≡ nat_lt 0 now
  pub rest : Becomes (record s { pins = with_pin (record pin { holder = Checkpoint dir now }) s.pins }) t

-- the disk failed where a file was linked or copied
pub record FailsCopying (s : State) (number : ℕ) (t : State) : Type 0 where
  pub pin : Pin
  pub dir : List ℕ
  pub left : ℕ
  pub job : IsJob s number pin dir left
  pub fails : Fails (copy_calls dir) s t

-- true exactly where a file is left
abbrev pub StepsCheckpoint : State → ℕ → Result Bool StoreError → State → Type 0
StepsCheckpoint s pin result t =
    Answers (first_of (no_job pin s ∷ halted s ∷ [])) (λ (more : Bool). IsStepped s pin more t)
    (FailsCopying s pin t) (Becomes s t) (t ≡ s) result

-- ---- finish and stop

-- the folder of a checkpoint reads as its pin's batches
abbrev pub checkpoint_folder : State → Pin → List ℕ → Bool → FolderRead
checkpoint_folder s pin dir sure = record { name = dir; reading = Ok (shown_at s pin.batches); sure = sure }

-- the pin has ended, and the folder stands
abbrev pub published : State → Pin → List ℕ → Bool → State
published s pin dir sure = record (unpinned pin.number s) { folders = s.folders ++ checkpoint_folder s pin dir sure ∷ [] }

-- the folder is there, in every image too, and its sequence is answered
pub record IsFinished (s : State) (number sequence : ℕ) (t : State) : Type 0 where
  pub pin : Pin
  pub dir : List ℕ
  pub left : ℕ
  pub job : IsJob s number pin dir left
  pub free : is_taken dir s ≡ false
  pub sequence_is : sequence ≡ (shown_at s pin.batches).sequence
  pub rest : Becomes (published s pin dir true) t

-- the pin has ended; the folder is whole or not there, and where it is there, a crash may take it away
pub record FailsFinishing (s : State) (number : ℕ) (t : State) : Type 0 where
  pub pin : Pin
  pub dir : List ℕ
  pub left : ℕ
  pub job : IsJob s number pin dir left
  pub fails : Fails (end_calls dir) (unpinned number s) t
      ⊎ ((is_taken dir s ≡ false) × Halts (name_calls dir) (published s pin dir false) t)

-- the name of the job's folder is taken
pub record IsTakenMeanwhile (s : State) (number : ℕ) (dir : List ℕ) (t : State) : Type 0 where
  pub pin : Pin
  pub left : ℕ
  pub job : IsJob s number pin dir left
  pub taken : is_taken dir s ≡ true
  pub rest : Becomes (unpinned number s) t

-- The pin of the job ends with every answer.
pub data FinishesCheckpoint (s : State) (pin : ℕ) (result : Result ℕ StoreError) (t : State) : Type 0 where
  No_job : (refusal : StoreError) → result ≡ Err refusal → no_job pin s ≡ Some refusal → t ≡ s → FinishesCheckpoint s pin result t
  Halted : (refusal : StoreError) → result ≡ Err refusal → no_job pin s ≡ None → halted s ≡ Some refusal → t ≡ unpinned pin s
      → FinishesCheckpoint s pin result t
  Done : (sequence : ℕ) → result ≡ Ok sequence → halted s ≡ None → IsFinished s pin sequence t → FinishesCheckpoint s pin result t
  Failed : result ≡ Err DiskFault → halted s ≡ None → FailsFinishing s pin t → FinishesCheckpoint s pin result t
  Wanting : result ≡ Err NoMemory → no_job pin s ≡ None → halted s ≡ None → Becomes (unpinned pin s) t → FinishesCheckpoint s pin result t
  Taken : (dir : List ℕ) → result ≡ Err (CheckpointExists dir) → halted s ≡ None → IsTakenMeanwhile s pin dir t
      → FinishesCheckpoint s pin result t

-- it asks no disk, takes no memory, and goes on where the store is halted
abbrev pub StopsCheckpoint : State → ℕ → Result (Unit {0}) StoreError → State → Type 0
StopsCheckpoint s pin result t = Answers (no_job pin s) (λ (done : Unit {0}). t ≡ unpinned pin s) ⊥ ⊥ (t ≡ s) result
