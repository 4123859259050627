-- What a store keeps while it writes tables that no edit names yet.
use Rattle.std.specs.Prelude.{◌≡◌, ◌≢◌, ◌⊎◌, ℕ, List, All, Contains}
use Rattle.lsm_names.specs.FileNames.{IsFileName}
use Rattle.lsm_names.specs.declared.file_names.FileName.{FileName}
use Rattle.lsm_names.specs.declared.file_names.FileName.TheVariants.{Table}
use Rattle.lsm_disk.specs.State.{Seen}
use Rattle.lsm_model.specs.declared.states.State.{State}
use Rattle.lsm_refine.specs.Kept.{Unfinished, Flushing, Kept}
use Rattle.lsm_refine.specs.Good.{with_counts}

-- how far the work came: the flush, how many tables the compaction has begun and how many rows it has merged, the next file
-- number, the known names, and the tables that are being written
pub record Work : Type 0 where
  pub flushing : Flushing
  pub outputs : ℕ
  pub merged : ℕ
  pub next : ℕ
  pub known : List FileName
  pub unfinished : List Unfinished

-- what a store has of it
abbrev pub work_of : Kept → Work
work_of kept = record {
  flushing = kept.flushing;
  outputs = kept.outputs;
  merged = kept.merged;
  next = kept.next;
  known = kept.known;
  unfinished = kept.unfinished;
}

-- the store with its work come so far
abbrev pub working_kept : Work → Kept → Kept
working_kept work kept = record kept {
  flushing = work.flushing;
  outputs = work.outputs;
  merged = work.merged;
  next = work.next;
  known = work.known;
  unfinished = work.unfinished;
}

-- the same work with this next number and these known names
abbrev pub drawn_work : ℕ → List FileName → Work → Work
drawn_work next known work = record work { next = next; known = known }

-- the state in which so many numbers are drawn and so many tables begun
abbrev pub working_state : Seen → Work → State → State
working_state seen work s = with_counts seen (record s { next = work.next; outputs = work.outputs })

-- another table of a file's number that was being written
abbrev pub WasWritten : List Unfinished → ℕ → Unfinished → Type 0
WasWritten before number table = Contains before table × (table.number ≢ number) × IsFileName (Table table.number)

-- each table that is being written is this one, with these bytes, or another one that was being written
abbrev pub AreWith : List Unfinished → ℕ → List ℕ → List Unfinished → Type 0
AreWith before number bytes tables =
    All (λ (table : Unfinished). (table ≡ record { number = number; bytes = bytes }) ⊎ WasWritten before number table) tables
