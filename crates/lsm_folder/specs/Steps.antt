-- Readings in steps, up to the first refusal, and how the faults of parts are refusals of their files.
use Rattle.std.specs.Prelude.{ℕ, Option, Some, None, Result, Ok, Err}
use Rattle.lsm_names.specs.declared.file_names.FileName.{FileName}
use Rattle.lsm_frame.specs.declared.ending.Ending.{Ending}
use Rattle.lsm_frame.specs.declared.ending.Ending.TheVariants as ending
use Rattle.lsm_frame.specs.declared.next.FrameError.{FrameError}
use Rattle.lsm_frame.specs.declared.next.FrameError.TheVariants as frame
use Rattle.lsm_wal.specs.declared.why.WalWhy.{WalWhy}
use Rattle.lsm_wal.specs.declared.why.WalWhy.TheVariants as why
use Rattle.lsm_table.specs.declared.faults.TableFault.{TableFault}
use Rattle.lsm_table.specs.declared.faults.TableFault.TheVariants as table
use Rattle.lsm_version.specs.declared.refusals.ApplyError.{ApplyError}
use Rattle.lsm_version.specs.declared.refusals.ApplyError.TheVariants as apply
use Rattle.lsm_folder.specs.declared.refusals.Refusal.{Refusal}
use Rattle.lsm_folder.specs.declared.refusals.Refusal.TheVariants.{Malformed, Damaged, Gap, BadLevels}

infixl 10 ◌>>=◌
abbrev pub ◌>>=◌ : {A B : Type 0} → Result A Refusal → (A → Result B Refusal) → Result B Refusal
(Ok x) >>= f = f x
(Err refusal) >>= f = Err refusal

-- what is there, or the refusal
abbrev pub some_or : {A : Type 0} → Refusal → Option A → Result A Refusal
some_or refusal None = Err refusal
some_or refusal (Some x) = Ok x

-- a text that ends whole or torn is read; a damaged or malformed piece is refused
abbrev pub read_to_end : {A : Type 0} → FileName → Ending → A → Result A Refusal
read_to_end name ending.End x = Ok x
read_to_end name (ending.Torn place) x = Ok x
read_to_end name (ending.Damaged place kept found) x = Err (Damaged name place kept found)
read_to_end name (ending.Malformed place) x = Err (Malformed name place)

-- what a table's bytes say, or the fault as a refusal of the file. No bytes say that a view failed or that memory was
-- wanting.
abbrev pub table_says : {A : Type 0} → FileName → Result A TableFault → Result A Refusal
table_says name (Ok x) = Ok x
table_says name (Err table.ReadFault) = Err (Malformed name 0)
table_says name (Err (table.Damaged place kept found)) = Err (Damaged name place kept found)
table_says name (Err (table.Malformed place)) = Err (Malformed name place)
table_says name (Err table.NoMemory) = Err (Malformed name 0)

-- the version after the edit of the record at a place of a manifest, or why it is refused
abbrev pub version_says : {A : Type 0} → FileName → ℕ → Result A ApplyError → Result A Refusal
version_says name place (Ok x) = Ok x
version_says name place (Err (apply.BadEdit at)) = Err (Malformed name place)
version_says name place (Err (apply.BadLevels level left right)) = Err (BadLevels level left right)
version_says name place (Err apply.NoMemory) = Err (Malformed name place)

-- ---- troubles of a reader

-- a manifest's trouble as a refusal of its folder; that a view failed or that memory was wanting is none
abbrev pub frame_trouble : FileName → FrameError → Option Refusal
frame_trouble name frame.ReadFault = None
frame_trouble name (frame.Damaged place kept found) = Some (Damaged name place kept found)
frame_trouble name (frame.Malformed place) = Some (Malformed name place)
frame_trouble name frame.NoMemory = None

-- a log's trouble as a refusal of its folder; that a view failed or that memory was wanting is none
abbrev pub trouble_of : FileName → WalWhy → Option Refusal
trouble_of name why.ReadFault = None
trouble_of name (why.Damaged place kept found) = Some (Damaged name place kept found)
trouble_of name (why.Malformed place) = Some (Malformed name place)
trouble_of name why.NoMemory = None
trouble_of name (why.BadBatch place) = Some (Malformed name place)
trouble_of name (why.Gap kept found) = Some (Gap name kept found)
