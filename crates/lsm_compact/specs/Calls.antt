-- The calls that a compaction makes of its port, and the files that they make.
use Rattle.std.specs.Prelude.{◌≡◌, ℕ, ◌^◌, ◌<◌, ◌≤◌, nat_eq, if◌then◌else◌, true, List, [], ◌∷◌, ◌++◌, length, map, All, unwrap_or, Option, Some, None, Result, Ok, Err, IfErr, option_map}
use Rattle.std.specs.List.{fold}
use Rattle.std.specs.List.Sorted.{IsStrictlySortedBy}
use Rattle.lsm_io.specs.Causes.{Rose}
use Rattle.lsm_rows.specs.declared.rows.Row.{Row}
use Rattle.lsm_rows.specs.Limits.{key_limit, value_limit}
use Rattle.lsm_rows.specs.Replay.{key_cmp}
use Rattle.lsm_block.specs.Runs.{comes_after}
use Rattle.lsm_block.specs.TableText.{row_entry}
use Rattle.lsm_disk.specs.declared.calls.DiskRefusal.{DiskRefusal}
use Rattle.lsm_disk.specs.declared.calls.DiskError.TheVariants.{Fault}
use Rattle.lsm_table.specs.declared.faults.TableFault.TheVariants.{ReadFault}
use Rattle.lsm_compact.specs.declared.port.PortFault.{PortFault}
use Rattle.lsm_compact.specs.declared.port.PortFault.TheVariants.{Table, Disk}

-- a call with its answer
pub data Called : Type 0 where
  Read : (number : ℕ) (after : Option (List ℕ)) (count : ℕ) (answer : Result (List Row) PortFault) → Called
  Drew : (answer : Result (ℕ × List ℕ) PortFault) → Called
  Appended : (number : ℕ) (bytes : List ℕ) (answer : Result (Unit {0}) PortFault) → Called
  Sealed : (number : ℕ) (answer : Result (Unit {0}) PortFault) → Called

-- ---- rows of a run

-- a row's key and value are within their limits, and its sequence is one of a store
pub record IsRowOfStore (row : Row) : Type 0 where
  pub key : length row.key ≤ key_limit
  pub value : length (unwrap_or row.value []) ≤ value_limit
  pub sequence : row.sequence < 2 ^ 56

-- rows of a table in their order, at most so many, all after an internal key
pub record IsRun (after : Option (List ℕ)) (count : ℕ) (run : List Row) : Type 0 where
  pub few : length run ≤ count
  pub ascend : IsStrictlySortedBy key_cmp (map (λ row. row.key) run)
  pub behind : All (λ row. comes_after after (row_entry row).key ≡ true) run
  pub rows : All IsRowOfStore run

-- ---- causes

-- the count of faults never falls, and where a call failed for the outside it rose
pub record HasCause {T : Type 0} (before now : ℕ) (result : Result T PortFault) : Type 0 where
  pub later : before ≤ now
  pub read : IfErr result (λ fault. (number : ℕ) → fault ≡ Table number ReadFault → Rose before now)
  pub disk : IfErr result (λ fault. (refusal : DiskRefusal) → fault ≡ Disk refusal → refusal.why ≡ Fault → Rose before now)

-- ---- files

-- a table's file: its number, the session that it was drawn with, and its bytes
pub record Made : Type 0 where
  pub number : ℕ
  pub session : List ℕ
  pub bytes : List ℕ

-- the files that were made and sealed, in their order, and the one that was begun since
pub record Files : Type 0 where
  pub sealed : List Made
  pub begun : Option Made

abbrev pub no_files : Files
no_files = record { sealed = []; begun = None }

-- bytes come behind those of a file, where it is the one of this number
abbrev pub longer : ℕ → List ℕ → Made → Made
longer number bytes made = if nat_eq made.number number then record made { bytes = made.bytes ++ bytes } else made

-- the begun file is sealed, where it is the one of this number
abbrev pub sealed_as : ℕ → List Made → Option Made → Files
sealed_as number sealed None = record { sealed = sealed; begun = None }
sealed_as number sealed (Some made) =
    if nat_eq made.number number then record { sealed = sealed ++ made ∷ []; begun = None } else record
    { sealed = sealed; begun = Some made }

-- what a call makes of the files; one that is refused makes nothing that counts
unfoldable pub did : Files → Called → Files
did files (Read number after count answer) = files
did files (Drew (Ok drawn)) = record files { begun = Some (record { number = drawn.0; session = drawn.1; bytes = [] }) }
did files (Drew (Err fault)) = files
did files (Appended number bytes (Ok done)) = record files { begun = option_map (longer number bytes) files.begun }
did files (Appended number bytes (Err fault)) = files
did files (Sealed number (Ok done)) = sealed_as number files.sealed files.begun
did files (Sealed number (Err fault)) = files

-- the files that calls make
unfoldable pub files_after : List Called → Files
files_after calls = fold did no_files calls

-- ---- refusals

-- the fault that a call answered
unfoldable pub fault_of : Called → Option PortFault
fault_of (Read number after count (Ok run)) = None
fault_of (Read number after count (Err fault)) = Some fault
fault_of (Drew (Ok drawn)) = None
fault_of (Drew (Err fault)) = Some fault
fault_of (Appended number bytes (Ok done)) = None
fault_of (Appended number bytes (Err fault)) = Some fault
fault_of (Sealed number (Ok done)) = None
fault_of (Sealed number (Err fault)) = Some fault
