-- Moving rows from memory into tables, merging tables, and removing files. None of it changes the contents. Not said here:
-- what the tables hold, which tables a compaction takes and gives, and which files are needed.
use Rattle.std.specs.Prelude.{◌≡◌, ◌≢◌, ◌⊎◌, ℕ, ◌+◌, ◌*◌, ◌^◌, ◌-◌, ◌<◌, ◌≤◌, Bool, true, false, ◌&&◌, not, ◌==◌, nat_lt, nat_le, List, [], ◌∷◌, length, filter, sum_by, All, Contains, Option, Some, None, Result, Err}
use Rattle.std.specs.List.{list_all}
use Rattle.lsm_version.specs.declared.tables.Place.{Place}
use Rattle.lsm_model.specs.declared.errors.StoreError.{StoreError}
use Rattle.lsm_model.specs.declared.errors.StoreError.TheVariants.{NumbersFull, TablesFull}
use Rattle.lsm_model.specs.declared.events.Which.{Which}
use Rattle.lsm_model.specs.declared.events.Which.TheVariants.{Shape, All as Everything}
use Rattle.lsm_model.specs.declared.replies.Flushed.{Flushed}
use Rattle.lsm_model.specs.declared.replies.Flushed.TheVariants as flush
use Rattle.lsm_model.specs.declared.replies.Begun.{Begun}
use Rattle.lsm_model.specs.declared.replies.Begun.TheVariants as begun
use Rattle.lsm_model.specs.declared.replies.Stepped.{Stepped}
use Rattle.lsm_model.specs.declared.replies.Stepped.TheVariants as merge
use Rattle.lsm_model.specs.declared.replies.Deleted.{Deleted}
use Rattle.lsm_model.specs.declared.replies.Deleted.TheVariants as delete
use Rattle.lsm_model.specs.declared.states.State.{State}
use Rattle.lsm_model.specs.declared.states.LiveTable.{LiveTable}
use Rattle.lsm_disk.specs.declared.calls.DiskCall.TheVariants as call
use Rattle.lsm_model.specs.Halting.{A_file, freeze_calls, table_calls}
use Rattle.lsm_model.specs.Moves.{Becomes, Settles, Draws, Flushes, HaltsSettling, FailsToRead}
use Rattle.lsm_model.specs.Causes.{first_of, halted, numbers_full, number_end, table_limit}
use Rattle.lsm_model.specs.Answers.{Answers}

abbrev pub is_empty : {A : Type 0} → List A → Bool
is_empty xs = length xs == 0

-- ---- freeze

-- there are active rows, and none are frozen
abbrev pub can_freeze : State → Bool
can_freeze s = not (s.active == 0) && s.frozen == 0

-- a new log has the next number
abbrev pub no_number_for_log : Bool → State → Option StoreError
no_number_for_log true s = numbers_full s
no_number_for_log false s = None

-- the active rows are frozen, and a new, empty log takes a number
abbrev pub with_frozen : State → State
with_frozen s = record s { active = 0; frozen = s.active; active_len = 0; frozen_len = s.active_len; next = s.next + 1 }

-- true exactly where there was something to freeze and room for it
abbrev pub FreezesAs : State → State → Bool → Bool → Type 0
FreezesAs s t can true = (can ≡ true) × Settles (with_frozen s) t
FreezesAs s t can false = (can ≡ false) × (t ≡ s)

abbrev pub Freezes : State → Result Bool StoreError → State → Type 0
Freezes s result t =
    Answers (first_of (halted s ∷ no_number_for_log (can_freeze s) s ∷ [])) (FreezesAs s t (can_freeze s))
    (HaltsSettling freeze_calls s t) (Becomes s t) (t ≡ s) result

-- ---- steps of a flush

-- how many numbers the table of the frozen rows takes at most: its own, and that of a manifest
abbrev pub table_draws : ℕ
table_draws = 2

-- the frozen rows are in a table; there are not more tables than may be
pub record InstallsFlush (s t : State) : Type 0 where
  pub rest : Flushes s t
  pub few : t.next ≤ s.next + table_draws
  pub active : t.active ≡ s.active
  pub frozen : t.frozen ≡ 0
  pub active_len : t.active_len ≡ s.active_len
  pub frozen_len : t.frozen_len ≡ 0
  pub tables : length t.tables ≤ table_limit
  pub newer : length t.tables ≤ length s.tables + 1

-- what a step of a flush did, where rows are frozen or not
abbrev pub FlushesAs : State → State → Flushed → Type 0
FlushesAs s t flush.NoJob = (s.frozen ≡ 0) × (t ≡ s)
FlushesAs s t flush.More = (s.frozen ≢ 0) × Draws 1 s t
FlushesAs s t flush.Installed = (s.frozen ≢ 0) × InstallsFlush s t

-- one of so many numbers was to be drawn, and none was left
pub record WantsNumber (most next : ℕ) (s t : State) : Type 0 where
  pub is : next ≡ t.next
  pub full : number_end ≤ next
  pub drawn : next < s.next + most

-- with one table more there would be too many
pub record WantsPlace (live adding : ℕ) (s : State) : Type 0 where
  pub live_is : live ≡ length s.tables
  pub adding_is : adding ≡ 1
  pub full : table_limit < live + adding

-- Where a refusal comes, the rows stay frozen, and the step may be asked again. A flush reads nothing: a disk call that fails
-- halts the store.
pub data StepsFlush (s : State) (result : Result Flushed StoreError) (t : State) : Type 0 where
  Usual : Answers (halted s) (FlushesAs s t) ((s.frozen ≢ 0) × HaltsSettling table_calls s t) (Draws table_draws s t) (t ≡ s) result
      → StepsFlush s result t
  No_number : (next : ℕ) → result ≡ Err (NumbersFull next) → halted s ≡ None → s.frozen ≢ 0 → WantsNumber table_draws next s t
      → Draws table_draws s t → StepsFlush s result t
  No_place : (live adding : ℕ) → result ≡ Err (TablesFull live adding) → halted s ≡ None → s.frozen ≢ 0 → WantsPlace live adding s
      → Draws table_draws s t → StepsFlush s result t

-- ---- the shape of levels

-- the tables of a level
abbrev pub tables_of : ℕ → List LiveTable → List LiveTable
tables_of level tables = filter (λ (table : LiveTable). table.level == level) tables

-- the bytes of a level
abbrev pub level_bytes : ℕ → List LiveTable → ℕ
level_bytes level tables = sum_by (λ (table : LiveTable). table.size) (tables_of level tables)

-- the most bytes of a level from 1 to 5: 4 MiB, and ten times that of the level above
abbrev pub level_target : ℕ → ℕ
level_target level = 4194304 * 10 ^ (level - 1)

-- every level is within its target: level 0 has fewer than 4 tables, and level 6 has no target
unfoldable pub is_in_shape : List LiveTable → Bool
is_in_shape tables =
    nat_lt (length (tables_of 0 tables)) 4
    && list_all (λ (level : ℕ). nat_le (level_bytes level tables) (level_target level)) (1 ∷ 2 ∷ 3 ∷ 4 ∷ 5 ∷ [])

-- there is nothing to compact
abbrev pub nothing_to : Which → State → Bool
nothing_to Shape s = is_in_shape s.tables
nothing_to Everything s = is_empty s.tables

-- ---- compactions

abbrev pub place_of : LiveTable → Place
place_of table = record { level = table.level; number = table.number }

-- the inputs are live tables, one at least; all of them where all were asked for
pub record AreInputs (which : Which) (tables : List LiveTable) (inputs : List Place) : Type 0 where
  pub some : inputs ≢ []
  pub live : All (λ (place : Place). (table : LiveTable) × Contains tables table × (place ≡ place_of table)) inputs
  pub all : which ≡ Everything → All (λ (table : LiveTable). Contains inputs (place_of table)) tables

-- a compaction is under way
pub record Starts (which : Which) (s t : State) : Type 0 where
  pub inputs : List Place
  pub are : AreInputs which s.tables inputs
  pub rest : t ≡ record s { merging = Some inputs; outputs = 0 }

-- it is under way already, or there is nothing to do, or it starts
abbrev pub BeginsAs : State → Which → State → Begun → Type 0
BeginsAs s which t (begun.UnderWay inputs) = (s.merging ≡ Some inputs) × (t ≡ s)
BeginsAs s which t begun.Nothing = (s.merging ≡ None) × (nothing_to which s ≡ true) × (t ≡ s)
BeginsAs s which t begun.Started = (s.merging ≡ None) × (nothing_to which s ≡ false) × Starts which s t

-- no disk call is made
abbrev pub BeginsCompaction : State → Which → Result Begun StoreError → State → Type 0
BeginsCompaction s which result t = Answers (halted s) (BeginsAs s which t) ⊥ (t ≡ s) (t ≡ s) result

-- A step of a compaction: numbers may be drawn, so many at most, and for each of them one output be begun.
pub record Merges (most : ℕ) (s t : State) : Type 0 where
  pub rest : Settles (record s { next = t.next; outputs = t.outputs }) t
  pub next : s.next ≤ t.next
  pub few : t.next ≤ s.next + most
  pub outputs : s.outputs ≤ t.outputs
  pub each : t.outputs + s.next ≤ s.outputs + t.next

-- of the live tables so many stay where the inputs go
pub record StayBeside (live : ℕ) (s : State) : Type 0 where
  pub inputs : List Place
  pub are : s.merging ≡ Some inputs
  pub live_is : live + length inputs ≡ length s.tables

-- the compaction is given up
abbrev pub without_merge : State → State
without_merge s = record s { merging = None; outputs = 0 }

-- how many numbers a step takes at most that merges so many rows: that of an output for each row, and that of a manifest
abbrev pub merge_draws : ℕ → ℕ
merge_draws rows = rows + 1

-- The outputs are live in the place of the inputs, none beside those that were begun; there are not more tables than may be.
pub record InstallsMerge (rows : ℕ) (s t : State) : Type 0 where
  pub merged : State
  pub before : Merges (merge_draws rows) s merged
  pub live : ℕ
  pub stay : StayBeside live s
  pub rest : Settles (record (without_merge merged) { tables = t.tables; manifest_len = t.manifest_len }) t
  pub newer : length t.tables ≤ live + merged.outputs
  pub tables : length t.tables ≤ table_limit

-- a reading failed, and the compaction is given up
pub record FailsToMerge (rows : ℕ) (s t : State) : Type 0 where
  pub merged : State
  pub before : Merges rows s merged
  pub fails : FailsToRead (without_merge merged) t

-- a changing call failed, and halts the store; or a reading one did
abbrev pub FailsMerging : ℕ → State → State → Type 0
FailsMerging rows s t = HaltsSettling table_calls s t ⊎ FailsToMerge rows s t

-- what a step of a compaction did, where one is under way or none
abbrev pub MergesAs : ℕ → State → State → Stepped → Type 0
MergesAs rows s t merge.NoJob = (s.merging ≡ None) × (t ≡ s)
MergesAs rows s t merge.More = (s.merging ≢ None) × Merges rows s t
MergesAs rows s t merge.Installed = (s.merging ≢ None) × InstallsMerge rows s t

-- with the outputs that were begun, or with fewer, there would be too many tables
pub record LacksRoom (rows live adding : ℕ) (s t : State) : Type 0 where
  pub merged : State
  pub before : Merges rows s merged
  pub stay : StayBeside live s
  pub outputs : adding ≤ merged.outputs
  pub full : table_limit < live + adding
  pub rest : Becomes (without_merge merged) t

-- Where tables are too many the compaction is given up; where a number is wanting the step may be asked again. A failed
-- reading gives it up, and a failed change halts the store.
pub data StepsCompaction (s : State) (rows : ℕ) (result : Result Stepped StoreError) (t : State) : Type 0 where
  Usual : Answers (halted s) (MergesAs rows s t) ((s.merging ≢ None) × FailsMerging rows s t) (Merges (merge_draws rows) s t) (t ≡ s) result
      → StepsCompaction s rows result t
  No_number : (next : ℕ) → result ≡ Err (NumbersFull next) → halted s ≡ None → s.merging ≢ None → WantsNumber (merge_draws rows) next s t
      → Merges (merge_draws rows) s t → StepsCompaction s rows result t
  No_place : (live adding : ℕ) → result ≡ Err (TablesFull live adding) → halted s ≡ None → s.merging ≢ None → LacksRoom rows live adding s t
      → StepsCompaction s rows result t

-- ---- removing files

-- nothing while deletion is disabled; else one file that isn't needed, or there is none
abbrev pub DeletesAs : State → State → Deleted → Type 0
DeletesAs s t (delete.Disabled count) = (count ≡ s.disables) × (s.disables ≢ 0) × (t ≡ s)
DeletesAs s t (delete.Removed name) = (s.disables ≡ 0) × Settles s t
DeletesAs s t delete.Nothing = (s.disables ≡ 0) × Settles s t

-- it takes no memory
abbrev pub Deletes : State → Result Deleted StoreError → State → Type 0
Deletes s result t =
    Answers (halted s) (DeletesAs s t) ((s.disables ≡ 0) × HaltsSettling ((call.Unlink, A_file) ∷ []) s t) ⊥ (t ≡ s) result
