-- The file numbers that an opening draws, and how many tables there may be.
use Rattle.std.specs.Prelude.{◌≡◌, ◌⊎◌, ℕ, ◌+◌, ◌-◌, ◌^◌, ◌<◌, ◌≤◌, true, is_some, min, List, [], ◌∷◌}
use Rattle.std.specs.FinMap as finmap
use Rattle.lsm_rows.specs.declared.rows.Row.{Row}
use Rattle.lsm_version.specs.Levels.{Tables}
use Rattle.lsm_opening.specs.declared.errors.OpenError.{OpenError}
use Rattle.lsm_opening.specs.declared.errors.OpenError.TheVariants as error
use Rattle.lsm_opening.specs.declared.found.Found.{Found}
use Rattle.lsm_opening.specs.declared.numbers.Numbers.{Numbers}

-- how many tables these rows make: one, where there are any
abbrev pub tables_of : List Row → ℕ
tables_of [] = 0
tables_of (row ∷ rows) = 1

-- the numbers of all tables come before this one
abbrev pub AreTablesBefore : ℕ → Tables → Type 0
AreTablesBefore next tables = (number : ℕ) → is_some (finmap.get tables number) ≡ true → number < next

-- the number is 1, or comes right behind that of a table
abbrev pub IsBehindOne : ℕ → Tables → Type 0
IsBehindOne next tables = (next ≡ 1) ⊎ ((number : ℕ) × (is_some (finmap.get tables number) ≡ true) × (next ≡ number + 1))

-- The first number is behind those of all names and tables; the manifest has it, or the one behind that of the rows' table;
-- the log comes next; and each is a file's. The tables are as many as may be at most.
pub record IsDrawn (found : Found) (numbers : Numbers) : Type 0 where
  pub later : found.next ≤ numbers.first
  pub some : 1 ≤ numbers.first
  pub tables : AreTablesBefore numbers.first found.version
  pub manifest : numbers.manifest ≡ numbers.first + tables_of found.rows
  pub log : numbers.log ≡ numbers.manifest + 1
  pub most : numbers.log + 1 < 2 ^ 56
  pub few : finmap.len found.version + tables_of found.rows ≤ 4096

-- so many tables would be too many; or the last number that is wanted isn't there, or the last sequence isn't one of a row
abbrev pub IsNotDrawn : Found → OpenError → Type 0
IsNotDrawn found (error.Folder why) = ⊥
IsNotDrawn found (error.Disk refused) = ⊥
IsNotDrawn found (error.TablesFull live adding) = (4096 < live + adding) × (adding ≤ 1) ×
    (live ≡ min (finmap.len found.version) (2 ^ 32 - 1))
    × (adding ≡ tables_of found.rows)
IsNotDrawn found (error.NumbersFull next) = (next ≡ 2 ^ 56 - 1) × ((first : ℕ)
    × ((first ≡ found.next) ⊎ IsBehindOne first found.version) × (2 ^ 56 ≤ first + tables_of found.rows + 2))
