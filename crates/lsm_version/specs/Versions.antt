-- Versions: which tables are live, and what edits make of them.
use Rattle.std.specs.Prelude.{ℕ, Bool, false, ◌==◌, List, [], ◌∷◌, Option, Some, None, Result, Ok, Err, if◌then◌else◌, refl}
use Rattle.std.specs.List.{fold}
use Rattle.std.specs.Coded.{Coded, code_by, coded×, coded_ℕ, coded_list}
use Rattle.std.specs.FinMap as finite
use Rattle.lsm_version.specs.declared.tables.TableInfo.{TableInfo}
use Rattle.lsm_version.specs.declared.tables.Add.{Add}
use Rattle.lsm_version.specs.declared.tables.Place.{Place}
use Rattle.lsm_version.specs.declared.edits.Edit.{Edit}
use Rattle.lsm_version.specs.declared.tables.Placed.{Placed}
use Rattle.lsm_version.specs.declared.refusals.ApplyError.{ApplyError}
use Rattle.lsm_version.specs.declared.refusals.ApplyError.TheVariants.{BadEdit, BadLevels}
use Rattle.lsm_version.specs.Levels.{Tables, Overlap, overlaps}

abbrev pub coded_bytes : Coded (List ℕ)
coded_bytes = coded_list coded_ℕ

abbrev pub coded_table : Coded TableInfo
coded_table =
    code_by (ℕ × (List ℕ × (ℕ × (List ℕ × List ℕ)))) (coded× coded_ℕ (coded× coded_bytes (coded× coded_ℕ (coded× coded_bytes coded_bytes))))
    (λ t. (t.number, (t.session, (t.size, (t.smallest, t.largest)))))
    (λ p. record { number = p.0; session = p.1.0; size = p.1.1.0; smallest = p.1.1.1.0; largest = p.1.1.1.1 }) (λ _. refl)

abbrev pub coded_placed : Coded Placed
coded_placed = code_by (ℕ × TableInfo) (coded× coded_ℕ coded_table) (λ p. (p.level, p.info))
    (λ p. record { level = p.0; info = p.1 }) (λ _. refl)

abbrev pub coded_tables : Coded Tables
coded_tables = finite.code coded_ℕ coded_placed

-- the version with no tables
abbrev pub empty_version : Tables
empty_version = finite.empty

-- the table that stands there, if any, is of this level
abbrev pub is_of_level : ℕ → Option Placed → Bool
is_of_level level None = false
is_of_level level (Some placed) = placed.level == level

-- a table dropped is gone; it must have stood at its level
unfoldable pub dropped : Option Tables → Place → Option Tables
dropped None place = None
dropped (Some tables) place =
    if is_of_level place.level (finite.get tables place.number) then Some (finite.remove tables place.number) else None

-- a table added stands at its level; none of its number may stand
unfoldable pub added : Option Tables → Add → Option Tables
added None add = None
added (Some tables) add =
    if finite.contains_key tables add.table.number then None
    else Some (finite.insert tables add.table.number (record { level = add.level; info = add.table }))

-- the tables after the drops and then the adds; None where a table dropped isn't there or one added is
unfoldable pub changed : Tables → Edit → Option Tables
changed tables edit = fold added (fold dropped (Some tables) edit.drops) edit.adds

-- the first of a list
abbrev pub first_of : {A : Type 0} → List A → Option A
first_of [] = None
first_of (x ∷ xs) = Some x

-- the first pair that overlaps is a refusal
abbrev pub refused_by : Tables → List Overlap → Result Tables ApplyError
refused_by tables [] = Ok tables
refused_by tables (pair ∷ more) = Err (BadLevels pair.level pair.left pair.right)

-- tables that an edit left, where their levels are in order
abbrev pub leveled : Option Tables → Result Tables ApplyError
leveled None = Err (BadEdit 0)
leveled (Some tables) = refused_by tables (overlaps tables)

-- a version after an edit, or why the edit is refused
unfoldable pub applied : Tables → Edit → Result Tables ApplyError
applied tables edit = leveled (changed tables edit)

-- the version after an edit that follows others
abbrev pub applied_after : Result Tables ApplyError → Edit → Result Tables ApplyError
applied_after (Ok tables) edit = applied tables edit
applied_after (Err e) edit = Err e

-- the version that edits make of the empty one, or the first refusal
unfoldable pub version_after : List Edit → Result Tables ApplyError
version_after edits = fold applied_after (Ok empty_version) edits

-- the numbers that edits have set
pub record Numbers : Type 0 where
  pub log : Option ℕ
  pub next : Option ℕ
  pub last : Option ℕ

-- what an edit sets goes before what was set
abbrev pub later : Option ℕ → Option ℕ → Option ℕ
later was None = was
later was (Some n) = Some n

abbrev pub numbers_set : Numbers → Edit → Numbers
numbers_set numbers edit = record {
  log = later numbers.log edit.log;
  next = later numbers.next edit.next;
  last = later numbers.last edit.last;
}

-- the log number, the next file number and the last sequence after edits, each None until an edit sets it
unfoldable pub numbers_after : List Edit → Numbers
numbers_after edits = fold numbers_set (record { log = None; next = None; last = None }) edits
