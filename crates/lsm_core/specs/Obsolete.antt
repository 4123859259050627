-- Which of a store's files is the next one that nothing needs.
use Rattle.std.specs.Prelude.{◌≡◌, ℕ, ◌==◌, nat_le, Bool, true, false, ◌||◌, is_some, if◌then◌else◌, List, [], ◌∷◌, Option, Some, None}
use Rattle.std.specs.List.{list_any, fold}
use Rattle.std.specs.FinMap as finmap
use Rattle.std.specs.Cmp.Lexicographic.{slice_cmp}
use Rattle.std.specs.Ordering.{nat_cmp}
use Rattle.std.specs.declared.cmp.Ordering.{Ordering}
use Rattle.std.specs.declared.cmp.Ordering.TheVariants.{Less, Equal, Greater}
use Rattle.lsm_names.specs.FileNames.{spelled}
use Rattle.lsm_names.specs.declared.file_names.FileName.{FileName}
use Rattle.lsm_names.specs.declared.file_names.FileName.TheVariants.{Log, Table, Manifest, Temp, Current}
use Rattle.lsm_refine.specs.Calls.{lists_name}
use Rattle.lsm_refine.specs.Kept.{KeptPin, Unfinished, Kept}
use Rattle.lsm_refine.specs.Obsolete.{IsObsolete, IsNextObsolete}

-- ---- what a deletion asks

-- the table that is being written, if there is one
abbrev pub written_table : Option ℕ → List Unfinished
written_table None = []
written_table (Some number) = record { number = number; bytes = [] } ∷ []

-- what a catalog keeps, with the known names, the manifest's number and the table that is being written
abbrev pub deleting : List FileName → ℕ → Option ℕ → Kept → Kept
deleting known manifest writing kept =
    record kept { known = known; manifest = manifest; unfinished = written_table writing }

-- it is the next obsolete name, or no name is obsolete
abbrev pub IsNext : Kept → Option FileName → Type 0
IsNext kept (Some name) = IsNextObsolete kept name
IsNext kept None = (name : FileName) → ¬ IsObsolete kept name

-- ---- name by name

-- one of the pins holds the file
unfoldable pub are_holding : List KeptPin → FileName → Bool
are_holding pins name = list_any (λ (pin : KeptPin). lists_name name pin.files) pins

abbrev pub is_writing : Option ℕ → ℕ → Bool
is_writing None number = false
is_writing (Some own) number = own == number

-- the file is needed by something but pins, or is being written
abbrev pub is_needed : Kept → ℕ → Option ℕ → FileName → Bool
is_needed kept manifest writing (Log number) = nat_le kept.log number
is_needed kept manifest writing (Table number) = is_some (finmap.get kept.version number) || is_writing writing number
is_needed kept manifest writing (Manifest number) = number == manifest
is_needed kept manifest writing (Temp number) = false
is_needed kept manifest writing Current = true

-- or a pin holds it
abbrev pub is_used : Kept → ℕ → Option ℕ → FileName → Bool
is_used kept manifest writing name = is_needed kept manifest writing name || are_holding kept.pins name

abbrev pub earlier_by : Ordering → FileName → FileName → FileName
earlier_by Greater first name = name
earlier_by Less first name = first
earlier_by Equal first name = first

-- the earlier of two names in the order of their bytes
abbrev pub earlier : FileName → FileName → FileName
earlier first name = earlier_by (slice_cmp nat_cmp (spelled first) (spelled name)) first name

abbrev pub earlier_of : Option FileName → FileName → FileName
earlier_of None name = name
earlier_of (Some first) name = earlier first name

-- the first of the names that aren't used, once this name is looked at too
abbrev pub with_name : Kept → ℕ → Option ℕ → Option FileName → FileName → Option FileName
with_name kept manifest writing first name =
    if is_used kept manifest writing name then first else Some (earlier_of first name)

-- the first of the names that aren't used among these
abbrev pub first_unused : Kept → ℕ → Option ℕ → Option FileName → List FileName → Option FileName
first_unused kept manifest writing first names = fold (with_name kept manifest writing) first names
