-- File names as keys, and the name that a text is.
use Rattle.std.specs.Prelude.{ℕ, Bool, ◌&&◌, List, [], ◌∷◌, ◌++◌, Option, Some, None, if◌then◌else◌, refl}
use Rattle.std.proofs.Common.{ap}
use Rattle.std.specs.Ordering.{nat_cmp, ordering_then}
use Rattle.std.specs.Cmp.{IsTotalOrder, nat_cmp_total}
use Rattle.std.specs.declared.cmp.Ordering.{Ordering}
use Rattle.std.specs.Char.{is_ascii_digit}
use Rattle.std.specs.List.{filter, find}
use Rattle.std.specs.Str.{bytes_eq}
use Rattle.std.specs.Str.Parse.{digits_value}
use Rattle.std.proofs.lemmas.Cmp.{on_total, then_total}
use Rattle.std.proofs.lemmas.Map.Lookups.{exact_unsigned}
use Rattle.std.specs.FinMap as map
use Rattle.lsm_names.specs.FileNames.{spelled, is_file_number}
use Rattle.lsm_names.specs.declared.file_names.FileName.{FileName}
use Rattle.lsm_names.specs.declared.file_names.FileName.TheVariants.{Log, Table, Manifest, Temp, Current}

-- ---- their order

abbrev pub kind_of : FileName → ℕ
kind_of (Log n) = 0
kind_of (Table n) = 1
kind_of (Manifest n) = 2
kind_of (Temp n) = 3
kind_of Current = 4

-- a name's number; CURRENT has none
abbrev pub number_of : FileName → ℕ
number_of (Log n) = n
number_of (Table n) = n
number_of (Manifest n) = n
number_of (Temp n) = n
number_of Current = 0

-- by kind, and then by number: the logs stand in the order of their numbers
abbrev pub name_cmp : FileName → FileName → Ordering
name_cmp a b = ordering_then (nat_cmp (kind_of a) (kind_of b)) (nat_cmp (number_of a) (number_of b))

pub names_total : IsTotalOrder name_cmp
names_total = then_total (on_total kind_of nat_cmp_total) (on_total number_of nat_cmp_total)

-- only equal names tie
pub names_exact : map.IsAntisymmetric name_cmp
names_exact (Log m) (Log n) e = ap Log (exact_unsigned m n e)
names_exact (Table m) (Table n) e = ap Table (exact_unsigned m n e)
names_exact (Manifest m) (Manifest n) e = ap Manifest (exact_unsigned m n e)
names_exact (Temp m) (Temp n) e = ap Temp (exact_unsigned m n e)
names_exact Current Current e = refl
names_exact a b e = cc

-- the number of a manifest's name; other names have none
abbrev pub manifest_number : FileName → Option ℕ
manifest_number (Log number) = None
manifest_number (Table number) = None
manifest_number (Manifest number) = Some number
manifest_number (Temp number) = None
manifest_number Current = None

-- ---- from a text to its name

-- the number that the digits of a text make, whatever else stands in it
unfoldable pub digits_in : List ℕ → ℕ
digits_in text = digits_value 10 (filter is_ascii_digit text)

-- the names that have this number, and CURRENT
abbrev pub names_of : ℕ → List FileName
names_of n = Log n ∷ Table n ∷ Manifest n ∷ Temp n ∷ Current ∷ []

-- the text is the spelling of this name, and the name's number is a file's
abbrev pub is_spelling : List ℕ → FileName → Bool
is_spelling text Current = bytes_eq text (spelled Current)
is_spelling text name = is_file_number (number_of name) && bytes_eq text (spelled name)

-- the name of which a text is the spelling
unfoldable pub name_of : List ℕ → Option FileName
name_of text = find (is_spelling text) (names_of (digits_in text))

-- what CURRENT holds for the manifest of this number: its name and a newline
unfoldable pub current_text : ℕ → List ℕ
current_text number = spelled (Manifest number) ++ 10 ∷ []

-- the number of the manifest whose name and a newline a text is
unfoldable pub manifest_in : List ℕ → Option ℕ
manifest_in text = if is_file_number (digits_in text) && bytes_eq text (current_text (digits_in text)) then Some (digits_in text) else None
