-- The names of the files in a store's folder.
use Rattle.std.specs.Prelude.{ℕ, List, ◌++◌, codes, IsTrue}
use Rattle.lsm_names.specs.declared.file_names.FileName.{FileName}
use Rattle.lsm_names.specs.declared.file_names.FileName.TheVariants.{Log, Table, Manifest, Temp, Current}
pub use Rattle.lsm_names.specs.Numbers.{six_digits, is_file_number}

-- the one spelling of a name
unfoldable pub spelled : FileName → List ℕ
spelled (Log number) = six_digits number ++ codes ".log"
spelled (Table number) = six_digits number ++ codes ".sst"
spelled (Manifest number) = codes "MANIFEST-" ++ six_digits number
spelled (Temp number) = six_digits number ++ codes ".dbtmp"
spelled Current = codes "CURRENT"

-- its number, if it has one, is a file's
abbrev pub IsFileName : FileName → Type 0
IsFileName (Log number) = IsTrue (is_file_number number)
IsFileName (Table number) = IsTrue (is_file_number number)
IsFileName (Manifest number) = IsTrue (is_file_number number)
IsFileName (Temp number) = IsTrue (is_file_number number)
IsFileName Current = Unit {0}
