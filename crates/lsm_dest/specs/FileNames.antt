-- Names that have a spelling, by a test.
use Rattle.std.specs.Prelude.{Bool, true}
use Rattle.lsm_names.specs.Numbers.{is_file_number}
use Rattle.lsm_names.specs.declared.file_names.FileName.{FileName}
use Rattle.lsm_names.specs.declared.file_names.FileName.TheVariants.{Log, Table, Manifest, Temp, Current}

-- its number, if it has one, is a file's
abbrev pub is_spelled : FileName → Bool
is_spelled (Log number) = is_file_number number
is_spelled (Table number) = is_file_number number
is_spelled (Manifest number) = is_file_number number
is_spelled (Temp number) = is_file_number number
is_spelled Current = true
