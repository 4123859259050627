-- The folder that restored parts are, as a backup holds it.
use Rattle.std.specs.List.{filter}
use Rattle.std.specs.Prelude.{Bool, true, false, not, List, [], ◌∷◌, ◌++◌}
use Rattle.std.specs.FinMap as map
use Rattle.lsm_names.specs.declared.file_names.FileName.{FileName}
use Rattle.lsm_names.specs.declared.file_names.FileName.TheVariants.{Current}
use Rattle.lsm_disk.specs.Building.{Part}
use Rattle.lsm_folder.specs.Files.{Item, A_file, Files}

-- each part is a file under its name
abbrev pub entries_of_parts : List Part → List (FileName × Item)
entries_of_parts [] = []
entries_of_parts (part ∷ parts) = (part.name, A_file part.bytes) ∷ entries_of_parts parts

-- the folder of these parts
abbrev pub files_of : List Part → Files
files_of parts = map.from_entries (entries_of_parts parts)

abbrev pub is_current_name : FileName → Bool
is_current_name Current = true
is_current_name name = false

-- the parts with `CURRENT` first, the others in their order
abbrev pub current_first : List Part → List Part
current_first parts = filter (λ part. is_current_name part.name) parts ++ filter (λ part. not (is_current_name part.name)) parts
