-- How a store answers for a folder that could not be read.
use Rattle.lsm_model.specs.declared.errors.StoreError.{StoreError}
use Rattle.lsm_model.specs.declared.errors.StoreError.TheVariants as error
use Rattle.lsm_recover.specs.declared.errors.FolderError.{FolderError}
use Rattle.lsm_recover.specs.declared.errors.FolderError.TheVariants as read

-- each trouble of a reading is answered by the store's refusal of the same name, with the same facts
abbrev pub folder_error : FolderError → StoreError
folder_error read.DiskFault = error.DiskFault
folder_error (read.NoFolder dir) = error.NoFolder dir
folder_error (read.NoCurrent dir) = error.NoCurrent dir
folder_error (read.Missing name) = error.Missing name
folder_error (read.Changed made path) = error.Changed made path
folder_error (read.Short name kept found) = error.Short name kept found
folder_error (read.Damaged name place kept found) = error.Damaged name place kept found
folder_error (read.Malformed name place) = error.Malformed name place
folder_error (read.TornLog name place) = error.TornLog name place
folder_error (read.Gap name kept found) = error.Gap name kept found
folder_error (read.BadLevels level left right) = error.BadLevels level left right
folder_error read.NoMemory = error.NoMemory
