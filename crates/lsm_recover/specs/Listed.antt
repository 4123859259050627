-- The logs that a folder's listing tells.
use Rattle.std.specs.Prelude.{◌≡◌, ℕ, true, nat_le, if◌then◌else◌, min, max, ◌+◌, ◌<◌, All, List, [], ◌∷◌, Option, Some, None}
use Rattle.lsm_names.specs.declared.file_names.FileName.{FileName}
use Rattle.lsm_names.specs.declared.file_names.FileName.TheVariants.{Log, Table, Manifest, Temp, Current}
use Rattle.lsm_disk.specs.Names.{is_folder}
use Rattle.lsm_disk.specs.State.{Story, state_of, names_now}
use Rattle.lsm_disk.specs.Listing.{listing}
use Rattle.lsm_disk.specs.declared.calls.Kind.{Kind}
use Rattle.lsm_disk.specs.declared.calls.Kind.TheVariants.{File, Folder}
use Rattle.lsm_disk.specs.declared.listing.Entry.{Entry}
use Rattle.std.specs.List.{filter_map, fold}
use Rattle.lsm_folder.specs.Names.{name_of, number_of}

-- these are the entries of a folder of the disk
pub record IsListing (dir : List ℕ) (story : Story) (entries : List Entry) : Type 0 where
  pub folder : is_folder (names_now (state_of story)) dir ≡ true
  pub entries_are : entries ≡ listing dir (names_now (state_of story))

-- the number of a log's name, from this number on
abbrev pub log_number : ℕ → Option FileName → Option ℕ
log_number least None = None
log_number least (Some (Log number)) = if nat_le least number then Some number else None
log_number least (Some (Table number)) = None
log_number least (Some (Manifest number)) = None
log_number least (Some (Temp number)) = None
log_number least (Some Current) = None

abbrev pub number_by : ℕ → List ℕ → Kind → Option ℕ
number_by least name File = log_number least (name_of name)
number_by least name Folder = None

-- the number of the log that an entry is, from this number on; a folder is no log
abbrev pub log_in : ℕ → Entry → Option ℕ
log_in least entry = number_by least entry.name entry.kind

-- the lesser of two numbers, where they are there
abbrev pub lesser : Option ℕ → Option ℕ → Option ℕ
lesser None other = other
lesser (Some number) None = Some number
lesser (Some number) (Some other) = Some (min number other)

-- the least number of a log among the entries, from this number on
abbrev pub next_log : ℕ → List Entry → Option ℕ
next_log least [] = None
next_log least (entry ∷ entries) = lesser (log_in least entry) (next_log least entries)

-- the names of a store's files among the entries, in their order, whatever stands there
abbrev pub names_in : List Entry → List FileName
names_in entries = filter_map (λ (entry : Entry). name_of entry.name) entries

-- the number behind that of a name; 0 where there is none
abbrev pub number_behind : Option FileName → ℕ
number_behind None = 0
number_behind (Some name) = number_of name + 1

-- the next file number: it is behind the number of each file name among the entries, and no smaller
-- than this one
abbrev pub next_number : ℕ → List Entry → ℕ
next_number next entries = fold (λ (n : ℕ) (entry : Entry). max n (number_behind (name_of entry.name))) next entries

-- the numbers of all these names come before this one
abbrev pub AreBefore : ℕ → List FileName → Type 0
AreBefore next names = All (λ (name : FileName). number_of name < next) names
