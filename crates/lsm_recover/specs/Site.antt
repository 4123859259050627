-- What an opening finds under its folder's name.
use Rattle.std.specs.Prelude.{◌≡◌, ℕ, ◌^◌, ◌<◌, ◌≤◌, Bool, true, false, is_some, List, All, Option, Some, None, Result, Ok, Err, IfErr}
use Rattle.std.specs.List.{list_all, list_any}
use Rattle.lsm_io.specs.Causes.{Rose}
use Rattle.lsm_names.specs.FileNames.{IsFileName}
use Rattle.lsm_names.specs.declared.file_names.FileName.{FileName}
use Rattle.lsm_names.specs.declared.file_names.FileName.TheVariants.{Manifest, Temp, Current}
use Rattle.lsm_disk.specs.Names.{is_folder, stands}
use Rattle.lsm_disk.specs.State.{Seen, Story, state_of, names_now}
use Rattle.lsm_disk.specs.Listing.{listing}
use Rattle.lsm_disk.specs.declared.calls.DiskCall.{DiskCall}
use Rattle.lsm_disk.specs.declared.calls.DiskCall.TheVariants.{List as Lists}
use Rattle.lsm_disk.specs.declared.calls.DiskError.{DiskError}
use Rattle.lsm_disk.specs.declared.calls.DiskError.TheVariants as disk
use Rattle.lsm_disk.specs.declared.calls.Kind.{Kind}
use Rattle.lsm_disk.specs.declared.calls.Kind.TheVariants.{File}
use Rattle.lsm_disk.specs.declared.listing.Entry.{Entry}
use Rattle.lsm_folder.specs.Files.{Files, Not_a_folder, file_at}
use Rattle.lsm_folder.specs.Names.{name_of, number_of}
use Rattle.lsm_folder.specs.Needed.{IsFresh}
use Rattle.lsm_recover.specs.declared.errors.FolderError.{FolderError}
use Rattle.lsm_recover.specs.declared.errors.FolderError.TheVariants.{DiskFault, NoFolder, NoCurrent, Missing, Changed, Short, Damaged, Malformed, TornLog, Gap, BadLevels, NoMemory}
use Rattle.lsm_recover.specs.declared.site.Site.{Site}
use Rattle.lsm_recover.specs.declared.site.Site.TheVariants as site
use Rattle.lsm_recover.specs.Answers.{files_now, place_now}
use Rattle.lsm_recover.specs.Listed.{names_in, next_number}

-- ---- by the listing

-- a name is that of CURRENT, which is a file
abbrev pub is_current_by : Option FileName → Kind → Bool
is_current_by (Some Current) File = true
is_current_by name kind = false

abbrev pub is_current : Entry → Bool
is_current entry = is_current_by (name_of entry.name) entry.kind

-- CURRENT is among the entries
unfoldable pub has_current : List Entry → Bool
has_current entries = list_any is_current entries

-- a new store may be made beside what has this name: a manifest, a temporary file, or no file of a store's name
abbrev pub is_aside_by : Option FileName → Kind → Bool
is_aside_by None kind = true
is_aside_by (Some (Manifest number)) File = true
is_aside_by (Some (Temp number)) File = true
is_aside_by (Some name) kind = false

abbrev pub is_aside : Entry → Bool
is_aside entry = is_aside_by (name_of entry.name) entry.kind

-- so it is beside each of the entries
unfoldable pub are_aside : List Entry → Bool
are_aside entries = list_all is_aside entries

-- ---- by the disk

-- whether a folder's files have CURRENT
abbrev pub has_current_file : Files → Bool
has_current_file files = is_some (file_at files Current)

-- The folder stands and is fresh. The names are those of its files, and the next number is behind theirs.
pub record IsFreshSite (dir : List ℕ) (story : Story) (names : List FileName) (next : ℕ) : Type 0 where
  pub folder : is_folder (names_now (state_of story)) dir ≡ true
  pub fresh : IsFresh (place_now dir story)
  pub names_are : names ≡ names_in (listing dir (names_now (state_of story)))
  pub next_is : next ≡ next_number 1 (listing dir (names_now (state_of story)))

-- the folder stands and has CURRENT
pub record IsStoreSite (dir : List ℕ) (story : Story) : Type 0 where
  pub folder : is_folder (names_now (state_of story)) dir ≡ true
  pub current : has_current_file (files_now dir story) ≡ true

-- the folder stands without CURRENT, and has something beside which no new store is made
pub record IsNoSite (dir : List ℕ) (story : Story) : Type 0 where
  pub folder : is_folder (names_now (state_of story)) dir ≡ true
  pub none : has_current_file (files_now dir story) ≡ false
  pub other : ¬ IsFresh (place_now dir story)

abbrev pub IsSite : List ℕ → Story → Site → Type 0
IsSite dir story site.Nothing = stands (names_now (state_of story)) dir ≡ None
IsSite dir story (site.Fresh names next) = IsFreshSite dir story names next
IsSite dir story site.Store = IsStoreSite dir story

-- Why no site is found: of what the disk holds, that a folder without CURRENT isn't fresh, or that a file has the name, which
-- can't be listed.
abbrev pub IsSiteRefusal : List ℕ → Story → FolderError → Type 0
IsSiteRefusal dir story DiskFault = Unit {0}
IsSiteRefusal dir story (NoFolder at) = ⊥
IsSiteRefusal dir story (NoCurrent at) = (at ≡ dir) × IsNoSite dir story
IsSiteRefusal dir story (Missing name) = ⊥
IsSiteRefusal dir story (Changed call path) = (call ≡ Lists) × (path ≡ dir) × (place_now dir story ≡ Not_a_folder)
IsSiteRefusal dir story (Short name kept found) = ⊥
IsSiteRefusal dir story (Damaged name place kept found) = ⊥
IsSiteRefusal dir story (Malformed name place) = ⊥
IsSiteRefusal dir story (TornLog name place) = ⊥
IsSiteRefusal dir story (Gap name kept found) = ⊥
IsSiteRefusal dir story (BadLevels level left right) = ⊥
IsSiteRefusal dir story NoMemory = Unit {0}

-- the answer is what is found, or why nothing is
abbrev pub AnswersSite : List ℕ → Story → Result Site FolderError → Type 0
AnswersSite dir story (Ok found) = IsSite dir story found
AnswersSite dir story (Err error) = IsSiteRefusal dir story error

-- ---- on every disk

-- the name is a file's, and its number comes before this one
abbrev pub IsBefore : ℕ → FileName → Type 0
IsBefore next name = IsFileName name × (number_of name < next)

-- the names of a fresh folder have numbers before the next one, which is a number or one past the last
pub record AreNumbered (names : List FileName) (next : ℕ) : Type 0 where
  pub some : 1 ≤ next
  pub most : next < 2 ^ 56
  pub before : All (IsBefore next) names

abbrev pub IsNumbered : Site → Type 0
IsNumbered site.Nothing = Unit {0}
IsNumbered (site.Fresh names next) = AreNumbered names next
IsNumbered site.Store = Unit {0}

-- how a refused call on the folder is told: the folder has changed, but for a fault and want of memory
abbrev pub changed_by : DiskCall → List ℕ → DiskError → FolderError
changed_by call dir disk.Fault = DiskFault
changed_by call dir disk.NoMemory = NoMemory
changed_by call dir other = Changed call dir

-- A fault raised the count of faults, and a refused call that of refusals. These are the errors that come.
abbrev pub HasSiteRisen : List ℕ → Seen → Seen → FolderError → Type 0
HasSiteRisen dir old new DiskFault = Rose old.faults new.faults
HasSiteRisen dir old new (NoCurrent at) = at ≡ dir
HasSiteRisen dir old new (Changed call path) = (path ≡ dir) × Rose old.refusals new.refusals
HasSiteRisen dir old new NoMemory = Unit {0}
HasSiteRisen dir old new other = ⊥

-- no count has fallen, and a refusal has its cause
pub record HasSiteCause {T : Type 0} (dir : List ℕ) (old new : Seen) (result : Result T FolderError) : Type 0 where
  pub faults_later : old.faults ≤ new.faults
  pub refusals_later : old.refusals ≤ new.refusals
  pub counted : IfErr result (HasSiteRisen dir old new)

-- ---- of a listing alone

-- the entries of a folder tell what it is
abbrev pub IsSiteOf : List Entry → Site → Type 0
IsSiteOf entries site.Nothing = ⊥
IsSiteOf entries (site.Fresh names next) = (has_current entries ≡ false) × (are_aside entries ≡ true)
    × (names ≡ names_in entries) × (next ≡ next_number 1 entries)
IsSiteOf entries site.Store = has_current entries ≡ true

-- or why it is no place for a store
abbrev pub IsNoSiteOf : List ℕ → List Entry → FolderError → Type 0
IsNoSiteOf dir entries (NoCurrent at) = (at ≡ dir) × (has_current entries ≡ false) × (are_aside entries ≡ false)
IsNoSiteOf dir entries NoMemory = Unit {0}
IsNoSiteOf dir entries other = ⊥

abbrev pub AnswersSiteOf : List ℕ → List Entry → Result Site FolderError → Type 0
AnswersSiteOf dir entries (Ok found) = IsSiteOf entries found
AnswersSiteOf dir entries (Err error) = IsNoSiteOf dir entries error

-- a listing was refused by a fault, for want of memory, or since a file has the name
abbrev pub IsNotListed : List ℕ → Story → FolderError → Type 0
IsNotListed dir story DiskFault = Unit {0}
IsNotListed dir story NoMemory = Unit {0}
IsNotListed dir story (Changed call path) = (call ≡ Lists) × (path ≡ dir) × (is_folder (names_now (state_of story)) dir ≡ false)
IsNotListed dir story other = ⊥
