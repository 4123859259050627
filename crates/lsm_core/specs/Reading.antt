-- What a reading of live tables does, at each of its exits.
use Rattle.std.specs.Prelude.{◌≡◌, ◌⊎◌, ℕ, ◌<◌, ◌≤◌, true, is_some, List, [], length, Option, Some, None, Result, IfErr, MatchResult}
use Rattle.std.specs.Ordering.{nat_cmp}
use Rattle.std.specs.FinMap as finmap
use Rattle.lsm_io.specs.Causes.{Rose}
use Rattle.lsm_names.specs.declared.file_names.FileName.{FileName}
use Rattle.lsm_rows.specs.declared.rows.Row.{Row}
use Rattle.lsm_rows.specs.Contents.{newest}
use Rattle.lsm_disk.specs.State as disk
use Rattle.lsm_disk.specs.State.{Seen, Story, state_of}
use Rattle.lsm_disk.specs.declared.calls.DiskError.{DiskError}
use Rattle.lsm_disk.specs.declared.calls.DiskError.TheVariants as why
use Rattle.lsm_disk.specs.Viewed.{Viewed, opened}
use Rattle.lsm_frame.specs.Reader.{Stays}
use Rattle.lsm_table.specs.declared.faults.TableFault.{TableFault}
use Rattle.lsm_table.specs.declared.faults.TableFault.TheVariants.{ReadFault, Damaged, Malformed, NoMemory}
use Rattle.lsm_table.specs.Opening as table
use Rattle.lsm_table.specs.WholeTables.{IsTable}
use Rattle.lsm_table.specs.Tables.{Opened}
use Rattle.lsm_version.specs.declared.tables.Placed.{Placed}
use Rattle.lsm_version.specs.Levels.{Tables}
use Rattle.lsm_model.specs.declared.errors.StoreError.{StoreError}
use Rattle.lsm_model.specs.declared.errors.StoreError.TheVariants as error
use Rattle.lsm_refine.specs.Kept.{Kept, Shown}
use Rattle.lsm_refine.specs.Sane.{IsWholeFile, HasTable, HasTables}
use Rattle.lsm_refine.specs.Good.{IsUnchanged}
use Rattle.lsm_refine.specs.Refused.{CountsHold}
use Rattle.lsm_refine.specs.Caused.{ReadBy}
use Rattle.lsm_core.specs.Catalogs.{IsWholeView, kept_with}

-- what is seen of open tables' views, by the tables' numbers
abbrev pub Views : Type 0
Views = finmap.FinMap nat_cmp Viewed

-- ---- one file

-- the refusals that say nothing of any file
unfoldable pub IsOutside : StoreError → Type 0
IsOutside error.DiskFault = Unit {0}
IsOutside error.NoMemory = Unit {0}
IsOutside other = ⊥

-- what a store answers where a table can't be read
abbrev pub read_error : FileName → TableFault → StoreError
read_error name ReadFault = error.DiskFault
read_error name (Damaged place kept found) = error.Damaged name place kept found
read_error name (Malformed place) = error.Malformed name place
read_error name NoMemory = error.NoMemory

-- what it answers where a disk call refuses a file that should have so many bytes
abbrev pub file_error : FileName → ℕ → DiskError → StoreError
file_error name len why.Fault = error.DiskFault
file_error name len (why.Short found) = error.Short name len found
file_error name len why.NoMemory = error.NoMemory
file_error name len other = error.Missing name

-- A disk call or a view failed, which raised the disk's count; or the file isn't there, and its
-- count of refusals rose; or the file as it was read is no table; or memory was wanting.
unfoldable pub IsUnread : FileName → Seen → Seen → StoreError → Type 0
IsUnread name old new error.DiskFault = Rose old.faults new.faults
IsUnread name old new (error.Missing other) = (other ≡ name) × Rose old.refusals new.refusals
IsUnread name old new (error.Short other kept found) = other ≡ name
IsUnread name old new (error.Damaged other place kept found) = other ≡ name
IsUnread name old new (error.Malformed other place) = other ≡ name
IsUnread name old new error.NoMemory = Unit {0}
IsUnread name old new other = ⊥

-- What the disk tells stays, and no count falls. A refusal has its cause, and where the disk holds
-- what was wanted it says nothing of the file.
pub record Asks {T : Type 0} (name : FileName) (Holds : disk.State → Type 0) (old new : Seen) (result : Result T StoreError)
    : Type 0 where
  pub told : new.told ≡ old.told
  pub faults : old.faults ≤ new.faults
  pub refusals : old.refusals ≤ new.refusals
  pub cause : IfErr result (IsUnread name old new)
  pub outside : (story : Story) → old.told ≡ Some story → Holds (state_of story) → IfErr result IsOutside

-- what the disk tells stays, and no count falls
pub record Keeps (old new : Seen) : Type 0 where
  pub told : new.told ≡ old.told
  pub faults : old.faults ≤ new.faults
  pub refusals : old.refusals ≤ new.refusals

-- the disk holds a file of this length
pub record HasFile (path : List ℕ) (len : ℕ) (d : disk.State) : Type 0 where
  pub bytes : List ℕ
  pub file : IsWholeFile d path bytes
  pub len_is : length bytes ≡ len

-- the disk holds the table of this number, as it is placed
pub record HoldsTable (home : List ℕ) (number : ℕ) (placed : Placed) (d : disk.State) : Type 0 where
  pub kept : Kept
  pub rows : List Row
  pub has : HasTable d home kept number placed rows

-- the view is one of the file, of this length, and whole
pub record IsOpened (path : List ℕ) (len : ℕ) (old : Seen) (view : Viewed) : Type 0 where
  pub bytes : view.bytes ≡ (opened path len old.told).bytes
  pub whole : IsWholeView view

-- the view shows a whole table of this number and this session
pub record ShowsTable (view : Viewed) (number : ℕ) (session : List ℕ) : Type 0 where
  pub bytes : List ℕ
  pub rows : List Row
  pub told : view.bytes ≡ Some bytes
  pub table : IsTable bytes rows number session

-- the table says that it has this number, and its view tells these bytes, and all of them
pub record IsTableOf (bytes : Option (List ℕ)) (number : ℕ) (table : Opened) : Type 0 where
  pub number_is : table.properties.number ≡ number
  pub bytes_are : table.viewed.bytes ≡ bytes
  pub whole : IsWholeView table.viewed

-- the table has this number and this session
abbrev pub IsNamed : ℕ → List ℕ → Opened → Type 0
IsNamed number session table = (table.properties.number ≡ number) × (table.properties.session ≡ session)

-- ---- open tables

-- The open table of this number was read. Its view stays, and where it tells a whole table the answer
-- is what is found in its rows.
pub record ReadsTable {T : Type 0} (Finds : List Row → T → Type 0) (number : ℕ) (old new : Views) (result : Result T TableFault)
    : Type 0 where
  pub was : Viewed
  pub there : finmap.get old number ≡ Some was
  pub now : Viewed
  pub new_is : new ≡ finmap.insert old number now
  pub stays : Stays was now
  pub exact : (text : List ℕ) (rows : List Row) (named : ℕ) (session : List ℕ) → was.bytes ≡ Some text → IsTable text rows
      named session
      → MatchResult result (Finds rows) table.IsOutside
  pub cause : IfErr result (λ e. e ≡ ReadFault → Rose was.faults now.faults)

-- The open table of this number was looked into for a key: the answer is the newest of its rows that
-- have the key.
abbrev pub LooksInto : ℕ → List ℕ → Views → Views → Result (Option Row) TableFault → Type 0
LooksInto number key old new result = ReadsTable (λ rows row. row ≡ newest key rows) number old new result

-- The open table's view failed, and is closed; where it had failed the disk's count rises. Else
-- nothing was done.
abbrev pub ClosesFailed : ℕ → TableFault → Seen → Seen → Views → Views → Type 0
ClosesFailed number ReadFault old new views later =
    Keeps old new × (later ≡ finmap.remove views number)
    × ((view : Viewed) → finmap.get views number ≡ Some view → 0 < view.faults → Rose old.faults new.faults)
ClosesFailed number other old new views later = (new ≡ old) × (later ≡ views)

-- ---- all exits

-- what is kept where nothing is but a version and the views of its tables
abbrev pub only_tables : Tables → Views → Kept
only_tables version views = kept_with version views 0 0 [] 0 0

-- what is seen of a disk and a store's tables
abbrev pub seen_with : Seen → List ℕ → Tables → Views → Shown
seen_with seen home version views = record { disk = seen; dir = home; kept = only_tables version views; halt = None }

-- what is seen of a disk and what a store keeps
abbrev pub seen_of : Seen → List ℕ → Kept → Shown
seen_of seen home kept = record { disk = seen; dir = home; kept = kept; halt = None }

-- What the disk tells is that the live tables are there, with these rows.
pub record ToldTables (v : Shown) (rows : ℕ → List Row) : Type 0 where
  pub story : Story
  pub told : v.disk.told ≡ Some story
  pub tables : HasTables (state_of story) v.dir v.kept rows

-- each view that is open was so before, or is of a live table
abbrev pub OpensLive : Kept → Kept → Type 0
OpensLive old new = (number : ℕ) → is_some (finmap.get new.views number) ≡ true
    → (is_some (finmap.get old.views number) ≡ true) ⊎ (is_some (finmap.get old.version number) ≡ true)

-- A reading of live tables changes nothing but the disk's counts and the open views, of which it
-- loses none, but where it is refused perhaps one; it opens live tables alone. Where the disk tells that the tables are there,
-- the answer is as their rows say, and a refusal says nothing of any file.
pub record Reads {T : Type 0} (Finds : (ℕ → List Row) → T → Type 0) (v w : Shown) (result : Result T StoreError) : Type 0 where
  pub counts : CountsHold v w
  pub told : w.disk.told ≡ v.disk.told
  pub by : ReadBy v w result
  pub live : OpensLive v.kept w.kept
  pub unchanged : (rows : ℕ → List Row) (told : ToldTables v rows) → IsUnchanged told.story v w
  pub exact : (rows : ℕ → List Row) → ToldTables v rows → MatchResult result (Finds rows) IsOutside
