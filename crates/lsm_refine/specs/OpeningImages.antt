-- What the images on the way of an opening show of its folder.
use Rattle.std.specs.Prelude.{◌≡◌, ◌⊎◌, ℕ, ◌+◌, ◌≤◌, List, [], ◌∷◌, length, Some, None}
use Rattle.std.specs.FinMap as finmap
use Rattle.lsm_names.specs.FileNames.{IsFileName}
use Rattle.lsm_names.specs.declared.file_names.FileName.TheVariants.{Log, Table, Manifest, Temp, Current}
use Rattle.lsm_rows.specs.declared.rows.Row.{Row}
use Rattle.lsm_rows.specs.Contents.{contents_of}
use Rattle.lsm_rows.specs.Replay.{Contents}
use Rattle.lsm_disk.specs.Names.{Folder_node}
use Rattle.lsm_disk.specs.State.{State, names_now}
use Rattle.lsm_disk.specs.Images.{Tree, IsImage, bytes_at}
use Rattle.lsm_disk.specs.Dest.{path_in}
use Rattle.lsm_table.specs.WholeTables.{IsTable}
use Rattle.lsm_version.specs.declared.edits.Edit.{Edit}
use Rattle.lsm_version.specs.declared.tables.Placed.{Placed}
use Rattle.lsm_folder.specs.Files.{place_of}
use Rattle.lsm_folder.specs.Names.{current_text}
use Rattle.lsm_folder.specs.Needed.{IsFresh}
use Rattle.lsm_folder.specs.Manifests.{manifest_text, tables_after, log_after, last_after}
use Rattle.lsm_folder.specs.Parts.{AreEdits, AreLawful, rows_of_tables}
use Rattle.lsm_refine.specs.Sane.{IsWholeFile, AreFiles}
use Rattle.lsm_refine.specs.Pins.{AreClearable}
use Rattle.lsm_refine.specs.Beside.{LeadToFiles}
use Rattle.lsm_refine.specs.Naming.{NamesWhole}
use Rattle.lsm_refine.specs.New.{first_edit}
use Rattle.lsm_refine.specs.Openings.{StandsAs, IsKeptImage}

-- ---- what an opening has left so far

-- each image of the later disk is one that an opening may leave of the earlier disk
pub record KeepsFolder (dir : List ℕ) (d later : State) : Type 0 where
  pub each : (t : Tree) → IsImage later t → IsKeptImage dir d t

-- No operation on names is pending, and names lead to files that were made. No folder stands under a file's name, and a
-- checkpoint may be built.
pub record IsAtRest (dir : List ℕ) (d : State) : Type 0 where
  pub quiet : d.pending ≡ []
  pub lead : LeadToFiles d
  pub files : AreFiles d dir
  pub clear : AreClearable d

-- in this tree the folder stands for something
pub record StandsForSome (dir : List ℕ) (t : Tree) : Type 0 where
  pub contents : Contents
  pub sequence : ℕ
  pub stands : StandsAs dir contents sequence t

-- it does in each image
pub record AllStand (dir : List ℕ) (d : State) : Type 0 where
  pub each : (t : Tree) → IsImage d t → StandsForSome dir t

-- the folder is fresh in each image
pub record AllFresh (dir : List ℕ) (d : State) : Type 0 where
  pub each : (t : Tree) → IsImage d t → IsFresh (place_of dir t)

-- ---- what a new manifest says

-- a table's file is there for good with these rows
pub record IsWholeTable (d : State) (dir : List ℕ) (number : ℕ) (placed : Placed) (rows : List Row) : Type 0 where
  pub numbered : IsFileName (Table number)
  pub bytes : List ℕ
  pub file : IsWholeFile d (path_in dir (Table number)) bytes
  pub table : IsTable bytes rows number placed.info.session
  pub size : length bytes ≡ placed.info.size

-- A manifest of these edits says these contents and this sequence: its tables are there for good, lawful, and stand for them;
-- and no log is there from the log number on.
pub record SaysAs (d : State) (dir : List ℕ) (edits : List Edit) (contents : Contents) (sequence : ℕ) : Type 0 where
  pub are : AreEdits edits
  pub rows : ℕ → List Row
  pub tables : (number : ℕ) (placed : Placed) → finmap.get (tables_after edits) number ≡ Some placed
      → IsWholeTable d dir number placed (rows number)
  pub lawful : AreLawful edits rows
  pub shows : contents_of (rows_of_tables (tables_after edits) rows) ≡ contents
  pub last : last_after edits ≡ sequence
  pub logs : (number : ℕ) → log_after edits ≤ number → IsFileName (Log number)
      → finmap.get (names_now d) (path_in dir (Log number)) ≡ None

-- An opening may make a folder that stands for these contents and this sequence: in some image the folder stands for them, or
-- it is fresh and they are those of a new store.
pub record MayBecome (dir : List ℕ) (d : State) (contents : Contents) (sequence : ℕ) : Type 0 where
  pub one : Tree
  pub of : IsImage d one
  pub may : StandsAs dir contents sequence one
      ⊎ (IsFresh (place_of dir one) × (contents ≡ finmap.empty) × (sequence ≡ 0))

-- ---- while CURRENT comes to name the new manifest

-- in the image CURRENT has these bytes still, or names the new manifest, which is whole
abbrev pub HasOldOrNamesNew : List ℕ → List ℕ → ℕ → List Edit → Tree → Type 0
HasOldOrNamesNew dir bytes number edits t = (bytes_at t (path_in dir Current) ≡ Some bytes) ⊎ NamesWhole dir number edits t

-- in the image there is no CURRENT yet, or it names the new manifest, which is whole
abbrev pub HasNoneOrNamesNew : List ℕ → ℕ → List Edit → Tree → Type 0
HasNoneOrNamesNew dir number edits t = (finmap.get t.names (path_in dir Current) ≡ None) ⊎ NamesWhole dir number edits t

-- ---- how far an opening has come

-- Since the start the folder was kept. It stands, its CURRENT is whole, and under this number, whose names are free, a manifest
-- may be made of these edits, which say what the folder may become.
pub record MaySwitch (dir : List ℕ) (start d : State) (number : ℕ) (edits : List Edit) : Type 0 where
  pub kept : KeepsFolder dir start d
  pub rest : IsAtRest dir d
  pub stand : AllStand dir d
  pub folder : finmap.get (names_now d) dir ≡ Some Folder_node
  pub numbered : IsFileName (Manifest number)
  pub no_manifest : finmap.get (names_now d) (path_in dir (Manifest number)) ≡ None
  pub no_temporary : finmap.get (names_now d) (path_in dir (Temp number)) ≡ None
  pub log_fits : IsFileName (Log (log_after edits))
  pub found : ℕ
  pub current : IsWholeFile d (path_in dir Current) (current_text found)
  pub contents : Contents
  pub sequence : ℕ
  pub may : MayBecome dir start contents sequence
  pub says : SaysAs d dir edits contents sequence

-- Since the start the folder was kept. It is fresh, and a new store may be made in it, with a manifest of this number.
pub record MayBegin (dir : List ℕ) (start d : State) (number : ℕ) : Type 0 where
  pub kept : KeepsFolder dir start d
  pub rest : IsAtRest dir d
  pub fresh : AllFresh dir d
  pub folder : finmap.get (names_now d) dir ≡ Some Folder_node
  pub numbered : IsFileName (Manifest number)
  pub log_fits : IsFileName (Log (number + 1))
  pub may : MayBecome dir start finmap.empty 0
  pub says : SaysAs d dir (first_edit number ∷ []) finmap.empty 0

-- Since the start the folder was kept. CURRENT names the manifest of this number, both are whole, and the first log of its
-- edits may be made.
pub record MayMakeLog (dir : List ℕ) (start d : State) (number : ℕ) (edits : List Edit) : Type 0 where
  pub kept : KeepsFolder dir start d
  pub rest : IsAtRest dir d
  pub folder : finmap.get (names_now d) dir ≡ Some Folder_node
  pub numbered : IsFileName (Manifest number)
  pub current : IsWholeFile d (path_in dir Current) (current_text number)
  pub manifest : IsWholeFile d (path_in dir (Manifest number)) (manifest_text edits)
  pub log_fits : IsFileName (Log (log_after edits))
  pub contents : Contents
  pub sequence : ℕ
  pub may : MayBecome dir start contents sequence
  pub says : SaysAs d dir edits contents sequence
