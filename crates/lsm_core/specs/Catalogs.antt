-- What is seen of a catalog's parts, and what they keep.
use Rattle.std.specs.Prelude.{◌≡◌, ℕ, ◌≤◌, true, is_some, List, [], map, length, All, Contains, Some, None}
use Rattle.std.specs.List.{flat_map}
use Rattle.std.specs.Ordering.{nat_cmp}
use Rattle.std.specs.FinMap as finmap
use Rattle.lsm_names.specs.declared.file_names.FileName.TheVariants.{Current}
use Rattle.lsm_disk.specs.Viewed.{Viewed}
use Rattle.lsm_table.specs.Tables.{Opened}
use Rattle.lsm_cache.specs.Kept.{Kept as Blocks}
use Rattle.lsm_cache.specs.Getting.{AreBlocksOf}
use Rattle.lsm_version.specs.declared.tables.TableInfo.{TableInfo}
use Rattle.lsm_version.specs.Levels.{Tables}
use Rattle.lsm_refine.specs.Kept.{KeptPin, Kept}
use Rattle.lsm_refine.specs.Sane.{names_held}
use Rattle.lsm_refine.specs.Flushed.{at_top}
use Rattle.lsm_refine.specs.WholeEdits.{AreInRange}

-- ---- open tables

-- an open table with its number
abbrev pub Numbered : Type 0
Numbered = ℕ × Opened

-- what is seen of the tables' views, by the tables' numbers
abbrev pub views_of : List Numbered → finmap.FinMap nat_cmp Viewed
views_of tables = finmap.from_entries (map (λ (table : Numbered). (table.0, table.1.viewed)) tables)

-- a view that tells bytes tells all of them
pub record IsWholeView (view : Viewed) : Type 0 where
  pub whole : (text : List ℕ) → view.bytes ≡ Some text → length text ≡ view.len

-- The table says of itself the number by which it is kept, its view tells all its bytes, if it
-- tells any, and the blocks that are kept for it are its own.
pub record IsKeptTable (blocks : Blocks) (table : Numbered) : Type 0 where
  pub number : table.1.properties.number ≡ table.0
  pub whole : IsWholeView table.1.viewed
  pub blocks_are : AreBlocksOf table.1 blocks

-- so are all
abbrev pub AreKeptTables : List Numbered → Blocks → Type 0
AreKeptTables tables blocks = All (IsKeptTable blocks) tables

-- ---- pins

-- no pin's number is past the greatest that was given
abbrev pub AreGiven : List KeptPin → ℕ → Type 0
AreGiven pins greatest = All (λ (pin : KeptPin). pin.number ≤ greatest) pins

-- no pin holds CURRENT, since each has its own
abbrev pub HoldNoCurrent : List KeptPin → Type 0
HoldNoCurrent pins = ¬ Contains (flat_map names_held pins) Current

-- ---- a catalog

-- each open table is a live one
abbrev pub AreOfLive : Tables → finmap.FinMap nat_cmp Viewed → Type 0
AreOfLive tables views = (number : ℕ) → is_some (finmap.get views number) ≡ true → is_some (finmap.get tables number) ≡ true

-- No pin's number is past the greatest that was given, and none holds CURRENT. An edit may say of each live table what is
-- kept of it, and open tables are live.
pub record IsCatalog (tables : Tables) (views : finmap.FinMap nat_cmp Viewed) (pins : List KeptPin) (greatest : ℕ) : Type 0 where
  pub given : AreGiven pins greatest
  pub current : HoldNoCurrent pins
  pub range : AreInRange tables
  pub live : AreOfLive tables views

-- each table of the one version is in the other
abbrev pub AreStill : Tables → Tables → Type 0
AreStill tables later = (number : ℕ) → is_some (finmap.get tables number) ≡ true → is_some (finmap.get later number) ≡ true

-- a version is this one with the table of a flush
pub record HasTableMore (tables : Tables) (info : TableInfo) (later : Tables) : Type 0 where
  pub is : later ≡ finmap.insert tables info.number (at_top info)
  pub range : AreInRange later
  pub still : AreStill tables later

-- what a catalog keeps: the version with the views of its tables, the log number and the last
-- sequence in tables, the pins with the greatest number that one had, and the disables
abbrev pub kept_with : Tables → finmap.FinMap nat_cmp Viewed → ℕ → ℕ → List KeptPin → ℕ → ℕ → Kept
kept_with version views log last pins greatest_pin disables = record {
  version = version;
  views = views;
  log = log;
  last = last;
  sequence = 0;
  active = [];
  frozen = [];
  logs = [];
  log_len = 0;
  older_len = 0;
  manifest = 0;
  manifest_len = 0;
  next = 0;
  known = [];
  pins = pins;
  greatest_pin = greatest_pin;
  disables = disables;
  flushing = record { taken = 0; table = None };
  unfinished = [];
  merging = None;
  merge_level = 0;
  outputs = 0;
  merged = 0;
  begun = None;
  hand = None;
}
