-- What stands where an index tells a data block.
use Rattle.std.specs.Prelude.{◌≡◌, ℕ, ◌+◌, ◌<◌, ◌≤◌, ◌⊎◌, List, length, slice_get, Option, Some, None, Ok}
use Rattle.std.specs.List.{Contains}
use Rattle.lsm_rows.specs.declared.rows.Row.{Row}
use Rattle.lsm_block.specs.declared.entries.Entry.{Entry}
use Rattle.lsm_block.specs.Blocks.{IsBlockText}
use Rattle.lsm_block.specs.Seek.{first_of_user}
use Rattle.lsm_table.specs.declared.faults.TableFault.{TableFault}
use Rattle.lsm_table.specs.declared.faults.TableFault.TheVariants.{Malformed}
use Rattle.lsm_table.specs.Opening.{contents_at, TellsPlace, IsFaultOf, IsOutside}
use Rattle.lsm_table.specs.Tables.{IsLocated}
use Rattle.lsm_table.specs.Searching.{IsRowOf}

-- some entry of an index tells that contents of so many bytes stand at a place
pub record IsTold (index : List Entry) (place len : ℕ) : Type 0 where
  pub entry : Entry
  pub among : Contains index entry
  pub tells : TellsPlace entry.value place len

-- a text has the block with these entries stored at a place, with contents of so many bytes, and doesn't end before it does
pub record IsStoredBlock (text : List ℕ) (place len : ℕ) (block : List Entry) : Type 0 where
  pub there : place + len + 5 ≤ length text
  pub contents : List ℕ
  pub stored : contents_at place len text ≡ Ok contents
  pub is : IsBlockText contents block

-- the contents at a place are right and are no block's
pub record IsNoBlock (text : List ℕ) (place len : ℕ) : Type 0 where
  pub contents : List ℕ
  pub stored : contents_at place len text ≡ Ok contents
  pub none : (es : List Entry) → ¬ IsBlockText contents es

-- why a text has no block at a place: it ends before the block does; or, where it doesn't, how the block is stored, or its
-- contents
abbrev pub IsStoredFault : List ℕ → ℕ → ℕ → TableFault → Type 0
IsStoredFault text place len fault =
    ((fault ≡ Malformed place) × (length text < place + len + 5))
    ⊎ ((place + len + 5 ≤ length text)
    × (IsFaultOf (contents_at place len text) fault ⊎ ((fault ≡ Malformed place) × IsNoBlock text place len)))

-- a text has this block where an entry of its index tells one
pub record StoresBlock (text : List ℕ) (e : Entry) (block : List Entry) : Type 0 where
  pub place : ℕ
  pub len : ℕ
  pub tells : TellsPlace e.value place len
  pub stored : IsStoredBlock text place len block

-- the block that an entry of its index tells is stored wrongly
pub record StoresFault (text : List ℕ) (e : Entry) (fault : TableFault) : Type 0 where
  pub place : ℕ
  pub len : ℕ
  pub tells : TellsPlace e.value place len
  pub fault_is : IsStoredFault text place len fault

-- the data block of this number, counted from 0 in the order of the index
pub record IsNthBlock (text : List ℕ) (index : List Entry) (nth : ℕ) (block : List Entry) : Type 0 where
  pub entry : Entry
  pub at : slice_get index nth ≡ Some entry
  pub stores : StoresBlock text entry block

-- the data block of this number is stored wrongly
pub record IsNthFault (text : List ℕ) (index : List Entry) (nth : ℕ) (fault : TableFault) : Type 0 where
  pub entry : Entry
  pub at : slice_get index nth ≡ Some entry
  pub stores : StoresFault text entry fault

-- a text has this data block at a place that its index tells
pub record IsDataBlock (text : List ℕ) (index : List Entry) (place : ℕ) (block : List Entry) : Type 0 where
  pub len : ℕ
  pub told : IsTold index place len
  pub stored : IsStoredBlock text place len block

-- a data block that is told is stored wrongly
pub record IsDataFault (text : List ℕ) (index : List Entry) (place : ℕ) (fault : TableFault) : Type 0 where
  pub len : ℕ
  pub told : IsTold index place len
  pub fault_is : IsStoredFault text place len fault

-- why no data block is read at a place: the index tells none there, or it is stored wrongly
abbrev pub IsBlockRefused : List ℕ → List Entry → ℕ → TableFault → Type 0
IsBlockRefused text index place fault =
    IsOutside fault ⊎ (((fault ≡ Malformed place) × ((len : ℕ) → ¬ IsTold index place len)) ⊎ IsDataFault text index place fault)

-- what the data block of a key has of it
pub record IsGotFrom (text : List ℕ) (index : List Entry) (key : List ℕ) (row : Option Row) : Type 0 where
  pub place : ℕ
  pub located : IsLocated key index (Some place)
  pub block : List Entry
  pub stands : IsDataBlock text index place block
  pub row_is : IsRowOf block key row

-- what a text has of a key: no row where no data block can have it, else what the first has that can
abbrev pub IsGot : List ℕ → List Entry → List ℕ → Option Row → Type 0
IsGot text index key row = ((first_of_user key index ≡ None) × (row ≡ None)) ⊎ IsGotFrom text index key row

-- the data block of a key is refused
pub record IsNotGot (text : List ℕ) (index : List Entry) (key : List ℕ) (fault : TableFault) : Type 0 where
  pub place : ℕ
  pub located : IsLocated key index (Some place)
  pub refused : IsBlockRefused text index place fault
