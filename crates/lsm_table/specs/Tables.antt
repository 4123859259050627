-- What is seen of an open table.
use Rattle.std.specs.Prelude.{◌≡◌, ℕ, List, All, Option, Some, None}
use Rattle.lsm_disk.specs.Viewed.{Viewed}
use Rattle.lsm_frame.specs.Reader.{Tells}
use Rattle.lsm_block.specs.declared.entries.Entry.{Entry}
use Rattle.lsm_block.specs.Seek.{first_of_user}
use Rattle.lsm_table.specs.declared.parts.Properties.{Properties}
use Rattle.lsm_table.specs.Opening.{Opens, TellsPlace, TellsBlock}

-- what contracts see of a table: its view, its properties and the entries of its index
pub record Opened : Type 0 where
  pub viewed : Viewed
  pub properties : Properties
  pub index : List Entry

-- what the view tells is opened to these properties and this index
unfoldable pub Shows : Viewed → Properties → List Entry → Type 0
Shows viewed properties index = (text : List ℕ) → Tells viewed text → Opens text properties index

-- a table's parts agree with each other and with its view
pub record AreParts (viewed : Viewed) (properties : Properties) (index : List Entry) : Type 0 where
  pub shows : Shows viewed properties index
  pub places : All TellsBlock index

-- The place of the first data block whose last user key is at or past a key, or that there is none. The index has each
-- block's last key.
unfoldable pub IsLocated : List ℕ → List Entry → Option ℕ → Type 0
IsLocated key index None = first_of_user key index ≡ None
IsLocated key index (Some place) = (e : Entry) × (first_of_user key index ≡ Some e) × (len : ℕ) × TellsPlace e.value place len
