-- Which entries make a block, which bytes are a block's, and where other bytes leave the grammar.
use Rattle.std.specs.Prelude.{◌≡◌, ◌≢◌, ℕ, ◌^◌, ◌<◌, ◌≤◌, List, [], ◌∷◌, ◌++◌, length, map, All}
use Rattle.std.specs.List.Sorted.{IsStrictlySortedBy}
use Rattle.lsm_rows.specs.declared.internal_keys.Kind.{Kind}
use Rattle.lsm_rows.specs.InternalKeys.{IsInternalKey, internal_cmp}
use Rattle.lsm_block.specs.declared.entries.Entry.{Entry}
use Rattle.lsm_block.specs.declared.errors.BlockError.{BlockError}
use Rattle.lsm_block.specs.declared.errors.BlockError.TheVariants.{Malformed, NoMemory}
use Rattle.lsm_block.specs.BlockText.{entries_text, block_text}

-- the bytes are some internal key
pub record IsKey (bytes : List ℕ) : Type 0 where
  pub user : List ℕ
  pub sequence : ℕ
  pub kind : Kind
  pub is : IsInternalKey bytes user sequence kind

-- the keys of entries
abbrev pub keys_of : List Entry → List (List ℕ)
keys_of es = map (λ e. e.key) es

-- entries of a block so far: internal keys that strictly ascend, and texts that 4 bytes can number
pub record AreEntries (es : List Entry) : Type 0 where
  pub keys : All IsKey (keys_of es)
  pub ascend : IsStrictlySortedBy internal_cmp (keys_of es)
  pub small : length (entries_text es) < 2 ^ 32

-- the entries of a block, of which there is one at least
pub record IsBlock (es : List Entry) : Type 0 where
  pub some : 1 ≤ length es
  pub entries : AreEntries es

-- the bytes are the contents of the block with these entries
pub record IsBlockText (bytes : List ℕ) (es : List Entry) : Type 0 where
  pub is : bytes ≡ block_text es
  pub block : IsBlock es

-- Entries are all that the bytes begin with: they stand before this place, and no entry goes on there.
pub record AreLongest (bytes : List ℕ) (es : List Entry) (place : ℕ) : Type 0 where
  pub entries : AreEntries es
  pub ends : place ≡ length (entries_text es)
  pub more : List ℕ
  pub text : bytes ≡ entries_text es ++ more
  pub last : (e : Entry) (rest : List ℕ) → AreEntries (es ++ e ∷ []) → bytes ≢ entries_text (es ++ e ∷ []) ++ rest

-- The bytes are no block's contents. The place is where the entries end that they begin with: there stands neither
-- an entry that could follow, nor the restarts of these entries with nothing behind.
pub record IsMalformed (bytes : List ℕ) (place : ℕ) : Type 0 where
  pub none : (es : List Entry) → ¬ IsBlockText bytes es
  pub before : List Entry
  pub longest : AreLongest bytes before place

-- why bytes gave no block: they are none; or memory was wanting, which says nothing of them
unfoldable pub IsBad : List ℕ → BlockError → Type 0
IsBad bytes (Malformed place) = IsMalformed bytes place
IsBad bytes NoMemory = Unit {0}
