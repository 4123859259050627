-- The text of a table: its rows in blocks, an index of these blocks, properties, and a footer that tells where the
-- last two begin.
use Rattle.std.specs.Prelude.{◌≡◌, ℕ, ◌+◌, ◌^◌, ◌<◌, ◌≤◌, All, nat_lt, if◌then◌else◌, List, [], ◌∷◌, ◌++◌, length, map, Option, Some, None, unwrap_or}
use Rattle.std.specs.List.{flat_map, fold}
use Rattle.std.specs.List.Sorted.{IsStrictlySortedBy}
use Rattle.std.specs.Int.{w32, w64, to_le_bytes}
use Rattle.lsm_bytes.specs.Checksum.{crc32c, masked}
use Rattle.lsm_bytes.specs.Varint.{varint}
use Rattle.lsm_rows.specs.declared.rows.Row.{Row}
use Rattle.lsm_rows.specs.declared.internal_keys.Kind.{Kind}
use Rattle.lsm_rows.specs.declared.internal_keys.Kind.TheVariants.{Delete, Put}
use Rattle.lsm_rows.specs.InternalKeys.{kind_byte, internal_key}
use Rattle.lsm_rows.specs.Replay.{key_cmp}
use Rattle.lsm_block.specs.declared.entries.Entry.{Entry}
use Rattle.lsm_block.specs.BlockText.{block_text}
use Rattle.lsm_block.specs.Parts.{last_key}

-- the kind of the operation that left this: a delete leaves no value
abbrev pub kind_of : Option (List ℕ) → Kind
kind_of None = Delete
kind_of (Some value) = Put

-- a row's entry: its internal key, and the value of a put; a delete has no bytes there
abbrev pub row_entry : Row → Entry
row_entry row = record { key = internal_key row.key row.sequence (kind_byte (kind_of row.value)); value = unwrap_or row.value [] }

-- the contents and a byte 0, which says that they aren't compressed, and then the masked checksum of both
unfoldable pub stored : List ℕ → List ℕ
stored contents = (contents ++ 0 ∷ []) ++ to_le_bytes w32 (masked (crc32c (contents ++ 0 ∷ [])))

-- entries in blocks: the blocks that were ended, and the entries of the one that is open
pub record Blocks : Type 0 where
  pub ended : List (List Entry)
  pub begun : List Entry

-- One entry more. The open block is ended with it where its contents then have 4,096 bytes or more.
unfoldable pub blocks_more : Blocks → Entry → Blocks
blocks_more b e =
    if nat_lt (length (block_text (b.begun ++ e ∷ []))) 4096 then record { ended = b.ended; begun = b.begun ++ e ∷ [] }
    else record { ended = b.ended ++ (b.begun ++ e ∷ []) ∷ []; begun = [] }

-- all entries, one after another
unfoldable pub blocks_of : List Entry → Blocks
blocks_of es = fold blocks_more (record { ended = []; begun = [] }) es

-- where no entry follows, the open block is ended too, if it has entries
unfoldable pub all_blocks : Blocks → List (List Entry)
all_blocks b = if nat_lt 0 (length b.begun) then b.ended ++ b.begun ∷ [] else b.ended

-- the data blocks of rows
unfoldable pub data_blocks : List Row → List (List Entry)
data_blocks rows = all_blocks (blocks_of (map row_entry rows))

-- blocks as they are stored, one behind another
unfoldable pub blocks_text : List (List Entry) → List ℕ
blocks_text blocks = flat_map (λ es. stored (block_text es)) blocks

-- An index's entries, one for each block: its last key, and as value two varints, the block's place and the length
-- of its contents.
unfoldable pub index_from : ℕ → List (List Entry) → List Entry
index_from place [] = []
index_from place (es ∷ blocks) =
    record { key = last_key es; value = varint place ++ varint (length (block_text es)) }
    ∷ index_from (place + length (stored (block_text es))) blocks

-- a table's number, the 20 bytes of its session, and the count of its rows
unfoldable pub properties_text : ℕ → List ℕ → ℕ → List ℕ
properties_text number session count = to_le_bytes w64 number ++ session ++ to_le_bytes w64 count

-- the places of the index and of the properties, and the length of the index's contents
unfoldable pub places_text : ℕ → ℕ → ℕ → List ℕ
places_text index len properties = to_le_bytes w64 index ++ to_le_bytes w64 len ++ to_le_bytes w64 properties

-- the last bytes of a table: `lsmtabl1`
abbrev pub magic : List ℕ
magic = 108 ∷ 115 ∷ 109 ∷ 116 ∷ 97 ∷ 98 ∷ 108 ∷ 49 ∷ []

-- the places, their masked checksum, and the last bytes
unfoldable pub footer_text : ℕ → ℕ → ℕ → List ℕ
footer_text index len properties = places_text index len properties
    ++ to_le_bytes w32 (masked (crc32c (places_text index len properties))) ++ magic

-- a table with these blocks, of which so many entries are rows
unfoldable pub table_of_blocks : List (List Entry) → ℕ → ℕ → List ℕ → List ℕ
table_of_blocks blocks count number session =
    let data_len : ℕ = length (blocks_text blocks) in
    let index : List ℕ = block_text (index_from 0 blocks) in
    blocks_text blocks ++ stored index ++ stored (properties_text number session count)
    ++ footer_text data_len (length index) (data_len + length (stored index))

-- the text of the table with these rows, this number and this session
unfoldable pub table_text : List Row → ℕ → List ℕ → List ℕ
table_text rows number session = table_of_blocks (data_blocks rows) (length rows) number session

-- the rows of a table: one at least, each user key once, in the order of these keys
pub record AreTableRows (rows : List Row) : Type 0 where
  pub some : 1 ≤ length rows
  pub ascend : IsStrictlySortedBy key_cmp (map (λ row. row.key) rows)
  pub sequences : All (λ row. row.sequence < 2 ^ 56) rows

-- the bytes are the table with these rows, this number and the 20 bytes of this session
pub record IsTableText (bytes : List ℕ) (rows : List Row) (number : ℕ) (session : List ℕ) : Type 0 where
  pub is : bytes ≡ table_text rows number session
  pub are_rows : AreTableRows rows
  pub number_fits : number < 2 ^ 64
  pub session_len : length session ≡ 20
