-- The block whose contents bytes are, as a function. They are read entry by entry up to the restarts, and the entries are
-- taken where the bytes are their block's contents.
use Rattle.std.specs.Prelude.{ℕ, ◌+◌, ◌-◌, ◌*◌, ◌^◌, Bool, true, ◌&&◌, nat_lt, nat_le, if◌then◌else◌, List, [], ◌∷◌, ◌++◌, length, take, drop, Option, Some, None, zero, suc}
use Rattle.std.specs.List.{list_all}
use Rattle.std.specs.Ordering.{is_lt}
use Rattle.std.specs.Str.{bytes_eq}
use Rattle.lsm_bytes.specs.Numbers.{number_at}
use Rattle.lsm_rows.specs.InternalKeys.{internal_cmp}
use Rattle.lsm_folder.specs.Batches.{number_ahead}
use Rattle.lsm_block.specs.declared.entries.Entry.{Entry}
use Rattle.lsm_block.specs.BlockText.{entries_text, block_text}
use Rattle.lsm_block.specs.Blocks.{keys_of}
use Rattle.lsm_folder.specs.Keys.{is_internal_key}

-- the entry that bytes begin with behind this key, and the bytes behind it: three lengths, that of what the keys share,
-- of the key's rest and of the value; the rest; and the value
unfoldable pub entry_ahead : List ℕ → List ℕ → Entry × List ℕ
entry_ahead before bytes =
    let shared : ℕ × List ℕ = number_ahead bytes in
    let rest : ℕ × List ℕ = number_ahead shared.1 in
    let value : ℕ × List ℕ = number_ahead rest.1 in (
      record { key = take shared.0 before ++ take rest.0 value.1; value = take value.0 (drop rest.0 value.1) },
      drop value.0
          (drop rest.0 value.1),
    )

-- the entries that bytes are behind this key, so many at most
abbrev pub entries_ahead : ℕ → List ℕ → List ℕ → List Entry
entries_ahead zero before bytes = []
entries_ahead (suc more) before [] = []
entries_ahead (suc more) before (b ∷ bytes) =
    (entry_ahead before (b ∷ bytes)).0 ∷ entries_ahead more (entry_ahead before (b ∷ bytes)).0.key (entry_ahead before (b ∷ bytes)).1

-- the bytes before the restarts, whose count is the last number
abbrev pub before_restarts : List ℕ → List ℕ
before_restarts bytes = take (length bytes - (4 * number_at 4 bytes (length bytes - 4) + 4)) bytes

-- the entries of the block that bytes claim to be
unfoldable pub claimed_block : List ℕ → List Entry
claimed_block bytes = entries_ahead (length bytes) [] (before_restarts bytes)

-- each key comes before all later ones
abbrev pub keys_ascend : List (List ℕ) → Bool
keys_ascend [] = true
keys_ascend (key ∷ keys) = list_all (λ (later : List ℕ). is_lt (internal_cmp key later)) keys && keys_ascend keys

-- the entries are those of a block
unfoldable pub block_fits : List Entry → Bool
block_fits es = nat_le 1 (length es) && list_all is_internal_key (keys_of es) && keys_ascend (keys_of es) && nat_lt
    (length (entries_text es)) (2 ^ 32)

-- the entries of the block whose contents these bytes are
unfoldable pub block_of : List ℕ → Option (List Entry)
block_of bytes =
    let es : List Entry = claimed_block bytes in
    if block_fits es && bytes_eq bytes (block_text es) then Some es else None
