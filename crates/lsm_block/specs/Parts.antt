-- How a block is read, entry by entry.
use Rattle.std.specs.Prelude.{◌≡◌, ◌≢◌, ℕ, ◌%◌, ◌≤◌, ◌==◌, if◌then◌else◌, List, [], ◌∷◌, ◌++◌, length, drop, Option, Some, None, All}
use Rattle.std.specs.Int.{w32, to_le_bytes}
use Rattle.std.specs.List.{flat_map}
use Rattle.std.specs.declared.cmp.Ordering.TheVariants.{Less}
use Rattle.lsm_bytes.specs.Varint.{varint}
use Rattle.lsm_rows.specs.InternalKeys.{internal_cmp}
use Rattle.lsm_block.specs.declared.entries.Entry.{Entry}
use Rattle.lsm_block.specs.BlockText.{parts_text, entry_text, restarts}
use Rattle.lsm_block.specs.Blocks.{keys_of, AreEntries}

-- the key of the last entry, behind an entry with the key `before`
abbrev pub last_from : List ℕ → List Entry → List ℕ
last_from before [] = before
last_from before (e ∷ es) = last_from e.key es

-- the key of the last entry, and no bytes where there is none
unfoldable pub last_key : List Entry → List ℕ
last_key es = last_from [] es

-- a key is past all of these
abbrev pub IsPast : List Entry → List ℕ → Type 0
IsPast es key = All (λ before. internal_cmp before key ≡ Less) (keys_of es)

-- three lengths stand at a place, and end at the next
pub record AreLengthsAt (bytes : List ℕ) (at shared rest value next : ℕ) : Type 0 where
  pub within : next ≤ length bytes
  pub text : drop at bytes ≡ varint shared ++ varint rest ++ varint value ++ drop next bytes

-- an entry's parts stand at a place, and end at the next
pub record ArePartsAt (bytes : List ℕ) (at shared : ℕ) (rest value : List ℕ) (next : ℕ) : Type 0 where
  pub within : next ≤ length bytes
  pub text : drop at bytes ≡ parts_text shared rest value ++ drop next bytes

-- the text of an entry behind these
abbrev pub next_text : List Entry → Entry → List ℕ
next_text es e = entry_text (length es) (last_key es) e

-- the entry that stands at a place, behind those before it, and the place behind it; or that none does
unfoldable pub IsNext : List ℕ → ℕ → List Entry → Option (Entry × ℕ) → Type 0
IsNext bytes at es (Some (e, next)) = AreEntries (es ++ e ∷ []) × (next ≤ length bytes)
    × (drop at bytes ≡ next_text es e ++ drop next bytes)
IsNext bytes at es None = (e : Entry) (more : List ℕ) → AreEntries (es ++ e ∷ []) → drop at bytes ≢ next_text es e ++ more

-- the restarts, 4 bytes each
unfoldable pub restarts_bytes : List Entry → List ℕ
restarts_bytes es = flat_map (to_le_bytes w32) (restarts es)

-- what the entry with this number adds to them, where it begins at that place
unfoldable pub restart_bytes : ℕ → ℕ → List ℕ
restart_bytes number place = if number % 16 == 0 then to_le_bytes w32 place else []
