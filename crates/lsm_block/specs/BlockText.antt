-- The text of a block: its entries in the order of their keys, then its restarts and their count. An entry's key
-- leaves out what it shares with the key before it; at each sixteenth entry, a restart, it leaves out nothing.
use Rattle.std.specs.Prelude.{ℕ, ◌+◌, ◌*◌, ◌/◌, ◌%◌, ◌==◌, if◌then◌else◌, List, [], ◌∷◌, ◌++◌, length, take, drop, map}
use Rattle.std.specs.List.{flat_map, range_with_len}
use Prim.Native.Nat.{suc}
use Rattle.std.specs.Int.{w32, to_le_bytes}
use Rattle.lsm_bytes.specs.Varint.{varint}
use Rattle.lsm_block.specs.declared.entries.Entry.{Entry}

-- the length of the longest common prefix
unfoldable pub common : List ℕ → List ℕ → ℕ
common [] b = 0
common (x ∷ a) [] = 0
common (x ∷ a) (y ∷ b) = if x == y then suc (common a b) else 0

-- how many bytes the key of the entry with this number, counted from 0, shares with the key before it
unfoldable pub shared_len : ℕ → List ℕ → List ℕ → ℕ
shared_len number before key = if number % 16 == 0 then 0 else common before key

-- three varints, the shared length, the length of the key's rest and the value's length; then the rest and the value
unfoldable pub parts_text : ℕ → List ℕ → List ℕ → List ℕ
parts_text shared rest value = varint shared ++ varint (length rest) ++ varint (length value) ++ rest ++ value

-- the entry with this number, behind an entry with the key `before`
unfoldable pub entry_text : ℕ → List ℕ → Entry → List ℕ
entry_text number before e = parts_text (shared_len number before e.key) (drop (shared_len number before e.key) e.key) e.value

-- entries one behind another, the first with this number and behind that key
unfoldable pub entries_from : ℕ → List ℕ → List Entry → List ℕ
entries_from number before [] = []
entries_from number before (e ∷ es) = entry_text number before e ++ entries_from (number + 1) e.key es

-- the entries of a block
abbrev pub entries_text : List Entry → List ℕ
entries_text es = entries_from 0 [] es

-- the restarts: where the entries begin whose numbers are the multiples of 16
unfoldable pub restarts : List Entry → List ℕ
restarts es = map (λ k. length (entries_text (take (16 * k) es))) (range_with_len 0 ((length es + 15) / 16))

-- the restarts and then their count, 4 bytes each, little endian
unfoldable pub restarts_text : List Entry → List ℕ
restarts_text es = flat_map (to_le_bytes w32) (restarts es) ++ to_le_bytes w32 (length (restarts es))

-- a block's contents
unfoldable pub block_text : List Entry → List ℕ
block_text es = entries_text es ++ restarts_text es
