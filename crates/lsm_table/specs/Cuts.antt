-- The data blocks of a table that is being built.
use Rattle.std.specs.Prelude.{◌≡◌, ℕ, ◌+◌, ◌*◌, ◌^◌, ◌<◌, ◌≤◌, All, nat_lt, if◌then◌else◌, List, [], ◌∷◌, ◌++◌, length}
use Rattle.std.specs.declared.cmp.Ordering.TheVariants.{Less}
use Rattle.lsm_bytes.specs.Varint.{varint}
use Rattle.lsm_rows.specs.InternalKeys.{internal_cmp}
use Rattle.lsm_block.specs.declared.entries.Entry.{Entry}
use Rattle.lsm_block.specs.BlockText.{block_text, entries_text}
use Rattle.lsm_block.specs.Blocks.{keys_of, AreEntries}
use Rattle.lsm_block.specs.Parts.{last_key}
use Rattle.lsm_block.specs.TableText.{stored}

-- what a builder keeps of them: the entries of the open block and of the index, the text of ended blocks that wasn't
-- handed out, and the place of the open block
pub record Cut : Type 0 where
  pub begun : List Entry
  pub index : List Entry
  pub pending : List ℕ
  pub place : ℕ

-- the index's entry for a block at a place
abbrev pub index_entry : ℕ → List Entry → Entry
index_entry place es = record { key = last_key es; value = varint place ++ varint (length (block_text es)) }

-- the open block is ended, and the next one is open and empty
unfoldable pub end_block : Cut → Cut
end_block c = record {
  begun = [];
  index = c.index ++ index_entry c.place c.begun ∷ [];
  pending = c.pending ++ stored (block_text c.begun);
  place = c.place + length (stored (block_text c.begun));
}

-- an entry comes into the open block, which is ended with it where its contents then have 4,096 bytes or more
unfoldable pub added : Cut → Entry → Cut
added c e =
    if nat_lt (length (block_text (c.begun ++ e ∷ []))) 4096 then record c { begun = c.begun ++ e ∷ [] }
    else end_block (record c { begun = c.begun ++ e ∷ [] })

-- where no entry follows, the open block is ended if it has entries
unfoldable pub ended : Cut → Cut
ended c = if nat_lt 0 (length c.begun) then end_block c else c

-- how many bytes the data blocks have, when the open one is ended as it is
unfoldable pub size_of : Cut → ℕ
size_of c = c.place + length (block_text c.begun)

-- the keys ascend from the index on, and there is room
pub record IsCut (c : Cut) : Type 0 where
  pub index_are : AreEntries c.index
  pub begun_are : AreEntries c.begun
  pub ascend : All (λ key. All (λ before. internal_cmp before key ≡ Less) (keys_of c.index)) (keys_of c.begun)
  pub index_small : length (entries_text c.index) ≤ 4 * c.place
  pub small : size_of c < 2 ^ 29
