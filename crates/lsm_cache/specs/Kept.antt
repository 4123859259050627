-- What is seen of kept blocks, and what the calls leave of them.
use Rattle.std.specs.Prelude.{ℕ, Bool, ◌==◌, ◌&&◌, not, List, [], filter}
use Rattle.lru.specs.LruCache.{LruCache, lru_cache, promoted, put_entries}
use Rattle.lsm_block.specs.declared.entries.Entry.{Entry}
use Rattle.lsm_cache.specs.declared.blocks.BlockPlace.{BlockPlace}

-- the kept blocks with their places, the one used last first, and for how many there is room
abbrev pub Kept : Type 0
Kept = LruCache BlockPlace (List Entry)

-- it is this place of the table with this number
abbrev pub is_at : ℕ → ℕ → BlockPlace → Bool
is_at number place at = number == at.number && place == at.place

-- nothing is kept, and there is room for so many blocks
abbrev pub no_blocks : ℕ → Kept
no_blocks room = lru_cache [] room

-- the block of a place goes to the front, where it is kept
abbrev pub used : ℕ → ℕ → Kept → Kept
used number place kept = lru_cache (promoted (is_at number place) kept.entries) kept.cap

-- A block goes to the front. The one that was kept for its place goes, and else, where there is no room, the last.
abbrev pub with_block : ℕ → ℕ → List Entry → Kept → Kept
with_block number place block kept =
    lru_cache (put_entries (λ at. is_at at.number at.place) kept (record { number = number; place = place }) block) kept.cap

-- the blocks of other tables, in their order
abbrev pub without_table : ℕ → Kept → Kept
without_table number kept = lru_cache (filter (λ e. not (number == e.0.number)) kept.entries) kept.cap
