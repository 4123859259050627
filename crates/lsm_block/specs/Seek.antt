-- What a search in a block finds.
use Rattle.std.specs.Prelude.{ℕ, List, Option, not}
use Rattle.std.specs.List.{find}
use Rattle.std.specs.Ordering.{is_lt}
use Rattle.lsm_rows.specs.InternalKeys.{internal_cmp, user_key}
use Rattle.lsm_rows.specs.Replay.{key_cmp}
use Rattle.lsm_block.specs.declared.entries.Entry.{Entry}

-- the first entry whose key is at or past this one in the order of internal keys
unfoldable pub first_from : List ℕ → List Entry → Option Entry
first_from key es = find (λ e. not (is_lt (internal_cmp e.key key))) es

-- the first entry whose user key is at or past this one; it is the newest row of its user key
unfoldable pub first_of_user : List ℕ → List Entry → Option Entry
first_of_user key es = find (λ e. not (is_lt (key_cmp (user_key e.key) key))) es
