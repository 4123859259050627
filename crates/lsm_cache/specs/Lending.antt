-- What a cache ends as, once a block that it lent is given back.
use Rattle.std.specs.Prelude.{◌≡◌, ⊤}
use Rattle.std.specs.Borrow.{Fml, MutBor, follows_so}
use mathlib.Core.Option.{none}
use Rattle.lsm_cache.specs.contracts.blocks.BlockCache.{the_row}
use Rattle.lsm_cache.specs.Kept.{Kept}

-- it has these blocks
abbrev pub ends_as : MutBor Kept → Kept → Fml
ends_as c after = follows_so the_row the_row c.ghost_name none (λ _ _. ⊤) (λ n. n ≡ after)
