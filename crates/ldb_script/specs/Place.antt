-- Where a run keeps its store.
use Rattle.std.specs.Prelude.{[], Option, Some, None}
use Rattle.std.specs.FinMap as map
use Rattle.ldb_script.specs.Stored.{Shown}
use Rattle.ldb_script.specs.Vaults.{unseen}

-- the store that is there, and nothing of one that isn't
abbrev pub shown_in : Option Shown → Shown
shown_in None = record { disk = unseen; log = []; len = 0; contents = map.empty; sequence = 0 }
shown_in (Some shown) = shown
