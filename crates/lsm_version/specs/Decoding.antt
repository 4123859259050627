-- What a refusal of an edit's bytes says.
use Rattle.std.specs.Prelude.{ℕ, List}
use Rattle.lsm_version.specs.declared.refusals.EditError.{EditError}
use Rattle.lsm_version.specs.declared.refusals.EditError.TheVariants.{BadEdit, NoMemory}
use Rattle.lsm_version.specs.Edits.{IsNoEdit}

-- why bytes gave no edit: they are none; or memory was wanting, which says nothing of them
unfoldable pub IsBad : List ℕ → EditError → Type 0
IsBad bytes (BadEdit place) = IsNoEdit bytes place
IsBad bytes NoMemory = Unit {0}
