use Rattle.std.proofs.Common.{◌≡◌, ◌++◌, take, drop}
use Rattle.lsm_model.specs.declared.lookups.PlainFolder.{PlainFolder}
use Rattle.lsm_model.specs.Plain.{with_plain}
use Rattle.lsm_model.proofs.lookups.place_of.Given as goal

-- no folder so far has the name
abbrev pub invariant-loop-at : goal.invariant-loop-at
invariant-loop-at l = (new : PlainFolder) → new.name ≡ l.name → with_plain new l.folders ≡ take l.at l.folders ++ with_plain new (drop l.at l.folders)
