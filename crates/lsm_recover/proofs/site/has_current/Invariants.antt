use Rattle.std.proofs.Common.{◌≡◌, take}
use Rattle.std.specs.Prelude.{false}
use Rattle.std.specs.List.{list_any}
use Rattle.lsm_recover.specs.Site.{is_current}
use Rattle.lsm_recover.proofs.site.has_current.Given as goal

abbrev pub invariant-loop-entry : goal.invariant-loop-entry
invariant-loop-entry l = list_any is_current (take l.entry-index l.entries) ≡ false
