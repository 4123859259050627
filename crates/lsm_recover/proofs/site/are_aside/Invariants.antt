use Rattle.std.proofs.Common.{◌≡◌, take}
use Rattle.std.specs.Prelude.{true}
use Rattle.std.specs.List.{list_all}
use Rattle.lsm_recover.specs.Site.{is_aside}
use Rattle.lsm_recover.proofs.site.are_aside.Given as goal

abbrev pub invariant-loop-entry : goal.invariant-loop-entry
invariant-loop-entry l = list_all is_aside (take l.entry-index l.entries) ≡ true
