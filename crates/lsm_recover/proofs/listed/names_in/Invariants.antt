use Rattle.std.proofs.Common.{◌≡◌}
use Rattle.lsm_recover.specs.Listed.{names_in}
use Rattle.lsm_recover.proofs.ListedLemmas.{names_with}
use Rattle.lsm_recover.proofs.listed.names_in.Given as goal

abbrev pub invariant-loop-entry : goal.invariant-loop-entry
invariant-loop-entry l = names_with l.entries l.names l.entry-index ≡ names_in l.entries
