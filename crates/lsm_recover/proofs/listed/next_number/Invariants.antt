use Rattle.std.proofs.Common.{◌≡◌, take}
use Rattle.lsm_recover.specs.Listed.{next_number}
use Rattle.lsm_recover.proofs.listed.next_number.Given as goal

abbrev pub invariant-loop-entry : goal.invariant-loop-entry
invariant-loop-entry l = l.next ≡ next_number l.fn.next (take l.entry-index l.entries)
