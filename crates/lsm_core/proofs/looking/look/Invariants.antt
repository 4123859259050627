use Rattle.lsm_core.proofs.LookLemmas.{IsLooking}
use Rattle.lsm_core.proofs.looking.look.Given as goal

abbrev pub invariant-loop-place : goal.invariant-loop-place
invariant-loop-place g l = IsLooking l.initial.tables-inside.items.items l.tables-inside.items.items l.key l.place l.met
