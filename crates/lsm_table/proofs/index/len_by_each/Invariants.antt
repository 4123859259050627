use Rattle.std.proofs.Common.{All, ℕ, take}
use Rattle.lsm_table.specs.Opening.{TellsPlace}
use Rattle.lsm_table.proofs.index.len_by_each.Given as goal

abbrev pub invariant-loop-entry : goal.invariant-loop-entry
invariant-loop-entry l = All (λ e. (len : ℕ) → ¬ TellsPlace e.value l.place len) (take l.entry-index l.entries)
