use Rattle.std.proofs.Common.{◌≡◌, ◌==◌, ℕ, take, true}
use Rattle.std.specs.List.{list_all}
use Rattle.lsm_frame.proofs.steps.all_zeros.Given as goal

abbrev pub invariant-loop-byte : goal.invariant-loop-byte
invariant-loop-byte l = list_all (λ (b : ℕ). b == 0) (take l.byte-index l.bytes) ≡ true
