use Rattle.std.proofs.Common.{◌≡◌, ◌++◌, ◌+◌, ◌-◌, ◌≤◌, ℕ, length, false}
use Rattle.lsm_frame.specs.Begins.{Begins}
use Rattle.lsm_frame.specs.Frames.{cut}
use Rattle.lsm_frame.proofs.pieces.push_pieces.Given as goal

-- what is written and the pieces of what is left are the pieces of the whole
abbrev pub invariant-loop-space : goal.invariant-loop-space
invariant-loop-space l = record {
  grown : Begins l.fn.out l.out;
  pieces : (more : ℕ) × (length l.rest ≤ more + l.space) × (offset : ℕ) × (l.space + offset ≡ 32761)
      × (l.out ++ cut more l.begun offset l.rest ≡ l.fn.out ++ cut (length l.payload) false l.offset l.payload);
}

abbrev pub decreases-loop-space : goal.decreases-loop-space
decreases-loop-space l = length l.rest + (32761 - l.space)
