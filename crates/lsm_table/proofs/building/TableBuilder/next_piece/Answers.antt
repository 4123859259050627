use Rattle.std.proofs.Common.{ap, ◌∙◌, arith}
use Rattle.lsm_table.specs.Cuts.{size_of}
use Rattle.lsm_table.specs.Building.{Built}
use Rattle.lsm_table.proofs.building.TableBuilder.next_piece.Goals as goal

pub invariant_of-self : goal.invariant_of-self
invariant_of-self c = omega (arith, c.next_piece.ensures.size, c.self.invariant)

pub returns-clause-size : goal.returns-clause-size
returns-clause-size c = c.next_piece.ensures.size ∙ ap (λ (b : Built). size_of b.blocks) c.self.view_is
