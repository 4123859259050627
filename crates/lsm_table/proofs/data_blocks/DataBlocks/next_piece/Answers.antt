use Rattle.lsm_table.specs.Cuts.{size_of}
use Rattle.std.proofs.Common.{ap, ◌∙◌}
use Rattle.lsm_table.proofs.Cutting.{handed_cut, size_handed}
use Rattle.lsm_table.proofs.data_blocks.DataBlocks.next_piece.Goals as goal

pub invariant_of-self : goal.invariant_of-self
invariant_of-self c = handed_cut (record { begun = c.self.inside.begun; index = c.self.inside.index; pending = c.self.inside.pending; place = c.self.inside.place }) _ c.self.invariant

pub returns-clause-size : goal.returns-clause-size
returns-clause-size c = size_handed (record { begun = c.self.inside.begun; index = c.self.inside.index; pending = c.self.inside.pending; place = c.self.inside.place }) _ ∙ ap size_of c.self.view_is
