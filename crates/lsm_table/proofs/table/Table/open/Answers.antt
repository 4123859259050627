use Rattle.lsm_table.proofs.Openings.{parts_after}
use Rattle.lsm_table.proofs.WholeTables.{opened_as, refused_for}
use Rattle.lsm_table.proofs.table.Table.open.Goals as goal

pub invariant_of-result : goal.invariant_of-result
invariant_of-result g c = parts_after (g.V.View.viewed c.args.view) (g.V.View.viewed c.read_ends.new.view) c.in-Ok.properties c.in-Ok.index c.in-Ok.ensures.view c.in-Ok.ensures.ok c.in-Ok.ensures.places

pub returns-in-Ok-clause-whole : goal.returns-in-Ok-clause-whole
returns-in-Ok-clause-whole g c = λ text rows number session tells is. opened_as text rows number session c.in-Ok.properties c.in-Ok.index is (c.in-Ok.ensures.ok text tells)

pub returns-in-Err-clause-whole : goal.returns-in-Err-clause-whole
returns-in-Err-clause-whole g c = λ text rows number session tells is. refused_for text rows number session c.in-Err.why is (c.in-Err.ensures.err text tells)
