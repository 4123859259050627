use Rattle.lsm_refine.proofs.DrawnLemmas.{drawn_fresh, table_unknown, drawn_next}
use Rattle.lsm_refine.proofs.flush_laws.a_drawn_number_is_new.Goals as goal

pub returns-clause-fresh : goal.returns-clause-fresh
returns-clause-fresh c = drawn_fresh

pub returns-clause-unknown : goal.returns-clause-unknown
returns-clause-unknown c = table_unknown

pub returns-clause-next : goal.returns-clause-next
returns-clause-next c = drawn_next
