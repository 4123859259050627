use Rattle.lsm_refine.proofs.OpeningWays.{plain_switch, table_kept, table_switch, may_begin, switched_log, begun_log}
use Rattle.lsm_refine.proofs.opening_images.a_part_of_an_opening_leads_to_the_next.Goals as goal

pub returns-clause-plain : goal.returns-clause-plain
returns-clause-plain c = plain_switch

pub returns-clause-writing : goal.returns-clause-writing
returns-clause-writing c = table_kept

pub returns-clause-table : goal.returns-clause-table
returns-clause-table c = table_switch

pub returns-clause-fresh : goal.returns-clause-fresh
returns-clause-fresh c = may_begin

pub returns-clause-switched : goal.returns-clause-switched
returns-clause-switched c = switched_log

pub returns-clause-begun : goal.returns-clause-begun
returns-clause-begun c = begun_log
