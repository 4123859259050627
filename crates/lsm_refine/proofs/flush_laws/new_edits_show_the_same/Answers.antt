use Rattle.lsm_refine.proofs.TornReads.{edit_reads, edit_halts}
use Rattle.lsm_refine.proofs.ReplacedStores.{replace_reads, replace_halts}
use Rattle.lsm_refine.proofs.FlushReads.{flush_is_ready}
use Rattle.lsm_refine.proofs.flush_laws.new_edits_show_the_same.Goals as goal

pub returns-clause-appended : goal.returns-clause-appended
returns-clause-appended c = edit_reads

pub returns-clause-append_halted : goal.returns-clause-append_halted
returns-clause-append_halted c = edit_halts

pub returns-clause-replaced : goal.returns-clause-replaced
returns-clause-replaced c = replace_reads

pub returns-clause-replace_halted : goal.returns-clause-replace_halted
returns-clause-replace_halted c = replace_halts

pub returns-clause-ready : goal.returns-clause-ready
returns-clause-ready c = flush_is_ready
