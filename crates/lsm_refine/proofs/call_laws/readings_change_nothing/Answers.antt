use Rattle.lsm_refine.proofs.ReadSteps.{get_ok, get_fault, get_wanting, scan_ok, scan_fault, scan_wanting, show_other, show_own, show_fault, show_wanting}
use Rattle.lsm_refine.proofs.call_laws.readings_change_nothing.Goals as goal

pub returns-clause-get_ok : goal.returns-clause-get_ok
returns-clause-get_ok c = get_ok

pub returns-clause-get_fault : goal.returns-clause-get_fault
returns-clause-get_fault c = get_fault

pub returns-clause-get_wanting : goal.returns-clause-get_wanting
returns-clause-get_wanting c = get_wanting

pub returns-clause-scan_ok : goal.returns-clause-scan_ok
returns-clause-scan_ok c = scan_ok

pub returns-clause-scan_fault : goal.returns-clause-scan_fault
returns-clause-scan_fault c = scan_fault

pub returns-clause-scan_wanting : goal.returns-clause-scan_wanting
returns-clause-scan_wanting c = scan_wanting

pub returns-clause-show_other : goal.returns-clause-show_other
returns-clause-show_other c = show_other

pub returns-clause-show_own : goal.returns-clause-show_own
returns-clause-show_own c = show_own

pub returns-clause-show_fault : goal.returns-clause-show_fault
returns-clause-show_fault c = show_fault

pub returns-clause-show_wanting : goal.returns-clause-show_wanting
returns-clause-show_wanting c = show_wanting
