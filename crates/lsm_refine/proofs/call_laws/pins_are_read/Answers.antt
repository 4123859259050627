use Rattle.lsm_refine.proofs.PinReadSteps.{show_pin_unknown, show_pin_fault, show_pin_wanting, read_pinned_unknown, read_pinned_other, read_pinned_fault, read_pinned_wanting}
use Rattle.lsm_refine.proofs.call_laws.pins_are_read.Goals as goal

pub returns-clause-show_pin_unknown : goal.returns-clause-show_pin_unknown
returns-clause-show_pin_unknown c = show_pin_unknown

pub returns-clause-show_pin_fault : goal.returns-clause-show_pin_fault
returns-clause-show_pin_fault c = show_pin_fault

pub returns-clause-show_pin_wanting : goal.returns-clause-show_pin_wanting
returns-clause-show_pin_wanting c = show_pin_wanting

pub returns-clause-read_pinned_unknown : goal.returns-clause-read_pinned_unknown
returns-clause-read_pinned_unknown c = read_pinned_unknown

pub returns-clause-read_pinned_other : goal.returns-clause-read_pinned_other
returns-clause-read_pinned_other c = read_pinned_other

pub returns-clause-read_pinned_fault : goal.returns-clause-read_pinned_fault
returns-clause-read_pinned_fault c = read_pinned_fault

pub returns-clause-read_pinned_wanting : goal.returns-clause-read_pinned_wanting
returns-clause-read_pinned_wanting c = read_pinned_wanting
