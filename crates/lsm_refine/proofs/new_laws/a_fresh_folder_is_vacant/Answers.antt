use Rattle.lsm_refine.proofs.FreshNames.{fresh_vacant, fresh_number, nothing_number}
use Rattle.lsm_refine.proofs.new_laws.a_fresh_folder_is_vacant.Goals as goal

pub returns-clause-vacant : goal.returns-clause-vacant
returns-clause-vacant c = fresh_vacant

pub returns-clause-number : goal.returns-clause-number
returns-clause-number c = fresh_number

pub returns-clause-nothing : goal.returns-clause-nothing
returns-clause-nothing c = nothing_number
