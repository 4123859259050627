use Rattle.lsm_model.proofs.LaneLemmas.{run_commits, own_in_order, commit_behind, commits_accepted}
use Rattle.lsm_model.proofs.lane_laws.a_lanes_commits_stand_in_its_order.Goals as goal

pub returns-clause-all : goal.returns-clause-all
returns-clause-all c = run_commits

pub returns-clause-own : goal.returns-clause-own
returns-clause-own c = own_in_order

pub returns-clause-place : goal.returns-clause-place
returns-clause-place c = commit_behind

pub returns-clause-batches : goal.returns-clause-batches
returns-clause-batches c = commits_accepted
