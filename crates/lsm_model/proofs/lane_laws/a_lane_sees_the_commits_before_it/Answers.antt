use Rattle.lsm_model.proofs.LaneLemmas.{get_shows_commits}
use Rattle.lsm_model.proofs.lane_laws.a_lane_sees_the_commits_before_it.Goals as goal

pub returns : goal.returns
returns c = get_shows_commits
