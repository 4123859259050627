use Rattle.lsm_disk.proofs.Runs.{state_push}
use Rattle.lsm_disk.proofs.laws.story_grows_by_one.Goals as goal

pub returns : goal.returns
returns c = state_push
