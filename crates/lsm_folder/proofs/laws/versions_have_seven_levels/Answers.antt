use Rattle.lsm_folder.proofs.LevelLemmas as levels
use Rattle.lsm_folder.proofs.laws.versions_have_seven_levels.Goals as goal

pub returns : goal.returns
returns c = levels.versions_have_seven_levels
