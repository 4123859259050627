use Rattle.lsm_manifest.proofs.Images.{whole, there, untouched}
use Rattle.lsm_manifest.proofs.laws.a_standing_manifest_is_whole.Goals as goal

pub returns-clause-whole : goal.returns-clause-whole
returns-clause-whole c = whole

pub returns-clause-there : goal.returns-clause-there
returns-clause-there c = there

pub returns-clause-untouched : goal.returns-clause-untouched
returns-clause-untouched c = untouched
