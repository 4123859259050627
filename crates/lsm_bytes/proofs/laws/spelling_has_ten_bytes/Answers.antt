use Rattle.lsm_bytes.proofs.Spelling.{IsVarint-length_64}
use Rattle.lsm_bytes.proofs.laws.spelling_has_ten_bytes.Goals as goal

pub returns : goal.returns
returns c = IsVarint-length_64
