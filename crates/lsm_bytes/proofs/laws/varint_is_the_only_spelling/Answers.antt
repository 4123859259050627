use Rattle.lsm_bytes.proofs.Spelling.{IsVarint-one_spelling}
use Rattle.lsm_bytes.proofs.laws.varint_is_the_only_spelling.Goals as goal

pub returns : goal.returns
returns c = IsVarint-one_spelling
