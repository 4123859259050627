use Rattle.lsm_bytes.proofs.Spelling.{IsVarint-varint}
use Rattle.lsm_bytes.proofs.laws.varint_spells.Goals as goal

pub returns : goal.returns
returns c = IsVarint-varint
