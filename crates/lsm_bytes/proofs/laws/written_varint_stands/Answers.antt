use Rattle.lsm_bytes.specs.Varint.{varint}
use Rattle.lsm_bytes.proofs.Places.{IsVarintAt-placed}
use Rattle.lsm_bytes.proofs.Spelling.{IsVarint-varint}
use Rattle.lsm_bytes.proofs.laws.written_varint_stands.Goals as goal

pub returns : goal.returns
returns c = λ before more n fits. IsVarintAt-placed before (varint n) more n fits (IsVarint-varint n)
