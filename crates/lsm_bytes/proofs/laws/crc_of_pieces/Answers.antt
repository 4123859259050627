use Rattle.std.proofs.Common.{sym}
use Rattle.std.proofs.lemmas.List.Sums.{fold-append}
use Rattle.lsm_bytes.specs.Checksum.{take_byte}
use Rattle.lsm_bytes.proofs.laws.crc_of_pieces.Goals as goal

pub returns : goal.returns
returns c = λ register first second. sym (fold-append take_byte register first second)
