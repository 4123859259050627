use Rattle.lsm_bytes.proofs.Registers.{crc32c-fits}
use Rattle.lsm_bytes.proofs.laws.crc_has_32_bits.Goals as goal

pub returns : goal.returns
returns c = crc32c-fits
