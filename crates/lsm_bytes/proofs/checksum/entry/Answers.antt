use Rattle.lsm_bytes.proofs.Entries.{entry_of}
use Rattle.lsm_bytes.proofs.checksum.entry.Goals as goal

pub returns : goal.returns
returns c = entry_of c.args.table c.args.byte c.requires c.ranges.byte.fits
