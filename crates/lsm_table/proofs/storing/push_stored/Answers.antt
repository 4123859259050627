use Rattle.lsm_table.proofs.Cutting.{stored_made}
use Rattle.lsm_table.proofs.storing.push_stored.Goals as goal

pub returns-in-Ok-clause-ok : goal.returns-in-Ok-clause-ok
returns-in-Ok-clause-ok c =
    stored_made c.extend_from_slice-2.new.self c.extend_from_slice.new.self c.args.out.now c.args.contents.now c.to_le_bytes-kept.result c.mask.result c.stored_checksum.result c.in-Ok.ensures
    c.in_ok-extend_from_slice.ensures c.to_le_bytes-kept.ensures c.mask.ensures c.stored_checksum.ensures
