use Rattle.lsm_table.proofs.BuiltRows.{footer_made}
use Rattle.lsm_table.proofs.building.push_footer.Goals as goal

pub returns : goal.returns
returns c =
    footer_made c.in_ok-places.places c.as_slice.result.now c.as_slice-2.result.now c.args.out.now c.extend_from_slice.new.self c.extend_from_slice-2.new.self c.extend_from_slice-3.new.self c.to_le_bytes.result c.args.index c.args.len
    c.args.properties c.checksum.result c.mask-kept.result c.in_ok-places.ensures c.as_slice.ensures c.checksum.ensures c.mask-kept.ensures c.as_slice-2.ensures c.in_ok-extend_from_slice.ensures c.to_le_bytes.ensures
    c.in_ok-extend_from_slice-2.ensures c.in_ok-extend_from_slice-3.ensures
