use Rattle.lsm_table.proofs.BuiltRows.{places_made}
use Rattle.lsm_table.proofs.building.footer_places.Goals as goal

pub returns : goal.returns
returns c =
    places_made c.new-places.result c.extend_from_slice.new.self c.extend_from_slice-2.new.self c.extend_from_slice-3.new.self c.to_le_bytes.result c.to_le_bytes-2.result c.to_le_bytes-3.result c.args.index c.args.len c.args.properties
    c.new-places.ensures c.in_ok-extend_from_slice.ensures c.to_le_bytes.ensures c.in_ok-extend_from_slice-2.ensures c.to_le_bytes-2.ensures c.in_ok-extend_from_slice-3.ensures c.to_le_bytes-3.ensures
