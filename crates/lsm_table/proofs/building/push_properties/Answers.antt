use Rattle.lsm_table.proofs.BuiltRows.{properties_made}
use Rattle.lsm_table.proofs.building.push_properties.Goals as goal

pub returns-clause-text : goal.returns-clause-text
returns-clause-text c =
    properties_made c.new-properties.result c.extend_from_slice.new.self c.extend_from_slice-2.new.self c.extend_from_slice-3.new.self c.to_le_bytes.result c.as_bytes.result.now c.to_le_bytes-2.result c.args.session.now
    c.args.out.now c.push_stored.new.out c.args.number c.args.count c.as_slice.result.now
    c.new-properties.ensures c.in_ok-extend_from_slice.ensures c.to_le_bytes.ensures c.in_ok-extend_from_slice-2.ensures c.as_bytes.ensures.bytes c.in_ok-extend_from_slice-3.ensures c.to_le_bytes-2.ensures c.as_slice.ensures c.in_ok-push_stored.ensures.ok

pub returns-clause-session : goal.returns-clause-session
returns-clause-session c = c.as_bytes.ensures.session
