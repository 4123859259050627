use Rattle.lsm_rows.proofs.InternalOrder.{made}
use Rattle.lsm_rows.proofs.internal_keys.InternalKey.new.Goals as goal

pub returns : goal.returns
returns c =
    made _ _ _ c.args.key.now c.args.sequence c.kind_number.result c.args.kind c.in_ok-extend_from_slice.ensures c.in_ok-bytes.ensures c.to_le_bytes.ensures c.kind_number.ensures c.requires
