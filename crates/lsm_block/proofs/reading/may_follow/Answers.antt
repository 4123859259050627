use Rattle.std.proofs.Common.{length}
use Rattle.lsm_block.proofs.Keys.{key_long, key_of_parts, last_long, some_from_test, may_follow_is}
use Rattle.lsm_block.proofs.reading.may_follow.Goals as goal

pub compare_internal_keys-requires-clause-first : goal.compare_internal_keys-requires-clause-first
compare_internal_keys-requires-clause-first c =
    last_long c.args.entries.now c.key_before.result.now c.requires (some_from_test (length c.args.entries.now) c.is_empty.result c.is_empty.ensures c.if-is_empty.false) c.key_before.ensures

pub compare_internal_keys-requires-clause-second : goal.compare_internal_keys-requires-clause-second
compare_internal_keys-requires-clause-second c =
    key_long c.args.key.now (key_of_parts c.args.key.now c.in-Some.field-0.key.now c.in-Some.field-0.sequence c.in-Some.field-0.kind c.in-Some.ensures.some)

pub returns : goal.returns
returns c =
    may_follow_is c.eq.result c.compare_internal_keys.result c.key_before.result.now c.args.entries.now c.args.key.now c.requires
    (some_from_test (length c.args.entries.now) c.is_empty.result c.is_empty.ensures c.if-is_empty.false)
    (key_of_parts c.args.key.now c.in-Some.field-0.key.now c.in-Some.field-0.sequence c.in-Some.field-0.kind c.in-Some.ensures.some)
    c.key_before.ensures c.eq.ensures c.compare_internal_keys.ensures
