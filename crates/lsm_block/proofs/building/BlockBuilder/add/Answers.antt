use Rattle.std.proofs.Common.{◌≡◌, ◌+◌, length, arith}
use Rattle.lsm_block.proofs.Writings.{added_parts, added_entry}
use Rattle.lsm_block.proofs.building.BlockBuilder.add.Goals as goal

pub parts_len-added-requires : goal.parts_len-added-requires
parts_len-added-requires c =
    let counted : c.len.result ≡ length c.self.inside.entries.items = omega (arith, c.len.ensures) in
    let m = added_parts c.self.inside.entries.items c.args.self.now c.deref.result.now c.args.key.now c.args.value.now c.key_before.result.now c.split_at.result.1.now c.len.result c.shared_with-shared.result
    c.self.view_is c.deref.ensures.value counted c.key_before.ensures c.shared_with-shared.ensures.shared c.split_at.ensures.back in
    omega (arith, c.requires.small, m.0, m.1)

pub overflow_add-self : goal.overflow_add-self
overflow_add-self c =
    let counted : c.len.result ≡ length c.self.inside.entries.items = omega (arith, c.len.ensures) in
    let m = added_parts c.self.inside.entries.items c.args.self.now c.deref.result.now c.args.key.now c.args.value.now c.key_before.result.now c.split_at.result.1.now c.len.result c.shared_with-shared.result
    c.self.view_is c.deref.ensures.value counted c.key_before.ensures c.shared_with-shared.ensures.shared c.split_at.ensures.back in
    omega (arith, c.requires.small, m.0, c.parts_len-added.ensures, c.self.invariant.1)

pub invariant_of-self-2 : goal.invariant_of-self-2
invariant_of-self-2 c =
    let counted : c.len.result ≡ length c.self.inside.entries.items = omega (arith, c.len.ensures) in
    let m = added_parts c.self.inside.entries.items c.args.self.now c.deref.result.now c.args.key.now c.args.value.now c.key_before.result.now c.split_at.result.1.now c.len.result c.shared_with-shared.result
    c.self.view_is c.deref.ensures.value counted c.key_before.ensures c.shared_with-shared.ensures.shared c.split_at.ensures.back in
    rw c.in_ok-push.ensures.items
    (added_entry c.self.inside.entries.items c.args.self.now c.args.key.now c.in_ok-key.key c.args.value.now c.in_ok-value.value (c.self.inside.size + c.parts_len-added.result)
    c.self.view_is c.in_ok-key.ensures c.in_ok-value.ensures c.self.invariant.0 c.requires.key c.requires.past c.requires.small
    (omega (arith, m.0, c.parts_len-added.ensures, c.self.invariant.1)))
