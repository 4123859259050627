use Rattle.std.proofs.Common.{arith}
use Rattle.lsm_block.proofs.Writings.{taken_back}
use Rattle.lsm_block.proofs.building.BlockBuilder.take_back.Goals as goal

pub parts_len-requires : goal.parts_len-requires
parts_len-requires c =
    let m = taken_back c.self.inside.entries.items c.pop.new.self.items c.deref.result.now c.pop.result c.unwrap-entry.result c.as_slice-key.result.now c.as_slice.result.now c.key_before.result.now c.split_at.result.1.now
    c.len.result c.shared_with-shared.result c.self.invariant.0 c.pop.ensures.items c.unwrap-entry.ensures c.deref.ensures.value (omega (arith, c.len.ensures)) c.key_before.ensures c.as_slice-key.ensures c.as_slice.ensures
    c.shared_with-shared.ensures.shared c.split_at.ensures.back in
    omega (arith, m.1, m.2, c.self.invariant.0.small)

pub overflow_sub-self : goal.overflow_sub-self
overflow_sub-self c =
    let m = taken_back c.self.inside.entries.items c.pop.new.self.items c.deref.result.now c.pop.result c.unwrap-entry.result c.as_slice-key.result.now c.as_slice.result.now c.key_before.result.now c.split_at.result.1.now
    c.len.result c.shared_with-shared.result c.self.invariant.0 c.pop.ensures.items c.unwrap-entry.ensures c.deref.ensures.value (omega (arith, c.len.ensures)) c.key_before.ensures c.as_slice-key.ensures c.as_slice.ensures
    c.shared_with-shared.ensures.shared c.split_at.ensures.back in
    omega (arith, m.1, c.parts_len.ensures, c.self.invariant.1)

pub invariant_of-self : goal.invariant_of-self
invariant_of-self c =
    let m = taken_back c.self.inside.entries.items c.pop.new.self.items c.deref.result.now c.pop.result c.unwrap-entry.result c.as_slice-key.result.now c.as_slice.result.now c.key_before.result.now c.split_at.result.1.now
    c.len.result c.shared_with-shared.result c.self.invariant.0 c.pop.ensures.items c.unwrap-entry.ensures c.deref.ensures.value (omega (arith, c.len.ensures)) c.key_before.ensures c.as_slice-key.ensures c.as_slice.ensures
    c.shared_with-shared.ensures.shared c.split_at.ensures.back in
    (m.0, omega (arith, m.1, c.parts_len.ensures, c.self.invariant.1))
