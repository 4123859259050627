use Rattle.std.proofs.Common.{◌++◌, length, ℕ, [], ap, ◌∙◌, arith}
use Rattle.lsm_block.proofs.EntryLists.{entries_many}
use Rattle.lsm_block.proofs.Writings.{written_none, written_more, written_all, front_le}
use Rattle.lsm_block.proofs.writing.write_block.Goals as goal

pub loop-number-init : goal.loop-number-init
loop-number-init c =
    written_none c.reserve.new.self c.new-restarts.result c.as_slice-before.result.now (c.in_ok-reserve.ensures ∙ c.new-text.ensures) c.new-restarts.ensures c.as_slice-before.ensures

pub note_restart-requires : goal.note_restart-requires
note_restart-requires c =
    omega (arith, c.len.ensures.len, ap (length {A = ℕ}) c.loop-number.invariant.0, front_le c.args.entries.now c.loop-number.number, c.requires)

pub loop-number-preserved : goal.loop-number-preserved
loop-number-preserved c =
    rw c.as_slice-before-in-loop-number.ensures (written_more c.args.entries.now c.loop-number.number c.index-entries-number.result c.loop-number.text c.loop-number.restarts c.loop-number.before.now
    c.push_entry.new.out c.note_restart.new.restarts c.len.result c.loop-number-test.true c.index-entries-number.is c.loop-number.invariant c.len.ensures.len c.in_ok-note_restart.ensures c.in_ok-push_entry.ensures)

pub push_count-requires : goal.push_count-requires
push_count-requires c = omega (arith, c.requires, entries_many 0 [] c.args.entries.now)

pub returns : goal.returns
returns c =
    written_all c.args.entries.now c.loop-number.number c.loop-number.text c.loop-number.restarts c.loop-number.before.now c.push_count.new.restarts c.extend_from_slice.new.self
    c.loop-number-test.false c.loop-number.invariant c.in_ok-push_count.ensures
    (c.in_ok-extend_from_slice.ensures ∙ ap (λ s. c.loop-number.text ++ s) c.as_slice.ensures)
