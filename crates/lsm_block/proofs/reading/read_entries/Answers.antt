use Rattle.std.proofs.Common.{◌≡◌, ◌+◌, ◌/◌, ◌++◌, length, ap, ◌∙◌, arith}
use Rattle.std.specs.Int.{w32, to_le_bytes}
use Rattle.lsm_block.specs.Parts.{restart_bytes}
use Rattle.lsm_block.proofs.Keys.{AreEntries-nil}
use Rattle.lsm_block.proofs.Readings.{read_none, read_more, read_all, read_further, next_some, next_none, few_entries, restarts_ended}
use Rattle.lsm_block.proofs.reading.read_entries.Goals as goal

pub loop-restarts-init : goal.loop-restarts-init
loop-restarts-init c = rw (c.new-entries.ensures.items, c.new-restarts.ensures) (read_none c.args.bytes.now AreEntries-nil)

pub loop-restarts-smaller : goal.loop-restarts-smaller
loop-restarts-smaller c =
    let next = next_some c.args.bytes.now c.loop-restarts.end c.deref.result.now c.loop-restarts.entries.items c.in_ok-entry.field-0 c.in-Some.entry c.in-Some.next c.deref.ensures.value c.in-Some.is c.in_ok-entry.ensures in
    let on = read_further c.args.bytes.now c.loop-restarts.entries.items c.loop-restarts.end c.loop-restarts.restarts c.in-Some.entry c.in-Some.next c.loop-restarts.invariant next in
    omega (arith, on.0, on.1)

pub loop-restarts-preserved : goal.loop-restarts-preserved
loop-restarts-preserved c =
    let counted : c.len.result ≡ length c.loop-restarts.entries.items = omega (arith, c.len.ensures) in
    let next = next_some c.args.bytes.now c.loop-restarts.end c.deref.result.now c.loop-restarts.entries.items c.in_ok-entry.field-0 c.in-Some.entry c.in-Some.next c.deref.ensures.value c.in-Some.is c.in_ok-entry.ensures in
    rw c.in_ok-push.ensures.items (read_more c.args.bytes.now c.loop-restarts.entries.items c.loop-restarts.end c.loop-restarts.restarts c.note_restart.new.restarts c.in-Some.entry c.in-Some.next c.loop-restarts.invariant next
    (c.in_ok-note_restart.ensures ∙ ap (λ n. c.loop-restarts.restarts ++ restart_bytes n c.loop-restarts.end) counted))

pub push_count-requires : goal.push_count-requires
push_count-requires c = omega (arith, c.len-2.ensures, few_entries c.loop-restarts.entries.items c.loop-restarts.invariant.entries)

pub returns-clause-longest : goal.returns-clause-longest
returns-clause-longest c =
    read_all c.args.bytes.now c.loop-restarts.entries.items c.loop-restarts.end c.loop-restarts.restarts c.loop-restarts.invariant
    (next_none c.args.bytes.now c.loop-restarts.end c.deref.result.now c.loop-restarts.entries.items c.in_ok-entry.field-0 c.deref.ensures.value c.in_default.is c.in_ok-entry.ensures)

pub returns-clause-restarts : goal.returns-clause-restarts
returns-clause-restarts c =
    let counted : c.len-2.result ≡ length c.loop-restarts.entries.items = omega (arith, c.len-2.ensures) in
    restarts_ended c.loop-restarts.entries.items c.loop-restarts.restarts c.push_count.new.restarts c.loop-restarts.invariant.restarts
    (c.in_ok-push_count.ensures ∙ ap (λ n. c.loop-restarts.restarts ++ to_le_bytes w32 ((n + 15) / 16)) counted)
