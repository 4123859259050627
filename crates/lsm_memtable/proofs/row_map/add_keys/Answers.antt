use Rattle.std.proofs.Common.{refl, ◌∙◌, arith}
use Rattle.lsm_memtable.specs.Newest.{newest_each}
use Rattle.lsm_memtable.specs.Kept.{rows_in}
use Rattle.lsm_memtable.proofs.KeptRows.{kept_order}
use Rattle.lsm_memtable.proofs.Feeds.{key_at, ready, fed_more, fed_all}
use Rattle.lsm_memtable.proofs.row_map.add_keys.Goals as goal

pub returns-then-place-until-clause-ok : goal.returns-then-place-until-clause-ok
returns-then-place-until-clause-ok c =
    key_at c.args.table.now c.loop-key.table (newest_each (rows_in c.args.keys.now.entries)) c.loop-key.key-iterator c.next.new.self (c.in-Some.key.now, c.in-Some.versions.now) c.loop-key.place c.args.until c.in_ok-from_slice.field-0.items
    c.loop-key.invariant c.in-Some.ensures.steps c.if-place-until.true (c.in_ok-from_slice.ensures.items ∙ c.as_slice.ensures.value)

pub add_at-requires : goal.add_at-requires
add_at-requires c = (
  newest_each (rows_in c.args.keys.now.entries),
  ready c.args.table.now c.loop-key.table (newest_each (rows_in c.args.keys.now.entries)) (rows_in c.args.keys.now.entries) c.loop-key.key-iterator c.next.new.self (c.in-Some.key.now, c.in-Some.versions.now) c.loop-key.place c.args.until
      c.loop-key.invariant c.in-Some.ensures.steps refl (kept_order c.args.keys.now.entries c.requires.kept) c.requires.room,
)

pub returns-in_err-add_at-clause-progress : goal.returns-in_err-add_at-clause-progress
returns-in_err-add_at-clause-progress c =
    c.add_at.ensures.progress (newest_each (rows_in c.args.keys.now.entries))
    (ready c.args.table.now c.loop-key.table (newest_each (rows_in c.args.keys.now.entries)) (rows_in c.args.keys.now.entries) c.loop-key.key-iterator c.next.new.self (c.in-Some.key.now, c.in-Some.versions.now) c.loop-key.place c.args.until
    c.loop-key.invariant c.in-Some.ensures.steps refl (kept_order c.args.keys.now.entries c.requires.kept) c.requires.room)

pub returns-in_err-add_at-clause-ahead : goal.returns-in_err-add_at-clause-ahead
returns-in_err-add_at-clause-ahead c = c.add_at.ensures.most c.args.until c.loop-key.invariant.within (omega (arith, c.if-place-until.false, c.loop-key.invariant.built, c.loop-key.invariant.within))

pub loop-key-preserved : goal.loop-key-preserved
loop-key-preserved c =
    fed_more c.args.table.now c.loop-key.table c.add_at.new.table (newest_each (rows_in c.args.keys.now.entries)) c.loop-key.key-iterator c.next.new.self (c.in-Some.key.now, c.in-Some.versions.now) c.loop-key.place c.args.until
    c.loop-key.invariant c.in-Some.ensures.steps
    (c.add_at.ensures.progress (newest_each (rows_in c.args.keys.now.entries))
    (ready c.args.table.now c.loop-key.table (newest_each (rows_in c.args.keys.now.entries)) (rows_in c.args.keys.now.entries) c.loop-key.key-iterator c.next.new.self (c.in-Some.key.now, c.in-Some.versions.now) c.loop-key.place c.args.until
    c.loop-key.invariant c.in-Some.ensures.steps refl (kept_order c.args.keys.now.entries c.requires.kept) c.requires.room))
    c.in_ok-add_at.ensures.built (c.add_at.ensures.most c.args.until c.loop-key.invariant.within (omega (arith, c.if-place-until.false, c.loop-key.invariant.built, c.loop-key.invariant.within)))
    c.add_at.ensures.taken c.add_at.ensures.number c.add_at.ensures.session

pub returns-clause-ok : goal.returns-clause-ok
returns-clause-ok c = fed_all c.args.table.now c.loop-key.table (newest_each (rows_in c.args.keys.now.entries)) c.loop-key.key-iterator c.loop-key.place c.args.until c.loop-key.invariant c.in-None.ensures.steps.0
