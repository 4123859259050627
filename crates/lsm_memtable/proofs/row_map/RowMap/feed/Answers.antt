use Rattle.std.proofs.Common.{arith, subst}
use Rattle.std.specs.Option.{option_map}
use Rattle.lsm_memtable.specs.Newest.{newest_each}
use Rattle.lsm_memtable.specs.Flushing.{StartsAt}
use Rattle.lsm_memtable.proofs.Feeding.{few_taken}
use Rattle.lsm_memtable.proofs.Feeds.{feed_all, feed_start}
use Rattle.lsm_memtable.proofs.row_map.RowMap.feed.Goals as goal

pub overflow_add-until : goal.overflow_add-until
overflow_add-until c = let few = few_taken c.args.self.now c.args.table.now.taken c.requires.room c.requires.left in omega (arith, few)

pub add_keys-requires-clause-place : goal.add_keys-requires-clause-place
add_keys-requires-clause-place c = feed_all c.self.inside.keys.entries c.self.invariant

pub add_keys-requires-in-None-clause-place : goal.add_keys-requires-in-None-clause-place
add_keys-requires-in-None-clause-place c = feed_all c.self.inside.keys.entries c.self.invariant

pub add_keys-requires-in-Some-clause-place : goal.add_keys-requires-in-Some-clause-place
add_keys-requires-in-Some-clause-place c =
    feed_start c.self.inside.keys.entries c.args.self.now c.args.table.now.taken c.in-Some.key.now c.self.invariant c.self.view_is
    (subst (λ o. StartsAt (newest_each c.args.self.now) c.args.table.now.taken (option_map (λ key. key.now) o)) c.in-Some.is c.requires.start) c.requires.left
