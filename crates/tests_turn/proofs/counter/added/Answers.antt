use Rattle.std.proofs.Common.{ap, ◌+◌, ◌%◌, ◌^◌}
use Rattle.turn_lock.specs.Passes.{lane, start_of, seen}
use Rattle.tests_turn.specs.declared.counter.Count.{Count}
use Rattle.tests_turn.proofs.Sums.{counts_more}
use Rattle.tests_turn.proofs.counter.added.Goals as goal

pub enter-requires-clause-follows : goal.enter-requires-clause-follows
enter-requires-clause-follows g c =
    let after : Count = record { n = (c.value-count.result.now.n + c.args.by) % 2 ^ 64 } in
    counts_more (start_of c.take-held.new.pass) c.take-held.result.value after (seen c.take-held.new.pass) (lane c.take-held.new.pass) c.args.by c.take-held.ensures.follows
    (ap (λ (count : Count). (count.n + c.args.by) % 2 ^ 64) c.value-count.ensures.now)
