use Rattle.tests_turn.specs.Counts.{opening}
use Rattle.tests_turn.proofs.counter.begun_at.Given as goal

abbrev pub ghosts-begin : goal.ghosts-begin
ghosts-begin a = record { start = opening a.from }
