use Rattle.tests_turn.specs.Counts.{addition}
use Rattle.tests_turn.proofs.counter.added.Given as goal

abbrev pub ghosts-enter : goal.ghosts-enter
ghosts-enter g a = record { entry = addition a.by }
