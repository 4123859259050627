use Rattle.std.proofs.Common.{◌≡◌, ◌≤◌, length}
use Rattle.std.specs.Io.KnownBytes.{Consumes}
use Rattle.ldb_script.specs.Input.{IsInside}
use Rattle.ldb_script.proofs.input.read_line.Given as goal

abbrev pub invariant-loop : goal.invariant-loop
invariant-loop g l = record {
  bytes : Consumes (g.S.Source.left l.fn.source) (g.S.Source.left l.source) l.line;
  inside : IsInside l.line;
  count : length l.line ≡ l.counter;
  later : g.S.Source.faults l.fn.source ≤ g.S.Source.faults l.source;
}
