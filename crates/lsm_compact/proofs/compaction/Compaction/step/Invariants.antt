use Rattle.std.proofs.Common.{None}
use Rattle.lsm_compact.specs.Compacting.{HasMoved, IsSoundCompaction}
use Rattle.lsm_compact.specs.Ports.{IsKept}
use Rattle.lsm_compact.proofs.compaction.Compaction.step.Given as goal

abbrev pub invariant-loop-row : goal.invariant-loop-row
invariant-loop-row g l = record {
  moved : HasMoved g.P.TablePort.went g.P.TablePort.told l.fn.port l.port l.fn.self l.self None l._row;
  sound : IsSoundCompaction l.self;
  port : IsKept g.P.TablePort.told g.P.TablePort.faults l.fn.port l.port None;
}
