use Rattle.std.proofs.Common.{List, [], Bool, None}
use Rattle.lsm_rows.specs.declared.rows.Row.{Row}
use Rattle.lsm_compact.specs.declared.outputs.Outputs.{Outputs}
use Rattle.lsm_compact.specs.Calls.{Called, files_after}
use Rattle.lsm_compact.specs.Given.{GivesMore}
use Rattle.lsm_compact.specs.Ports.{IsKept}
use Rattle.lsm_compact.specs.Readers.{AreSound, IsLater}
use Rattle.lsm_compact.specs.Writing.{Goes, IsWriting}
use Rattle.lsm_compact.proofs.reader.Reader.next.Given as goal

abbrev pub invariant-loop-fill : goal.invariant-loop-fill
invariant-loop-fill g l = record {
  sound : AreSound l.self.readings.items l.self.merge;
  later : IsLater l.fn.self.merge l.self.merge;
  contents : GivesMore (g.P.TablePort.told l.fn.port) l.fn.self (g.P.TablePort.told l.port) l.self [];
  goes : (over : Bool) (start : g.row.P.Denot) (calls : List Called) (o : Outputs) (written : List Row)
      → g.P.TablePort.went start calls l.fn.port → IsWriting over o (files_after calls) written
      → Goes g.P.TablePort.went start calls l.port over o written None;
  port : IsKept g.P.TablePort.told g.P.TablePort.faults l.fn.port l.port None;
}
