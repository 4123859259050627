use Rattle.std.proofs.Common.{sym, subst, Option}
use Rattle.lsm_compact.specs.declared.port.PortFault.{PortFault}
use Rattle.lsm_compact.specs.Writing.{Goes}
use Rattle.lsm_compact.proofs.Writes.{read_ok, read_err}
use Rattle.lsm_compact.proofs.input.Reading.read.Goals as goal

pub returns-in-Ok-clause-goes : goal.returns-in-Ok-clause-goes
returns-in-Ok-clause-goes g c = λ over start calls o written led w.
    subst (λ (f : Option PortFault). Goes g.P.TablePort.went start calls c.rows.new.self over o written f)
    (sym c.keep_end.ensures.fault)
    (read_ok g.P.TablePort.went start calls c.rows.new.self over o written w _ _ _ c.rows.result
    (c.rows.ensures.went start calls led)
    c.in-Ok.run' c.in-Ok.is)

pub returns-in-Err-clause-goes : goal.returns-in-Err-clause-goes
returns-in-Err-clause-goes g c = λ over start calls o written led w.
    read_err g.P.TablePort.went start calls c.rows.new.self over o written w _ _ _ c.rows.result
    (c.rows.ensures.went start calls led)
    c.in-Err.fault c.in-Err.is
