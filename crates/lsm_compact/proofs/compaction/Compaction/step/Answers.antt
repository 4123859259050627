use Rattle.std.proofs.Common.{refl, ap, arith, Bool, ◌+◌, None}
use Rattle.std.specs.Prelude.{Ok}
use Rattle.lsm_version.specs.declared.edits.Edit.{Edit}
use Rattle.lsm_compact.specs.declared.compaction.CompactStep.{CompactStep}
use Rattle.lsm_compact.specs.Compacting.{merged_in}
use Rattle.lsm_compact.proofs.Compacts.{moved_end, moved_refused, moved_then, still}
use Rattle.lsm_compact.proofs.Ports.{unmoved, kept_then}
use Rattle.lsm_compact.proofs.compaction.Compaction.step.Goals as goal

pub loop-row-init : goal.loop-row-init
loop-row-init g c = record {
  moved = still g.P.TablePort.went g.P.TablePort.told c.args.port.now c.args.self.now;
  sound = c.requires;
  port = unmoved g.P.TablePort.told g.P.TablePort.faults c.args.port.now;
}

pub returns-in-Ok-clause-ok : goal.returns-in-Ok-clause-ok
returns-in-Ok-clause-ok g c =
    let below = c.loop-row-test.true in (
      (c.loop-row._row + 0) + 0,
      omega (arith, below),
      moved_end g.P.TablePort.went g.P.TablePort.told c.args.port.now c.merge_one.new.port c.finish.new.port c.args.self.now
          c.merge_one.new.self
          c.finish.new.self c.in-Ok.edit (c.loop-row._row + 0) 0 ((c.loop-row._row + 0) + 0) refl
          (moved_then g.P.TablePort.went g.P.TablePort.told c.args.port.now c.loop-row.port c.merge_one.new.port
          c.args.self.now c.loop-row.self
          c.merge_one.new.self None c.loop-row._row _ (c.loop-row._row + 0)
          (ap (λ (b : Bool). c.loop-row._row + merged_in (Ok b)) c.in-Ok-false.field-0-test)
          c.loop-row.invariant.moved c.in-Ok-false.ensures.moved)
          c.in-Ok.ensures.ok,
    )

pub returns-in-Err-finish-clause-err : goal.returns-in-Err-finish-clause-err
returns-in-Err-finish-clause-err g c =
    let below = c.loop-row-test.true in (
      (c.loop-row._row + 0) + 0,
      omega (arith, below),
      moved_refused g.P.TablePort.went g.P.TablePort.told Edit CompactStep c.args.port.now c.finish.new.port c.args.self.now
          c.finish.new.self
          c.in-Err-finish.fault ((c.loop-row._row + 0) + 0)
          (moved_then g.P.TablePort.went g.P.TablePort.told c.args.port.now c.merge_one.new.port c.finish.new.port
          c.args.self.now
          c.merge_one.new.self c.finish.new.self _ (c.loop-row._row + 0) 0 ((c.loop-row._row + 0) + 0) refl
          (moved_then g.P.TablePort.went g.P.TablePort.told c.args.port.now c.loop-row.port c.merge_one.new.port
          c.args.self.now c.loop-row.self
          c.merge_one.new.self None c.loop-row._row _ (c.loop-row._row + 0)
          (ap (λ (b : Bool). c.loop-row._row + merged_in (Ok b)) c.in-Ok-false.field-0-test)
          c.loop-row.invariant.moved c.in-Ok-false.ensures.moved)
          c.in-Err-finish.ensures.err),
    )

pub returns-in-Err-clause-err : goal.returns-in-Err-clause-err
returns-in-Err-clause-err g c =
    let below = c.loop-row-test.true in (
      c.loop-row._row + 0,
      omega (arith, below),
      moved_refused g.P.TablePort.went g.P.TablePort.told Bool CompactStep c.args.port.now c.merge_one.new.port c.args.self.now
          c.merge_one.new.self c.in-Err.fault (c.loop-row._row + 0)
          (moved_then g.P.TablePort.went g.P.TablePort.told c.args.port.now c.loop-row.port c.merge_one.new.port
          c.args.self.now c.loop-row.self
          c.merge_one.new.self _ c.loop-row._row 0 (c.loop-row._row + 0) refl
          c.loop-row.invariant.moved c.in-Err.ensures.moved),
    )

pub loop-row-preserved : goal.loop-row-preserved
loop-row-preserved g c = record {
  moved = moved_then g.P.TablePort.went g.P.TablePort.told c.args.port.now c.loop-row.port c.merge_one.new.port c.args.self.now
      c.loop-row.self
      c.merge_one.new.self None c.loop-row._row _ (c.loop-row._row + 1)
      (ap (λ (b : Bool). c.loop-row._row + merged_in (Ok b)) c.in-Ok-true.field-0-test)
      c.loop-row.invariant.moved c.in-Ok-true.ensures.moved;
  sound = c.merge_one.ensures.sound;
  port = kept_then g.P.TablePort.told g.P.TablePort.faults c.args.port.now c.loop-row.port c.merge_one.new.port None
      c.loop-row.invariant.port c.in-Ok-true.ensures.port;
}
