use Rattle.lsm_memtable.proofs.Steps.{left_after}
use Rattle.tests_rows.proofs.memtable.hand_out.Goals as goal

pub loop-pieces-preserved : goal.loop-pieces-preserved
loop-pieces-preserved c =
    left_after c.loop-pieces.flush c.step.new.self c.in_ok-bytes.field-0 c.in-Piece.bytes c.in_ok-bytes.ensures.ok
    c.in-Piece.is c.in_ok-bytes.ensures.rows
