use Rattle.std.proofs.Common.{◌-◌, length}
use Rattle.bk_copy.proofs.Copies.{Copying}
use Rattle.bk_copy.proofs.copying.copy_view.Given as goal

abbrev pub invariant-loop-at : goal.invariant-loop-at
invariant-loop-at g l = record {
  copying : Copying (g.V.View.viewed l.fn.view) (g.V.View.viewed l.view) (λ text. g.P.Target.gained l.target l.fn.holder text l.holder) l.len l.at l.crc (length l.buffer.items);
  ready : g.P.Target.ready l.target l.holder;
}

abbrev pub decreases-loop-at : goal.decreases-loop-at
decreases-loop-at g l = l.len - l.at
