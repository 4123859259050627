use Rattle.std.proofs.Common.{List, ℕ, length}
use Rattle.bk_copy.proofs.Copies.{copying_ends}
use Rattle.bk_copy.proofs.copying.copy_view.Goals as goal

pub returns-clause-copied : goal.returns-clause-copied
returns-clause-copied g c =
    let l = c.loop-at in
    let copying = l.invariant.copying in
    let gained = λ (text : List ℕ). g.P.Target.gained c.args.target.now c.args.holder.now text l.holder in (
      copying.text,
      copying_ends (g.V.View.viewed c.args.view.now) (g.V.View.viewed l.view) gained c.len-len.result l.at l.crc (length l.buffer.items) copying
          c.value.result c.loop-at-test.false c.value.ensures,
      copying.gains,
    )
