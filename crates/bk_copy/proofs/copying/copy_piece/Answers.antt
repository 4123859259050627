use Rattle.std.specs.Prelude.{length}
use Rattle.bk_copy.proofs.Copies.{read_more}
use Rattle.bk_copy.proofs.copying.copy_piece.Goals as goal

pub returns-in-Ok-add-clause-read : goal.returns-in-Ok-add-clause-read
returns-in-Ok-add-clause-read g c text read =
    read_more (g.V.View.viewed c.args.view.now) (g.V.View.viewed c.read_at.new.self) c.args.at (length c.args.piece.now) c.args.crc.now c.update.new.self text c.read_at.new.into
    read c.read_at.ensures.bytes c.read_at.auto.into c.update.ensures c.in-Ok.ensures.read
